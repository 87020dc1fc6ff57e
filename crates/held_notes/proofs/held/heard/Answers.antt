-- The loss first, then the messages.
use Rattle.held_notes.proofs.Calls.{follows_plays}
use Rattle.held_notes.proofs.held.heard.Goals as goal

pub returns : goal.returns
returns c = follows_plays _ _ _ _ _ _ c.after_loss-given.ensures c.handed_on.ensures
