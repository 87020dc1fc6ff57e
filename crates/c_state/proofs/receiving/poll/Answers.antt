-- The state is tested, and then the call is made.
use mathlib.Core.Path.{sym, ◌∙◌}
use Rattle.c_state.proofs.Hearings.{told_tested, told_refused}
use Rattle.c_state.proofs.receiving.poll.Goals as goal

pub poll_valid-requires : goal.poll_valid-requires
poll_valid-requires c = (c.requires.0, c.receiver_in-before.ensures, sym c.is_valid.ensures ∙ c.if-is_valid.true)

pub returns-then-is_valid : goal.returns-then-is_valid
returns-then-is_valid c = told_tested _ _ _ _ c.receiver_in-before.ensures c.requires.1 (sym c.is_valid.ensures ∙ c.if-is_valid.true) _ c.poll_valid.ensures

pub returns : goal.returns
returns c = told_refused _ _ _ _ c.receiver_in-before.ensures c.requires.1 (sym c.is_valid.ensures ∙ c.if-is_valid.false) c.requires.0
