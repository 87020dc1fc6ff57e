-- The window moves up to the number and stays valid; the rest follows from the class.
use mathlib.Core.Path.{◌≡◌}
use Rattle.window.specs.Arrival.{accept_of}
use Rattle.window.specs.declared.window.Arrival.{Arrival}
use Rattle.window.proofs.Accepts.{taken_is}
use Rattle.receiver.proofs.Validity.{valid_window, valid_taken}
use Rattle.receiver.proofs.tested.heard_ahead.Goals as goal
use Rattle.receiver.proofs.tested.heard_ahead.Goals.{After-class_ahead-class}

-- the three answers are those to the number
taken : (c : After-class_ahead-class) → ◌≡◌ {A = Arrival} (record { window = c.moved_to-window.result; class = c.class_ahead-class.result; lost = c.lost_to-lost.result }) (accept_of c.args.r.window c.args.seq)
taken c = taken_is _ c.moved_to-window.ensures c.class_ahead-class.ensures c.lost_to-lost.ensures

pub lost_to-lost-requires : goal.lost_to-lost-requires
lost_to-lost-requires c = (valid_window _ c.requires.0, c.requires.1)

pub moved_to-window-requires : goal.moved_to-window-requires
moved_to-window-requires c = (valid_window _ c.requires.0, c.requires.1)

pub settled-requires : goal.settled-requires
settled-requires c = valid_taken _ (valid_window _ c.requires.0) _ _ (taken (goal.at.settled-requires c).After-class_ahead-class)
