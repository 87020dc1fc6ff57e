-- The state test, and the window after a call's first step.
use mathlib.Core.Path.{◌≡◌}
use mathlib.Core.Bool.{true}
use Prim.Native.Nat.{ℕ}
use Rattle.window.specs.Arrival.{accept_of}
use Rattle.window.specs.Marking.{mark_of}
use Rattle.window.specs.Window.{Valid}
use Rattle.window.specs.declared.window.Marked.{Marked}
use Rattle.window.specs.declared.window.ReceiveWindow.{ReceiveWindow}
use Rattle.window.specs.declared.window.SeqRange.{SeqRange}
use Rattle.window.specs.declared.window.Arrival.{Arrival}
use Rattle.window.proofs.Preserved.{valid_accept, valid_mark}
use Rattle.window.proofs.Validity.{valid_of_lem}
use Rattle.receiver.specs.Receiver.{valid_of}
use Rattle.receiver.specs.declared.receiver.Receiver.{Receiver}

pub valid_window : (r : Receiver) → valid_of r ≡ true → Valid r.window
unfolding valid_of
valid_window r e = valid_of_lem r.window e

module _ (w : ReceiveWindow) (v : Valid w) where
  pub valid_taken : (seq : ℕ) (taken : Arrival) → taken ≡ accept_of w seq → Valid taken.window
  valid_taken seq taken e = rw e (valid_accept w v seq)

  pub valid_marked : (range : SeqRange) (marked : Marked) → marked ≡ mark_of w range → Valid marked.window
  valid_marked range marked e = rw e (valid_mark w v range)
