-- A data command with nothing missing after it.
use mathlib.Core.Path.{◌≡◌}
use Rattle.std.proofs.Common.{Option, Ok}
use Rattle.receiver.specs.declared.receiver.Delivery.{Delivery}
use Rattle.receiver.specs.declared.receiver.ReceiverAnswer.{ReceiverAnswer}
use Rattle.window.specs.declared.window.SeqRange.{SeqRange}
use mathlib.Core.Bool.{true}
use Prim.Native.Nat.{ℕ}
use Rattle.config.specs.declared.settings.StreamConfig.{StreamConfig}
use Rattle.window.specs.Arrival.{accept_of}
use Rattle.window.specs.declared.window.ReceiveWindow.{ReceiveWindow}
use Rattle.window.specs.declared.window.Class.{Class}
use Rattle.window.specs.declared.window.Arrival.{Arrival}
use Rattle.receiver.specs.Receiver.{rest_of, nothing_missing, gap_of, settled_of, heard_of}
use Rattle.receiver.specs.declared.receiver.Receiver.{Receiver}

-- ---- the timer
pub settled_none : (r : Receiver) (s : StreamConfig) (time : ℕ) (w : ReceiveWindow) (class : Class) → nothing_missing w ≡ true → rest_of r.refused w ≡ settled_of r s time w class
unfolding settled_of
settled_none r s time w class m = rw m

-- ---- the answer
pub heard_of_lem :
    (r : Receiver) (s : StreamConfig) (time seq : ℕ) (taken : Arrival) (next : Receiver) (gap : Option SeqRange)
    → taken ≡ accept_of r.window seq → next ≡ settled_of r s time taken.window taken.class → gap ≡ gap_of r.window.highest taken.class
    → ◌≡◌ {A = ReceiverAnswer Delivery} (record { receiver = next; answer = Ok record { seq = seq; class = taken.class; gap = gap; lost = taken.lost } }) (heard_of r s time seq)
unfolding heard_of
heard_of_lem r s time seq taken next gap t n g = rw (n, g, t)
