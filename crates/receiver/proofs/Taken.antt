-- Without a due request nothing is taken.
use mathlib.Core.Path.{◌≡◌, ap}
use mathlib.Core.Bool.{Bool, true, false, not, cond}
use mathlib.Core.List.{List}
use Prim.Native.Nat.{ℕ}
use Rattle.config.specs.declared.settings.StreamConfig.{StreamConfig}
use Rattle.packet.specs.declared.writer.PayloadWriter.{PayloadWriter}
use Rattle.receiver.specs.Receiver.{not_due, taken_of}
use Rattle.receiver.specs.declared.receiver.Receiver.{Receiver}
use Rattle.receiver.specs.declared.receiver.RequestWritten.{RequestWritten}

first : {A : Type 0} (t : Bool) (x y : A) → t ≡ true → x ≡ cond t x y
first t x y e = rw e

pub taken_not_due : (r : Receiver) (s : StreamConfig) (p : PayloadWriter) (b : List ℕ) (n : RequestWritten) → n ≡ not_due r p → r.request_due ≡ false → (n, b) ≡ taken_of r s p b
unfolding taken_of
taken_not_due r s p b n e d = rw e (first (not r.request_due) _ _ (ap not d))
