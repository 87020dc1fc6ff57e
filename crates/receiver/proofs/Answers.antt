-- A call that the tests in front of it refuse.
use mathlib.Core.Path.{◌≡◌}
use Rattle.std.proofs.Common.{Result, Ok, Err}
use Rattle.std.specs.Bool.{⊤}
use mathlib.Core.Bool.{Bool, true, false}
use Prim.Native.Nat.{ℕ}
use native.Mathlib.Omega.{arith}
use Rattle.config.specs.Entry.{entry}
use Rattle.config.specs.declared.refusal.Refusal.{Refusal}
use Rattle.config.specs.declared.refusal.Refusal.TheVariants.{InvalidState}

pub denied : {A : Type 0} (refused : Refusal → A) (call : A) (checked : Result ⊤ Refusal) (valid : Bool) (why : Refusal)
    → ◌≡◌ {A = Result ⊤ Refusal} (entry checked valid Err (Ok tt)) (Err why) → refused why ≡ entry checked valid refused call
denied refused call (Err w) valid why e = let same : why ≡ w = cc in rw same
denied refused call (Ok _) false why e = let same : why ≡ InvalidState = cc in rw same
denied refused call (Ok _) true why e = absurd (let z : ◌≡◌ {A = ℕ} 0 1 = cc in omega arith)
