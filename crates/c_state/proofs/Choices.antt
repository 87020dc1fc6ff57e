-- What holds of each way out of a test holds of what is chosen.
use mathlib.Core.Path.{◌≡◌, refl}
use Rattle.std.proofs.Common.{Result, Ok, Err}
use Rattle.std.specs.Bool.{⊤}
use mathlib.Core.Bool.{Bool, true, false, cond}
use Rattle.config.specs.Entry.{on_state, entry}
use Rattle.config.specs.declared.refusal.Refusal.{Refusal}
use Rattle.config.specs.declared.refusal.Refusal.TheVariants.{InvalidState}

module _ {A : Type 0} (P : A → Type 0) where
  pub by_test : (t : Bool) (first other : A) → P first → (t ≡ false → P other) → P (cond t first other)
  by_test true first other h g = h
  by_test false first other h g = g refl

  pub by_state : (valid : Bool) (refused : Refusal → A) (go : A) → P (refused InvalidState) → (valid ≡ true → P go) → P (on_state valid refused go)
  by_state true refused go h g = g refl
  by_state false refused go h g = h

  pub by_entry : (k : Result ⊤ Refusal) (valid : Bool) (refused : Refusal → A) (go : A) → ((why : Refusal) → P (refused why)) → (k ≡ Ok tt → valid ≡ true → P go) → P (entry k valid refused go)
  by_entry (Err why) valid refused go h g = h why
  by_entry (Ok _) true refused go h g = g refl refl
  by_entry (Ok _) false refused go h g = h InvalidState
