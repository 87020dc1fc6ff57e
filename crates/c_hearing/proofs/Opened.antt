-- A payload that is opened, and one that is not.
use mathlib.Core.Path.{◌≡◌}
use mathlib.Core.Bool.{true, false, not, ◌||◌}
use mathlib.Core.List.{List}
use Prim.Native.Nat.{ℕ}
use lib.Dec.{eqb}
use Rattle.config.specs.inner.Choices.{by_cond}
use Rattle.packet.specs.Read.{signed}
use Rattle.c_hearing.specs.Exports.{opened_at}

module _ {A : Type 0} (b : List ℕ) (at : ℕ) (refuse : ℕ → A) (go x : A) where
  pub opened : (not (eqb at 0) || signed b) ≡ true → x ≡ go → x ≡ opened_at b at refuse go
  unfolding opened_at
  opened o h = rw o h

  pub not_opened : (not (eqb at 0) || signed b) ≡ false → x ≡ refuse 1 → x ≡ opened_at b at refuse go
  unfolding opened_at
  not_opened o h = rw o h

-- what holds of every refusal, and of a payload that is heard, holds of each call
module _ {A : Type 0} (P : A → Type 0) (b : List ℕ) (at : ℕ) (refuse : ℕ → A) (go : A) where
  pub opened_any : ((n : ℕ) → P (refuse n)) → P go → P (opened_at b at refuse go)
  unfolding opened_at
  opened_any denied h = by_cond P (not (eqb at 0) || signed b) go (refuse 1) (λ _. h) (λ _. denied 1)
