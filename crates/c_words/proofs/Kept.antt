-- A call that is refused hands back what it was given.
use mathlib.Core.Path.{◌≡◌, sym}
use Rattle.std.proofs.Common.{Result, Ok}
use Rattle.std.specs.Bool.{⊤}
use mathlib.Core.Bool.{Bool, true, cond}
use mathlib.Core.List.{List}
use Prim.Native.Nat.{ℕ}
use lib.ListN.{length}
use borrow.Author.Tests.{eqb-true}
use Rattle.config.specs.Entry.{entry}
use Rattle.config.specs.declared.refusal.Refusal.{Refusal}
use Rattle.config.specs.inner.Choices.{by_cond}
use Rattle.config.specs.inner.Entries.{entry_any}
use Rattle.c_words.specs.Entry.{words_entry}
use Rattle.c_words.specs.Payload.{payload_fits, payload_in, payload_words}
use Rattle.c_words.proofs.Entries.{call_any}
use Rattle.c_words.proofs.Runs.{run_all}

-- what an answer leaves the same where its number is not 0
pub record Kept {A : Type 0} (number : A → ℕ) (Same : A → Type 0) (e : A) : Type 0 where
  pub kept : (number e ≡ 0 → ⊥) → Same e

-- an answer with one list that was lent, and with two
abbrev pub itself : ℕ → ℕ
itself n = n

abbrev pub KeptOne : {A : Type 0} → (A → ℕ) → List ℕ → A × List ℕ → Type 0
KeptOne {A} number was = Kept (λ (e : A × List ℕ). number e.0) (λ (e : A × List ℕ). e.1 ≡ was)

abbrev pub KeptTwo : {A : Type 0} → (A → ℕ) → List ℕ → List ℕ → A × List ℕ × List ℕ → Type 0
KeptTwo {A} number was also = Kept (λ (e : A × List ℕ × List ℕ). number e.0) (λ (e : A × List ℕ × List ℕ). (e.1 ≡ was) × (e.2 ≡ also))

-- ---- each way out of a test
module _ {A : Type 0} {number : A → ℕ} {Same : A → Type 0} where
  pub as_was : {e : A} → Same e → Kept number Same e
  as_was s = record { kept = λ n. s }

  pub done : {e : A} → number e ≡ 0 → Kept number Same e
  done z = record { kept = λ n. absurd (n z) }

  pub by_test : (t : Bool) (x y : A) → (t ≡ true → Kept number Same x) → Kept number Same y → Kept number Same (cond t x y)
  by_test t x y f g = by_cond (Kept number Same) t x y f (λ _. g)

  -- a call of the library, refused by a test or made; one that is given no settings has `Done` in their place
  pub by_entry : (checked : Result ⊤ Refusal) (valid : Bool) (deny : Refusal → A) (go : A) → ((why : Refusal) → Same (deny why)) → Kept number Same go
      → Kept number Same (entry checked valid deny go)
  by_entry checked valid deny go s g = entry_any (Kept number Same) deny go (λ why. as_was (s why)) checked valid (λ _ _. g)

-- ---- a call of a C function: what a test refuses hands back what it was given, and of one that is made it holds by what the library's call leaves
module _ {A E : Type 0} (number : A → ℕ) (Same : A → Type 0) (into : E → A) where
  pub call_keeps : {checked : Result ⊤ Refusal} {fit : Bool} (deny : ℕ → A) (e : E) → ((n : ℕ) → Same (deny n))
      → (checked ≡ Ok tt → fit ≡ true → Kept (λ (x : E). number (into x)) (λ (x : E). Same (into x)) e) → Kept number Same (words_entry checked fit deny (into e))
  call_keeps deny e s f = call_any (Kept number Same) deny (into e) (λ n. as_was (s n)) (λ c t. record { kept = (f c t).kept })

-- ---- a payload that is stored as it was loaded
pub payload_same : (p : List ℕ) → payload_fits p ≡ true → payload_words (payload_in p) ≡ p
payload_same p e = run_all p 2 (sym (eqb-true (length p) 2 e))
