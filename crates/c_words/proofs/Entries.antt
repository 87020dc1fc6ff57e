-- A call of a C function by the tests that lead to it: made, or refused by one of them.
use mathlib.Core.Path.{◌≡◌, ap, ◌∙◌}
use Rattle.std.proofs.Common.{Result, Ok, Err}
use Rattle.config.specs.declared.refusal.Refusal.{Refusal}
use Rattle.std.specs.Bool.{⊤}
use mathlib.Core.Bool.{Bool, true, false}
use Prim.Native.Nat.{ℕ}
use Rattle.config.specs.Refusals.{number_of, outcome_number}
use Rattle.config.specs.inner.Entries.{entry_any}
use Rattle.c_words.specs.Entry.{words_entry}

module _ {A : Type 0} (refuse : ℕ → A) (go : A) {x : A} where
  module _ {checked : Result ⊤ Refusal} {fit : Bool} (c : checked ≡ Ok tt) where
    pub made : fit ≡ true → x ≡ go → x ≡ words_entry checked fit refuse go
    unfolding words_entry
    made f h = rw (c, f) h

    pub words_refused : fit ≡ false → x ≡ refuse 13 → x ≡ words_entry checked fit refuse go
    unfolding words_entry
    words_refused f h = rw (c, f) h

  -- n is the number of the settings
  pub settings_refused : (checked : Result ⊤ Refusal) (fit : Bool) {n : ℕ} → n ≡ outcome_number checked → (n ≡ 0 → ⊥) → x ≡ refuse n → x ≡ words_entry checked fit refuse go
  unfolding words_entry
  settings_refused (Ok _) fit s z h = absurd (z s)
  settings_refused (Err why) fit s z h = h ∙ ap refuse s

-- what holds of every refusal, and of a call that is made, holds of each call
module _ {A : Type 0} (P : A → Type 0) (refuse : ℕ → A) (go : A) {checked : Result ⊤ Refusal} {fit : Bool} where
  pub call_any : ((n : ℕ) → P (refuse n)) → (checked ≡ Ok tt → fit ≡ true → P go) → P (words_entry checked fit refuse go)
  unfolding words_entry
  call_any denied f = entry_any P (λ why. refuse (number_of why)) go (λ why. denied (number_of why)) checked fit f
