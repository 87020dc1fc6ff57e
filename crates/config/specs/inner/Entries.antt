-- A call by the tests that lead to it: made, or refused by one of them.
use Rattle.std.specs.Prelude.{◌≡◌, Bool, true, false, refl, Result, Ok, Err, ⊤}
use Rattle.config.specs.Entry.{on_state, entry}
use Rattle.config.specs.declared.refusal.Refusal.{Refusal}
use Rattle.config.specs.declared.refusal.Refusal.TheVariants.{InvalidState}

module _ {A : Type 0} (refused : Refusal → A) (call : A) where
  pub state_made : {valid : Bool} → valid ≡ true → call ≡ on_state valid refused call
  state_made v = rw v

  pub state_refused : {valid : Bool} → valid ≡ false → refused InvalidState ≡ on_state valid refused call
  state_refused v = rw v

  pub entry_made : {checked : Result ⊤ Refusal} {valid : Bool} → checked ≡ Ok tt → valid ≡ true → call ≡ entry checked valid refused call
  entry_made c v = rw (c, v)

  pub entry_refused : {checked : Result ⊤ Refusal} {valid : Bool} → checked ≡ Ok tt → valid ≡ false → refused InvalidState ≡ entry checked valid refused call
  entry_refused c v = rw (c, v)

  pub settings_refused : {checked : Result ⊤ Refusal} (valid : Bool) (why : Refusal) → checked ≡ Err why → refused why ≡ entry checked valid refused call
  settings_refused valid why c = rw c

-- what holds of every refusal, and of a call that is made, holds of each call
module _ {A : Type 0} (P : A → Type 0) (refused : Refusal → A) (call : A) (denied : (why : Refusal) → P (refused why)) where
  pub state_any : (valid : Bool) → (valid ≡ true → P call) → P (on_state valid refused call)
  state_any true made = made refl
  state_any false made = denied InvalidState

  pub entry_any : (checked : Result ⊤ Refusal) (valid : Bool) → (checked ≡ Ok tt → valid ≡ true → P call) → P (entry checked valid refused call)
  entry_any (Ok _) valid made = state_any valid (made refl)
  entry_any (Err why) valid made = denied why
