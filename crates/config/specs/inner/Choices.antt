-- Tests that hold and that don't, and choices.
use Rattle.std.specs.Prelude.{◌≡◌, ℕ, Bool, true, false, cond, not, ◌&&◌, ◌||◌, ◌≢◌, refl, Result, Ok, Err, ⊤}
use Rattle.std.proofs.Common.{sym, arith}
use Rattle.config.specs.Settings.{tested}
use Rattle.config.specs.declared.refusal.Refusal.{Refusal}

pub never : {y : Bool} → y ≡ true → y ≢ false
never e f = let z : ◌≡◌ {A = ℕ} 0 1 = cc in omega arith

pub unless : (y : Bool) → (y ≢ true) → y ≡ false
unless true f = absurd (f refl)
unless false f = refl

pub not_true : (y : Bool) → not y ≡ true → y ≡ false
not_true true e = sym e
not_true false e = refl

pub or_left : (a b : Bool) → (a || b) ≡ false → a ≡ false
or_left true b e = e
or_left false b e = refl

pub or_right : (a b : Bool) → (a || b) ≡ false → b ≡ false
or_right true b e = absurd (never refl e)
or_right false b e = e

pub and_both : {a b : Bool} → a ≡ true → b ≡ true → (a && b) ≡ true
and_both e f = rw (e, f)

pub and_not_left : {a : Bool} (b : Bool) → a ≡ false → (a && b) ≡ false
and_not_left b e = rw e

pub and_not_right : {a b : Bool} → a ≡ true → b ≡ false → (a && b) ≡ false
and_not_right e f = rw (e, f)

pub cond_true : {A : Type 0} {b : Bool} (x y : A) → b ≡ true → x ≡ cond b x y
cond_true x y e = rw e

pub cond_false : {A : Type 0} {b : Bool} (x y : A) → b ≡ false → y ≡ cond b x y
cond_false x y e = rw e

-- a property of a choice, by the cases of its test
pub by_cond : {A : Type 0} (P : A → Type 0) (b : Bool) (x y : A) → (b ≡ true → P x) → (b ≡ false → P y) → P (cond b x y)
by_cond P true x y f g = f refl
by_cond P false x y f g = g refl

-- a property of what a test leads to
pub by_check : {A : Type 0} (P : A → Type 0) (k : Result ⊤ Refusal) (refused : Refusal → A) (go : A) → ((why : Refusal) → P (refused why)) → (k ≡ Ok tt → P go) → P (tested k refused go)
by_check P (Err why) refused go f g = f why
by_check P (Ok _) refused go f g = g refl
