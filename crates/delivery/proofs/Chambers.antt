-- What a chamber hands on, over its log alone: nothing is handed on where nothing is heard, and places joined one after the other.
use Prim.Native.Nat.{ℕ, zero, suc, ◌+◌, ◌*◌, ◌%◌, ◌≤◌, ◌<◌}
use Rattle.std.proofs.Common.{Ok, Err}
use mathlib.Core.Path.{◌≡◌, refl, ap, ap₂, sym, ◌∙◌}
use mathlib.Core.Logic.{◌⊎◌, inl, inr}
use mathlib.Core.Bool.{true, false}
use mathlib.Core.List.{List, [], ◌∷◌, ◌++◌, append_assoc}
use native.Mathlib.Omega.{arith}
use lib.Dec.{ltb, eqb}
use lib.ListN.{length, get_or, take}
use lib.Seq.{take-length}
use borrow.Author.Tests.{not-true}
use Rattle.config.specs.Sequence.{turn}
use Rattle.config.specs.inner.Tests.{split, tests}
use Rattle.packet.specs.Bytes.{words_of}
use Rattle.command.specs.Messages.{messages_of, whole_of, words_in, whole_words}
use Rattle.window.specs.Arrival.{reach}
use Rattle.window.specs.declared.window.Class.{Class}
use Rattle.window.specs.declared.window.Class.TheVariants.{New, Late, Duplicate}
use Rattle.receiver.specs.Messages.{handed_words, handed_bytes, handed_cut}
use Rattle.receiver_log.specs.Calls.{Entry, data_entry, poll_entry, error_entry, nak_entry, take_entry}
use Rattle.receiver_log.specs.Log.{Report, report_of, origin, place, high, times, lost, Missing}
use Rattle.receiver_log.specs.Promise.{Promise}
use Rattle.config.specs.inner.Choices.{never}
use Rattle.receiver_log.proofs.Numbers.{read_ahead, read_behind}
use Rattle.delivery.specs.Chamber.{is_heard, delivered, joined, listed, AllHanded}
use Rattle.delivery.specs.Sentence.{NoLoss}
use Rattle.delivery.proofs.Messages.{whole_words_lem}

-- a number within reach is read as its position
pub read_position : (H p : ℕ) → origin + p ≤ H + reach → H ≤ origin + p + (reach + 1) → place H (p % turn) ≡ origin + p
read_position H p a b =
    let n : (origin + p) % turn ≡ p % turn = omega arith in
    elim (split (ltb H (origin + p))) [
      | inl k ↦ rw n at (read_ahead H (origin + p) (omega (arith, tests)) a)
      | inr k ↦ rw n at (read_behind H (origin + p) (omega (arith, tests)) b)
    ]

-- ---- what the program hands on

-- whole messages are handed on as they came
module _ (ws : List ℕ) (e : whole_of ws ≡ true) where
  whole_bytes : (b : List ℕ) → words_of b ≡ ws → length b ≡ 4 * length ws → take (4 * length (whole_words (words_of b))) b ≡ b
  whole_bytes b w n =
      let m : 4 * length (whole_words (words_of b)) ≡ length b = ap (λ (xs : List ℕ). 4 * length xs) (ap whole_words w ∙ whole_words_lem ws e) ∙ sym n in
      rw m (take-length b)

  whole_uncut : (b : List ℕ) → words_of b ≡ ws → (messages_of (words_of b)).cut ≡ false
  unfolding whole_of
  whole_uncut b w = rw w (not-true (messages_of ws).cut e)

  pub whole_handed : (class : Class) → AllHanded class ws
  unfolding handed_words handed_bytes handed_cut
  whole_handed (New gap) = record { words = whole_words_lem ws e; bytes = whole_bytes; uncut = whole_uncut }
  whole_handed Late = record { words = whole_words_lem ws e; bytes = whole_bytes; uncut = whole_uncut }
  whole_handed Duplicate = record { words = refl; bytes = λ b w n. refl; uncut = λ b w. refl }

-- ---- calls that hear nothing

pub record Same (t u : List Report) : Type 0 where
  pub top : high u ≡ high t
  pub count : (x : ℕ) → times u x ≡ times t x
  pub words : (x : ℕ) → delivered u x ≡ delivered t x

pub unheard_same : (e : Entry) (t : List Report) → is_heard e ≡ false → Same t (report_of e ∷ t)
unheard_same (data_entry s time seq ws (Ok d)) t h = absurd (never refl h)
unheard_same (data_entry s time seq ws (Err why)) t h = record { top = refl; count = λ x. refl; words = λ x. refl }
unheard_same (poll_entry s time e) t h = record { top = refl; count = λ x. refl; words = λ x. refl }
unheard_same (error_entry q e) t h = record { top = refl; count = λ x. refl; words = λ x. refl }
unheard_same (nak_entry e) t h = record { top = refl; count = λ x. refl; words = λ x. refl }
unheard_same (take_entry s p b a q c) t h = record { top = refl; count = λ x. refl; words = λ x. refl }

-- ---- no loss, nothing missing

pub no_loss_lost : (t : List Report) → NoLoss t → (x : ℕ) → lost t x ≡ false
no_loss_lost [] n x = refl
no_loss_lost (r ∷ t) n x = rw n.0 (no_loss_lost t n.1 x)

pub once_each : (W : ℕ) (t : List Report) → Promise W t → ((x : ℕ) → lost t x ≡ false) → ((x : ℕ) → Missing W t x → ⊥)
    → (x : ℕ) → origin ≤ x → x ≤ high t → times t x ≡ 1
once_each W t p nl nm x a b = elim (split (eqb (times t x) 0)) [
  | inl k ↦ let z : ⊥ = none (p.accounted x a b (omega (arith, tests))) in absurd z
  | inr k ↦ omega (arith, tests, p.once x a b)
]
  where
    none : (lost t x ≡ true) ⊎ Missing W t x → ⊥
    none (inl e) = never e (nl x)
    none (inr m) = nm x m

-- ---- places joined

module _ (f : ℕ → List ℕ) where
  pub joined_is : (C : List (List ℕ)) (x : ℕ) → ((j : ℕ) → j < length C → f (x + j) ≡ get_or C j []) → joined f x (length C) ≡ words_in C
  unfolding words_in
  joined_is [] x h = refl
  joined_is (a ∷ C) x h =
      let e : x + 0 ≡ x = omega arith in
      ap₂ (λ (y z : List ℕ). y ++ z) (rw e at (h 0 (omega arith)))
      (joined_is C (suc x) (λ j l. let n : x + suc j ≡ suc x + j = omega arith in rw n at (h (suc j) (omega arith))))

  pub listed_is : (C : List (List ℕ)) (x : ℕ) → ((j : ℕ) → j < length C → f (x + j) ≡ get_or C j []) → listed f x (length C) ≡ C
  listed_is [] x h = refl
  listed_is (a ∷ C) x h =
      let e : x + 0 ≡ x = omega arith in
      ap₂ (λ (y : List ℕ) (z : List (List ℕ)). y ∷ z) (rw e at (h 0 (omega arith)))
      (listed_is C (suc x) (λ j l. let n : x + suc j ≡ suc x + j = omega arith in rw n at (h (suc j) (omega arith))))

  pub joined_add : (m n x : ℕ) → joined f x (m + n) ≡ joined f x m ++ joined f (x + m) n
  joined_add zero n x = let a : zero + n ≡ n = omega arith in let b : x + zero ≡ x = omega arith in rw (a, b)
  joined_add (suc m) n x =
      let a : suc m + n ≡ suc (m + n) = omega arith in
      let b : x + suc m ≡ suc x + m = omega arith in
      rw (a, b, joined_add m n (suc x)) (sym (append_assoc (f x) (joined f (suc x) m) (joined f (suc x + m) n)))

  pub joined_none : (n x : ℕ) → ((y : ℕ) → y < x + n → f y ≡ []) → joined f x n ≡ []
  joined_none zero x h = refl
  joined_none (suc n) x h = rw (h x (omega arith)) (joined_none n (suc x) (λ y l. h y (omega arith)))
