-- Messages one after the other, and the words that they make, divided again.
use Prim.Native.Nat.{ℕ, zero, suc, ◌/◌, ◌≤◌}
use mathlib.Core.Path.{◌≡◌, refl, ap, ◌∙◌}
use mathlib.Core.Logic.{inl, inr}
use mathlib.Core.Bool.{true}
use mathlib.Core.List.{List, [], ◌∷◌, ◌++◌}
use native.Mathlib.Omega.{arith}
use lib.Dec.{leb}
use lib.ListN.{length, take, drop, length-append}
use lib.Seq.{take_at, drop_at, length-take-le}
use Rattle.config.specs.inner.Tests.{split, tests, lifts}
use Rattle.command.specs.Messages.{message_words, divided, messages_of, words_in}
use Rattle.command.specs.inner.Messages.{type_words_range}

abbrev IsMessage : List ℕ → Type 0
IsMessage [] = ⊥
IsMessage (w ∷ ws) = length (w ∷ ws) ≡ message_words w

abbrev pub AreMessages : List (List ℕ) → Type 0
AreMessages [] = Unit {0}
AreMessages (m ∷ ms) = IsMessage m × AreMessages ms

pub are_append : (ms ns : List (List ℕ)) → AreMessages ms → AreMessages ns → AreMessages (ms ++ ns)
are_append [] ns p q = q
are_append (m ∷ ms) ns p q = (p.0, are_append ms ns p.1 q)

-- ---- dividing gives messages

first_is : (n w : ℕ) (ws : List ℕ) → n ≡ message_words w → n ≤ length (w ∷ ws) → IsMessage (take n (w ∷ ws))
first_is zero w ws e l = absurd (let z : ⊥ = omega (arith, type_words_range (w / 0x10000000)) in z)
first_is (suc n) w ws e l = length-take-le (suc n) (w ∷ ws) l ∙ e

divided_are : (f : ℕ) (ws : List ℕ) → AreMessages (divided f ws).whole
unfolding divided
divided_are zero ws = tt
divided_are (suc f) [] = tt
divided_are (suc f) (w ∷ ws) = elim (split (leb (message_words w) (length (w ∷ ws)))) [
  | inl k ↦
      rw k
      (first_is (message_words w) w ws refl (omega (arith, tests)), divided_are f (drop (message_words w) (w ∷ ws)))
  | inr k ↦ rw k tt
]

pub messages_are : (ws : List ℕ) → AreMessages (messages_of ws).whole
unfolding messages_of
messages_are ws = divided_are (length ws) ws

-- ---- their words divide into them again

divided_again : (f : ℕ) (ms : List (List ℕ)) → AreMessages ms → length (words_in ms) ≤ f → (divided f (words_in ms)).whole ≡ ms
unfolding divided words_in
divided_again zero [] a l = refl
divided_again (suc f) [] a l = refl
divided_again zero ([] ∷ ms) a l = absurd a.0
divided_again (suc f) ([] ∷ ms) a l = absurd a.0
divided_again zero ((w ∷ r) ∷ ms) a l = absurd (let z : ⊥ = omega arith in z)
divided_again (suc f) ((w ∷ r) ∷ ms) a l =
    let n : length (w ∷ r) ≡ message_words w = a.0 in
    let s : length (r ++ words_in ms) ≡ _ = length-append r (words_in ms) in
    let k : leb (message_words w) (length (w ∷ (r ++ words_in ms))) ≡ true = omega (arith, lifts) in
    rw (k, ← n, take_at (w ∷ r) (words_in ms), drop_at (w ∷ r) (words_in ms))
    (ap (λ (xs : List (List ℕ)). (w ∷ r) ∷ xs) (divided_again f ms a.1 (omega arith)))

pub divided_back : (ms : List (List ℕ)) → AreMessages ms → (messages_of (words_in ms)).whole ≡ ms
unfolding messages_of
divided_back ms a = divided_again (length (words_in ms)) ms a (omega arith)
