-- Laws of what is handed on.
use mathlib.Core.Path.{◌≡◌, refl, sym, ◌∙◌}
use mathlib.Core.Bool.{Bool, true, false, cond}
use mathlib.Core.List.{List, [], ◌∷◌}
use Prim.Native.Nat.{ℕ, zero, suc, ◌*◌, ◌/◌, ◌≤◌}
use native.Mathlib.Omega.{arith}
use lib.Dec.{ltb}
use lib.ListN.{length, take}
use Rattle.packet.specs.Bytes.{words_of}
use Rattle.packet.proofs.Reading.{length_words_of}
use Rattle.command.specs.Messages.{whole_words}
use Rattle.command.specs.inner.Messages.{front}
use Rattle.window.specs.declared.window.Class.{Class}
use Rattle.receiver.specs.Messages.{hands_on, handed_words, handed_bytes, handed_cut}

words_of_take : (n : ℕ) (b : List ℕ) → 4 * n ≤ length b → words_of (take (4 * n) b) ≡ take n (words_of b)
unfolding words_of
words_of_take zero b h = refl
words_of_take (suc n) [] h = absurd (let z : ⊥ = omega arith in z)
words_of_take (suc n) (x ∷ []) h = absurd (let z : ⊥ = omega arith in z)
words_of_take (suc n) (x ∷ y ∷ []) h = absurd (let z : ⊥ = omega arith in z)
words_of_take (suc n) (x ∷ y ∷ z ∷ []) h = absurd (let z : ⊥ = omega arith in z)
words_of_take (suc n) (x ∷ y ∷ z ∷ t ∷ b) h =
    let e : 4 * suc n ≡ suc (suc (suc (suc (4 * n)))) = omega arith in
    rw (e, words_of_take n b (omega arith))

pub whole_bytes : (b : List ℕ) → 4 * length (whole_words (words_of b)) ≤ length b
whole_bytes b = omega (arith, (front (words_of b)).fits, length_words_of b)

-- the words of the bytes that are handed on are the whole messages of the command's words
pub handed_words_lem : (class : Class) (b : List ℕ) → words_of (handed_bytes class b) ≡ handed_words class (words_of b)
unfolding handed_bytes handed_words words_of
handed_words_lem class b = by (hands_on class)
  where
    by : (t : Bool) → words_of (cond t (take (4 * length (whole_words (words_of b))) b) []) ≡ cond t (whole_words (words_of b)) []
    by true = words_of_take (length (whole_words (words_of b))) b (whole_bytes b) ∙ sym (front (words_of b)).part
    by false = refl

module _ (class : Class) (b : List ℕ) where
  module _ (h : hands_on class ≡ true) (n : ℕ) (e : n ≡ length (whole_words (words_of b))) where
    pub handed_part : take (4 * n) b ≡ handed_bytes class b
    unfolding handed_bytes
    handed_part = rw (h, e)

    pub cut_part : ltb n (length b / 4) ≡ handed_cut class b
    unfolding handed_cut
    cut_part = rw (h, e, ← length_words_of b) (sym (front (words_of b)).cut)

  module _ (h : hands_on class ≡ false) where
    pub handed_none : [] ≡ handed_bytes class b
    unfolding handed_bytes
    handed_none = rw h

    pub cut_none : false ≡ handed_cut class b
    unfolding handed_cut
    cut_none = rw h
