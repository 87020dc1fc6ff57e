-- Laws of `spliced`: runs of bytes stored into a buffer.
use mathlib.Core.Path.{◌≡◌, sym, ap, ◌∙◌}
use mathlib.Core.List.{List, [], ◌∷◌, ◌++◌, append_assoc}
use Prim.Native.Nat.{ℕ, suc, ◌+◌, ◌≤◌}
use native.Mathlib.Numerals.{add-one, add-two, add-three}
use native.Mathlib.Omega.{arith}
use lib.ListN.{length, set, take, drop, length-append}
use lib.Seq.{sets, sets-eq, length-sets, take_at, drop_at, take-append-le, length-take-le, take_all}
use borrow.Rule.Slice.PartMut.{put_mid}
use Rattle.std.proofs.lemmas.List.{drop-drop}
use Rattle.packet.specs.Bytes.{spliced}

sets_append : (b : List ℕ) (i k : ℕ) (xs ys : List ℕ) → i + length xs ≡ k → sets (sets b i xs) k ys ≡ sets b i (xs ++ ys)
sets_append b i k [] ys e = let here : k ≡ i = omega arith in rw here
sets_append b i k (x ∷ xs) ys e = sets_append (set b i x) (suc i) k xs ys (omega arith)

module _ (b : List ℕ) (i : ℕ) (xs : List ℕ) (fits : i + length xs ≤ length b) where
  pub spliced_sets : spliced b i xs ≡ sets b i xs
  unfolding spliced
  spliced_sets = sym (sets-eq xs b i fits)

  pub length_spliced : length (spliced b i xs) ≡ length b
  length_spliced = ap length spliced_sets ∙ length-sets b i xs

  head_length : length (take i b ++ xs) ≡ i + length xs
  head_length = simp length-append (omega (arith, length-take-le i b (omega arith)))

  pub take_spliced : take (i + length xs) (spliced b i xs) ≡ take i b ++ xs
  unfolding spliced
  take_spliced = take_at (take i b ++ xs) (drop (i + length xs) b) (i + length xs) head_length

  pub drop_spliced : drop (i + length xs) (spliced b i xs) ≡ drop (i + length xs) b
  unfolding spliced
  drop_spliced = drop_at (take i b ++ xs) (drop (i + length xs) b) (i + length xs) head_length

  pub take_before_spliced : take i (spliced b i xs) ≡ take i b
  unfolding spliced
  take_before_spliced =
      let l = length-take-le i b (omega arith) in
      take-append-le i (take i b ++ xs) (drop (i + length xs) b) (omega (arith, head_length))
      ∙ take-append-le i (take i b) xs (omega arith)
      ∙ take_all i (take i b) (omega arith)

-- a run after a run is one run
pub spliced_append : (b : List ℕ) (i k : ℕ) (xs ys : List ℕ) → i + length xs ≡ k → k + length ys ≤ length b
    → spliced (spliced b i xs) k ys ≡ spliced b i (xs ++ ys)
spliced_append b i k xs ys e fits =
    let one : i + length xs ≤ length b = omega arith in
    let both : i + length (xs ++ ys) ≤ length b = simp length-append (omega arith) in
    spliced_sets (spliced b i xs) k ys (omega (arith, length_spliced b i xs one))
    ∙ ap (λ (l : List ℕ). sets l k ys) (spliced_sets b i xs one)
    ∙ sets_append b i k xs ys e
    ∙ sym (spliced_sets b i (xs ++ ys) both)

pub spliced_nil : (b : List ℕ) (i : ℕ) → i ≤ length b → spliced b i [] ≡ b
spliced_nil b i h = spliced_sets b i [] (omega arith)

-- four stores, as code makes them
pub spliced_four : (b : List ℕ) (i w x y z : ℕ) → i + 4 ≤ length b
    → set (set (set (set b i w) (i + 1) x) (i + 2) y) (i + 3) z ≡ spliced b i (w ∷ x ∷ y ∷ z ∷ [])
spliced_four b i w x y z h = rw (add-one, add-two, add-three) (sym (spliced_sets b i (w ∷ x ∷ y ∷ z ∷ []) h))

-- a part of the buffer that holds the run now
pub part_spliced : (b xs ys : List ℕ) (i k : ℕ) → ys ≡ xs → k ≡ length xs → put_mid i k b ys ≡ spliced b i xs
unfolding spliced
part_spliced b xs ys i k e n =
    rw (e, n, drop-drop (length xs) i b) (sym (append_assoc (take i b) xs (drop (i + length xs) b)))
