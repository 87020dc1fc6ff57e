-- The held notes below n.
use Prim.Native.Nat.{ℕ, zero, suc, ◌+◌, ◌-◌, ◌≤◌, ◌<◌}
use mathlib.Core.Path.{◌≡◌, refl, ap, ap₂, sym, ◌∙◌}
use mathlib.Core.Bool.{Bool, true, false, cond}
use mathlib.Core.List.{List, [], ◌∷◌, ◌++◌, append-nil, append_assoc}
use native.Mathlib.Omega.{arith}
use lib.ListN.{length, set, replicate, length-append}
use lib.Seq.{set_at}
use Rattle.held_notes.specs.State.{all_notes, has, notes_below}
use Rattle.held_notes.specs.Answers.{notes_of, list_of}
use Rattle.held_notes.specs.declared.listing.Notes.{Notes}

as_notes : (ns items : List ℕ) (count : ℕ) → count ≡ length ns → items ≡ ns ++ replicate (all_notes - count) 0
    → ◌≡◌ {A = Notes} (record { count = count; items = items }) (notes_of ns)
as_notes ns items count c m = rw (m, c)

-- two sets that agree below n
below_cong : (f g : ℕ → Bool) (n : ℕ) → ((k : ℕ) → k < n → f k ≡ g k) → notes_below f n ≡ notes_below g n
unfolding notes_below
below_cong f g zero e = refl
below_cong f g (suc n) e =
    ap₂ (λ (ns : List ℕ) (b : Bool). ns ++ cond b (n ∷ []) []) (below_cong f g n (λ k h. e k (omega arith))) (e n (omega arith))

pub notes_cong : (f g : ℕ → Bool) (n : ℕ) → ((k : ℕ) → k < n → f k ≡ g k) → notes_of (notes_below f n) ≡ notes_of (notes_below g n)
notes_cong f g n e = ap notes_of (below_cong f g n e)

module _ (held : List ℕ) where
  pub below_length : (n : ℕ) → length (notes_below (has held) n) ≤ n
  unfolding notes_below
  below_length zero = omega arith
  below_length (suc n) = by (has held n) (below_length n)
    where
      by : (b : Bool) → length (notes_below (has held) n) ≤ n → length (notes_below (has held) n ++ cond b (n ∷ []) []) ≤ suc n
      by true h = omega (arith, length-append (notes_below (has held) n) (n ∷ []))
      by false h = omega (arith, length-append (notes_below (has held) n) [])

  -- a note that is not held
  pub below_not : (n : ℕ) → has held n ≡ false → notes_below (has held) (suc n) ≡ notes_below (has held) n
  unfolding notes_below
  below_not n e = rw e (append-nil (notes_below (has held) n))

  -- a note that is: one place more is taken
  pub below_held : (n : ℕ) → has held n ≡ true → notes_below (has held) (suc n) ≡ notes_below (has held) n ++ (n ∷ [])
  unfolding notes_below
  below_held n e = rw e

  pub below_store : (n r : ℕ) → has held n ≡ true → (items : List ℕ) (count : ℕ) → count ≡ length (notes_below (has held) n) → items ≡ notes_below (has held) n ++ replicate (suc r) 0
      → set items count n ≡ notes_below (has held) (suc n) ++ replicate r 0
  below_store n r e items count c i =
      ap (λ (xs : List ℕ). set xs count n) i ∙ set_at (notes_below (has held) n) 0 (replicate r 0) n count (sym c)
      ∙ sym (ap (λ (xs : List ℕ). xs ++ replicate r 0) (below_held n e) ∙ append_assoc (notes_below (has held) n) (n ∷ []) (replicate r 0))

  -- ---- the loop

  -- the held notes below a note stand in front, and the rest is 0
  abbrev pub Listed : ℕ → List ℕ → ℕ → Type 0
  Listed note items count = (note ≤ all_notes) × (count ≡ length (notes_below (has held) note)) × (items ≡ notes_below (has held) note ++ replicate (all_notes - count) 0)

  module _ (note : ℕ) (items : List ℕ) (count : ℕ) (i : Listed note items count) where
    pub few : note < all_notes → count < all_notes
    few l = omega (arith, below_length note)

    pub listed_held : note < all_notes → has held note ≡ true → (more : List ℕ) (n : ℕ) → more ≡ set items count note → n ≡ count + 1 → Listed (note + 1) more n
    listed_held l e more n m c =
        let r : ℕ = all_notes - n in
        let s : all_notes - count ≡ suc r = omega (arith, few l) in
        let z : note + 1 ≡ suc note = omega arith in
        let k : length (notes_below (has held) (suc note)) ≡ length (notes_below (has held) note) + 1 = ap length (below_held note e) ∙ length-append (notes_below (has held) note) (note ∷ []) in
        rw z
        (omega arith, omega arith, m ∙ below_store note r e items count i.1 (rw s at i.2))

    pub listed_not : note < all_notes → has held note ≡ false → (more : List ℕ) (n : ℕ) → more ≡ items → n ≡ count → Listed (note + 1) more n
    listed_not l e more n m c =
        let z : note + 1 ≡ suc note = omega arith in
        rw (z, m, c)
        (omega arith, i.1 ∙ ap length (sym (below_not note e)), i.2 ∙ ap (λ (xs : List ℕ). xs ++ replicate (all_notes - count) 0) (sym (below_not note e)))

    pub listed_all : all_notes ≤ note → ◌≡◌ {A = Notes} (record { count = count; items = items }) (list_of held)
    unfolding list_of
    listed_all l =
        let z : note ≡ all_notes = omega arith in
        as_notes (notes_below (has held) note) items count i.1 i.2 ∙ ap (λ (n : ℕ). notes_of (notes_below (has held) n)) z
