-- Laws of bytes stored by column.
use mathlib.Core.Path.{◌≡◌, refl, sym, ap, ◌∙◌}
use mathlib.Core.Bool.{true, false}
use mathlib.Core.List.{List, [], ◌∷◌}
use Prim.Native.Nat.{ℕ, zero, suc, ◌+◌, ◌*◌, ◌-◌, ◌≤◌, ◌<◌}
use native.Mathlib.Nat.{zero-mul, suc-mul}
use native.Mathlib.Omega.{arith}
use lib.ListN.{length, set, get_or, length-append}
use Rattle.sheet_blocks.specs.Bytes.{spliced}
use Rattle.sheet_blocks.specs.Records.{is_block, rows}
use Rattle.sheet_blocks.specs.Columns.{every_of, by_column, columns_of, records_of, stored_of, restored_of}
use Rattle.sheet_blocks.proofs.Splice.{spliced_sets, spliced_append, spliced_nil}

-- ---- lengths

pub length_every : (b : List ℕ) (d k i : ℕ) → length (every_of b d k i) ≡ k
unfolding every_of
length_every b d zero i = refl
length_every b d (suc k) i = ap suc (length_every b d k (i + d))

pub length_columns : (b : List ℕ) (d r c i : ℕ) → length (by_column b d r c i) ≡ c * r
unfolding by_column
length_columns b d r zero i = omega (arith, zero-mul r)
length_columns b d r (suc c) i =
    rw length-append (omega (arith, length_every b d r i, length_columns b d r c (i + 1), suc-mul c r))

-- ---- stores

-- one store is a run of one byte
one_spliced : (b : List ℕ) (i x : ℕ) → i < length b → set b i x ≡ spliced b i (x ∷ [])
one_spliced b i x h = sym (spliced_sets b i (x ∷ []) (omega arith))

-- a turn of the loop that stores every d-th byte
pub every_turn : (b s z : List ℕ) (o i d k : ℕ) → 0 < k → o + k ≤ length b → spliced b o (every_of s d k i) ≡ z
    → spliced (set b o (get_or s i 0)) (o + 1) (every_of s d (k - 1) (i + d)) ≡ z
unfolding every_of
every_turn b s z o i d zero h f inv = absurd (let z : ⊥ = omega arith in z)
every_turn b s z o i d (suc k) h f inv =
    let e : suc k - 1 ≡ k = omega arith in
    rw e (ap (λ (l : List ℕ). spliced l (o + 1) (every_of s d k (i + d))) (one_spliced b o (get_or s i 0) (omega arith))
    ∙ spliced_append b o (o + 1) (get_or s i 0 ∷ []) (every_of s d k (i + d)) (omega arith) (omega (arith, length_every s d k (i + d)))
    ∙ inv)

pub every_done : (b s z : List ℕ) (o i d k : ℕ) → k ≤ 0 → o ≤ length b → spliced b o (every_of s d k i) ≡ z → b ≡ z
unfolding every_of
every_done b s z o i d zero h f inv = sym (spliced_nil b o f) ∙ inv
every_done b s z o i d (suc k) h f inv = absurd (let z : ⊥ = omega arith in z)

-- a turn of the loop that stores the columns from column i on
pub columns_turn : (b b' s z : List ℕ) (o d r c i : ℕ) → i < c → o + (c - i) * r ≤ length b
    → b' ≡ spliced b o (every_of s d r i)
    → spliced b o (by_column s d r (c - i) i) ≡ z
    → spliced b' (o + r) (by_column s d r (c - (i + 1)) (i + 1)) ≡ z
unfolding by_column
columns_turn b b' s z o d r c i h f e inv =
    let k : ℕ = c - (i + 1) in
    let m : c - i ≡ suc k = omega arith in
    let p : (c - i) * r ≡ k * r + r = rw m (suc-mul k r) in
    let q = length_every s d r i in
    let l = length_columns s d r k (i + 1) in
    rw e (spliced_append b o (o + r) (every_of s d r i) (by_column s d r k (i + 1)) (omega arith) (omega arith)
    ∙ (rw m at inv))

pub columns_done : (b s z : List ℕ) (o d r c i : ℕ) → c ≤ i → o ≤ length b → spliced b o (by_column s d r (c - i) i) ≡ z → b ≡ z
unfolding by_column
columns_done b s z o d r c i h f inv =
    let m : c - i ≡ 0 = omega arith in
    sym (spliced_nil b o f) ∙ (rw m at inv)

-- ---- the answers

module _ (b o : List ℕ) where
  pub stored_not : (a : ℕ) → a ≡ 16 → is_block (length b) (length o) ≡ false → (a, o) ≡ stored_of b o
  unfolding stored_of
  stored_not a e h = rw (h, e)

  pub stored_done : (o' : List ℕ) → is_block (length b) (length o) ≡ true → o' ≡ spliced o 0 (by_column b 16 (rows b) 16 0) → (0, o') ≡ stored_of b o
  unfolding stored_of columns_of
  stored_done o' h e = rw (h, e)

  pub restored_not : (a : ℕ) → a ≡ 16 → is_block (length b) (length o) ≡ false → (a, o) ≡ restored_of b o
  unfolding restored_of
  restored_not a e h = rw (h, e)

  pub restored_done : (o' : List ℕ) → is_block (length b) (length o) ≡ true → o' ≡ spliced o 0 (by_column b (rows b) 16 (rows b) 0) → (0, o') ≡ restored_of b o
  unfolding restored_of records_of
  restored_done o' h e = rw (h, e)
