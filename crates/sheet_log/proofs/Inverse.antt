-- Laws of blocks stored by column and restored: byte by byte, by its place.
use mathlib.Core.Path.{◌≡◌, sym, ap, ◌∙◌}
use mathlib.Core.Bool.{true}
use mathlib.Core.List.{List}
use Prim.Native.Nat.{ℕ, zero, suc, ◌+◌, ◌*◌, ◌/◌, ◌%◌, ◌<◌}
use native.Mathlib.Nat.{zero-mul, suc-mul, div-add-mod', mod-lt, div-lt_iff_lt-mul}
use native.Mathlib.Omega.{arith}
use lib.ListN.{length, get_or, get_or-append}
use lib.Seq.{ext_get_or, get_or-append-add}
use Rattle.sheet_blocks.specs.Records.{is_block, rows}
use Rattle.sheet_blocks.specs.Columns.{every_of, by_column, columns_of, records_of}
use Rattle.sheet_blocks.proofs.Blocks.{block_rows}
use Rattle.sheet_blocks.proofs.Stored.{length_every, length_columns}

-- ---- single bytes

pub every_at : (b : List ℕ) (d r i y : ℕ) → y < r → get_or (every_of b d r i) y 0 ≡ get_or b (i + y * d) 0
unfolding every_of
every_at b d zero i y h = absurd (let z : ⊥ = omega arith in z)
every_at b d (suc r) i zero h = let e : i + 0 * d ≡ i = omega (arith, zero-mul d) in rw e
every_at b d (suc r) i (suc y) h =
    let e : i + d + y * d ≡ i + suc y * d = omega (arith, suc-mul y d) in
    every_at b d r (i + d) y (omega arith) ∙ rw e

-- byte y of column x
pub columns_at : (b : List ℕ) (d r c i x y : ℕ) → x < c → y < r → get_or (by_column b d r c i) (x * r + y) 0 ≡ get_or b (i + x + y * d) 0
unfolding by_column
columns_at b d r zero i x y h k = absurd (let z : ⊥ = omega arith in z)
columns_at b d r (suc c) i zero y h k =
    let e : 0 * r + y ≡ y = omega (arith, zero-mul r) in
    let f : i + 0 ≡ i = omega arith in
    let l : y < length (every_of b d r i) = rw length_every k in
    rw (e, f) (get_or-append (every_of b d r i) (by_column b d r c (i + 1)) 0 y l ∙ every_at b d r i y k)
columns_at b d r (suc c) i (suc x) y h k =
    let e : suc x * r + y ≡ length (every_of b d r i) + (x * r + y) = omega (arith, suc-mul x r, length_every b d r i) in
    let f : i + 1 + x ≡ i + suc x = omega arith in
    rw (e, get_or-append-add) (columns_at b d r c (i + 1) x y (omega arith) k ∙ rw f)

-- a block by column, and that by record
pub there_back : (b : List ℕ) (m : ℕ) → length b ≡ 16 * m → by_column (by_column b 16 m 16 0) m 16 m 0 ≡ b
there_back b m e = ext_get_or 0 (by_column stored m 16 m 0) b (omega (arith, length_columns stored m 16 m 0)) at
  where
    stored : List ℕ
    stored = by_column b 16 m 16 0

    at : (p : ℕ) → p < length (by_column stored m 16 m 0) → get_or (by_column stored m 16 m 0) p 0 ≡ get_or b p 0
    at p h =
        let q : p < 16 * m = omega (arith, length_columns stored m 16 m 0) in
        let x : ℕ = p / 16 in
        let y : ℕ = p % 16 in
        let i : x * 16 + y ≡ p = omega arith in
        let j : 0 + x + y * m ≡ y * m + x = omega arith in
        let k : 0 + y + x * 16 ≡ p = omega arith in
        let outer : get_or (by_column stored m 16 m 0) (x * 16 + y) 0 ≡ get_or stored (0 + x + y * m) 0 = columns_at stored m 16 m 0 x y (omega arith) (omega arith) in
        let inner : get_or stored (y * m + x) 0 ≡ get_or b (0 + y + x * 16) 0 = columns_at b 16 m 16 0 y x (omega arith) (omega arith) in
        ap (λ (z : ℕ). get_or (by_column stored m 16 m 0) z 0) (sym i) ∙ outer ∙ ap (λ (z : ℕ). get_or stored z 0) j ∙ inner ∙ ap (λ (z : ℕ). get_or b z 0) k

-- columns by record, and that by column
pub back_there : (b : List ℕ) (m : ℕ) → length b ≡ 16 * m → by_column (by_column b m 16 m 0) 16 m 16 0 ≡ b
back_there b m e = ext_get_or 0 (by_column whole 16 m 16 0) b (omega (arith, length_columns whole 16 m 16 0)) at
  where
    whole : List ℕ
    whole = by_column b m 16 m 0

    at : (p : ℕ) → p < length (by_column whole 16 m 16 0) → get_or (by_column whole 16 m 16 0) p 0 ≡ get_or b p 0
    at p h =
        let q : p < 16 * m = omega (arith, length_columns whole 16 m 16 0) in
        let pos : 0 < m = omega arith in
        let x : ℕ = p / m in
        let y : ℕ = p % m in
        let xs : x < 16 = (div-lt_iff_lt-mul pos).1 q in
        let ys : y < m = mod-lt p pos in
        let i : x * m + y ≡ p = div-add-mod' p m in
        let j : 0 + x + y * 16 ≡ y * 16 + x = omega arith in
        let k : 0 + y + x * m ≡ p = omega arith in
        let outer : get_or (by_column whole 16 m 16 0) (x * m + y) 0 ≡ get_or whole (0 + x + y * 16) 0 = columns_at whole 16 m 16 0 x y xs ys in
        let inner : get_or whole (y * 16 + x) 0 ≡ get_or b (0 + y + x * m) 0 = columns_at b m 16 m 0 y x ys xs in
        ap (λ (z : ℕ). get_or (by_column whole 16 m 16 0) z 0) (sym i) ∙ outer ∙ ap (λ (z : ℕ). get_or whole z 0) j ∙ inner ∙ ap (λ (z : ℕ). get_or b z 0) k

-- ---- whole blocks

module _ (b : List ℕ) (room : ℕ) (t : is_block (length b) room ≡ true) where
  whole_rows : length b ≡ 16 * rows b
  whole_rows = sym (block_rows (length b) room t)

  pub stored_length : length (columns_of b) ≡ length b
  unfolding columns_of
  stored_length = omega (arith, length_columns b 16 (rows b) 16 0, whole_rows)

  pub records_length : length (records_of b) ≡ length b
  unfolding records_of
  records_length = omega (arith, length_columns b (rows b) 16 (rows b) 0, whole_rows)

  pub stored_restored : records_of (columns_of b) ≡ b
  unfolding records_of columns_of
  stored_restored =
      let e : rows (by_column b 16 (rows b) 16 0) ≡ rows b = omega (arith, length_columns b 16 (rows b) 16 0, whole_rows) in
      rw e (there_back b (rows b) whole_rows)

  pub restored_stored : columns_of (records_of b) ≡ b
  unfolding records_of columns_of
  restored_stored =
      let e : rows (by_column b (rows b) 16 (rows b) 0) ≡ rows b = omega (arith, length_columns b (rows b) 16 (rows b) 0, whole_rows) in
      rw e (back_there b (rows b) whole_rows)
