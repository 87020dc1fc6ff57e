-- Records in a joined list: those of its first part, and those behind it.
use mathlib.Core.Path.{◌≡◌, refl, ◌∙◌}
use mathlib.Core.List.{List, ◌++◌}
use Prim.Native.Nat.{ℕ, zero, suc, ◌+◌, ◌*◌, ◌≤◌}
use native.Mathlib.Omega.{arith}
use lib.ListN.{length, get_or, drop, length-append, get_or-append}
use lib.Seq.{get_or-append-add}
use Rattle.sheet_blocks.specs.Records.{entry_at, entries, all_records, rows}
use Rattle.loss_sheet.specs.Sheet.{arrivals}

skip_at : (p q : List ℕ) (i j c : ℕ) → j ≡ length p + i → get_or (p ++ q) (j + c) 0 ≡ get_or q (i + c) 0
skip_at p q i j c e =
    let f : j + c ≡ length p + (i + c) = omega arith in
    rw f (get_or-append-add p q (i + c) 0)

pub entries_skip : (p q : List ℕ) (k i j : ℕ) → j ≡ length p + i → entries (p ++ q) k j ≡ entries q k i
unfolding entries entry_at
entries_skip p q zero i j e = refl
entries_skip p q (suc k) i j e =
    rw (skip_at p q i j 10 e, skip_at p q i j 12 e, skip_at p q i j 13 e, entries_skip p q k (i + 16) (j + 16) (omega arith))

pub records_skip : (p q : List ℕ) (k i j : ℕ) → j ≡ length p + i → all_records (p ++ q) k j ≡ all_records q k i
unfolding all_records
records_skip p q zero i j e = refl
records_skip p q (suc k) i j e =
    rw (skip_at p q i j 10 e, skip_at p q i j 11 e, records_skip p q k (i + 16) (j + 16) (omega arith))

pub entries_front : (p q : List ℕ) (k i : ℕ) → i + 16 * k ≤ length p → entries (p ++ q) k i ≡ entries p k i
unfolding entries entry_at
entries_front p q zero i h = refl
entries_front p q (suc k) i h =
    rw (get_or-append p q 0 (i + 10) (omega arith), get_or-append p q 0 (i + 12) (omega arith), get_or-append p q 0 (i + 13) (omega arith), entries_front p q k (i + 16) (omega arith))

pub entries_add : (b : List ℕ) (k l i j : ℕ) → j ≡ i + 16 * k → entries b (k + l) i ≡ entries b k i ++ entries b l j
unfolding entries
entries_add b zero l i j e = let z : 0 + l ≡ l = omega arith in let f : j ≡ i = omega arith in rw (z, f)
entries_add b (suc k) l i j e =
    let z : suc k + l ≡ suc (k + l) = omega arith in
    rw (z, entries_add b k l (i + 16) j (omega arith))

pub arrivals_join : (p q : List ℕ) → 16 * rows p ≡ length p → arrivals (p ++ q) ≡ arrivals p ++ arrivals q
arrivals_join p q h =
    let r : rows (p ++ q) ≡ rows p + rows q = rw length-append (omega arith) in
    rw (r, entries_add (p ++ q) (rows p) (rows q) 0 (length p) (omega arith), entries_front p q (rows p) 0 (omega arith), entries_skip p q (rows q) 0 (length p) (omega arith))

pub drop_entries : (b : List ℕ) (d k i : ℕ) → drop d (entries b (d + k) i) ≡ entries b k (i + 16 * d)
unfolding entries
drop_entries b zero k i = let z : 0 + k ≡ k = omega arith in let e : i + 16 * 0 ≡ i = omega arith in rw (z, e)
drop_entries b (suc d) k i =
    let z : suc d + k ≡ suc (d + k) = omega arith in
    let e : i + 16 + 16 * d ≡ i + 16 * suc d = omega arith in
    rw z (drop_entries b d k (i + 16) ∙ rw e)
