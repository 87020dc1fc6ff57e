-- The words that are kept of a file's records have the figures of its bytes, so those of the blocks run on over the file.
use mathlib.Core.Path.{◌≡◌, refl, sym, ap, ◌∙◌}
use mathlib.Core.Logic.{◌⊎◌, inl, inr}
use mathlib.Core.Bool.{true, false, ◌&&◌}
use mathlib.Core.List.{List, [], ◌∷◌, ◌++◌}
use Prim.Native.Nat.{ℕ, zero, suc, ◌+◌, ◌*◌, ◌-◌, ◌/◌, ◌%◌, ◌<◌}
use native.Mathlib.Omega.{arith}
use borrow.Author.Tests.{eqb-true}
use lib.ListN.{length, get_or, drop, length-append}
use lib.Dec.{eqb}
use Rattle.config.specs.Range.{within}
use Rattle.config.specs.inner.Tests.{split, and_left, and_right}
use Rattle.sheet_blocks.specs.Bytes.{spliced}
use Rattle.sheet_blocks.specs.Records.{class_at, loss_at, entry_at, entries, rows}
use Rattle.loss_sheet.specs.Figures.{classes, losses, figures, figure_bytes}
use Rattle.loss_sheet.specs.Sheet.{all_below, last_of, sheet_bytes, taken_of, arrivals, block_of}
use Rattle.sheet_blocks.proofs.Blocks.{block_rows, length_entries}
use Rattle.loss_sheet.proofs.States.{taken_both}
use Rattle.sheet_log.specs.Afresh.{of_class, loss_sum, figures_from, figures_at, figures_of}
use Rattle.sheet_log.specs.Calls.{Call, all_bytes, started, file}
use Rattle.sheet_log.proofs.Joined.{entries_skip, entries_front, entries_add, arrivals_join, drop_entries}
use Rattle.sheet_log.proofs.Kept.{below_at, below_append, accepted, writes_on}

-- ---- the words of some records

last_entries : (b : List ℕ) (n m : ℕ) → last_of n (entries b m 0) ≡ entries b (m - (m - n)) (16 * (m - n))
unfolding last_of
last_entries b n m =
    let s : m - n + (m - (m - n)) ≡ m = omega arith in
    let e : 0 + 16 * (m - n) ≡ 16 * (m - n) = omega arith in
    rw (length_entries b m 0)
    (ap (λ (z : ℕ). drop (m - n) (entries b z 0)) (sym s) ∙ drop_entries b (m - n) (m - (m - n)) 0 ∙ rw e)

module _ (b : List ℕ) (t : all_below 256 b ≡ true) where
  byte : (i : ℕ) → get_or b i 0 < 256
  byte i = below_at 256 b i (omega arith) t

  class_kept : (i : ℕ) → entry_at b i / 65536 ≡ class_at b i
  unfolding entry_at
  class_kept i = omega (arith, byte (i + 12), byte (i + 13))

  loss_kept : (i : ℕ) → entry_at b i % 65536 ≡ loss_at b i
  unfolding entry_at
  loss_kept i = omega (arith, byte (i + 12), byte (i + 13))

  classes_kept : (c k i : ℕ) → classes c (entries b k i) ≡ of_class c b k i
  unfolding classes entries of_class
  classes_kept c zero i = refl
  classes_kept c (suc k) i = rw (class_kept i, classes_kept c k (i + 16))

  losses_kept : (k i : ℕ) → losses (entries b k i) ≡ loss_sum b k i
  unfolding losses entries loss_sum
  losses_kept zero i = refl
  losses_kept (suc k) i = rw (loss_kept i, losses_kept k (i + 16))

  from_kept : (k r : ℕ) → figure_bytes (figures (entries b k (16 * r))) ≡ figures_from b k r
  unfolding figure_bytes figures figures_from
  from_kept k r = rw (classes_kept 0 k (16 * r), classes_kept 1 k (16 * r), classes_kept 2 k (16 * r), losses_kept k (16 * r))

  sheet_kept : (n k m : ℕ) → sheet_bytes n (entries b m 0) (entries b k (16 * m)) ≡ figures_of n b m k
  unfolding sheet_bytes figures_of figures_at entries
  sheet_kept n zero m = refl
  sheet_kept n (suc k) m =
      let past : entries b m 0 ++ entry_at b (16 * m) ∷ [] ≡ entries b (m + 1) 0 = sym (entries_add b m 1 0 (16 * m) (omega arith)) in
      let i : 16 * m + 16 ≡ 16 * (m + 1) = omega arith in
      rw (past, i, last_entries b n (m + 1), from_kept (m + 1 - (m + 1 - n)) (m + 1 - n), sheet_kept n k (m + 1))

-- ---- the file so far

-- the arrivals so far are those of the file so far
whole : (cs : List Call) → accepted cs ≡ arrivals (file cs)
unfolding accepted file entries
whole [] = refl
whole (c ∷ cs) = by (whole cs) (split (eqb (taken_of c.0 (length c.1)) 0))
  where
    by : accepted cs ≡ arrivals (file cs) → (eqb (taken_of c.0 (length c.1)) 0 ≡ true) ⊎ (eqb (taken_of c.0 (length c.1)) 0 ≡ false)
        → accepted (c ∷ cs) ≡ arrivals (file (c ∷ cs))
    by r (inl e) =
        let z = eqb-true (taken_of c.0 (length c.1)) 0 e in
        let l = block_rows (length c.0) (length c.1) (taken_both c.0 (length c.1) z).0 in
        rw (e, r) (sym (arrivals_join c.0 (file cs) l))
    by r (inr e) = rw (e, r)

file_whole : (cs : List Call) → 16 * rows (file cs) ≡ length (file cs)
unfolding file
file_whole [] = refl
file_whole (c ∷ cs) = by (file_whole cs) (split (eqb (taken_of c.0 (length c.1)) 0))
  where
    by : 16 * rows (file cs) ≡ length (file cs) → (eqb (taken_of c.0 (length c.1)) 0 ≡ true) ⊎ (eqb (taken_of c.0 (length c.1)) 0 ≡ false)
        → 16 * rows (file (c ∷ cs)) ≡ length (file (c ∷ cs))
    by r (inl e) =
        let z = eqb-true (taken_of c.0 (length c.1)) 0 e in
        let l = block_rows (length c.0) (length c.1) (taken_both c.0 (length c.1) z).0 in
        rw (e, length-append) (omega arith)
    by r (inr e) = rw e r

file_bytes : (cs : List Call) → all_bytes cs ≡ true → all_below 256 (file cs) ≡ true
unfolding file all_bytes all_below
file_bytes [] t = refl
file_bytes (c ∷ cs) t =
    by (file_bytes cs (and_right (all_below 256 c.1) (all_bytes cs) (and_right (all_below 256 c.0) (all_below 256 c.1 && all_bytes cs) t))) (split (eqb (taken_of c.0 (length c.1)) 0))
  where
    by : all_below 256 (file cs) ≡ true → (eqb (taken_of c.0 (length c.1)) 0 ≡ true) ⊎ (eqb (taken_of c.0 (length c.1)) 0 ≡ false)
        → all_below 256 (file (c ∷ cs)) ≡ true
    by r (inl e) = rw e (below_append 256 c.0 (file cs) (and_left (all_below 256 c.0) (all_below 256 c.1 && all_bytes cs) t) r)
    by r (inr e) = rw e r

-- ---- the theorem's part

module _ (n : ℕ) (cs : List Call) (bs o : List ℕ) (h : within 1 4096 n ≡ true) (t : all_bytes cs ≡ true) where
  pub writes_afresh : all_below 256 bs ≡ true → taken_of bs (length o) ≡ 0
      → (block_of (started n cs).0 (started n cs).1 bs o).2 ≡ spliced o 0 (figures_of n (file cs ++ bs) (rows (file cs)) (rows bs))
  writes_afresh u z =
      let f = file_whole cs in
      let all : List ℕ = file cs ++ bs in
      let past : accepted cs ≡ entries all (rows (file cs)) 0 = whole cs ∙ sym (entries_front (file cs) bs (rows (file cs)) 0 (omega arith)) in
      let next : arrivals bs ≡ entries all (rows bs) (16 * rows (file cs)) = sym (entries_skip (file cs) bs (rows bs) 0 (16 * rows (file cs)) (omega arith)) in
      writes_on n cs bs o h t z
      ∙ rw (past, next, sheet_kept all (below_append 256 (file cs) bs (file_bytes cs t) u) n (rows bs) (rows (file cs)))
