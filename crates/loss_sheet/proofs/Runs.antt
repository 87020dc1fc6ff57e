-- Laws of the loop over a block's records.
use mathlib.Core.Path.{◌≡◌, sym, ap, ◌∙◌}
use mathlib.Core.List.{List}
use Prim.Native.Nat.{ℕ, ◌+◌, ◌*◌, ◌-◌, ◌≤◌, ◌<◌}
use native.Mathlib.Omega.{arith}
use lib.ListN.{length, take}
use Rattle.sheet_blocks.specs.Bytes.{spliced}
use Rattle.sheet_blocks.proofs.Splice.{spliced_nil}
use Rattle.sheet_blocks.specs.Records.{entry_at, entries}
use Rattle.loss_sheet.specs.Figures.{figures, figure_bytes}
use Rattle.loss_sheet.specs.Sheet.{pushed, pushed_all, held, sheet_bytes}
use Rattle.loss_sheet.specs.inner.Fits.{Good}
use Rattle.loss_sheet.specs.declared.sheet.Sheet.{Sheet}
use Rattle.loss_sheet.specs.declared.figures.Figures.{Figures}
use Rattle.sheet_blocks.proofs.Blocks.{entries_more, entries_none, length_entries}
use Rattle.loss_sheet.proofs.Ring.{good_push, push_n, sheet_turn}

-- one record more, by its word
module _ (s s' : Sheet) (b b' : List ℕ) (w : ℕ) (p : (s', b') ≡ pushed s b w) where
  sheet_is : s' ≡ (pushed s b w).0
  sheet_is = ap (λ (x : Sheet × List ℕ). x.0) p

  ring_is : b' ≡ (pushed s b w).1
  ring_is = ap (λ (x : Sheet × List ℕ). x.1) p

  pub good_turn : Good s b → Good s' b'
  good_turn g = rw (sheet_is, ring_is) (good_push s b w g)

  pub n_turn : (n : ℕ) → s.n ≡ n → s'.n ≡ n
  n_turn n e = ap (λ (x : Sheet). x.n) sheet_is ∙ push_n s b w ∙ e

  module _ (bs : List ℕ) (k at : ℕ) (more : 0 < k) (r : w ≡ entry_at bs at) where
    pub all_turn : (z : Sheet × List ℕ) → pushed_all s b (entries bs k at) ≡ z → pushed_all s' b' (entries bs (k - 1) (at + 16)) ≡ z
    unfolding pushed_all
    all_turn z inv = rw (sheet_is, ring_is, r) (rw (entries_more bs k at more) at inv)

    pub out_turn : (o o' z : List ℕ) (n : ℕ) (f : Figures) → Good s b → s.n ≡ n → f ≡ figures (take s'.len b')
        → o' ≡ spliced o at (figure_bytes f)
        → at + 16 * k ≤ length o
        → spliced o at (sheet_bytes n (held s b) (entries bs k at)) ≡ z
        → spliced o' (at + 16) (sheet_bytes n (held s' b') (entries bs (k - 1) (at + 16))) ≡ z
    out_turn o o' z n f g en ef eo fits inv =
        let l = length_entries bs (k - 1) (at + 16) in
        sheet_turn s s' b b' w (entries bs (k - 1) (at + 16)) o o' z n at f g en p ef eo (omega arith) (rw (entries_more bs k at more, ← r) at inv)

-- none is left
module _ (bs : List ℕ) (k at : ℕ) (none : k ≤ 0) where
  pub all_done : (s : Sheet) (b : List ℕ) (z : Sheet × List ℕ) → pushed_all s b (entries bs k at) ≡ z → (s, b) ≡ z
  unfolding pushed_all
  all_done s b z inv = rw (entries_none bs k at none) at inv

  pub out_done : (o z past : List ℕ) (n : ℕ) → at ≤ length o → spliced o at (sheet_bytes n past (entries bs k at)) ≡ z → o ≡ z
  unfolding sheet_bytes
  out_done o z past n fits inv = sym (spliced_nil o at fits) ∙ (rw (entries_none bs k at none) at inv)
