-- The records in order, each by the definition's two tests.
use Rattle.std.proofs.Common.{◌≡◌, ℕ, zero, suc, ◌+◌, ◌*◌, ◌&&◌, List, get_or, refl, sym, ◌∙◌, rules, arith, tests}
use Rattle.std.proofs.Math.Bool.{and_assoc}
use Rattle.std.specs.List.{list_all, range_with_len}
use Rattle.std.proofs.lemmas.Iterator.{YieldsList-from_range}
use Rattle.std.proofs.lemmas.Iterator.Search.{all_from_yields_List}
use lib.Dec.{leb, eqb}
use Rattle.sheet_blocks.specs.Records.{all_records}
use Rattle.sheet_blocks.proofs.records.are_records.Goals as goal

by_list : (b : List ℕ) (k i : ℕ) → all_records b k (i * 16) ≡ list_all (λ j. leb (get_or b (j * 16 + 10) 0) 2 && eqb (get_or b (j * 16 + 11) 0) 0) (range_with_len i k)
unfolding all_records
by_list b zero i = refl
by_list b (suc k) i = let e : (i + 1) * 16 ≡ i * 16 + 16 = omega arith in
    rw (and_assoc, ← by_list b k (i + 1), e)

pub returns : goal.returns
returns c =
    all_from_yields_List (λ (j : ℕ). leb (get_or c.args.block.now (j * 16 + 10) 0) 2 && eqb (get_or c.args.block.now (j * 16 + 11) 0) 0) _ _ _ c.all.ensures.ran (YieldsList-from_range 0 c.args.k c.args.k refl (omega arith)) (λ x b q k. search (rules, tests))
    ∙ sym (by_list c.args.block.now c.args.k 0)
