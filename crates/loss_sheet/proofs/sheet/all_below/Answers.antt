-- The words in order, each by the definition's test.
use Rattle.std.proofs.Common.{◌≡◌, ℕ, [], ◌∷◌, List, refl, ap, ◌∙◌, ◌&&◌, ltb, rules, tests}
use Rattle.std.specs.List.{list_all}
use Rattle.std.proofs.lemmas.Iterator.{YieldsList-from_slice}
use Rattle.std.proofs.lemmas.Iterator.Search.{all_from_yields_List}
use Rattle.loss_sheet.specs.Sheet.{all_below}
use Rattle.loss_sheet.proofs.sheet.all_below.Goals as goal

by_list : (m : ℕ) (ws : List ℕ) → list_all (λ w. ltb w m) ws ≡ all_below m ws
unfolding all_below
by_list m [] = refl
by_list m (w ∷ ws) = ap (λ t. ltb w m && t) (by_list m ws)

pub returns : goal.returns
returns c =
    all_from_yields_List (λ (w : ℕ). ltb w c.args.limit) _ _ _ c.all.ensures.ran (YieldsList-from_slice c.args.words.now (search rules)) (λ x b q k. search (rules, tests))
    ∙ by_list c.args.limit c.args.words.now
