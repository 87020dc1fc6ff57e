use Rattle.std.proofs.Common.{ℕ, ◌∙◌, ap, sym, refl, take, get_or, add-one, length-take, arith}
use Rattle.std.proofs.Math.Seq.{take-suc}
use Rattle.loss_sheet.specs.Figures.{figures, classes, losses, plus}
use Rattle.loss_sheet.specs.declared.figures.Figures.{Figures}
use Rattle.loss_sheet.proofs.Counts.{few_of, figures_behind}
use Rattle.loss_sheet.proofs.figures.of.Goals as goal

pub loop-w-init : goal.loop-w-init
unfolding figures classes losses
loop-w-init c = refl

pub add-f-requires : goal.add-f-requires
add-f-requires c = few_of _ _ c.loop-w.invariant (simp length-take (omega arith))

pub loop-w-preserved : goal.loop-w-preserved
loop-w-preserved c =
    let i : ℕ = c.loop-w.w-index in
    let w : ℕ = get_or c.args.words.now i 0 in
    c.add-f.ensures ∙ ap (λ (f : Figures). plus f w) c.loop-w.invariant ∙ sym (figures_behind (take i c.args.words.now) w) ∙ ap figures (rw add-one (sym (take-suc c.args.words.now i 0 (omega arith))))
