-- The figures of the words passed.
use Rattle.std.proofs.Common.{◌≡◌, take}
use Rattle.loss_sheet.specs.Figures.{figures}
use Rattle.loss_sheet.proofs.figures.of.Given as goal

abbrev pub invariant-loop-w : goal.invariant-loop-w
invariant-loop-w l = l.f ≡ figures (take l.w-index l.words)
