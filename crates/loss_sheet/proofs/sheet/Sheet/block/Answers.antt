-- What passed the tests is a block that the output has room for, over a state that a call has left.
use Rattle.std.proofs.Common.{refl, sym}
use Rattle.sheet_blocks.proofs.Blocks.{run_fit}
use Rattle.loss_sheet.proofs.States.{done_good, done_block}
use Rattle.loss_sheet.proofs.sheet.Sheet.block.Goals as goal

pub run-sheet-requires : goal.run-sheet-requires
run-sheet-requires c =
    let e = sym c.in-Ok.ensures.ok in
    let fit = run_fit _ _ (done_block c.args.self c.args.ring.now c.args.block.now c.args.out.now 0 e refl) in
    (done_good c.args.self c.args.ring.now c.args.block.now c.args.out.now 0 e refl, fit.0, fit.1, fit.2)
