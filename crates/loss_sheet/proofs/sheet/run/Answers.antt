use Rattle.std.proofs.Common.{◌≡◌, ◌+◌, ◌*◌, ◌-◌, arith}
use Rattle.loss_sheet.proofs.Runs.{good_turn, n_turn, all_turn, out_turn, all_done, out_done}
use Rattle.loss_sheet.proofs.sheet.run.Goals as goal

pub loop-i-preserved : goal.loop-i-preserved
loop-i-preserved c =
    let k : c.args.k - (c.loop-i.i + 1) ≡ c.args.k - c.loop-i.i - 1 = omega arith in
    let at : (c.loop-i.i + 1) * 16 ≡ c.loop-i.i * 16 + 16 = omega arith in
    record {
      good = good_turn _ _ _ _ _ c.push-g.ensures.0 c.loop-i.invariant.good;
      figures = c.push-g.ensures.1;
      state = rw (k, at) (all_turn _ _ _ _ _ c.push-g.ensures.0 c.args.block.now (c.args.k - c.loop-i.i) (c.loop-i.i * 16) (omega arith) c.entry.ensures _ c.loop-i.invariant.state);
      bytes = rw (k, at) (out_turn _ _ _ _ _ c.push-g.ensures.0 c.args.block.now (c.args.k - c.loop-i.i) (c.loop-i.i * 16) (omega arith) c.entry.ensures _ _ _ _ _ c.loop-i.invariant.good c.loop-i.invariant.places c.push-g.ensures.1 c.put.ensures (omega arith) c.loop-i.invariant.bytes);
      places = n_turn _ _ _ _ _ c.push-g.ensures.0 _ c.loop-i.invariant.places;
    }

pub returns : goal.returns
returns c = (
  all_done c.args.block.now (c.args.k - c.loop-i.i) (c.loop-i.i * 16) (omega arith) _ _ _ c.loop-i.invariant.state,
  out_done c.args.block.now (c.args.k - c.loop-i.i) (c.loop-i.i * 16) (omega arith) _ _ _ _ (omega arith) c.loop-i.invariant.bytes,
)
