use Rattle.std.proofs.Common.{◌≡◌, length, refl, arith, length-set}
use Rattle.history.proofs.Runs.{run_start, run_turn}
use Rattle.history.proofs.ring.put_run.Goals as goal

pub loop-k-init : goal.loop-k-init
loop-k-init c =
    (refl, run_start c.args.ring.now c.args.words.now c.args.at c.args.from (omega arith))

pub loop-k-preserved : goal.loop-k-preserved
loop-k-preserved c = (
  simp length-set (omega arith),
  run_turn c.loop-k.ring c.args.words.now _ (length c.args.ring.now) c.args.at c.args.from c.loop-k.k c.loop-k.invariant.0 (omega arith) (omega arith) c.loop-k.invariant.1,
)

pub returns : goal.returns
returns c =
    let e : c.loop-k.k ≡ c.args.n = omega arith in
    (c.loop-k.invariant.0, rw e at c.loop-k.invariant.1)
