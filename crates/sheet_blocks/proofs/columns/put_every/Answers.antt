use Rattle.std.proofs.Common.{◌≡◌, ◌+◌, ◌*◌, ◌-◌, arith}
use Rattle.sheet_blocks.proofs.Stored.{every_turn, every_done}
use Rattle.sheet_blocks.proofs.columns.put_every.Goals as goal

pub loop-j-preserved : goal.loop-j-preserved
loop-j-preserved c =
    let n : c.args.at + (c.loop-j.j + 1) ≡ c.args.at + c.loop-j.j + 1 = omega arith in
    let k : c.args.k - (c.loop-j.j + 1) ≡ c.args.k - c.loop-j.j - 1 = omega arith in
    let i : c.args.first + (c.loop-j.j + 1) * c.args.step ≡ c.args.first + c.loop-j.j * c.args.step + c.args.step = grind arith in
    rw (n, k, i) (every_turn c.loop-j.out c.args.from.now _ (c.args.at + c.loop-j.j) (c.args.first + c.loop-j.j * c.args.step) c.args.step (c.args.k - c.loop-j.j) (omega arith) (omega arith) c.loop-j.invariant)

pub returns : goal.returns
returns c = every_done c.loop-j.out _ _ (c.args.at + c.loop-j.j) (c.args.first + c.loop-j.j * c.args.step) _ (c.args.k - c.loop-j.j) (omega arith) (omega arith) c.loop-j.invariant
