-- One run up to the end of the ring or of the words, and one from the start of the ring for the rest.
use Rattle.std.proofs.Common.{◌≡◌, ◌+◌, ◌-◌, length, arith}
use Rattle.history.proofs.Runs.{run_one, run_two}
use Rattle.history.proofs.ring.put.Goals as goal

pub returns-then-room-n : goal.returns-then-room-n
returns-then-room-n c =
    let e : length c.args.ring.now ≡ c.args.at + c.run_end-room.result = omega arith in
    run_two _ _ _ c.args.words.now (length c.args.ring.now) c.args.at c.run_end-room.result (length c.args.words.now - c.run_end-room.result) e (omega arith) _
    c.put_run.ensures.1
    c.put_run-then-room-n.ensures.1

pub returns-else-room-n : goal.returns-else-room-n
returns-else-room-n c =
    run_one _ _ c.args.words.now _ _ c.run_end-room.result (omega arith) c.put_run.ensures.1
