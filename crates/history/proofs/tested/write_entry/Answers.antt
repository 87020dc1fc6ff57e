-- The run up to the end and the run from the start are the entry's words, in order.
use Rattle.std.proofs.Common.{◌≡◌, ◌/◌, ◌%◌, arith}
use Rattle.history.proofs.Written.{entry_written}
use Rattle.history.proofs.tested.write_entry.Goals as goal

pub returns : goal.returns
returns c =
    let high : c.seq.result / 256 % 256 ≡ c.seq.result / 256 = omega arith in
    entry_written c.args.p c.args.buf.now c.args.ring.now c.args.at _ _ _ _ _ c.requires.1 (omega (arith, c.requires.4, c.requires.2)) (omega (arith, c.requires.2))
    c.pl-n.ensures
    c.seq.ensures
    c.slot-start.ensures.0
    c.run_end-run.ensures
    (rw (c.to_be_bytes.ensures, high) at c.command_runs.ensures)
