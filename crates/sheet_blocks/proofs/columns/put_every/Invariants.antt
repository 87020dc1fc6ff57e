-- Each turn stores the next byte, so that storing what is left still gives the whole.
use Rattle.std.proofs.Common.{◌≡◌, ◌*◌, ◌+◌, ◌-◌}
use Rattle.sheet_blocks.specs.Bytes.{spliced}
use Rattle.sheet_blocks.specs.Columns.{every_of}
use Rattle.sheet_blocks.proofs.columns.put_every.Given as goal

abbrev pub invariant-loop-j : goal.invariant-loop-j
invariant-loop-j l = spliced l.out (l.at + l.j) (every_of l.from l.step (l.k - l.j) (l.first + l.j * l.step)) ≡ spliced l.initial.out l.at (every_of l.from l.step l.k l.first)
