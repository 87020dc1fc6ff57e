-- Each turn stores the next column, so that storing what is left still gives the whole.
use Rattle.std.proofs.Common.{◌≡◌, ◌*◌, ◌-◌}
use Rattle.sheet_blocks.specs.Bytes.{spliced}
use Rattle.sheet_blocks.specs.Columns.{by_column}
use Rattle.sheet_blocks.proofs.columns.put_columns.Given as goal

abbrev pub invariant-loop-c : goal.invariant-loop-c
invariant-loop-c l = spliced l.out (l.c * l.rows) (by_column l.from l.cols l.rows (l.cols - l.c) l.c) ≡ spliced l.initial.out 0 (by_column l.from l.cols l.rows l.cols 0)
