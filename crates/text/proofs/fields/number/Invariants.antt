-- The value stays at most `most`: a digit that would pass it ends the reading.
use Rattle.std.proofs.Common.{◌≤◌}
use Rattle.text.proofs.fields.number.Given as goal

abbrev pub invariant-loop-b : goal.invariant-loop-b
invariant-loop-b l = l.n ≤ l.most
