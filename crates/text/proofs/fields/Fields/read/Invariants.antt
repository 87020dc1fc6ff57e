-- The words lie inside of their room.
use Rattle.std.proofs.Common.{◌≤◌, length}
use Rattle.text.proofs.fields.Fields.read.Given as goal

abbrev pub invariant-loop-letter : goal.invariant-loop-letter
invariant-loop-letter l = l.count ≤ length l.words
