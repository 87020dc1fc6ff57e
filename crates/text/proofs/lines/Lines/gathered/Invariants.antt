-- The bytes of the line so far lie inside of its buffer, which keeps its length, as the blocks of input and output do; nothing is added to what waits.
use Rattle.std.proofs.Common.{◌≡◌, ◌≤◌, length}
use Rattle.text.proofs.lines.Lines.gathered.Given as goal

abbrev pub invariant-loop : goal.invariant-loop
invariant-loop g l = (l.used ≤ length l.self.line.now) × (length l.self.line.now ≡ length l.initial.self.line.now) × (length l.self.block.now ≡ length l.initial.self.block.now) × (length l.out.block.now ≡ length l.initial.out.block.now) × (l.out.used ≤ l.initial.out.used)
