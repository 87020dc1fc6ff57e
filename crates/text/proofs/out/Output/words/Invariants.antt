-- The block keeps its length, and each word counts eight digits as long as there is room for all.
use Rattle.std.proofs.Common.{◌≡◌, ◌+◌, ◌*◌, ◌≤◌, length}
use Rattle.text.proofs.out.Output.words.Given as goal

abbrev pub invariant-loop : goal.invariant-loop
invariant-loop g l = (length l.self.block.now ≡ length l.initial.self.block.now) × (l.initial.self.used + 8 * l.n ≤ length l.initial.self.block.now → l.self.used ≡ l.initial.self.used + 8 * l.counter)
