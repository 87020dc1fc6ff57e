-- The words before k are stored.
use Rattle.std.proofs.Common.{◌≡◌, length, take}
use Rattle.packet.specs.Bytes.{spliced}
use Rattle.c_words.proofs.lent.put.Given as goal

abbrev pub invariant-loop-k : goal.invariant-loop-k
invariant-loop-k l = (length l.to ≡ length l.initial.to) × (l.to ≡ spliced l.initial.to l.at (take l.k l.from))
