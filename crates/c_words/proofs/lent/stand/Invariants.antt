-- The words before k stand there.
use Rattle.std.proofs.Common.{◌≡◌, take}
use Rattle.packet.specs.Bytes.{spliced}
use Rattle.c_words.proofs.lent.stand.Given as goal

abbrev pub invariant-loop-k : goal.invariant-loop-k
invariant-loop-k l = l.to ≡ spliced l.to l.at (take l.k l.from)
