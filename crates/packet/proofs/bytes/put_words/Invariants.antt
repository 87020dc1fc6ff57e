use Rattle.std.proofs.Common.{◌≡◌, take}
use Rattle.packet.specs.Bytes.{bytes_of, spliced}
use Rattle.packet.proofs.bytes.put_words.Given as goal

abbrev pub invariant-loop-j : goal.invariant-loop-j
invariant-loop-j l = l.buf ≡ spliced l.initial.buf l.at (bytes_of (take l.j l.words))
