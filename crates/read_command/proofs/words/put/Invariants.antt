-- The words before j are stored.
use mathlib.Core.Path.{◌≡◌}
use lib.ListN.{take}
use Rattle.packet.specs.Bytes.{words_of, spliced}
use Rattle.read_command.proofs.words.put.Given as goal

abbrev pub invariant-loop-j : goal.invariant-loop-j
invariant-loop-j l = l.out ≡ spliced l.initial.out 0 (take l.j (words_of l.body))
