-- What is still to be stored from here gives the whole from the start.
use mathlib.Core.Path.{◌≡◌}
use Prim.Native.Nat.{◌+◌, ◌-◌, ◌≤◌}
use lib.ListN.{length, drop}
use Rattle.packet.specs.Bytes.{spliced}
use Rattle.command.specs.Messages.{whole_words}
use Rattle.read_command.specs.Words.{lengths_of}
use Rattle.read_command.proofs.words.lengths.Given as goal

abbrev pub invariant-loop-i : goal.invariant-loop-i
invariant-loop-i l =
    (l.k ≤ l.i)
    × (l.i ≤ length l.words)
    × (length l.words ≤ length l.initial.out)
    × (length l.out ≡ length l.initial.out)
    × (l.i + length (whole_words (drop l.i l.words)) ≡ length (whole_words l.words))
    × (spliced l.out l.k (lengths_of (drop l.i l.words)) ≡ spliced l.initial.out 0 (lengths_of l.words))
    × (1 ≤ l.same)

abbrev pub decreases-loop-i : goal.decreases-loop-i
decreases-loop-i l = length l.words - l.i
