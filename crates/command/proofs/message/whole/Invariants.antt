-- From every message on, the whole messages that are left have the words that are not counted yet. `same` is the length that was just read.
use mathlib.Core.Path.{◌≡◌}
use Prim.Native.Nat.{◌+◌, ◌-◌, ◌≤◌}
use lib.ListN.{length, drop}
use Rattle.command.specs.Messages.{whole_words}
use Rattle.command.proofs.message.whole.Given as goal

abbrev pub invariant-loop-at : goal.invariant-loop-at
invariant-loop-at g l = (l.at ≤ length (g.W.Words.words l.words)) × (l.at + length (whole_words (drop l.at (g.W.Words.words l.words))) ≡ length (whole_words (g.W.Words.words l.words))) × (1 ≤ l.same)

abbrev pub decreases-loop-at : goal.decreases-loop-at
decreases-loop-at g l = length (g.W.Words.words l.words) - l.at
