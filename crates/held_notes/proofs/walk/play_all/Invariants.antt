-- What is still to be played leads on to where all leads; each turn plays one message.
use Prim.Native.Nat.{◌-◌, ◌≤◌}
use lib.ListN.{length}
use Rattle.packet.specs.Bytes.{words_of}
use Rattle.held_notes.proofs.Walks.{ToPlay}
use Rattle.held_notes.proofs.walk.play_all.Given as goal

abbrev pub invariant-loop-after : goal.invariant-loop-after
invariant-loop-after l = (l.at ≤ length (words_of l.body)) × ToPlay l.group l.new (words_of l.body) l.at l.initial.after l.after

abbrev pub decreases-loop-after : goal.decreases-loop-after
decreases-loop-after l = length (words_of l.body) - l.at
