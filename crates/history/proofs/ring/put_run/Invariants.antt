-- Each turn stores the next word at the next place, so that storing what is left still gives the whole.
use Rattle.std.proofs.Common.{◌≡◌, ◌+◌, length, drop}
use Rattle.history.specs.Ring.{slot_of, ring_stored}
use Rattle.history.proofs.ring.put_run.Given as goal

abbrev pub invariant-loop-k : goal.invariant-loop-k
invariant-loop-k l =
    (length l.ring ≡ length l.initial.ring)
    × (ring_stored l.ring (slot_of (length l.initial.ring) l.at l.k) (drop (l.from + l.k) l.words) ≡ ring_stored l.initial.ring l.at (drop l.from l.words))
