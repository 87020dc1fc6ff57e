-- Whether one of those that are left has the number is whether one of all has it, as long as none has been found.
use Rattle.std.proofs.Common.{◌≡◌, ◌-◌}
use Rattle.history.specs.Queue.{requests, waiting, asks}
use Rattle.history.proofs.tested.pending.Given as goal

abbrev pub invariant-loop-i : goal.invariant-loop-i
invariant-loop-i l = asks (requests l.q (l.q.len - l.i) l.i) l.seq ≡ asks (waiting l.q) l.seq
