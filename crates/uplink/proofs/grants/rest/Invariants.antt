-- What is left is the result, and the first grants that are still to come.
use Rattle.std.proofs.Common.{◌≡◌, ◌+◌, ◌-◌, drop}
use Rattle.uplink.specs.Grants.{sum, firsts}
use Rattle.uplink.proofs.grants.rest.Given as goal

abbrev pub invariant-loop-want : goal.invariant-loop-want
invariant-loop-want l = l.left ≡ l.words - sum (firsts l.share l.wants) + sum (firsts l.share (drop l.want-index l.wants))
