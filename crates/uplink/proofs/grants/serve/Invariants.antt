-- What is still to do from here is the whole from the start.
use Rattle.std.proofs.Common.{◌≡◌, ◌+◌, drop}
use lib.Seq.{sets}
use Rattle.uplink.specs.Grants.{granted, left_of}
use Rattle.uplink.proofs.grants.serve.Given as goal

abbrev pub invariant-loop-i : goal.invariant-loop-i
invariant-loop-i l = record {
  grants : sets l.grants (l.at + l.i) (granted l.share l.left (drop l.i l.row)) ≡ sets l.initial.grants l.at (granted l.share l.words l.row);
  left : left_of l.share l.left (drop l.i l.row) ≡ left_of l.share l.words l.row;
}
