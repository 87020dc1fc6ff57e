-- After each turn of the loop the state is the definition's after as many steps.
use Rattle.std.proofs.Common.{◌≡◌, length}
use Rattle.link_rules.specs.Link.{run_of}
use Rattle.link.specs.Turns.{ends_of, Fits}
use Rattle.link.proofs.link.steps.Given as goal

abbrev pub invariant-loop-done : goal.invariant-loop-done
invariant-loop-done l = record {
  fits : Fits l.s l.done;
  ring : length l.ring ≡ length l.initial.ring;
  other : length l.other ≡ length l.initial.other;
  steps : ends_of l.s l.done l.ring l.other ≡ run_of l.cfg l.figure (ends_of l.initial.s 0 l.initial.ring l.initial.other) l.done;
}
