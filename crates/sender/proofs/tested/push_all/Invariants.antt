-- Pushing those that are left gives what pushing all gives.
use Rattle.std.proofs.Common.{◌≡◌, ◌<◌, length}
use Rattle.config.specs.Sequence.{turn}
use Rattle.history.specs.State.{Good}
use Rattle.fronts.specs.Commands.{commands_of}
use Rattle.sender.specs.Queueing.{pushed_all}
use Rattle.fronts.proofs.Fronts.{Divides}
use Rattle.sender.proofs.tested.push_all.Given as goal

abbrev pub invariant-loop-rest : goal.invariant-loop-rest
invariant-loop-rest l = record {
  good : Good l.g l.ring;
  oldest : l.g.oldest < turn;
  divides : Divides l.max l.rest;
  pushed : pushed_all l.g l.ring (commands_of l.max l.rest) ≡ pushed_all l.initial.g l.initial.ring (commands_of l.max l.words);
  ring : length l.ring ≡ length l.initial.ring;
}

abbrev pub decreases-loop-rest : goal.decreases-loop-rest
decreases-loop-rest l = length l.rest
