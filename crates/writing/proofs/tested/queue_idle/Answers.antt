-- The tests choose as the definition does, and the command has no words.
use native.Mathlib.Omega.{arith}
use Rattle.idle.proofs.Steps.{idle_step}
use Rattle.writing.proofs.Idling.{idled_off, idled_unsent, idled_early, idled_queued}
use Rattle.sender.proofs.Validity.{valid_good, valid_idle, valid_words, valid_small}
use borrow.Author.Rules.{rules}
use Rattle.writing.proofs.tested.queue_idle.Goals as goal
use Rattle.writing.proofs.tested.queue_idle.Goals.{then-s-gt0-via-then-s-gt0, then-s-gt0-via-else-s-gt0+then-time-i}

pub returns-then-s-gt0 : goal.returns-then-s-gt0
returns-then-s-gt0 c = elim c.then-s-gt0.branch [
  | then-s-gt0-via-then-s-gt0 w ↦ idled_unsent c.args.s c.args.cfg c.args.time _ w.if-s-gt0.true
  | then-s-gt0-via-else-s-gt0+then-time-i w ↦ idled_early c.args.s c.args.cfg c.args.time _ _ c.in-Some.is w.if-s-gt0.false w.if-time-i.true
]

pub push-requires : goal.push-requires
push-requires c = (valid_good _ _ c.requires.1, search rules)

pub overflow_add-result-in-Some : goal.overflow_add-result-in-Some
overflow_add-result-in-Some c = omega (arith, valid_words _ _ c.requires.1, valid_small _ _ c.requires.1)

pub next-requires : goal.next-requires
next-requires c = (c.requires.0, idle_step _ _ (valid_idle _ _ c.requires.1) c.in-Some.is)

pub returns-in-None : goal.returns-in-None
returns-in-None c =
    idled_off c.args.s c.args.cfg c.args.time _ c.in-None.is

pub returns-else-time-i : goal.returns-else-time-i
returns-else-time-i c =
    idled_queued c.args.s c.args.cfg c.args.time _ _ c.in-Some.is c.if-s-gt0.false _ _ _ c.if-time-i.false c.push.ensures c.next.ensures
