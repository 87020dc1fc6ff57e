use Rattle.std.proofs.Common.{sym, refl, ◌∙◌, arith}
use Rattle.history.proofs.Queues.{asks_found, asks_passed, asks_none}
use Rattle.history.proofs.tested.pending.Goals as goal

pub returns-then-q-at : goal.returns-then-q-at
returns-then-q-at c =
    sym (asks_found _ _ _ _ _ c.slot-at.ensures.0 refl c.loop-i-test.true c.if-q-at.true) ∙ c.loop-i.invariant

pub loop-i-preserved : goal.loop-i-preserved
loop-i-preserved c =
    sym (asks_passed _ _ _ _ _ c.slot-at.ensures.0 refl c.loop-i-test.true c.if-q-at.false) ∙ c.loop-i.invariant

pub returns : goal.returns
returns c = sym (asks_none _ _ _ (omega arith)) ∙ c.loop-i.invariant
