-- Each test is one of the definition's, in its order; the walk is what is left.
use Rattle.std.proofs.Common.{sym, ◌∙◌, arith}
use Rattle.history.proofs.StateTest.{test_size, test_length, test_head, test_used, test_unsent, test_walk, answers_no}
use Rattle.config.specs.inner.Ranges.{not_outside}
use Rattle.history.proofs.history.SendHistory.state_walk.Goals as goal
use Rattle.history.proofs.history.SendHistory.state_walk.Goals.{then-outside-via-then-outside, then-outside-via-else-outside+then-ring-self, then-outside-via-else-outside+else-ring-self+then-self, then-outside-via-else-outside+else-ring-self+else-self+then-self-2, then-outside-via-else-outside+else-ring-self+else-self+else-self-2+then-self-unsent}

pub returns-then-outside : goal.returns-then-outside
returns-then-outside c =
    answers_no _ _ _ _ _
    (elim c.then-outside.branch [
      | then-outside-via-then-outside w ↦ test_size _ _ _ _ (sym c.outside.ensures ∙ w.if-outside.true)
      | then-outside-via-else-outside+then-ring-self w ↦
          test_length _ _ _ _ (sym c.outside.ensures ∙ w.if-outside.false) w.if-ring-self.true
      | then-outside-via-else-outside+else-ring-self+then-self w ↦
          test_head _ _ _ _ (sym c.outside.ensures ∙ w.if-outside.false) w.if-ring-self.false w.if-self.true
      | then-outside-via-else-outside+else-ring-self+else-self+then-self-2 w ↦
          test_used _ _ _ _ (sym c.outside.ensures ∙ w.if-outside.false) w.if-ring-self.false w.if-self.false w.if-self-2.true
      | then-outside-via-else-outside+else-ring-self+else-self+else-self-2+then-self-unsent w ↦
          test_unsent _ _ _ _ (sym c.outside.ensures ∙ w.if-outside.false) w.if-ring-self.false w.if-self.false w.if-self-2.false w.if-self-unsent.true
    ])

pub walks-requires : goal.walks-requires
walks-requires c =
    omega (arith, not_outside 65 32768 c.args.self.size (sym c.outside.ensures ∙ c.if-outside.false), c.if-ring-self.false, c.if-self.false, c.if-self-2.false, c.if-self-unsent.false)

pub returns : goal.returns
returns c =
    record {
      answer = test_walk _ _ _ _ (sym c.outside.ensures ∙ c.if-outside.false) c.if-ring-self.false c.if-self.false c.if-self-2.false _ c.walks.ensures.answer c.if-self-unsent.false;
      entry = c.walks.ensures.entry;
      place = c.walks.ensures.place;
    }
