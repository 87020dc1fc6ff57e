-- Each answer of the state test is reached by the tests that the code has passed.
use Rattle.std.proofs.Common.{sym, ◌∙◌, eq-eqb}
use Rattle.packet.proofs.Written.{valid_limit_not, valid_empty, valid_length_not, valid_length}
use Rattle.packet.proofs.tested.is_valid.Goals as goal

pub returns-then-p-eq0 : goal.returns-then-p-eq0
returns-then-p-eq0 c =
    eq-eqb _ _ c.if-p-eq0.true ∙ valid_empty _ _ (sym c.outside.ensures ∙ c.if-not-outside.true) c.if-p-eq0.true

pub returns-then-not-outside-2 : goal.returns-then-not-outside-2
returns-then-not-outside-2 c = valid_length _ _ (sym c.outside.ensures ∙ c.if-not-outside.true) c.if-p-eq0.false _ c.limit.ensures (sym c.outside-else-p-eq0.ensures ∙ c.if-not-outside-2.true)

pub returns-else-not-outside-2 : goal.returns-else-not-outside-2
returns-else-not-outside-2 c = rw c.if-not-outside-2.false (valid_length_not _ _ (sym c.outside.ensures ∙ c.if-not-outside.true) c.if-p-eq0.false _ c.limit.ensures (sym c.outside-else-p-eq0.ensures ∙ c.if-not-outside-2.false))

pub returns-else-not-outside : goal.returns-else-not-outside
returns-else-not-outside c = rw c.if-not-outside.false (valid_limit_not _ _ (sym c.outside.ensures ∙ c.if-not-outside.false))
