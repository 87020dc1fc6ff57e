-- Settings, state and payload are tested, and the rest is `tested::write`.
use mathlib.Core.Path.{sym, ◌∙◌}
use Rattle.writing.proofs.Answers.{write_settings, write_state, write_payload, write_made}
use Rattle.writing.proofs.writing.write.Goals as goal

pub write-requires : goal.write-requires
write-requires c = (
  sym c.check.ensures ∙ c.in-Ok.is,
  sym (rw c.in-Some.is at c.test.ensures.answer),
  sym c.is_valid.ensures ∙ c.if-is_valid.true,
  c.test.ensures.place _ c.in-Some.is,
)

pub returns-then-is_valid : goal.returns-then-is_valid
returns-then-is_valid c =
    c.write.ensures ∙ write_made c.args.s c.args.cfg c.args.time c.args.p _ _ (sym c.check.ensures ∙ c.in-Ok.is) (sym (rw c.in-Some.is at c.test.ensures.answer)) (sym c.is_valid.ensures ∙ c.if-is_valid.true)

pub returns-in-Some : goal.returns-in-Some
returns-in-Some c =
    write_payload c.args.s c.args.cfg c.args.time c.args.p _ _ (sym c.check.ensures ∙ c.in-Ok.is) (sym (rw c.in-Some.is at c.test.ensures.answer)) (sym c.is_valid.ensures ∙ c.if-is_valid.false)

pub returns-in-Err : goal.returns-in-Err
returns-in-Err c =
    write_settings c.args.s c.args.cfg c.args.time c.args.p _ _ _ (sym c.check.ensures ∙ c.in-Err.is)

pub returns-in_default : goal.returns-in_default
returns-in_default c =
    write_state c.args.s c.args.cfg c.args.time c.args.p _ _ (sym c.check.ensures ∙ c.in-Ok.is) (sym (rw c.in_default.is at c.test.ensures.answer))
