-- Settings, both states and the payload are tested, and the rest is `tested::write_data`.
use mathlib.Core.Path.{sym, ◌∙◌}
use Rattle.stream.proofs.Writing.{write_settings, write_state, write_payload, write_made}
use Rattle.stream.proofs.stream.DataStream.write_data.Goals as goal
use Rattle.stream.proofs.stream.DataStream.write_data.Goals.{in_default-test-via-in-Some+else-is_valid, in_default-test-via-in_default-test}

pub returns-in-Err : goal.returns-in-Err
returns-in-Err c =
    rw c.refused.ensures (write_settings c.args.self c.args.cfg c.args.time c.args.p _ _ _ (sym c.check.ensures ∙ c.in-Err.is))

pub write_data-requires : goal.write_data-requires
write_data-requires c = (
  sym c.check.ensures ∙ c.in_default.is,
  sym (rw c.in-Some.is at c.test.ensures.answer),
  sym c.is_valid.ensures ∙ c.if-is_valid.true,
  c.test.ensures.place _ c.in-Some.is,
)

pub returns-in-Some : goal.returns-in-Some
returns-in-Some c =
    c.write_data.ensures ∙ write_made c.args.self c.args.cfg c.args.time c.args.p _ _ (sym c.check.ensures ∙ c.in_default.is) (sym (rw c.in-Some.is at c.test.ensures.answer)) (sym c.is_valid.ensures ∙ c.if-is_valid.true)

pub returns-in_default-test : goal.returns-in_default-test
returns-in_default-test c =
    let e = sym c.check.ensures ∙ c.in_default.is in
    rw c.refused-in_default-test.ensures (elim c.in_default-test.branch [
      | in_default-test-via-in-Some+else-is_valid w ↦ write_payload c.args.self c.args.cfg c.args.time c.args.p _ _ e (sym (rw w.in-Some.is at c.test.ensures.answer)) (sym w.is_valid.ensures ∙ w.if-is_valid.false)
      | in_default-test-via-in_default-test w ↦ write_state c.args.self c.args.cfg c.args.time c.args.p _ _ e (sym (rw w.in_default-test.is at c.test.ensures.answer))
    ])
