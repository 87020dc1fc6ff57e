-- Settings and each end's state are tested once. What queueing leaves passes the sender's test, and it is known where the write walks from.
use mathlib.Core.Path.{sym, ◌∙◌}
use Prim.Native.Nat.{◌<◌}
use native.Mathlib.Omega.{arith}
use Rattle.config.specs.Sequence.{turn}
use Rattle.sender.proofs.Validity.{valid_unsent}
use Rattle.stream.proofs.Both.{queued_valid, queued_follows, both_settings, both_state, both_words, both_written}
use Rattle.stream.proofs.stream.DataStream.send_and_write.Goals as goal
use Rattle.stream.proofs.stream.DataStream.send_and_write.Goals.{Start}

number : (c : Start) → c.args.self.sender.history.oldest < turn
number c = omega (arith, c.well_formed.0.1.1.0.1.1.0.1.1.1.1)

pub send_ump-sent-requires : goal.send_ump-sent-requires
send_ump-sent-requires c = (sym (rw c.in-Some.is at c.test.ensures.answer), sym c.check.ensures ∙ c.in_default.is)

pub returns-in-Err-answer : goal.returns-in-Err-answer
returns-in-Err-answer c =
    rw c.not_queued-in-Err-answer.ensures (both_words c.args.self c.args.cfg c.args.time _ c.args.p _ _ (sym c.check.ensures ∙ c.in_default.is) (sym (rw c.in-Some.is at c.test.ensures.answer)) _ _ c.send_ump-sent.ensures _ c.in-Err-answer.is)

pub mark_queued-mark-requires : goal.mark_queued-mark-requires
mark_queued-mark-requires c =
    let e = sym c.check.ensures ∙ c.in_default.is in
    let v = sym (rw c.in-Some.is at c.test.ensures.answer) in
    let o = number (goal.at.mark_queued-mark-requires c).Start in
    (valid_unsent _ _ v, valid_unsent _ _ (queued_valid c.args.self.sender c.args.cfg _ _ e v o c.send_ump-sent.result _ c.send_ump-sent.ensures), (queued_follows c.args.self.sender c.args.cfg _ _ e v o c.send_ump-sent.result _ c.send_ump-sent.ensures _ _ c.test.ensures _ c.in-Some.is).0)

pub write_queued-wrote-requires : goal.write_queued-wrote-requires
write_queued-wrote-requires c =
    let e = sym c.check.ensures ∙ c.in_default.is in
    let v = sym (rw c.in-Some.is at c.test.ensures.answer) in
    let o = number (goal.at.write_queued-wrote-requires c).Start in
    (e, queued_valid c.args.self.sender c.args.cfg _ _ e v o c.send_ump-sent.result _ c.send_ump-sent.ensures, rw c.mark_queued-mark.ensures (queued_follows c.args.self.sender c.args.cfg _ _ e v o c.send_ump-sent.result _ c.send_ump-sent.ensures _ _ c.test.ensures _ c.in-Some.is).1)

pub returns : goal.returns
returns c =
    both_written c.args.self c.args.cfg c.args.time _ c.args.p _ _ (sym c.check.ensures ∙ c.in_default.is) (sym (rw c.in-Some.is at c.test.ensures.answer)) _ _ c.send_ump-sent.ensures c.in_default-answer.is _ _ _ c.write_queued-wrote.ensures

pub returns-in-Err : goal.returns-in-Err
returns-in-Err c =
    rw c.not_queued.ensures (both_settings c.args.self c.args.cfg c.args.time _ c.args.p _ _ _ (sym c.check.ensures ∙ c.in-Err.is))

pub returns-in_default-test : goal.returns-in_default-test
returns-in_default-test c =
    rw c.not_queued-in_default-test.ensures (both_state c.args.self c.args.cfg c.args.time _ c.args.p _ _ (sym c.check.ensures ∙ c.in_default.is) (sym (rw c.in_default-test.is at c.test.ensures.answer)))
