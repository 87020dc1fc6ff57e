-- The chamber polls and writes; a step.
use mathlib.Core.Path.{◌≡◌, sym, subst}
use Rattle.std.proofs.Common.{Option, Result, Ok, Err}
use Rattle.config.specs.declared.refusal.Refusal.{Refusal}
use Rattle.receiver.specs.declared.receiver.ReceiverAnswer.{ReceiverAnswer}
use Rattle.receiver.specs.declared.receiver.StreamEvent.{StreamEvent}
use mathlib.Core.Bool.{true, ◌&&◌}
use mathlib.Core.List.{List}
use Prim.Native.Nat.{ℕ, ◌+◌, ◌≤◌, ◌<◌}
use native.Mathlib.Omega.{arith}
use lib.ListN.{length}
use Rattle.config.specs.Settings.{check_of}
use Rattle.config.specs.Time.{last_time}
use Rattle.config.specs.declared.settings.StreamConfig.{StreamConfig}
use Rattle.packet.specs.Write.{valid_of as payload_valid}
use Rattle.packet.specs.declared.writer.PayloadWriter.{PayloadWriter}
use Rattle.receiver.specs.Receiver.{polled_of, taken_of}
use Rattle.receiver.specs.Answers as receiver
use Rattle.receiver.specs.declared.receiver.Request.{Request}
use Rattle.receiver.specs.declared.receiver.Request.TheVariants.{Nothing as NotDue, Written as Taken, More as NoSpace}
use Rattle.config.specs.inner.Choices.{by_cond}
use Rattle.receiver_log.proofs.Follows.{passes}
use Rattle.stream.specs.State.{valid_of, with_receiver}
use Rattle.stream.specs.Ends.{poll_answer}
use Rattle.stream.specs.Writing.{sent_after, after_request, data_written, write_answer}
use Rattle.stream.specs.declared.stream.DataStream.{DataStream}
use Rattle.stream.specs.declared.stream.Wrote.{Wrote}
use Rattle.load.specs.Load.{next}
use Rattle.link_rules.specs.Arriving.{gap_in}
use Rattle.link_rules.specs.Link.{Ends, empty, blank, payload_of, carried, calls_of, step_of}
use Rattle.link_rules.proofs.Timed.{Timed, taken_timed, polled_timed}
use Rattle.link_rules.proofs.Hearing.{arrived_timed}

module _ (cfg : StreamConfig) (ok : check_of cfg ≡ Ok tt) (on : cfg.retransmit ≡ true) (delayed : 1 ≤ cfg.request_delay_ms) (g : ℕ) where
  module _ (t time : ℕ) (in_time : t < last_time) (s : DataStream) (i : Timed cfg g t s.receiver) (p : PayloadWriter) (b ring : List ℕ) where
    abbrev P : Wrote × List ℕ × List ℕ → Type 0
    P x = Timed cfg g t x.0.stream.receiver

    after_request_lem : (a : Result Request Refusal) (x : DataStream) (q : PayloadWriter) (c : List ℕ) → Timed cfg g t x.receiver → P (after_request a x cfg time q c ring)
    unfolding sent_after
    after_request_lem (Err why) x q c j = j
    after_request_lem (Ok NoSpace) x q c j = j
    after_request_lem (Ok NotDue) x q c j = j
    after_request_lem (Ok Taken) x q c j = j

    written_timed : P (write_answer s cfg time p b ring)
    unfolding write_answer data_written
    written_timed =
        let k = taken_of s.receiver cfg p b in
        rw ok (by_cond P (valid_of s ring && payload_valid p (length b)) _ _
        (λ _. after_request_lem k.0.answer (with_receiver s k.0.receiver) k.0.payload k.1 (taken_timed cfg on delayed g t in_time s.receiver i p b))
        (λ _. i))

  module _ (time : ℕ) (in_time : time + 1 < last_time) where
    poll_timed : (s : DataStream) → Timed cfg g time s.receiver → Timed cfg g (time + 1) (poll_answer s cfg time).stream.receiver
    unfolding poll_answer receiver.poll_answer
    poll_timed s i =
        let e : receiver.poll_answer s.receiver cfg time ≡ polled_of s.receiver cfg time = rw (ok, passes s.receiver i.valid) in
        subst (λ (h : ReceiverAnswer (Option StreamEvent)). Timed cfg g (time + 1) h.receiver) (sym e) (polled_timed cfg on delayed g time (omega arith) s.receiver i)

  module _ (figure : ℕ) (e : Ends) (in_time : e.steps + 1 < last_time) (gaps : gap_in (calls_of cfg figure e).heard.answers ≡ true → e.steps ≤ g) (i : Timed cfg g e.steps e.chamber.receiver) where
    -- once the step has polled
    pub step_polls : Timed cfg g (e.steps + 1) (calls_of cfg figure e).polled.stream.receiver
    unfolding calls_of
    step_polls =
        let c = calls_of cfg figure e in
        poll_timed e.steps in_time c.heard.stream
        (arrived_timed cfg ok on delayed g e.steps (omega arith) e.chamber_ring (carried figure (next e.line) (payload_of c.wrote)) e.chamber i gaps)

    pub step_timed : Timed cfg g (e.steps + 1) (step_of cfg figure e).chamber.receiver
    unfolding calls_of step_of
    step_timed = written_timed (e.steps + 1) e.steps in_time (calls_of cfg figure e).polled.stream step_polls empty blank e.chamber_ring
