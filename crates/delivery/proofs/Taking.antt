-- Taking a due request writes it into the payload, or leaves the payload alone.
use Prim.Native.Nat.{ℕ}
use Rattle.std.proofs.Common.{Option, Some, None, Ok}
use Rattle.window.specs.declared.window.SeqRange.{SeqRange}
use mathlib.Core.Path.{◌≡◌, refl, ap}
use mathlib.Core.Bool.{not, ◌&&◌}
use mathlib.Core.Logic.{inl, inr}
use mathlib.Core.List.{List}
use lib.Dec.{eqb}
use lib.ListN.{length}
use Rattle.config.specs.Settings.{check_of}
use Rattle.config.specs.declared.refusal.Refusal.TheVariants.{TooLarge}
use Rattle.config.specs.declared.settings.StreamConfig.{StreamConfig}
use Rattle.config.specs.inner.Tests.{split}
use Rattle.packet.specs.Write.{valid_of as payload_valid, written_of, WriteEnds, done, refused as cut}
use Rattle.packet.specs.declared.writer.Wrote.{Wrote}
use Rattle.packet.proofs.Outcomes.{outcome}
use Rattle.command.specs.Write.{request_packet}
use Rattle.command.specs.declared.retransmit.RetransmitRequest.{RetransmitRequest}
use Rattle.window.specs.Window.{request_of}
use Rattle.receiver.specs.Receiver.{valid_of, enabled_of, taken_by, offered_of, taken_span, taken_of}
use Rattle.receiver.specs.Answers.{take_answer}
use Rattle.receiver.specs.declared.receiver.Receiver.{Receiver}
use Rattle.receiver.specs.declared.receiver.Request.TheVariants.{Written}
use Rattle.config.specs.inner.Choices.{by_cond}
use Rattle.config.specs.inner.Entries.{entry_any}
use Rattle.delivery.specs.Console.{Lent}
use Rattle.delivery.specs.Take.{Taken, written, none_due, more, refused, TakenBy, Takes}

module _ (r : Receiver) (cfg : StreamConfig) (v : Lent) where
  abbrev asking : RetransmitRequest → Wrote × List ℕ
  asking q = written_of v.payload v.buffer (request_packet q)

  offered_taken : (q : RetransmitRequest) → TakenBy v (offered_of r q v.payload v.buffer)
  unfolding offered_of
  offered_taken q = go (asking q) refl (outcome v.payload v.buffer (request_packet q))
    where
      go : (w : Wrote × List ℕ) → asking q ≡ w → WriteEnds v.payload v.buffer (request_packet q) w → TakenBy v (taken_by r q w.0.payload w.0.answer, w.1)
      go w e (done f l) =
          let x : Taken v (Ok Written) record { payload = (asking q).0.payload; buffer = (asking q).1 } (Some q) = written q (ap (λ (y : Wrote × List ℕ). y.0.answer) e) in
          rw e at x
      go w e (cut why) = elim (split (eqb v.payload.len 0)) [ inl z ↦ rw z (refused r.asked TooLarge) | inr z ↦ rw z (more r.asked) ]

  span_taken : (s : Option SeqRange) → TakenBy v (taken_span r v.payload v.buffer s)
  span_taken None = none_due r.asked
  span_taken (Some range) = offered_taken record { seq = range.first; count = range.count }

  due_taken_lem : TakenBy v (taken_of r cfg v.payload v.buffer)
  unfolding taken_of
  due_taken_lem =
      by_cond (TakenBy v) (not r.request_due) _ _ (λ none. none_due r.asked) (λ due.
      by_cond (TakenBy v) (not (enabled_of r cfg)) _ _ (λ off. none_due r.asked) (λ on.
      span_taken (request_of r.window)))

pub takes : Takes
unfolding take_answer
takes r cfg v =
    entry_any (TakenBy v) _ _ (λ why. refused r.asked why) (check_of cfg) (valid_of r && payload_valid v.payload (length v.buffer))
    (λ passed valid. due_taken_lem r cfg v)
