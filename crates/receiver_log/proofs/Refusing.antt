-- A Retransmit Error, and a NAK.
use Prim.Native.Nat.{ℕ}
use Rattle.std.proofs.Common.{Option, Some, None, Ok}
use Rattle.receiver.specs.declared.receiver.ReceiverAnswer.{ReceiverAnswer}
use Rattle.receiver.specs.declared.receiver.StreamEvent.{StreamEvent}
use Rattle.window.specs.declared.window.SeqRange.{SeqRange}
use mathlib.Core.Path.{◌≡◌, refl, ap, sym, ◌∙◌, subst}
use mathlib.Core.Logic.{inl, inr}
use mathlib.Core.Bool.{true, false}
use mathlib.Core.List.{List, ◌∷◌}
use lib.Dec.{eqb}
use Rattle.config.specs.inner.Tests.{split}
use Rattle.command.specs.declared.retransmit.RetransmitRequest.{RetransmitRequest}
use Rattle.command.specs.declared.retransmit.RetransmitError.{RetransmitError}
use Rattle.window.specs.Window.{missing_of, missing_span}
use Rattle.window.specs.Marking.{mark_of}
use Rattle.window.specs.declared.window.Marked.{Marked}
use Rattle.receiver.specs.Receiver.{loss_of, gave_up, error_event, error_to, error_of, nak_by, nak_of}
use Rattle.receiver.specs.Answers.{error_answer, nak_answer}
use Rattle.receiver.specs.declared.receiver.Receiver.{Receiver}
use Rattle.receiver.specs.declared.receiver.StreamEvent.TheVariants.{RetransmitError as ErrorOnly}
use Rattle.receiver_log.specs.Calls.{retransmit_error, nak, Entry, error_entry, nak_entry, Step, step_of}
use Rattle.receiver_log.specs.Log.{told, reports}
use Rattle.receiver_log.specs.Spans.{nothing_missing, missing_in}
use Rattle.receiver_log.specs.Timing.{asked_after, asked_in, nak_in}
use Rattle.receiver_log.specs.Answers.{error_in, nak_event, answer_of}
use Rattle.config.specs.inner.Choices.{by_cond}
use Rattle.receiver_log.proofs.Held.{Held, held_quiet}
use Rattle.receiver_log.proofs.Marks.{held_mark}
use Rattle.receiver_log.proofs.SpanIs.{missing_span_lem, marked_span}
use Rattle.receiver_log.proofs.Follows.{AskedOk, Follows, StepOk, passes, none_missing_lem, follows_rest, follows_on, follows_same}
use Rattle.receiver_log.proofs.GivingUp.{loss_taken, error_in_lem, error_taken, gave_up_lem}

module _ (r : Receiver) (t : List Entry) (i : Follows r.window.size r t) where
  abbrev W : ℕ
  W = r.window.size

  -- ---- a Retransmit Error

  module _ (e : RetransmitError) where
    abbrev error_step : ReceiverAnswer (Option StreamEvent) → Step
    error_step h = record { receiver = h.receiver; entry = error_entry e h.answer }

    abbrev ErrorOk : Step → Type 0
    ErrorOk = StepOk W t (retransmit_error e)

    error_answer_lem : error_answer r e ≡ error_to r e r.asked
    unfolding error_answer error_of
    error_answer_lem = rw (passes r i.held.valid)

    error_says : (a : Option RetransmitRequest) → r.asked ≡ a → error_entry e (error_in W (reports t) e a) ≡ answer_of W t (retransmit_error e)
    unfolding answer_of
    error_says a at = ap (λ (x : Option RetransmitRequest). error_entry e (error_in W (reports t) e x)) (sym at ∙ i.asked)

    unasked_ok : r.asked ≡ None → ErrorOk (error_step (error_to r e None))
    unasked_ok at = record {
      follows =
          follows_same W r (error_entry e (Ok (Some (ErrorOnly e)))) t i refl refl refl refl
          (subst (λ (a : Option RetransmitRequest). asked_after W t a (error_entry e (Ok (Some (ErrorOnly e)))) ≡ a) (sym at ∙ i.asked) refl);
      says = error_says None at;
    }

    module _ (q : RetransmitRequest) (at : r.asked ≡ Some q) where
      abbrev marked : Marked
      marked = mark_of r.window (record { first = q.seq; count = q.count })

      abbrev entry : Entry
      entry = error_entry e (error_event e marked.span)

      few : AskedOk W (Some q)
      few = subst (AskedOk W) at i.few

      marked_held : Held marked.window (reports (entry ∷ t))
      marked_held =
          subst (λ (x : Option SeqRange). Held marked.window (told x ∷ reports t)) (sym (error_in_lem e marked.span ∙ marked_span i.held q))
          (held_mark i.held q few.0 few.1)

      marked_size : marked.window.size ≡ W
      unfolding mark_of
      marked_size = refl

      asked_ok : ErrorOk (error_step (error_to r e (Some q)))
      asked_ok =
          let nm = none_missing_lem W marked_held marked_size in
          record {
            follows =
                by_cond (λ x. Follows W x (entry ∷ t)) (eqb (missing_of marked.window) 0) _ _
                (λ n. follows_rest W marked.window entry t marked_held marked_size r.refused (sym nm ∙ n) i.refused)
                (λ n.
                follows_on W marked.window entry t marked_held marked_size r.timer r.request_due r.refused None (sym nm ∙ n) i.timer i.due
                i.refused (sym (error_taken e marked.span (asked_in W t) None)) tt);
            says = ap (λ (x : Option SeqRange). error_entry e (error_event e x)) (marked_span i.held q) ∙ error_says (Some q) at;
          }

    error_to_ok : (a : Option RetransmitRequest) → r.asked ≡ a → ErrorOk (error_step (error_to r e a))
    error_to_ok None at = unasked_ok at
    error_to_ok (Some q) at = asked_ok q at

    pub error_ok : ErrorOk (step_of r (retransmit_error e))
    unfolding step_of
    error_ok = subst (λ (h : ReceiverAnswer (Option StreamEvent)). ErrorOk (error_step h)) (sym error_answer_lem) (error_to_ok r.asked refl)

  -- ---- a NAK

  abbrev nak_step : ReceiverAnswer (Option StreamEvent) → Step
  nak_step h = record { receiver = h.receiver; entry = nak_entry h.answer }

  abbrev NakOk : Step → Type 0
  NakOk = StepOk W t nak

  nak_answer_lem : nak_answer r ≡ nak_by r r.asked
  unfolding nak_answer nak_of
  nak_answer_lem = rw (passes r i.held.valid)

  nak_says : (a : Option RetransmitRequest) → r.asked ≡ a → nak_entry (nak_event (missing_in W (reports t)) a) ≡ answer_of W t nak
  unfolding answer_of
  nak_says a at = ap (λ (x : Option RetransmitRequest). nak_entry (nak_event (missing_in W (reports t)) x)) (sym at ∙ i.asked)

  nak_by_ok : (a : Option RetransmitRequest) → r.asked ≡ a → NakOk (nak_step (nak_by r a))
  unfolding gave_up
  nak_by_ok None at = record {
    follows = elim (split (nothing_missing W (reports (nak_entry (Ok None) ∷ t)))) [
      | inl n ↦ follows_rest W r.window (nak_entry (Ok None)) t (held_quiet i.held) refl true n refl
      | inr n ↦ follows_on W r.window (nak_entry (Ok None)) t (held_quiet i.held) refl None false true None n refl refl refl refl tt
    ];
    says = nak_says None at;
  }
  nak_by_ok (Some q) at = record {
    follows =
        gave_up_lem r t i (nak_entry (loss_of (missing_span r.window))) true refl (sym (loss_taken (missing_span r.window) (nak_in t) true));
    says = ap (λ (x : Option SeqRange). nak_entry (loss_of x)) (missing_span_lem i.held) ∙ nak_says (Some q) at;
  }

  pub nak_ok : NakOk (step_of r nak)
  unfolding step_of
  nak_ok = subst (λ (h : ReceiverAnswer (Option StreamEvent)). NakOk (nak_step h)) (sym nak_answer_lem) (nak_by_ok r.asked refl)
