-- A call of one end, on the words of the whole stream.
use mathlib.Core.Path.{◌≡◌, refl, sym, ◌∙◌}
use mathlib.Core.Bool.{true}
use mathlib.Core.List.{List}
use Prim.Native.Nat.{ℕ}
use Rattle.config.specs.inner.Choices.{and_both}
use Rattle.config.specs.inner.Tests.{and_left}
use Rattle.stream.specs.Ends.{send_answer, request_answer, data_answer, error_answer, nak_answer, poll_answer, take_answer}
use Rattle.c_answers.specs.declared.answers.CDelivery.{CDelivery}
use Rattle.c_answers.specs.declared.answers.COutcome.{COutcome}
use Rattle.c_answers.specs.declared.answers.CEvent.{CEvent}
use Rattle.c_answers.specs.declared.answers.CRequest.{CRequest}
use Rattle.c_stream.specs.Exports.{send_export, request_export, data_export, error_export, nak_export, poll_export, take_export}
use Rattle.c_words.specs.Payload.{payload_fits}
use Rattle.c_state.specs.Stream.{receiver_fits, fits, loaded, receiver_part, sender_part}
use Rattle.c_stream.specs.Theorems.{OtherEnd, WholeStream}
use Rattle.c_words.proofs.Entries.{made, call_any}
use Rattle.c_state.proofs.Ends.{receiver_whole, sender_whole, both_receiver, both_sender, sender_stays, receiver_stays, receiver_stored, sender_stored}

module _ (st : List ℕ) where
  pub other_end : OtherEnd st
  unfolding send_export request_export data_export error_export nak_export poll_export take_export
  other_end =
      record {
        send = λ cfg ring ws. call_any (λ (e : ℕ × List ℕ × List ℕ). receiver_part e.1 ≡ receiver_part st) _ _ (λ n. refl) (λ _ f. receiver_stays st (sender_whole st f) _);
        request = λ cfg ring seq count. call_any (λ (e : COutcome × List ℕ). receiver_part e.1 ≡ receiver_part st) _ _ (λ n. refl) (λ _ f. receiver_stays st (sender_whole st f) _);
        hear = λ cfg time seq. call_any (λ (e : CDelivery × List ℕ). sender_part e.1 ≡ sender_part st) _ _ (λ n. refl) (λ _ f. sender_stays st (receiver_whole st f) _);
        error = λ reason seq. call_any (λ (e : CEvent × List ℕ). sender_part e.1 ≡ sender_part st) _ _ (λ n. refl) (λ _ f. sender_stays st (receiver_whole st f) _);
        nak = call_any (λ (e : CEvent × List ℕ). sender_part e.1 ≡ sender_part st) _ _ (λ n. refl) (λ _ f. sender_stays st (receiver_whole st f) _);
        poll = λ cfg time. call_any (λ (e : CEvent × List ℕ). sender_part e.1 ≡ sender_part st) _ _ (λ n. refl) (λ _ f. sender_stays st (receiver_whole st f) _);
        take = λ cfg p b. call_any (λ (e : CRequest × List ℕ × List ℕ × List ℕ). sender_part e.1 ≡ sender_part st) _ _ (λ n. refl)
            (λ _ f. sender_stays st (receiver_whole st (and_left (receiver_fits st) (payload_fits p) f)) _);
      }

  module _ (all : fits st ≡ true) where
    pub whole_stream : WholeStream st
    unfolding send_export request_export data_export error_export nak_export poll_export take_export send_answer request_answer data_answer error_answer nak_answer poll_answer take_answer loaded
    whole_stream =
        let r = both_receiver st all in
        let s = both_sender st all in
        record {
          send = λ cfg ring ws c. sym (made _ _ c s refl) ∙ rw (sender_stored st all);
          request = λ cfg ring seq count c. sym (made _ _ c s refl) ∙ rw (sender_stored st all);
          hear = λ cfg time seq c. sym (made _ _ c r refl) ∙ rw (receiver_stored st all);
          error = λ reason seq. sym (made _ _ refl r refl) ∙ rw (receiver_stored st all);
          nak = sym (made _ _ refl r refl) ∙ rw (receiver_stored st all);
          poll = λ cfg time c. sym (made _ _ c r refl) ∙ rw (receiver_stored st all);
          take = λ cfg p b c two. sym (made _ _ c (and_both r two) refl) ∙ rw (receiver_stored st all);
        }
