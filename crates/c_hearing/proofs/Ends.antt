-- A command that is given to its end: the answer, and words that fit.
use mathlib.Core.Path.{◌≡◌, sym, ap, subst, ◌∙◌}
use Rattle.std.proofs.Common.{Option, Result}
use Rattle.config.specs.declared.refusal.Refusal.{Refusal}
use Rattle.receiver.specs.declared.receiver.Delivery.{Delivery}
use Rattle.receiver.specs.declared.receiver.ReceiverAnswer.{ReceiverAnswer}
use Rattle.receiver.specs.declared.receiver.StreamEvent.{StreamEvent}
use Rattle.sender.specs.declared.sender.RequestOutcome.{RequestOutcome}
use Rattle.sender.specs.declared.sender.SenderAnswer.{SenderAnswer}
use mathlib.Core.Bool.{true}
use mathlib.Core.List.{List}
use Prim.Native.Nat.{ℕ, ◌<◌}
use Rattle.config.specs.declared.settings.StreamConfig.{StreamConfig}
use Rattle.command.specs.declared.retransmit.RetransmitRequest.{RetransmitRequest}
use Rattle.command.specs.declared.retransmit.RetransmitError.{RetransmitError}
use Rattle.receiver.specs.Answers as receiver
use Rattle.receiver.specs.declared.receiver.Receiver.{Receiver}
use Rattle.sender.specs.Answers as sender
use Rattle.sender.specs.declared.sender.Sender.{Sender}
use Rattle.stream.specs.Ends.{data_answer, request_answer, error_answer}
use Rattle.c_answers.specs.Answers.{delivery_of, outcome_of, event_of}
use Rattle.c_answers.specs.declared.answers.CDelivery.{CDelivery}
use Rattle.c_answers.specs.declared.answers.COutcome.{COutcome}
use Rattle.c_answers.specs.declared.answers.CEvent.{CEvent}
use Rattle.c_state.specs.Receiver.{NarrowReceiver}
use Rattle.c_state.specs.Sender.{NarrowSender}
use Rattle.c_state.specs.Stream.{fits, receiver_in, sender_in, loaded, with_receiver, with_sender}
use Rattle.c_state.specs.Receiving.{heard_into}
use Rattle.c_state.specs.Theorems.{Wide, StaysNarrow}
use Rattle.c_state.proofs.Narrow.{words_narrow, stays_narrow}
use Rattle.c_state.proofs.ReceiverFits.{data_fits, error_fits}
use Rattle.c_state.proofs.SenderFits.{request_fits}
use Rattle.c_hearing.specs.Figures.{delivery_figures, outcome_figures, event_figures}
use Rattle.c_hearing.specs.Given.{data_given, request_given, error_given}
use Rattle.c_hearing.specs.declared.figures.Figures.{Figures}

module _ (st : List ℕ) (wide : Wide st) where
  stays : StaysNarrow (loaded st)
  stays = let w = words_narrow st wide in stays_narrow (loaded st) w.0 w.1

  -- ---- a data command
  data_narrow : (cfg : StreamConfig) (time seq : ℕ) → NarrowReceiver (receiver.data_answer (receiver_in st) cfg time seq).receiver
  unfolding data_answer loaded
  data_narrow cfg time seq = (stays.hear cfg time seq).0

  pub data_given_lem : fits st ≡ true → (cfg : StreamConfig) (time seq : ℕ) → seq < 65536 → (h : Result Delivery Refusal) (after : List ℕ) → (h, after) ≡ heard_into st (receiver.data_answer (receiver_in st) cfg time seq)
      → (d : CDelivery) → d ≡ delivery_of h → (f : Figures) → f ≡ delivery_figures d
      → ((f, after) ≡ data_given st cfg time seq) × (fits after ≡ true)
  unfolding data_given data_answer loaded
  data_given_lem all cfg time seq few h after eh d ed f ef = (
    ap (λ (x : Figures). (x, after)) (ef ∙ ap delivery_figures ed)
        ∙ ap (λ (x : Result Delivery Refusal × List ℕ). (delivery_figures (delivery_of x.0), x.1)) eh,
    subst (λ (x : List ℕ). fits x ≡ true) (sym (ap (λ (x : Result Delivery Refusal × List ℕ). x.1) eh)) (data_fits st all wide cfg time seq few (data_narrow cfg time seq)),
  )

  -- ---- an error
  error_narrow : (err : RetransmitError) → NarrowReceiver (receiver.error_answer (receiver_in st) err).receiver
  unfolding error_answer loaded
  error_narrow err = (stays.error err).0

  module _ (r : Receiver) (from : r ≡ receiver_in st) (err : RetransmitError) (e : ReceiverAnswer (Option StreamEvent)) (q : e ≡ receiver.error_answer r err) where
    told : e ≡ receiver.error_answer (receiver_in st) err
    told = q ∙ ap (λ (x : Receiver). receiver.error_answer x err) from

    pub error_stored : NarrowReceiver e.receiver
    error_stored = subst (λ (x : ReceiverAnswer (Option StreamEvent)). NarrowReceiver x.receiver) (sym told) (error_narrow err)

    pub error_given_lem : fits st ≡ true → (after : List ℕ) → after ≡ with_receiver st e.receiver → (a : CEvent) → a ≡ event_of e.answer → (f : Figures) → f ≡ event_figures a
        → ((f, after) ≡ error_given st err) × (fits after ≡ true)
    unfolding error_given error_answer loaded
    error_given_lem all after ea a et f ef =
        let s : after ≡ with_receiver st (receiver.error_answer (receiver_in st) err).receiver = ea ∙ ap (λ (x : ReceiverAnswer (Option StreamEvent)). with_receiver st x.receiver) told in (
          ap (λ (x : Figures). (x, after)) (ef ∙ ap event_figures (et ∙ ap (λ (x : ReceiverAnswer (Option StreamEvent)). event_of x.answer) told))
              ∙ ap (λ (x : List ℕ). (event_figures (event_of (receiver.error_answer (receiver_in st) err).answer), x)) s,
          subst (λ (x : List ℕ). fits x ≡ true) (sym s) (error_fits st all wide err (error_narrow err)),
        )

  -- ---- a request
  request_narrow : (cfg : StreamConfig) (ring : List ℕ) (a : RetransmitRequest) → NarrowSender (sender.request_answer (sender_in st) cfg ring a).sender
  unfolding request_answer loaded
  request_narrow cfg ring a = (stays.request cfg ring a).1

  module _ (s : Sender) (from : s ≡ sender_in st) (cfg : StreamConfig) (ring : List ℕ) (a : RetransmitRequest) (e : SenderAnswer RequestOutcome) (q : e ≡ sender.request_answer s cfg ring a) where
    heard : e ≡ sender.request_answer (sender_in st) cfg ring a
    heard = q ∙ ap (λ (x : Sender). sender.request_answer x cfg ring a) from

    pub request_stored : NarrowSender e.sender
    request_stored = subst (λ (x : SenderAnswer RequestOutcome). NarrowSender x.sender) (sym heard) (request_narrow cfg ring a)

    pub request_given_lem : fits st ≡ true → (after : List ℕ) → after ≡ with_sender st e.sender → (o : COutcome) → o ≡ outcome_of e.answer → (f : Figures) → f ≡ outcome_figures o
        → ((f, after) ≡ request_given st cfg ring a) × (fits after ≡ true)
    unfolding request_given request_answer loaded
    request_given_lem all after ea o eo f ef =
        let t : after ≡ with_sender st (sender.request_answer (sender_in st) cfg ring a).sender = ea ∙ ap (λ (x : SenderAnswer RequestOutcome). with_sender st x.sender) heard in (
          ap (λ (x : Figures). (x, after)) (ef ∙ ap outcome_figures (eo ∙ ap (λ (x : SenderAnswer RequestOutcome). outcome_of x.answer) heard))
              ∙ ap (λ (x : List ℕ). (outcome_figures (outcome_of (sender.request_answer (sender_in st) cfg ring a).answer), x)) t,
          subst (λ (x : List ℕ). fits x ≡ true) (sym t) (request_fits st all cfg ring a (request_narrow cfg ring a)),
        )
