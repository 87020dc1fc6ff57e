-- A refused call hands back what it was given, and words that fit are stored back as they were.
use mathlib.Core.Path.{◌≡◌, refl, ap, sym, ◌∙◌}
use Rattle.std.proofs.Common.{Option, Some, None, Result, Ok, Err}
use Rattle.receiver.specs.declared.receiver.Delivery.{Delivery}
use Rattle.receiver.specs.declared.receiver.ReceiverAnswer.{ReceiverAnswer}
use Rattle.receiver.specs.declared.receiver.RequestTimer.{RequestTimer}
use Rattle.receiver.specs.declared.receiver.StreamEvent.{StreamEvent}
use Rattle.sender.specs.declared.sender.RequestOutcome.{RequestOutcome}
use Rattle.sender.specs.declared.sender.SenderAnswer.{SenderAnswer}
use Rattle.stream.specs.declared.stream.StreamAnswer.{StreamAnswer}
use Rattle.window.specs.declared.window.SeqRange.{SeqRange}
use Rattle.writing.specs.declared.writing.Written.{Written}
use Rattle.std.specs.Bool.{⊤}
use mathlib.Core.Bool.{Bool, true, false, not, ◌&&◌}
use mathlib.Core.List.{List}
use Prim.Native.Nat.{ℕ, ◌-◌}
use lib.ListN.{length}
use lib.Dec.{eqb, leb, ltb}
use Rattle.config.specs.Entry.{entry}
use Rattle.config.specs.inner.Choices.{and_both, by_cond, by_check}
use Rattle.config.specs.inner.Tests.{and_left, and_right}
use Rattle.config.specs.Refusals.{outcome_number}
use Rattle.config.specs.Settings.{check_of}
use Rattle.config.specs.declared.refusal.Refusal.{Refusal}
use Rattle.config.specs.declared.refusal.Refusal.TheVariants.{TooLarge}
use Rattle.config.specs.declared.settings.StreamConfig.{StreamConfig}
use Rattle.packet.specs.Write.{WriteEnds, refused as not_put, done as put, valid_of as payload_valid}
use Rattle.packet.specs.declared.writer.PayloadWriter.{PayloadWriter}
use Rattle.packet.specs.declared.writer.Wrote.{Wrote as CommandWrote}
use Rattle.packet.proofs.Outcomes.{outcome}
use Rattle.command.specs.Write.{request_packet}
use Rattle.command.specs.declared.retransmit.RetransmitRequest.{RetransmitRequest}
use Rattle.command.specs.declared.retransmit.RetransmitError.{RetransmitError}
use Rattle.history.specs.Queue.{waiting, asks, push_answer}
use Rattle.history.specs.declared.queue.Pushed.{Pushed}
use Rattle.window.specs.Window.{missing_span, request_of as span_request}
use Rattle.window.specs.Marking.{mark_of}
use Rattle.receiver.specs.Receiver.{valid_of as receiver_valid, nothing_missing, heard_of, loss_of, gave_up, polled_at, polled_of, error_event, error_to, error_of, nak_by, nak_of, enabled_of, not_due, taken_by, offered_of, taken_span, taken_of}
use Rattle.receiver.specs.Answers as receiver
use Rattle.receiver.specs.declared.receiver.Receiver.{Receiver}
use Rattle.receiver.specs.declared.receiver.Request.{Request}
use Rattle.receiver.specs.declared.receiver.Request.TheVariants.{Written as Taken, More}
use Rattle.receiver.specs.declared.receiver.RequestWritten.{RequestWritten as ReceiverTaken}
use Rattle.sender.specs.State.{valid_of as sender_valid}
use Rattle.sender.specs.Queueing.{need_of, unsent, words_check, placed_of, queued_of, sent_of}
use Rattle.sender.specs.Requests.{not_written, with_queue, outcome_of as push_outcome, requested_of}
use Rattle.sender.specs.Answers as sender
use Rattle.sender.specs.declared.sender.Sender.{Sender}
use Rattle.stream.specs.State.{valid_of as stream_valid, with_receiver as with_receiver_of}
use Rattle.stream.specs.Ends.{send_answer, request_answer, data_answer, error_answer, nak_answer, poll_answer, take_answer}
use Rattle.stream.specs.Answers.{new_answer, reset_refused, reset_answer}
use Rattle.stream.specs.Writing.{write_refused, counted_also, sent_after, after_request, data_written as stream_written, write_answer}
use Rattle.stream.specs.declared.stream.DataStream.{DataStream}
use Rattle.stream.specs.declared.stream.Wrote.{Wrote}
use Rattle.c_state.specs.Stream.{receiver_fits, fits, receiver_in, sender_in, loaded, stored, with_receiver, with_sender}
use Rattle.c_words.specs.Settings.{settings_of}
use Rattle.c_words.specs.Payload.{payload_fits, payload_in, payload_words}
use Rattle.c_answers.specs.Answers.{delivery_of, outcome_of, event_of, request_of, written_of}
use Rattle.c_stream.specs.Exports.{started_into as stream_into, new_export, reset_export, send_export, request_export, data_export, error_export, nak_export, poll_export, take_export, write_export}
use Rattle.c_answers.specs.declared.answers.CDelivery.{CDelivery}
use Rattle.c_answers.specs.declared.answers.COutcome.{COutcome}
use Rattle.c_answers.specs.declared.answers.CEvent.{CEvent}
use Rattle.c_answers.specs.declared.answers.CRequest.{CRequest}
use Rattle.c_answers.specs.declared.answers.CWritten.{CWritten}
use Rattle.c_words.proofs.Entries.{made, call_any}
use Rattle.c_words.proofs.Kept.{Kept, KeptOne, KeptTwo, itself, as_was, done, by_test, by_entry, call_keeps, payload_same}
use Rattle.c_stream.proofs.Emptiness.{Since, as_before, not_empty, some_after, Tried, wrote, large, tried_since, written_tried}
use Rattle.c_state.proofs.Ends.{both_receiver}
use Rattle.c_state.proofs.Streams.{receiver_same, sender_same, stream_same}

-- ---- the receiver's calls
module _ (st : List ℕ) where
  abbrev HeardKept : ReceiverAnswer Delivery → Type 0
  HeardKept = Kept (λ (e : ReceiverAnswer Delivery). (delivery_of e.answer).refusal) (λ (e : ReceiverAnswer Delivery). with_receiver st e.receiver ≡ st)

  abbrev ToldKept : ReceiverAnswer (Option StreamEvent) → Type 0
  ToldKept = Kept (λ (e : ReceiverAnswer (Option StreamEvent)). (event_of e.answer).refusal) (λ (e : ReceiverAnswer (Option StreamEvent)). with_receiver st e.receiver ≡ st)

  -- an event that is told after the tests is no refusal
  lost : (r : Receiver) (s : Option SeqRange) → ToldKept record { receiver = r; answer = loss_of s }
  lost r None = done refl
  lost r (Some range) = done refl

  marked : (r : Receiver) (e : RetransmitError) (s : Option SeqRange) → ToldKept record { receiver = r; answer = error_event e s }
  marked r e None = done refl
  marked r e (Some range) = done refl

  polled : (r : Receiver) (s : StreamConfig) (time : ℕ) (t : Option RequestTimer) → ToldKept (polled_at r s time t)
  unfolding gave_up
  polled r s time None = done refl
  polled r s time (Some t) =
      by_test (ltb time t.due) _ _ (λ _. done refl)
      (by_test (nothing_missing r.window) _ _ (λ _. done refl)
      (by_test (ltb t.sent s.max_requests && enabled_of r s) _ _ (λ _. done refl)
      (lost _ (missing_span r.window))))

  error_told : (r : Receiver) (e : RetransmitError) (a : Option RetransmitRequest) → ToldKept (error_to r e a)
  error_told r e None = done refl
  error_told r e (Some q) = marked _ e (mark_of r.window record { first = q.seq; count = q.count }).span

  nak_told : (r : Receiver) (a : Option RetransmitRequest) → ToldKept (nak_by r a)
  unfolding gave_up
  nak_told r None = done refl
  nak_told r (Some q) = lost _ (missing_span r.window)

  module _ (r : Receiver) (same : with_receiver st r ≡ st) where
    heard_kept : (cfg : StreamConfig) (time seq : ℕ) → HeardKept (receiver.data_answer r cfg time seq)
    unfolding receiver.data_answer heard_of
    heard_kept cfg time seq = by_entry (check_of cfg) (receiver_valid r) (receiver.hearing_refused r) _ (λ why. same) (done refl)

    polled_kept : (cfg : StreamConfig) (time : ℕ) → ToldKept (receiver.poll_answer r cfg time)
    unfolding receiver.poll_answer polled_of
    polled_kept cfg time = by_entry (check_of cfg) (receiver_valid r) (receiver.event_refused r) _ (λ why. same) (polled r cfg time r.timer)

    error_kept : (e : RetransmitError) → ToldKept (receiver.error_answer r e)
    unfolding receiver.error_answer error_of
    error_kept e = by_entry (Ok tt) (receiver_valid r) (receiver.event_refused r) _ (λ why. same) (error_told r e r.asked)

    nak_kept : ToldKept (receiver.nak_answer r)
    unfolding receiver.nak_answer nak_of
    nak_kept = by_entry (Ok tt) (receiver_valid r) (receiver.event_refused r) _ (λ why. same) (nak_told r r.asked)

  pub hear_keeps : (cfg : List ℕ) (time seq : ℕ) → KeptOne (λ (a : CDelivery). a.refusal) st (data_export st cfg time seq)
  unfolding data_export data_answer loaded
  hear_keeps cfg time seq =
      call_keeps _ _ (λ (e : ReceiverAnswer Delivery). (delivery_of e.answer, with_receiver st e.receiver)) _ (receiver.data_answer (receiver_in st) (settings_of cfg) time seq) (λ n. refl)
      (λ _ f. heard_kept (receiver_in st) (receiver_same st f) (settings_of cfg) time seq)

  abbrev told_of : ReceiverAnswer (Option StreamEvent) → CEvent × List ℕ
  told_of e = (event_of e.answer, with_receiver st e.receiver)

  pub poll_keeps : (cfg : List ℕ) (time : ℕ) → KeptOne (λ (a : CEvent). a.refusal) st (poll_export st cfg time)
  unfolding poll_export poll_answer loaded
  poll_keeps cfg time =
      call_keeps _ _ told_of _ (receiver.poll_answer (receiver_in st) (settings_of cfg) time) (λ n. refl)
      (λ _ f. polled_kept (receiver_in st) (receiver_same st f) (settings_of cfg) time)

  pub error_keeps : (reason seq : ℕ) → KeptOne (λ (a : CEvent). a.refusal) st (error_export st reason seq)
  unfolding error_export error_answer loaded
  error_keeps reason seq =
      call_keeps _ _ told_of _ (receiver.error_answer (receiver_in st) record { reason = reason; seq = seq }) (λ n. refl)
      (λ _ f. error_kept (receiver_in st) (receiver_same st f) record { reason = reason; seq = seq })

  pub nak_keeps : KeptOne (λ (a : CEvent). a.refusal) st (nak_export st)
  unfolding nak_export nak_answer loaded
  nak_keeps = call_keeps _ _ told_of _ (receiver.nak_answer (receiver_in st)) (λ n. refl) (λ _ f. nak_kept (receiver_in st) (receiver_same st f))

-- ---- the sender's calls, and a reset
module _ (st ring : List ℕ) where
  abbrev SentKept : SenderAnswer ⊤ × List ℕ → Type 0
  SentKept = Kept (λ (e : SenderAnswer ⊤ × List ℕ). outcome_number e.0.answer) (λ (e : SenderAnswer ⊤ × List ℕ). (with_sender st e.0.sender ≡ st) × (e.1 ≡ ring))

  abbrev RequestedKept : SenderAnswer RequestOutcome → Type 0
  RequestedKept = Kept (λ (e : SenderAnswer RequestOutcome). (outcome_of e.answer).refusal) (λ (e : SenderAnswer RequestOutcome). with_sender st e.sender ≡ st)

  abbrev PushedKept : Sender → Pushed → Type 0
  PushedKept s = Kept (λ (e : Pushed). (outcome_of (push_outcome e.answer)).refusal) (λ (e : Pushed). with_sender st (with_queue s e.queue) ≡ st)

  pushed_kept : (s : Sender) (r : RetransmitRequest) → PushedKept s (push_answer s.queue r)
  unfolding push_answer
  pushed_kept s r =
      let q = s.queue in
      by_test (asks (waiting q) r.seq) _ _ (λ _. done refl)
      (by_test (leb q.size q.len) _ _ (λ _. done refl)
      (done refl))

  module _ (s : Sender) (cfg : StreamConfig) (same : with_sender st s ≡ st) where
    sent_kept : (ws : List ℕ) → SentKept (sender.send_answer s cfg ring ws)
    unfolding sender.send_answer sent_of placed_of queued_of
    sent_kept ws =
        let max : ℕ = cfg.max_command_words in
        by_entry (check_of cfg) (sender_valid s ring) (unsent s ring) _ (λ why. (same, refl))
        (by_test (eqb (length ws) 0) _ _ (λ _. done refl)
        (by_check SentKept (words_check max ws) (unsent s ring) _ (λ why. as_was (same, refl))
        (λ _. by_test (ltb (s.history.size - s.unsent_words) (need_of s ring max ws)) _ _ (λ _. as_was (same, refl)) (done refl))))

    requested_kept : (r : RetransmitRequest) → RequestedKept (sender.request_answer s cfg ring r)
    unfolding sender.request_answer requested_of
    requested_kept r =
        by_entry (check_of cfg) (sender_valid s ring) (sender.request_refused s) _ (λ why. same)
        (by_test (not cfg.retransmit) _ _ (λ _. done refl)
        (by_test (not_written s r.seq) _ _ (λ _. done refl)
        (record { kept = (pushed_kept s r).kept })))

  pub send_keeps : (cfg ws : List ℕ) → KeptTwo itself st ring (send_export st cfg ring ws)
  unfolding send_export send_answer loaded
  send_keeps cfg ws =
      call_keeps _ _ (λ (e : SenderAnswer ⊤ × List ℕ). (outcome_number e.0.answer, with_sender st e.0.sender, e.1)) _ (sender.send_answer (sender_in st) (settings_of cfg) ring ws)
      (λ n. (refl, refl)) (λ _ f. sent_kept (sender_in st) (settings_of cfg) (sender_same st f) ws)

  pub request_keeps : (cfg : List ℕ) (seq count : ℕ) → KeptOne (λ (a : COutcome). a.refusal) st (request_export st cfg ring seq count)
  unfolding request_export request_answer loaded
  request_keeps cfg seq count =
      call_keeps _ _ (λ (e : SenderAnswer RequestOutcome). (outcome_of e.answer, with_sender st e.sender)) _
      (sender.request_answer (sender_in st) (settings_of cfg) ring record { seq = seq; count = count })
      (λ n. refl) (λ _ f. requested_kept (sender_in st) (settings_of cfg) (sender_same st f) record { seq = seq; count = count })

  abbrev ResetKept : StreamAnswer ⊤ × List ℕ → Type 0
  ResetKept = Kept (λ (e : StreamAnswer ⊤ × List ℕ). outcome_number e.0.answer) (λ (e : StreamAnswer ⊤ × List ℕ). (stored e.0.stream ≡ st) × (e.1 ≡ ring))

  was_reset_kept : stored (loaded st) ≡ st → ResetKept (reset_answer (loaded st) ring)
  unfolding reset_answer
  was_reset_kept same = by_entry (Ok tt) (stream_valid (loaded st) ring) (reset_refused (loaded st) ring) _ (λ why. (same, refl)) (done refl)

  pub reset_keeps : KeptTwo itself st ring (reset_export st ring)
  unfolding reset_export
  reset_keeps =
      call_keeps _ _ (λ (e : StreamAnswer ⊤ × List ℕ). (outcome_number e.0.answer, stored e.0.stream, e.1)) _ (reset_answer (loaded st) ring)
      (λ n. (refl, refl)) (λ _ f. was_reset_kept (stream_same st f))

-- ---- a start
module _ (st ring : List ℕ) where
  started_kept : (a : Result ⊤ Refusal) (stream : DataStream) (after : List ℕ) → KeptTwo itself st ring (stream_into a stream after st ring)
  started_kept (Ok _) stream after = done refl
  started_kept (Err why) stream after = as_was (refl, refl)

  pub new_keeps : (cfg : List ℕ) (window places : ℕ) → KeptTwo itself st ring (new_export st cfg window places ring)
  unfolding new_export
  new_keeps cfg window places =
      let e = new_answer (settings_of cfg) window (length ring) places ring in
      call_keeps _ _ (λ (a : ℕ × List ℕ × List ℕ). a) _ (stream_into e.0.answer e.0.stream e.1 st ring) (λ n. (refl, refl)) (λ _ _. started_kept e.0.answer e.0.stream e.1)

-- ---- the write of a due request
-- what it can come to after the tests: a refusal changes nothing
data Taking (r : Receiver) (p : PayloadWriter) (b : List ℕ) : ReceiverTaken × List ℕ → Type 0 where
  refused : (why : Refusal) → Taking r p b (record { receiver = r; payload = p; answer = Err why }, b)
  none : (next : Receiver) → Taking r p b (not_due next p, b)
  more : Taking r p b (record { receiver = r; payload = p; answer = Ok More }, b)
  taken : (next : Receiver) (after : PayloadWriter) (bytes : List ℕ) → (after.len ≡ 0 → ⊥) → Taking r p b (record { receiver = next; payload = after; answer = Ok Taken }, bytes)

module _ (r : Receiver) (p : PayloadWriter) (b : List ℕ) where
  offered : (q : RetransmitRequest) (w : CommandWrote × List ℕ) → WriteEnds p b (request_packet q) w
      → Taking r p b (taken_by r q w.0.payload w.0.answer, w.1)
  offered q w (not_put why) =
      by_cond (λ (a : Result Request Refusal). Taking r p b (record { receiver = r; payload = p; answer = a }, b)) (eqb p.len 0) _ _ (λ _. refused TooLarge) (λ _. more)
  offered q w (put f l) = taken _ _ _ (some_after p (request_packet q))

  taken_span_lem : (s : Option SeqRange) → Taking r p b (taken_span r p b s)
  unfolding offered_of
  taken_span_lem None = none _
  taken_span_lem (Some range) =
      let q : RetransmitRequest = record { seq = range.first; count = range.count } in
      offered q _ (outcome p b (request_packet q))

  taking : (cfg : StreamConfig) → Taking r p b (taken_of r cfg p b)
  unfolding taken_of
  taking cfg =
      by_cond (Taking r p b) (not r.request_due) _ _ (λ _. none r)
      (λ _. by_cond (Taking r p b) (not (enabled_of r cfg)) _ _ (λ _. none _)
      (λ _. taken_span_lem (span_request r.window)))

module _ (st p b : List ℕ) where
  abbrev TakenKept : ReceiverTaken × List ℕ → Type 0
  TakenKept =
      Kept (λ (e : ReceiverTaken × List ℕ). (request_of e.0.answer).refusal)
      (λ (e : ReceiverTaken × List ℕ). (with_receiver st e.0.receiver ≡ st) × (payload_words e.0.payload ≡ p) × (e.1 ≡ b))

  abbrev TakeKept : CRequest × List ℕ × List ℕ × List ℕ → Type 0
  TakeKept =
      Kept (λ (e : CRequest × List ℕ × List ℕ × List ℕ). e.0.refusal)
      (λ (e : CRequest × List ℕ × List ℕ × List ℕ). (e.1 ≡ st) × (e.2 ≡ p) × (e.3 ≡ b))

  module _ (r : Receiver) (x : PayloadWriter) (same : with_receiver st r ≡ st) (whole : payload_words x ≡ p) where
    taken_kept : (e : ReceiverTaken × List ℕ) → Taking r x b e → TakenKept e
    taken_kept e (refused why) = as_was (same, whole, refl)
    taken_kept e (none next) = done refl
    taken_kept e more = done refl
    taken_kept e (taken next after bytes some) = done refl

    take_kept : (cfg : StreamConfig) → TakenKept (receiver.take_answer r cfg x b)
    unfolding receiver.take_answer
    take_kept cfg =
        by_entry (check_of cfg) (receiver_valid r && payload_valid x (length b)) (receiver.request_refused r x b) _ (λ why. (same, whole, refl))
        (taken_kept _ (taking r x b cfg))

  pub take_keeps : (cfg : List ℕ) → TakeKept (take_export st cfg p b)
  unfolding take_export take_answer loaded
  take_keeps cfg =
      call_keeps _ _ (λ (e : ReceiverTaken × List ℕ). (request_of e.0.answer, with_receiver st e.0.receiver, payload_words e.0.payload, e.1)) _
      (receiver.take_answer (receiver_in st) (settings_of cfg) (payload_in p) b) (λ n. (refl, refl, refl))
      (λ _ f. take_kept (receiver_in st) (payload_in p) (receiver_same st (and_left (receiver_fits st) (payload_fits p) f)) (payload_same p (and_right (receiver_fits st) (payload_fits p) f)) (settings_of cfg))

-- ---- a write
module _ (st p b ring : List ℕ) where
  -- all that was lent is as it was
  abbrev WroteSame : Wrote × List ℕ × List ℕ → Type 0
  WroteSame e = (stored e.0.stream ≡ st) × (payload_words e.0.payload ≡ p) × (e.1 ≡ b) × (e.2 ≡ ring)

  abbrev WriteSame : CWritten × List ℕ × List ℕ × List ℕ × List ℕ → Type 0
  WriteSame e = (e.1 ≡ st) × (e.2 ≡ p) × (e.3 ≡ b) × (e.4 ≡ ring)

  -- the payload and its bytes are, and where the number is not 3, all is
  abbrev WroteKept : Wrote × List ℕ × List ℕ → Type 0
  WroteKept =
      Kept (λ (e : Wrote × List ℕ × List ℕ). (written_of e.0.answer).refusal)
      (λ (e : Wrote × List ℕ × List ℕ). (payload_words e.0.payload ≡ p) × (e.1 ≡ b) × (((written_of e.0.answer).refusal ≡ 3 → ⊥) → WroteSame e))

  abbrev WriteKept : CWritten × List ℕ × List ℕ × List ℕ × List ℕ → Type 0
  WriteKept =
      Kept (λ (e : CWritten × List ℕ × List ℕ × List ℕ × List ℕ). e.0.refusal)
      (λ (e : CWritten × List ℕ × List ℕ × List ℕ × List ℕ). (e.2 ≡ p) × (e.3 ≡ b) × ((e.0.refusal ≡ 3 → ⊥) → WriteSame e))

  module _ (x : PayloadWriter) (whole : payload_words x ≡ p) where
    sent_kept_by : (n : ℕ) (d : DataStream) (a : Result Written Refusal) (after : PayloadWriter) (bytes ring' : List ℕ) → Tried x b a after bytes
        → WroteKept (record { stream = d; payload = after; answer = counted_also n a }, bytes, ring')
    sent_kept_by n d a after bytes ring' (wrote w) = done refl
    sent_kept_by n d a after bytes ring' (large z) = as_was (whole, refl, λ g. absurd (g refl))

    after_kept : (n : ℕ) (d : DataStream) (cfg : StreamConfig) (time : ℕ) (next : PayloadWriter) (bytes : List ℕ) → Since x b next bytes
        → WroteKept (sent_after n d cfg time next bytes ring)
    unfolding sent_after
    after_kept n d cfg time next bytes since =
        sent_kept_by n _ _ _ _ _ (tried_since since (written_tried d.sender cfg time next bytes ring))

    module _ (d : DataStream) (cfg : StreamConfig) (time : ℕ) (same : stored d ≡ st) where
      request_kept : (e : ReceiverTaken × List ℕ) → Taking d.receiver x b e
          → WroteKept (after_request e.0.answer (with_receiver_of d e.0.receiver) cfg time e.0.payload e.1 ring)
      request_kept e (refused why) = as_was (whole, refl, λ g. (same, whole, refl, refl))
      request_kept e (none next) = after_kept 0 (with_receiver_of d next) cfg time x b as_before
      request_kept e more = done refl
      request_kept e (taken next after bytes some) = after_kept 1 (with_receiver_of d next) cfg time after bytes (not_empty some)

      -- where the request is what is refused
      request_same : (e : ReceiverTaken × List ℕ) → Taking d.receiver x b e → ((request_of e.0.answer).refusal ≡ 0 → ⊥)
          → WroteSame (after_request e.0.answer (with_receiver_of d e.0.receiver) cfg time e.0.payload e.1 ring)
      request_same e (refused why) n = (same, whole, refl, refl)
      request_same e (none next) n = absurd (n refl)
      request_same e more n = absurd (n refl)
      request_same e (taken next after bytes some) n = absurd (n refl)

      wrote_kept : WroteKept (write_answer d cfg time x b ring)
      unfolding write_answer stream_written
      wrote_kept =
          by_entry (check_of cfg) (stream_valid d ring && payload_valid x (length b)) (write_refused d x b ring) _
          (λ why. (whole, refl, λ g. (same, whole, refl, refl)))
          (request_kept _ (taking d.receiver x b cfg))

      -- the tests of the request's write are among those of the whole write
      by_request : (c : Result ⊤ Refusal) (r s payload : Bool) (e : ReceiverTaken × List ℕ) (f : Wrote × List ℕ × List ℕ)
          → (((request_of e.0.answer).refusal ≡ 0 → ⊥) → WroteSame f)
          → ((request_of (entry c (r && payload) (receiver.request_refused d.receiver x b) e).0.answer).refusal ≡ 0 → ⊥)
          → WroteSame (entry c ((r && s) && payload) (write_refused d x b ring) f)
      by_request (Err why) r s payload e f g n = (same, whole, refl, refl)
      by_request (Ok _) false s payload e f g n = (same, whole, refl, refl)
      by_request (Ok _) true false payload e f g n = (same, whole, refl, refl)
      by_request (Ok _) true true false e f g n = (same, whole, refl, refl)
      by_request (Ok _) true true true e f g n = g n

      wrote_same : ((request_of (receiver.take_answer d.receiver cfg x b).0.answer).refusal ≡ 0 → ⊥) → WroteSame (write_answer d cfg time x b ring)
      unfolding write_answer stream_written stream_valid receiver.take_answer
      wrote_same n =
          by_request (check_of cfg) (receiver_valid d.receiver) (sender_valid d.sender ring) (payload_valid x (length b)) _ _
          (request_same _ (taking d.receiver x b cfg)) n

  module _ (cfg : List ℕ) (time : ℕ) where
    pub write_keeps : WriteKept (write_export st cfg time p b ring)
    unfolding write_export
    write_keeps =
        call_keeps _ _ (λ (e : Wrote × List ℕ × List ℕ). (written_of e.0.answer, stored e.0.stream, payload_words e.0.payload, e.1, e.2)) _
        (write_answer (loaded st) (settings_of cfg) time (payload_in p) b ring) (λ n. (refl, refl, λ g. (refl, refl, refl, refl)))
        (λ _ f. wrote_kept (payload_in p) (payload_same p (and_right (fits st) (payload_fits p) f)) (loaded st) (settings_of cfg) time (stream_same st (and_left (fits st) (payload_fits p) f)))

    pub write_request_keeps : ((take_export st cfg p b).0.refusal ≡ 0 → ⊥) → WriteSame (write_export st cfg time p b ring)
    unfolding write_export take_export take_answer loaded
    write_request_keeps n =
        call_any WriteSame _ _ (λ m. (refl, refl, refl, refl))
        (λ c f.
        let whole = and_left (fits st) (payload_fits p) f in
        let two = and_right (fits st) (payload_fits p) f in
        wrote_same (payload_in p) (payload_same p two) (loaded st) (settings_of cfg) time (stream_same st whole)
        (λ k. n (ap (λ (a : CRequest × List ℕ × List ℕ × List ℕ). a.0.refusal) (sym (made _ _ c (and_both (both_receiver st whole) two) refl)) ∙ k)))
