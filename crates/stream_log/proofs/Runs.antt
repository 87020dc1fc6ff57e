-- Every list of calls on a fresh stream: each end is what its own calls leave.
use Prim.Native.Nat.{ℕ, ◌≤◌}
use Rattle.std.proofs.Common.{Result, Ok, Err}
use Rattle.stream.specs.declared.stream.StreamAnswer.{StreamAnswer}
use Rattle.std.specs.Bool.{⊤}
use mathlib.Core.Path.{◌≡◌, refl, sym, ap, ◌∙◌, subst}
use mathlib.Core.Bool.{Bool, true, false, cond, not, ◌||◌}
use mathlib.Core.List.{List, [], ◌∷◌, ◌++◌}
use native.Mathlib.Omega.{arith}
use lib.Dec.{eqb}
use lib.ListN.{length, replicate}
use borrow.Author.Tests.{eqb-true, not-false}
use Rattle.config.specs.Entry.{entry}
use Rattle.config.specs.Range.{outside}
use Rattle.config.specs.Settings.{check_of, tested}
use Rattle.config.specs.declared.refusal.Refusal.{Refusal}
use Rattle.config.specs.declared.refusal.Refusal.TheVariants.{SizeNotAllowed}
use Rattle.config.specs.declared.settings.StreamConfig.{StreamConfig}
use Rattle.packet.specs.Write.{valid_of as payload_valid}
use Rattle.packet.specs.declared.writer.PayloadWriter.{PayloadWriter}
use Rattle.window.specs.Set.{max_window}
use Rattle.window.specs.Window.{missing_span}
use Rattle.receiver.specs.Receiver.{fresh_of, deadline_of as receiver_deadline}
use Rattle.receiver.specs.Answers as receiver
use Rattle.receiver.specs.declared.receiver.Receiver.{Receiver}
use Rattle.receiver.specs.declared.receiver.Request.{Request}
use Rattle.receiver.specs.declared.receiver.Request.TheVariants.{Nothing as NotDue, Written as Taken, More as NoSpace}
use Rattle.receiver_log.specs.Calls as Receiver
use Rattle.receiver_log.specs.Log.{reports}
use Rattle.receiver_log.specs.Promise.{log_of}
use Rattle.receiver_log.specs.Promise as Received
use Rattle.config.specs.inner.Choices.{or_left, or_right}
use Rattle.config.specs.inner.Ranges.{not_outside}
use Rattle.receiver_log.proofs.Runs.{reached as receiver_reached, never_invalid as receiver_never_invalid, receiver_promise, missing_from_to}
use Rattle.sender.specs.State.{fresh as fresh_sender}
use Rattle.sender.specs.Answers as sender
use Rattle.sender.specs.Requests.{deadline_of as sender_deadline, wants_of}
use Rattle.sender.specs.declared.sender.Sender.{Sender}
use Rattle.sender.proofs.Validity.{valid_good}
use Rattle.sender_log.specs.Promise as Sent
use Rattle.sender_log.specs.Past.{past_of, HeldIn}
use Rattle.sender_log.specs.Calls as Sender
use Rattle.sender_log.specs.Answers.{book_of}
use Rattle.sender_log.proofs.Runs.{reached as sender_reached, never_invalid as sender_never_invalid}
use Rattle.sender_log.proofs.Past.{held_past}
use Rattle.stream.specs.State.{valid_of, fresh, with_sender, with_receiver}
use Rattle.stream.specs.Answers.{not_started, new_answer, reset_answer, earlier, deadline_answer, wants_answer}
use Rattle.stream.specs.Ends.{send_answer, request_answer, data_answer, error_answer, nak_answer, poll_answer, take_answer}
use Rattle.stream.specs.Writing.{write_refused, data_written, write_answer}
use Rattle.stream.specs.declared.stream.DataStream.{DataStream}
use Rattle.stream.proofs.Validity.{test_sender}
use Rattle.stream_log.specs.Calls.{Call, send_ump, on_retransmit_request, on_ump_data, on_retransmit_error, on_retransmit_nak, poll, write_request, write_data, next_deadline, wants_write, reset, Entry, step_of, run_from, run, Typed, AllTyped}
use Rattle.stream_log.specs.Ends.{Ends, uncalled, receiving, sending, unless_cut, ends_after, ends_from, ends_of}
use Rattle.stream_log.specs.Promise.{Started, Kept, Reached, GivenValid, StateTaken, StreamPromise}
use Rattle.stream_log.specs.Refusals.{number_in}
use Rattle.stream_log.proofs.Writing.{behind_take, write_joined}

-- ---- a start

abbrev sizes_out : ℕ → ℕ → List ℕ → Bool
sizes_out c q ring₀ = outside 65 32768 c || (not (eqb (length ring₀) c) || outside 1 16 q)

-- both ends are started, over a history of zeros
pub record StartIs (W c q : ℕ) (ring₀ : List ℕ) (x : StreamAnswer ⊤ × List ℕ) : Type 0 where
  pub least : 1 ≤ W
  pub most : W ≤ max_window
  pub started : (sender.new_answer c q ring₀).0.answer ≡ Ok tt
  pub stream_is : fresh W c q ≡ x.0.stream
  pub ring_is : replicate c 0 ≡ x.1
  pub sender_is : fresh_sender c q ≡ (sender.new_answer c q ring₀).0.sender
  pub history_is : replicate c 0 ≡ (sender.new_answer c q ring₀).1

pub start_is : (cfg : StreamConfig) (W c q : ℕ) (ring₀ : List ℕ) → Started cfg W c q ring₀ → StartIs W c q ring₀ (new_answer cfg W c q ring₀)
unfolding new_answer sender.new_answer
start_is cfg W c q ring₀ e = by (check_of cfg) (outside 1 max_window W) refl (sizes_out c q ring₀) refl e
  where
    ready : StreamAnswer ⊤ × List ℕ
    ready = (record { stream = fresh W c q; answer = Ok tt }, replicate (length ring₀) 0)

    by : (k : Result ⊤ Refusal) (t : Bool) → outside 1 max_window W ≡ t → (o : Bool) → sizes_out c q ring₀ ≡ o
        → (tested k (λ (why : Refusal). (not_started why, ring₀)) (cond (t || o) (not_started SizeNotAllowed, ring₀) ready)).0.answer ≡ Ok tt
        → StartIs W c q ring₀ (tested k (λ (why : Refusal). (not_started why, ring₀)) (cond (t || o) (not_started SizeNotAllowed, ring₀) ready))
    by (Err why) t f o g e = absurd (let z : ◌≡◌ {A = ℕ} 0 1 = cc in omega arith)
    by (Ok _) true f o g e = absurd (let z : ◌≡◌ {A = ℕ} 0 1 = cc in omega arith)
    by (Ok _) false f true g e = absurd (let z : ◌≡◌ {A = ℕ} 0 1 = cc in omega arith)
    by (Ok tt) false f false g e =
        let w = not_outside 1 max_window W f in
        let l : length ring₀ ≡ c = eqb-true (length ring₀) c (not-false (eqb (length ring₀) c) (or_left _ _ (or_right (outside 65 32768 c) _ g))) in
        record { least = w.0; most = w.1; started = rw g; stream_is = refl; ring_is = rw l; sender_is = rw g; history_is = rw (g, l) }

-- ---- one call of an end

receiver_append : (xs ys : List Receiver.Call) (r : Receiver) (t : List Receiver.Entry) → Receiver.run_from r t (xs ++ ys) ≡ Receiver.run_from (Receiver.run_from r t xs).receiver (Receiver.run_from r t xs).log ys
unfolding Receiver.run_from
receiver_append [] ys r t = refl
receiver_append (x ∷ xs) ys r t = receiver_append xs ys (Receiver.step_of r x).receiver ((Receiver.step_of r x).entry ∷ t)

sender_append : (xs ys : List Sender.Call) (s : Sender) (ring : List ℕ) (t : List Sender.Entry)
    → Sender.run_from s ring t (xs ++ ys) ≡ Sender.run_from (Sender.run_from s ring t xs).sender (Sender.run_from s ring t xs).ring (Sender.run_from s ring t xs).log ys
unfolding Sender.run_from
sender_append [] ys s ring t = refl
sender_append (x ∷ xs) ys s ring t = sender_append xs ys (Sender.step_of s ring x).sender (Sender.step_of s ring x).ring ((Sender.step_of s ring x).entry ∷ t)

-- one more
pub receiver_next : (W : ℕ) (xs : List Receiver.Call) (x : Receiver.Call)
    → (let y = Receiver.step_of (Receiver.run W xs).receiver x in
    Receiver.run W (xs ++ (x ∷ [])) ≡ record { receiver = y.receiver; log = y.entry ∷ (Receiver.run W xs).log })
unfolding Receiver.run Receiver.run_from
receiver_next W xs x = receiver_append xs (x ∷ []) (fresh_of W) []

sender_next : (c q : ℕ) (ring₀ : List ℕ) (xs : List Sender.Call) (x : Sender.Call)
    → (let u = Sender.run c q ring₀ xs in
    let y = Sender.step_of u.sender u.ring x in
    Sender.run c q ring₀ (xs ++ (x ∷ [])) ≡ record { sender = y.sender; ring = y.ring; log = y.entry ∷ u.log })
unfolding Sender.run Sender.run_from
sender_next c q ring₀ xs x = sender_append xs (x ∷ []) (sender.new_answer c q ring₀).0.sender (sender.new_answer c q ring₀).1 []

receiver_types : (xs : List Receiver.Call) (x : Receiver.Call) → Receiver.AllTyped xs → Receiver.Typed x → Receiver.AllTyped (xs ++ (x ∷ []))
receiver_types [] x h k = (k, tt)
receiver_types (y ∷ xs) x h k = (h.0, receiver_types xs x h.1 k)

sender_types : (xs : List Sender.Call) (x : Sender.Call) → Sender.AllTyped xs → Sender.Typed x → Sender.AllTyped (xs ++ (x ∷ []))
sender_types [] x h k = (k, tt)
sender_types (y ∷ xs) x h k = (h.0, sender_types xs x h.1 k)

-- ---- each end is what its calls leave

pub record Tied (W c q : ℕ) (ring₀ : List ℕ) (s : DataStream) (ring : List ℕ) (e : Ends) : Type 0 where
  pub receiver_is : s.receiver ≡ (Receiver.run W e.received).receiver
  pub sender_is : s.sender ≡ (Sender.run c q ring₀ e.sent).sender
  pub ring_is : ring ≡ (Sender.run c q ring₀ e.sent).ring
  pub receiver_typed : Receiver.AllTyped e.received
  pub sender_typed : Sender.AllTyped e.sent

pub moved : {x y : Sender} {m n : List ℕ} → x ≡ y → m ≡ n → (P : Sender → List ℕ → Type 0) → P y n → P x m
moved {x} {y} {m} {n} e f P h = subst (λ (z : Sender). P z m) (sym e) (subst (P y) (sym f) h)

module _ (W c q : ℕ) (ring₀ : List ℕ) where
  pub receiving_on : (s : DataStream) (ring : List ℕ) (e : Ends) → Tied W c q ring₀ s ring e → (x : Receiver.Call) → Receiver.Typed x
      → Tied W c q ring₀ (with_receiver s (Receiver.step_of s.receiver x).receiver) ring (receiving e x)
  receiving_on s ring e i x l = record {
    receiver_is = ap (λ (r : Receiver). (Receiver.step_of r x).receiver) i.receiver_is ∙ sym (ap (λ (u : Receiver.Run). u.receiver) (receiver_next W e.received x));
    sender_is = i.sender_is;
    ring_is = i.ring_is;
    receiver_typed = receiver_types e.received x i.receiver_typed l;
    sender_typed = i.sender_typed;
  }

  sending_on : (s : DataStream) (ring : List ℕ) (e : Ends) → Tied W c q ring₀ s ring e → (x : Sender.Call) → Sender.Typed x
      → Tied W c q ring₀ (with_sender s (Sender.step_of s.sender ring x).sender) (Sender.step_of s.sender ring x).ring (sending e x)
  sending_on s ring e i x l =
      let u = Sender.run c q ring₀ e.sent in
      let same : Sender.step_of s.sender ring x ≡ Sender.step_of u.sender u.ring x =
      ap (λ (a : Sender). Sender.step_of a ring x) i.sender_is ∙ ap (λ (b : List ℕ). Sender.step_of u.sender b x) i.ring_is in
      let next = sender_next c q ring₀ e.sent x in
      record {
        receiver_is = i.receiver_is;
        sender_is = ap (λ (y : Sender.Step). y.sender) same ∙ sym (ap (λ (v : Sender.Run). v.sender) next);
        ring_is = ap (λ (y : Sender.Step). y.ring) same ∙ sym (ap (λ (v : Sender.Run). v.ring) next);
        receiver_typed = i.receiver_typed;
        sender_typed = sender_types e.sent x i.sender_typed l;
      }

  -- the sender's write, unless the take was refused or found no space
  behind_on : (s : DataStream) (ring : List ℕ) (e : Ends) → Tied W c q ring₀ s ring e → (a : Result Request Refusal) (cfg : StreamConfig) → Sender.TypedConfig cfg → (time : ℕ) (p : PayloadWriter) (b : List ℕ)
      → (let w = behind_take a s cfg time p b ring in Tied W c q ring₀ w.0.stream w.2 (unless_cut a e (Sender.write cfg time p b)))
  unfolding Sender.step_of
  behind_on s ring e i (Err why) cfg l time p b = i
  behind_on s ring e i (Ok NoSpace) cfg l time p b = i
  behind_on s ring e i (Ok NotDue) cfg l time p b = sending_on s ring e i (Sender.write cfg time p b) l
  behind_on s ring e i (Ok Taken) cfg l time p b = sending_on s ring e i (Sender.write cfg time p b) l

  module _ (least : 1 ≤ W) (most : W ≤ max_window) (started : Sent.Started c q ring₀) where
    module _ (s : DataStream) (ring : List ℕ) (e : Ends) (i : Tied W c q ring₀ s ring e) where
      pub receiver_keeps : Received.Kept W s.receiver (log_of W e.received)
      receiver_keeps = subst (λ (r : Receiver). Received.Kept W r (log_of W e.received)) (sym i.receiver_is) (receiver_reached W least most e.received i.receiver_typed)

      pub sender_keeps : Sent.Kept c q s.sender ring (book_of c q e.sent)
      sender_keeps = moved i.sender_is i.ring_is (λ (x : Sender) (r : List ℕ). Sent.Kept c q x r (book_of c q e.sent)) (sender_reached c q ring₀ started e.sent i.sender_typed)

      pub both_valid : valid_of s ring ≡ true
      both_valid = sym (test_sender s ring receiver_keeps.valid true (sym sender_keeps.valid))

      kept : Kept W c q ring₀ s ring e
      kept = record {
        receiver = i.receiver_is;
        sender = i.sender_is;
        history = i.ring_is;
        receiver_typed = i.receiver_typed;
        sender_typed = i.sender_typed;
        valid = both_valid;
        receiver_kept = receiver_keeps;
        sender_kept = sender_keeps;
        sender_held = moved i.sender_is i.ring_is (λ (x : Sender) (r : List ℕ). HeldIn c x r (past_of c q ring₀ e.sent)) (held_past c q ring₀ started e.sent i.sender_typed);
      }

      -- a reset is a start with the same sizes
      pub reset_is : reset_answer s ring ≡ (record { stream = fresh W c q; answer = Ok tt }, replicate c 0)
      unfolding reset_answer
      reset_is =
          let l : length ring ≡ c = (valid_good s.sender ring sender_keeps.valid).ring ∙ sender_keeps.words in
          rw (both_valid, receiver_keeps.size, sender_keeps.words, sender_keeps.places, l)

      write_tested : (cfg : StreamConfig) (time : ℕ) (p : PayloadWriter) (b : List ℕ)
          → write_answer s cfg time p b ring
          ≡ entry (check_of cfg) (payload_valid p (length b)) (write_refused s p b ring) (data_written s cfg time p b ring)
      unfolding write_answer
      write_tested cfg time p b = rw both_valid

      pub deadline_tested : deadline_answer s ring ≡ earlier (receiver_deadline s.receiver) (sender_deadline s.sender)
      unfolding deadline_answer
      deadline_tested = rw both_valid

      pub wants_tested : (time : ℕ) → wants_answer s ring time ≡ Ok (s.receiver.request_due || wants_of s.sender time)
      unfolding wants_answer
      wants_tested time = rw both_valid

      pub state_taken : ((call : Call) → Typed call → GivenValid call → number_in (step_of s ring call).entry ≡ 13 → ⊥) → StateTaken W c q s ring
      state_taken never = record {
        never = never;
        of_sender = moved i.sender_is i.ring_is Sent.StateTaken (sender_never_invalid c q ring₀ started e.sent i.sender_typed);
        of_receiver = subst Received.StateTaken (sym i.receiver_is) (receiver_never_invalid W least most e.received i.receiver_typed);
        write_data = write_tested;
        next_deadline = deadline_tested;
        wants_write = wants_tested;
        reset = reset_is;
      }

    fresh_tied : fresh_sender c q ≡ (sender.new_answer c q ring₀).0.sender → replicate c 0 ≡ (sender.new_answer c q ring₀).1 → Tied W c q ring₀ (fresh W c q) (replicate c 0) uncalled
    unfolding Receiver.run Receiver.run_from Sender.run Sender.run_from
    fresh_tied es er = record { receiver_is = refl; sender_is = es; ring_is = er; receiver_typed = tt; sender_typed = tt }

    -- ---- one call

    module _ (again : Tied W c q ring₀ (fresh W c q) (replicate c 0) uncalled) where
      write_on : (s : DataStream) (ring : List ℕ) (e : Ends) → Tied W c q ring₀ s ring e → (cfg : StreamConfig) → Sender.TypedConfig cfg → (time : ℕ) (p : PayloadWriter) (b : List ℕ)
          → (let w = write_answer s cfg time p b ring in Tied W c q ring₀ w.0.stream w.2 (ends_after W e (write_data cfg time p b)))
      unfolding ends_after Receiver.step_of
      write_on s ring e i cfg l time p b =
          let take : Receiver.Call = Receiver.take_request cfg p b in
          let t = receiver.take_answer s.receiver cfg p b in
          let h = behind_on (with_receiver s t.0.receiver) ring (receiving e take) (receiving_on s ring e i take tt) t.0.answer cfg l time t.0.payload t.1 in
          let same = write_joined s ring (both_valid s ring e i) cfg time p b in
          rw same (subst (λ (r : Receiver). let v = receiver.take_answer r cfg p b in
          Tied W c q ring₀ (behind_take t.0.answer (with_receiver s t.0.receiver) cfg time t.0.payload t.1 ring).0.stream (behind_take t.0.answer (with_receiver s t.0.receiver) cfg time t.0.payload t.1 ring).2
          (unless_cut v.0.answer (receiving e take) (Sender.write cfg time v.0.payload v.1))) i.receiver_is h)

      pub step_on : (s : DataStream) (ring : List ℕ) (e : Ends) → Tied W c q ring₀ s ring e → (call : Call) → Typed call
          → Tied W c q ring₀ (step_of s ring call).stream (step_of s ring call).ring (ends_after W e call)
      unfolding step_of ends_after Receiver.step_of Sender.step_of send_answer request_answer data_answer error_answer nak_answer poll_answer take_answer
      step_on s ring e i (send_ump cfg ws) l = sending_on s ring e i (Sender.queue_words cfg ws) l
      step_on s ring e i (on_retransmit_request cfg r) l = sending_on s ring e i (Sender.retransmit_request cfg r) l
      step_on s ring e i (on_ump_data cfg time seq ws) l = receiving_on s ring e i (Receiver.data_command cfg time seq ws) l
      step_on s ring e i (on_retransmit_error err) l = receiving_on s ring e i (Receiver.retransmit_error err) tt
      step_on s ring e i on_retransmit_nak l = receiving_on s ring e i Receiver.nak tt
      step_on s ring e i (poll cfg time) l = receiving_on s ring e i (Receiver.poll cfg time) tt
      step_on s ring e i (write_request cfg p b) l = receiving_on s ring e i (Receiver.take_request cfg p b) tt
      step_on s ring e i (write_data cfg time p b) l = write_on s ring e i cfg l time p b
      step_on s ring e i next_deadline l = i
      step_on s ring e i (wants_write time) l = i
      step_on s ring e i reset l =
          subst (λ (x : StreamAnswer ⊤ × List ℕ). Tied W c q ring₀ x.0.stream x.1 uncalled) (sym (reset_is s ring e i)) again

      -- ---- all calls

      pub from_on : (calls : List Call) (s : DataStream) (ring : List ℕ) (t : List Entry) (e : Ends) → Tied W c q ring₀ s ring e → AllTyped calls
          → (let u = run_from s ring t calls in Tied W c q ring₀ u.stream u.ring (ends_from W e calls))
      unfolding run_from ends_from
      from_on [] s ring t e i l = i
      from_on (call ∷ calls) s ring t e i l =
          from_on calls (step_of s ring call).stream (step_of s ring call).ring ((step_of s ring call).entry ∷ t) (ends_after W e call) (step_on s ring e i call l.0) l.1

-- ---- the theorems

module _ (cfg : StreamConfig) (W c q : ℕ) (ring₀ : List ℕ) (done : Started cfg W c q ring₀) where
  start : StartIs W c q ring₀ (new_answer cfg W c q ring₀)
  start = start_is cfg W c q ring₀ done

  pub again : Tied W c q ring₀ (fresh W c q) (replicate c 0) uncalled
  again = fresh_tied W c q ring₀ start.least start.most start.started start.sender_is start.history_is

  pub start_tied : Tied W c q ring₀ (new_answer cfg W c q ring₀).0.stream (new_answer cfg W c q ring₀).1 uncalled
  start_tied = subst (λ (s : DataStream). Tied W c q ring₀ s (new_answer cfg W c q ring₀).1 uncalled) start.stream_is
      (subst (λ (ring : List ℕ). Tied W c q ring₀ (fresh W c q) ring uncalled) start.ring_is again)

  pub run_tied : (calls : List Call) → AllTyped calls → (let u = run cfg W c q ring₀ calls in Tied W c q ring₀ u.stream u.ring (ends_of W calls))
  unfolding run
  run_tied calls l = from_on W c q ring₀ start.least start.most start.started again calls (new_answer cfg W c q ring₀).0.stream (new_answer cfg W c q ring₀).1 [] uncalled start_tied l

pub reached : Reached
reached cfg W c q ring₀ done calls l =
    let st = start_is cfg W c q ring₀ done in
    kept W c q ring₀ st.least st.most st.started _ _ (ends_of W calls) (run_tied cfg W c q ring₀ done calls l)

pub accounted : StreamPromise
accounted cfg W c q ring₀ done calls l =
    let st = start_is cfg W c q ring₀ done in
    let i = run_tied cfg W c q ring₀ done calls l in
    let e = ends_of W calls in
    record {
      promise = receiver_promise W st.least st.most e.received i.receiver_typed;
      span = subst (λ (r : Receiver). Received.FromTo W (reports (log_of W e.received)) (missing_span r.window)) (sym i.receiver_is)
          (missing_from_to W st.least st.most e.received i.receiver_typed);
    }
