-- What each call answers is what the past calls of both ends say.
use Prim.Native.Nat.{ℕ, suc, ◌≤◌}
use Rattle.std.proofs.Common.{Result, Ok}
use Rattle.config.specs.declared.refusal.Refusal.{Refusal}
use Rattle.stream.specs.declared.stream.StreamAnswer.{StreamAnswer}
use Rattle.std.specs.Bool.{⊤}
use mathlib.Core.Path.{◌≡◌, refl, ap, ◌∙◌}
use mathlib.Core.Bool.{not}
use mathlib.Core.List.{List, [], ◌∷◌}
use native.Mathlib.Omega.{arith}
use lib.Dec.{ltb, eqb}
use lib.ListN.{length, replicate}
use borrow.Author.Tests.{lt-ltb, ne_eqb}
use Rattle.config.specs.Entry.{entry}
use Rattle.config.specs.Settings.{check_of}
use Rattle.config.specs.declared.settings.StreamConfig.{StreamConfig}
use Rattle.packet.specs.Layout.{Packet}
use Rattle.packet.specs.Write.{valid_of as payload_valid}
use Rattle.packet.specs.declared.writer.PayloadWriter.{PayloadWriter}
use Rattle.window.specs.Set.{max_window}
use Rattle.receiver.specs.Receiver.{deadline_of as receiver_deadline}
use Rattle.receiver.specs.Answers as receiver
use Rattle.receiver.specs.declared.receiver.Receiver.{Receiver}
use Rattle.receiver.specs.declared.receiver.Request.{Request}
use Rattle.receiver_log.specs.Calls as Receiver
use Rattle.receiver_log.specs.Answers.{answer_of as receiver_answer}
use Rattle.receiver_log.specs.Promise.{log_of}
use Rattle.receiver_log.proofs.Runs.{answered as receiver_answered}
use Rattle.sender.specs.Requests.{deadline_of as sender_deadline, wants_of}
use Rattle.writing.specs.Answers as writing
use Rattle.sender.specs.declared.sender.Sender.{Sender}
use Rattle.sender_log.specs.Writes.{is_empty, write_in}
use Rattle.sender_log.specs.Calls as Sender
use Rattle.sender_log.specs.Answers.{told_of, book_of}
use Rattle.sender_log.specs.Promise as Sent
use Rattle.sender_log.proofs.Ties.{Follows, waiting_count}
use Rattle.sender_log.proofs.Runs.{run_ok as sender_run, answered as sender_answered}
use Rattle.stream.specs.State.{fresh, with_receiver}
use Rattle.stream.specs.Answers.{new_answer, deadline_answer, wants_answer}
use Rattle.stream.specs.Ends.{send_answer, request_answer, data_answer, error_answer, nak_answer, poll_answer, take_answer}
use Rattle.stream.specs.Writing.{write_answer}
use Rattle.stream.specs.declared.stream.DataStream.{DataStream}
use Rattle.stream.specs.declared.stream.Wrote.{Wrote}
use Rattle.stream_log.specs.Calls.{Call, send_ump, on_retransmit_request, on_ump_data, on_retransmit_error, on_retransmit_nak, poll, write_request, write_data, next_deadline, wants_write, reset, Entry, by_sender, by_receiver, wrote, deadline, wants, was_reset, step_of, run_from, run, Typed, AllTyped}
use Rattle.stream_log.specs.Ends.{Ends, uncalled, ends_after, ends_of}
use Rattle.stream_log.specs.Answers.{Out, refused_out, request_first, write_out, deadline_in, wants_in, answer_of, said_from}
use Rattle.stream_log.specs.Promise.{Answered}
use Rattle.stream_log.proofs.Writing.{behind_take, write_joined}
use Rattle.stream_log.proofs.Taking.{wanted_by, wanted_is, Took, settings, invalid, too_large, no_space, none_due, taken, take_took}
use Rattle.stream_log.proofs.Runs.{start_is, Tied, moved, receiver_keeps, sender_keeps, both_valid, reset_is, deadline_tested, wants_tested, step_on, again, start_tied, run_tied}

none_is : {A : Type 0} (xs : List A) → eqb (length xs) 0 ≡ is_empty xs
none_is [] = refl
none_is (x ∷ xs) = ne_eqb (suc (length xs)) 0 (λ e. let w : ⊥ = omega arith in w)

some_is : {A : Type 0} (xs : List A) → ltb 0 (length xs) ≡ not (is_empty xs)
some_is [] = refl
some_is (x ∷ xs) = lt-ltb 0 (suc (length xs)) (omega arith)

abbrev out_of : Wrote × List ℕ × List ℕ → Out
out_of w = record { answer = w.0.answer; payload = w.0.payload; bytes = w.1 }

module _ (W c q : ℕ) (ring₀ : List ℕ) (least : 1 ≤ W) (most : W ≤ max_window) (started : Sent.Started c q ring₀) (s : DataStream) (ring : List ℕ) (e : Ends) (i : Tied W c q ring₀ s ring e) where
  -- ---- the calls of one end

  receiver_says_lem : (x : Receiver.Call) → Receiver.Typed x → (Receiver.step_of s.receiver x).entry ≡ receiver_answer W (log_of W e.received) x
  receiver_says_lem x l =
      ap (λ (r : Receiver). (Receiver.step_of r x).entry) i.receiver_is ∙ (receiver_answered W least most e.received i.receiver_typed).next x l

  pub sender_says_lem : (x : Sender.Call) → Sender.Typed x → (Sender.step_of s.sender ring x).entry ≡ (told_of c q (book_of c q e.sent) x).entry
  sender_says_lem x l =
      moved i.sender_is i.ring_is (λ (a : Sender) (m : List ℕ). (Sender.step_of a m x).entry ≡ (told_of c q (book_of c q e.sent) x).entry)
      ((sender_answered c q ring₀ started e.sent i.sender_typed).next x l)

  -- ---- a write

  module _ (cfg : StreamConfig) (typed : Sender.TypedConfig cfg) (time : ℕ) where
    -- the sender's write
    pub sender_wrote : (p : PayloadWriter) (b : List ℕ)
        → (let w = writing.write_answer s.sender cfg time p b ring in
        let v = write_in c cfg time (book_of c q e.sent) p b in
        (w.0.answer ≡ v.answer) × (w.0.payload ≡ v.payload) × (w.1 ≡ v.bytes))
    unfolding Sender.step_of told_of
    sender_wrote p b = let h = sender_says_lem (Sender.write cfg time p b) typed in (cc, cc, cc)

    behind_says : (p : PayloadWriter) (b : List ℕ) (a : Result Request Refusal) (r : Receiver) (p₁ : PayloadWriter) (b₁ : List ℕ) → Took s.receiver cfg p b a r p₁ b₁
        → out_of (behind_take a (with_receiver s r) cfg time p₁ b₁ ring)
        ≡ entry (check_of cfg) (payload_valid p (length b)) (refused_out p b) (request_first c (book_of c q e.sent) cfg time p b (wanted_by s.receiver cfg))
    behind_says p b a r p₁ b₁ (settings why k) = rw k
    behind_says p b a r p₁ b₁ (invalid k v) = rw (k, v)
    behind_says p b a r p₁ b₁ (too_large g x w l z) = rw (g.check, g.valid, w, l, z)
    behind_says p b a r p₁ b₁ (no_space g x w l z) = rw (g.check, g.valid, w, l, z)
    behind_says p b a r p₁ b₁ (none_due g _ w d) = let k = sender_wrote p b in rw (g.check, g.valid, w) (cc (k.0, k.1, k.2))
    behind_says p b a r p₁ b₁ (taken g x _ w d k l) = let k = sender_wrote p₁ b₁ in rw (g.check, g.valid, w, l) (cc (k.0, k.1, k.2))

    write_says : (p : PayloadWriter) (b : List ℕ) → out_of (write_answer s cfg time p b ring) ≡ write_out W c (log_of W e.received) (book_of c q e.sent) cfg time p b
    unfolding write_out
    write_says p b =
        let t = receiver.take_answer s.receiver cfg p b in
        let k = receiver_keeps W c q ring₀ least most started s ring e i in
        ap out_of (write_joined s ring (both_valid W c q ring₀ least most started s ring e i) cfg time p b)
        ∙ behind_says p b t.0.answer t.0.receiver t.0.payload t.1 (take_took s.receiver cfg p b k.valid)
        ∙ ap (λ (x : List Packet). entry (check_of cfg) (payload_valid p (length b)) (refused_out p b) (request_first c (book_of c q e.sent) cfg time p b x))
        (wanted_is W s.receiver (log_of W e.received) k cfg)

  -- ---- questions

  deadline_says : deadline_answer s ring ≡ deadline_in W (log_of W e.received) (book_of c q e.sent)
  unfolding receiver_deadline sender_deadline
  deadline_says =
      let k = book_of c q e.sent in
      let g = receiver_keeps W c q ring₀ least most started s ring e i in
      let h = sender_keeps W c q ring₀ least most started s ring e i in
      let n : eqb s.sender.unsent 0 ≡ is_empty k.unwritten = ap (λ (m : ℕ). eqb m 0) h.unsent ∙ none_is k.unwritten in
      deadline_tested W c q ring₀ least most started s ring e i
      ∙ cc (g.timer, n, h.idle)

  wants_says : (time : ℕ) → wants_answer s ring time ≡ Ok (wants_in W (log_of W e.received) (book_of c q e.sent) time)
  unfolding wants_of
  wants_says time =
      let k = book_of c q e.sent in
      let g = receiver_keeps W c q ring₀ least most started s ring e i in
      let h = sender_keeps W c q ring₀ least most started s ring e i in
      let f : Follows c q s.sender ring k = moved i.sender_is i.ring_is (λ (a : Sender) (m : List ℕ). Follows c q a m k) (sender_run c q ring₀ started e.sent i.sender_typed) in
      let n : ltb 0 s.sender.unsent ≡ not (is_empty k.unwritten) = ap (ltb 0) h.unsent ∙ some_is k.unwritten in
      let m : ltb 0 s.sender.queue.len ≡ not (is_empty k.waiting) = ap (ltb 0) (waiting_count c q s.sender ring k f) ∙ some_is k.waiting in
      wants_tested W c q ring₀ least most started s ring e i time ∙ ap Ok (cc (g.due, n, m, h.idle))

  -- ---- one call

  pub call_says : (call : Call) → Typed call → (step_of s ring call).entry ≡ answer_of W c q e call
  unfolding step_of answer_of Receiver.step_of Sender.step_of send_answer request_answer data_answer error_answer nak_answer poll_answer take_answer
  call_says (send_ump cfg ws) l = ap by_sender (sender_says_lem (Sender.queue_words cfg ws) l)
  call_says (on_retransmit_request cfg r) l = ap by_sender (sender_says_lem (Sender.retransmit_request cfg r) l)
  call_says (on_ump_data cfg time seq ws) l = ap by_receiver (receiver_says_lem (Receiver.data_command cfg time seq ws) l)
  call_says (on_retransmit_error err) l = ap by_receiver (receiver_says_lem (Receiver.retransmit_error err) tt)
  call_says on_retransmit_nak l = ap by_receiver (receiver_says_lem Receiver.nak tt)
  call_says (poll cfg time) l = ap by_receiver (receiver_says_lem (Receiver.poll cfg time) tt)
  call_says (write_request cfg p b) l = ap by_receiver (receiver_says_lem (Receiver.take_request cfg p b) tt)
  call_says (write_data cfg time p b) l = ap (λ (o : Out). wrote cfg time p b o.answer o.payload o.bytes) (write_says cfg l time p b)
  call_says next_deadline l = ap deadline deadline_says
  call_says (wants_write time) l = ap (wants time) (wants_says time)
  call_says reset l = ap (λ (x : StreamAnswer ⊤ × List ℕ). was_reset x.0.answer) (reset_is W c q ring₀ least most started s ring e i)

-- ---- all calls

module _ (W c q : ℕ) (ring₀ : List ℕ) (least : 1 ≤ W) (most : W ≤ max_window) (started : Sent.Started c q ring₀) (new : Tied W c q ring₀ (fresh W c q) (replicate c 0) uncalled) where
  from_said : (calls : List Call) (s : DataStream) (ring : List ℕ) (t : List Entry) (e : Ends) → Tied W c q ring₀ s ring e → AllTyped calls → (run_from s ring t calls).log ≡ said_from W c q e t calls
  unfolding run_from said_from
  from_said [] s ring t e i l = refl
  from_said (call ∷ calls) s ring t e i l =
      from_said calls (step_of s ring call).stream (step_of s ring call).ring ((step_of s ring call).entry ∷ t) (ends_after W e call) (step_on W c q ring₀ least most started new s ring e i call l.0) l.1
      ∙ ap (λ (x : Entry). said_from W c q (ends_after W e call) (x ∷ t) calls) (call_says W c q ring₀ least most started s ring e i call l.0)

pub answered : Answered
unfolding run
answered cfg W c q ring₀ done calls l =
    let st = start_is cfg W c q ring₀ done in
    record {
      next = λ call k. call_says W c q ring₀ st.least st.most st.started _ _ (ends_of W calls) (run_tied cfg W c q ring₀ done calls l) call k;
      whole =
          from_said W c q ring₀ st.least st.most st.started (again cfg W c q ring₀ done) calls (new_answer cfg W c q ring₀).0.stream (new_answer cfg W c q ring₀).1 [] uncalled
          (start_tied cfg W c q ring₀ done) l;
    }
