-- No call is refused with 13 for the stream's state: where settings, words and payloads refuse, 13 is a payload's alone.
use Prim.Native.Nat.{ℕ, ◌-◌}
use Rattle.std.proofs.Common.{Option, Some, None, Result, Ok, Err}
use Rattle.idle.specs.declared.idle.Idle.{Idle}
use Rattle.receiver.specs.declared.receiver.RequestTimer.{RequestTimer}
use Rattle.writing.specs.declared.writing.Written.{Written}
use Rattle.std.specs.Bool.{⊤}
use mathlib.Core.Path.{◌≡◌, refl, subst}
use mathlib.Core.Logic.{inl, inr}
use mathlib.Core.Bool.{Bool, true, false, cond, not, ◌&&◌}
use mathlib.Core.List.{List, [], ◌∷◌, ◌++◌}
use lib.Dec.{ltb, leb, eqb}
use lib.ListN.{length}
use borrow.Author.Tests.{eqb-false}
use Rattle.config.specs.Range.{outside}
use Rattle.config.specs.Refusals.{number_of, outcome_number}
use Rattle.config.specs.Settings.{check_of, tested}
use Rattle.config.specs.declared.refusal.Refusal.{Refusal}
use Rattle.config.specs.declared.refusal.Refusal.TheVariants.{TooLarge, InvalidUmpData, IdleInterval, IdleGrowth, CommandWords}
use Rattle.config.specs.declared.settings.StreamConfig.{StreamConfig}
use Rattle.config.specs.inner.Tests.{split}
use Rattle.packet.specs.Layout.{Packet}
use Rattle.packet.specs.Write.{done_of, placed_of, valid_of as payload_valid}
use Rattle.packet.specs.declared.writer.PayloadWriter.{PayloadWriter}
use Rattle.command.specs.Messages.{whole_of}
use Rattle.command.specs.Write.{request_packet}
use Rattle.command.specs.declared.retransmit.RetransmitRequest.{RetransmitRequest}
use Rattle.command.specs.declared.retransmit.RetransmitError.{RetransmitError}
use Rattle.window.specs.declared.window.SeqRange.{SeqRange}
use Rattle.history.specs.Entries.{size}
use Rattle.history.specs.Queue.{asks as pending}
use Rattle.history.specs.declared.queue.Ignored.TheVariants.{Pending, Full as NoPlace}
use Rattle.rows.specs.Rows.{fit_all}
use Rattle.receiver.specs.Receiver.{loss_of, deadline_at, error_event}
use Rattle.receiver.specs.declared.receiver.Delivery.{Delivery}
use Rattle.receiver.specs.declared.receiver.Request.TheVariants.{Nothing as NotDue}
use Rattle.receiver_log.specs.Log.{Report, reports}
use Rattle.receiver_log.specs.Spans.{missing_in, request_in, asked_for}
use Rattle.receiver_log.specs.Timing.{Tick, waits, asks, gives_up, tick_at, timer_in, due_in, enabled_in, asked_in}
use Rattle.receiver_log.specs.Calls as Receiver
use Rattle.receiver_log.specs.Answers.{delivery_in, poll_event, error_in, nak_event, offered, take_in, answer_of as receiver_answer}
use Rattle.receiver_log.specs.Promise.{log_of}
use Rattle.fronts.specs.Commands.{above}
use Rattle.sender.specs.Queueing.{words_check}
use Rattle.sender.specs.Requests.{due_at}
use Rattle.sender.specs.declared.sender.RequestOutcome.TheVariants.{Queued, Ignored, Error, NotSupported}
use Rattle.sender_log.specs.Book.{Book, need_in, sent_in, absent_in, error_in as absent_error, with_waiting, RequestIn, requested_in}
use Rattle.sender_log.specs.Writes.{new_in, served_in, is_empty, idled_in, new_by, new_written, written_in, write_in}
use Rattle.sender_log.specs.Answers.{told_of, book_of}
use Rattle.stream.specs.Answers.{earlier}
use Rattle.stream.specs.Writing.{counted_also}
use Rattle.stream_log.specs.Calls.{Call, send_ump, on_retransmit_request, on_ump_data, on_retransmit_error, on_retransmit_nak, poll, write_request, write_data, next_deadline, wants_write, reset, Entry, by_receiver, run}
use Rattle.stream_log.specs.Refusals.{request_number, hearing_number, event_number, write_number, deadline_number, number_in}
use Rattle.stream_log.specs.Ends.{Ends, ends_of}
use Rattle.stream_log.specs.Answers.{as_command, request_first, request_wanted, write_out, answer_of}
use Rattle.stream_log.specs.Promise.{GivenValid, NeverInvalid}
use Rattle.stream_log.proofs.Taking.{left, one_left, one_written, one_valid}
use Rattle.stream_log.proofs.Runs.{start_is, state_taken, run_tied}
use Rattle.stream_log.proofs.Answering.{call_says}

-- ---- tests

abbrev Other : ℕ → Type 0
Other n = n ≡ 13 → ⊥

other : (n : ℕ) → eqb n 13 ≡ false → Other n
other n t = eqb-false n 13 t

none : Other 0
none = other 0 refl

data Tested (k : Result ⊤ Refusal) : Type 0 where
  passes : k ≡ Ok tt → Tested k
  refuses : (why : Refusal) → k ≡ Err why → Other (number_of why) → Tested k

check_tested : (o : Bool) (why : Refusal) (k : Result ⊤ Refusal) → Other (number_of why) → Tested k → Tested (cond o (Err why) k)
check_tested true why k f g = refuses why refl f
check_tested false why k f g = g

settings_tested : (cfg : StreamConfig) → Tested (check_of cfg)
unfolding check_of
settings_tested cfg =
    check_tested (outside 1 64 cfg.max_command_words) CommandWords _ (other 9 refl)
    (check_tested (outside 1 300 cfg.idle_interval_ms) IdleInterval _ (other 7 refl) (check_tested (eqb cfg.idle_growth 0) IdleGrowth (Ok tt) (other 8 refl) (passes refl)))

words_tested : (max : ℕ) (ws : List ℕ) → Tested (words_check max ws)
unfolding words_check
words_tested max ws = check_tested (not (whole_of ws)) InvalidUmpData _ (other 5 refl) (check_tested (above max ws) TooLarge (Ok tt) (other 3 refl) (passes refl))

-- ---- the sender's calls

send_other : (c : ℕ) (k : Book) (cfg : StreamConfig) (ws : List ℕ) → Other (outcome_number (sent_in c k cfg ws).answer)
unfolding sent_in
send_other c k cfg ws = elim (settings_tested cfg) [
  | refuses why e h ↦ rw e h
  | passes e ↦ elim (split (eqb (length ws) 0)) [
    | inl z ↦ rw (e, z) none
    | inr z ↦ elim (words_tested cfg.max_command_words ws) [
      | refuses why w h ↦ rw (e, z, w) h
      | passes w ↦ elim (split (ltb (c - size k.unwritten) (need_in cfg.max_command_words ws k))) [ inl f ↦ rw (e, z, w, f) (other 6 refl) | inr f ↦ rw (e, z, w, f) none ]
    ]
  ]
]

request_other : (q : ℕ) (k : Book) (cfg : StreamConfig) (r : RetransmitRequest) → Other (request_number (requested_in q k cfg r).outcome)
unfolding requested_in
request_other q k cfg r = elim (settings_tested cfg) [
  | refuses why e h ↦ rw e h
  | passes e ↦ rw e (by (not cfg.retransmit) (absent_in k r.seq) (pending k.waiting r.seq) (leb q (length k.waiting)))
]
  where
    by : (off absent asked full : Bool)
        → Other (request_number (cond {A = RequestIn} off (record { book = k; outcome = Ok NotSupported })
        (cond absent (record { book = k; outcome = Ok (Error (absent_error k)) })
        (cond asked (record { book = k; outcome = Ok (Ignored Pending) })
        (cond full (record { book = k; outcome = Ok (Ignored NoPlace) })
        (record { book = with_waiting k (k.waiting ++ (r ∷ [])); outcome = Ok Queued }))))).outcome)
    by true absent asked full = none
    by false true asked full = none
    by false false true full = none
    by false false false true = none
    by false false false false = none

-- into a valid payload
new_other : (cfg : StreamConfig) (time n : ℕ) (k : Book) (p : PayloadWriter) (b : List ℕ) (cs : List Packet) → Other (write_number (new_by cfg time n k p b cs).answer)
new_other cfg time n k p b [] = none
new_other cfg time n k p b (first ∷ others) = elim (split (fit_all p b (first ∷ []))) [
  | inl f ↦ rw f none
  | inr f ↦ elim (split (eqb p.len 0)) [ inl z ↦ rw (f, z) (other 3 refl) | inr z ↦ rw (f, z) none ]
]

write_other : (c : ℕ) (cfg : StreamConfig) (time : ℕ) (k : Book) (p : PayloadWriter) (b : List ℕ) → payload_valid p (length b) ≡ true → Other (write_number (write_in c cfg time k p b).answer)
unfolding write_in written_in new_written
write_other c cfg time k p b v =
    let s = served_in k k.waiting p b in
    let d : Book = idled_in c cfg time (with_waiting k s.waiting) in
    elim (settings_tested cfg) [
      | refuses why e h ↦ rw e h
      | passes e ↦ elim (split s.more) [ inl m ↦ rw (e, v, m) none | inr m ↦ rw (e, v, m) (new_other cfg time s.commands d s.payload s.bytes (new_in d)) ]
    ]

-- ---- the receiver's calls

hear_other : (cfg : StreamConfig) (d : Delivery) → Other (hearing_number (tested (check_of cfg) Err (Ok d)))
hear_other cfg d = elim (settings_tested cfg) [ refuses why e h ↦ rw e h | passes e ↦ rw e none ]

loss_other : (s : Option SeqRange) → Other (event_number (loss_of s))
loss_other None = none
loss_other (Some range) = none

tick_other : (s : Option SeqRange) (t : Tick) → Other (event_number (poll_event s t))
tick_other s waits = none
tick_other s asks = none
tick_other s gives_up = loss_other s

poll_other : (cfg : StreamConfig) (s : Option SeqRange) (t : Tick) → Other (event_number (tested (check_of cfg) Err (poll_event s t)))
poll_other cfg s t = elim (settings_tested cfg) [ refuses why e h ↦ rw e h | passes e ↦ rw e (tick_other s t) ]

error_other : (W : ℕ) (t : List Report) (err : RetransmitError) (a : Option RetransmitRequest) → Other (event_number (error_in W t err a))
error_other W t err None = none
error_other W t err (Some q) = by (asked_for W t q)
  where
    by : (s : Option SeqRange) → Other (event_number (error_event err s))
    by None = none
    by (Some range) = none

nak_other : (s : Option SeqRange) (a : Option RetransmitRequest) → Other (event_number (nak_event s a))
nak_other s None = none
nak_other s (Some q) = loss_other s

abbrev as_request : SeqRange → Packet
as_request range = request_packet record { seq = range.first; count = range.count }

module _ (cfg : StreamConfig) (p : PayloadWriter) (b : List ℕ) (v : payload_valid p (length b) ≡ true) where
  offered_other : (s : Option SeqRange) → Other (number_in (by_receiver (offered cfg p b s)))
  offered_other None = none
  offered_other (Some range) = elim (split (left p b (as_request range))) [
    | inl l ↦ elim (split (eqb p.len 0)) [ inl z ↦ rw (one_left p b v (as_request range) l, z) (other 3 refl) | inr z ↦ rw (one_left p b v (as_request range) l, z) none ]
    | inr l ↦ rw (one_written p b v (as_request range) l refl) none
  ]

  take_other : (o : Bool) (s : Option SeqRange) → Other (number_in (by_receiver (take_in cfg p b o s)))
  take_other o s = elim (settings_tested cfg) [ refuses why e h ↦ rw e h | passes e ↦ rw (e, v) (by o) ]
    where
      by : (o : Bool) → Other (number_in (by_receiver (cond o (offered cfg p b s) (Receiver.take_entry cfg p b (Ok NotDue) p b))))
      by true = offered_other s
      by false = none

-- ---- a stream's

counted_other : (n : ℕ) (a : Result Written Refusal) → Other (write_number a) → Other (write_number (counted_also n a))
counted_other n (Ok w) h = h
counted_other n (Err why) h = h

module _ (c : ℕ) (k : Book) (cfg : StreamConfig) (time : ℕ) (p : PayloadWriter) (b : List ℕ) (v : payload_valid p (length b) ≡ true) where
  first_other : (s : Option SeqRange) → Other (write_number (request_first c k cfg time p b (as_command s)).answer)
  first_other None = counted_other 0 (write_in c cfg time k p b).answer (write_other c cfg time k p b v)
  first_other (Some range) =
      let r = as_request range in
      elim (split (left p b r)) [
        | inl l ↦ elim (split (eqb p.len 0)) [ inl z ↦ rw (l, z) (other 3 refl) | inr z ↦ rw (l, z) none ]
        | inr l ↦
            let q = (done_of p r).payload in
            rw (l, one_written p b v r l refl) (counted_other 1 (write_in c cfg time k q (placed_of p b r)).answer (write_other c cfg time k q (placed_of p b r) (one_valid p b v r l refl)))
      ]

  out_other : (W : ℕ) (t : List Receiver.Entry) → Other (write_number (write_out W c t k cfg time p b).answer)
  unfolding write_out request_wanted
  out_other W t = elim (settings_tested cfg) [
    | refuses why e h ↦ rw e h
    | passes e ↦ elim (split (due_in W t && enabled_in t cfg)) [ inl o ↦ rw (e, v, o) (first_other (request_in W (reports t))) | inr o ↦ rw (e, v, o) (first_other None) ]
  ]

deadline_other : (t : Option RequestTimer) (o : Bool) (i : Option Idle) → Other (deadline_number (earlier (deadline_at t) (cond o (due_at i) (Ok None))))
deadline_other None true None = none
deadline_other None true (Some x) = none
deadline_other None false i = none
deadline_other (Some k) true None = none
deadline_other (Some k) true (Some x) = none
deadline_other (Some k) false i = none

-- ---- all calls

module _ (W c q : ℕ) (e : Ends) where
  abbrev t : List Receiver.Entry
  t = log_of W e.received

  abbrev k : Book
  k = book_of c q e.sent

  answer_other : (call : Call) → GivenValid call → number_in (answer_of W c q e call) ≡ 13 → ⊥
  unfolding answer_of receiver_answer told_of
  answer_other (send_ump cfg ws) g = send_other c k cfg ws
  answer_other (on_retransmit_request cfg r) g = request_other q k cfg r
  answer_other (on_ump_data cfg time seq ws) g = hear_other cfg (delivery_in W (reports t) seq)
  answer_other (on_retransmit_error err) g = error_other W (reports t) err (asked_in W t)
  answer_other on_retransmit_nak g = nak_other (missing_in W (reports t)) (asked_in W t)
  answer_other (poll cfg time) g = poll_other cfg (missing_in W (reports t)) (tick_at (enabled_in t cfg) cfg time (timer_in W t))
  answer_other (write_request cfg p b) g = take_other cfg p b g (due_in W t && enabled_in t cfg) (request_in W (reports t))
  answer_other (write_data cfg time p b) g = out_other c k cfg time p b g W t
  answer_other next_deadline g = deadline_other (timer_in W t) (is_empty k.unwritten) k.idle
  answer_other (wants_write time) g = none
  answer_other reset g = none

-- ---- the theorem

pub never_invalid : NeverInvalid
never_invalid cfg W c q ring₀ done calls l =
    let st = start_is cfg W c q ring₀ done in
    let u = run cfg W c q ring₀ calls in
    let e = ends_of W calls in
    let i = run_tied cfg W c q ring₀ done calls l in
    state_taken W c q ring₀ st.least st.most st.started u.stream u.ring e i
    (λ call k g n. answer_other W c q e call g (subst (λ (x : Entry). number_in x ≡ 13) (call_says W c q ring₀ st.least st.most st.started u.stream u.ring e i call k) n))
