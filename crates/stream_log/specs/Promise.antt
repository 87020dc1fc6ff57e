-- What holds of every list of calls on a fresh stream with a window of W, a history of c words and q places for requests, resets included: of each end, what its
-- log crate proves of its own calls since the start or the last reset.
use Rattle.std.specs.Prelude.{ℕ, ◌≡◌, true, false, ◌||◌, List, [], ◌++◌, length, replicate, Ok}
use Rattle.config.specs.Entry.{entry}
use Rattle.config.specs.Settings.{check_of}
use Rattle.config.specs.declared.settings.StreamConfig.{StreamConfig}
use Rattle.packet.specs.Layout.{Packet}
use Rattle.packet.specs.Write.{valid_of as payload_valid}
use Rattle.packet.specs.declared.writer.PayloadWriter.{PayloadWriter}
use Rattle.window.specs.Window.{missing_span}
use Rattle.receiver.specs.Receiver.{deadline_of as receiver_deadline}
use Rattle.receiver_log.specs.Calls as Receiver
use Rattle.receiver_log.specs.Log.{reports}
use Rattle.receiver_log.specs.Timing.{due_in}
use Rattle.receiver_log.specs.Promise.{log_of}
use Rattle.receiver_log.specs.Promise as Received
use Rattle.sender.specs.Requests.{deadline_of as sender_deadline, wants_of}
use Rattle.sender_log.specs.Calls.{TypedConfig}
use Rattle.sender_log.specs.Calls as Sender
use Rattle.sender_log.specs.Answers.{book_of}
use Rattle.sender_log.specs.Promise.{NoRoom, next_in}
use Rattle.sender_log.specs.Promise as Sent
use Rattle.sender_log.specs.Past.{past_of, HeldIn}
use Rattle.stream.specs.State.{valid_of, fresh}
use Rattle.stream.specs.Answers.{new_answer, reset_answer, earlier, deadline_answer, wants_answer}
use Rattle.stream.specs.Writing.{write_refused, data_written, write_answer}
use Rattle.stream.specs.declared.stream.DataStream.{DataStream}
use Rattle.stream_log.specs.Calls.{Call, send_ump, on_retransmit_request, on_ump_data, on_retransmit_error, on_retransmit_nak, poll, write_request, write_data, next_deadline, wants_write, reset, step_of, run, Typed, AllTyped}
use Rattle.stream_log.specs.Refusals.{number_in}
use Rattle.stream_log.specs.Ends.{Ends, uncalled, ends_after, ends_of}
use Rattle.stream_log.specs.Answers.{request_wanted, answer_of, said_from}

-- a start that isn't refused
abbrev pub Started : StreamConfig → ℕ → ℕ → ℕ → List ℕ → Type 0
Started cfg W c q ring₀ = (new_answer cfg W c q ring₀).0.answer ≡ Ok tt

-- ---- the state

-- each end is what its own calls leave, passes the state test, and is what those calls say
pub record Kept (W c q : ℕ) (ring₀ : List ℕ) (s : DataStream) (ring : List ℕ) (e : Ends) : Type 0 where
  pub receiver : s.receiver ≡ (Receiver.run W e.received).receiver
  pub sender : s.sender ≡ (Sender.run c q ring₀ e.sent).sender
  pub history : ring ≡ (Sender.run c q ring₀ e.sent).ring
  pub receiver_typed : Receiver.AllTyped e.received
  pub sender_typed : Sender.AllTyped e.sent
  pub valid : valid_of s ring ≡ true
  pub receiver_kept : Received.Kept W s.receiver (log_of W e.received)
  pub sender_kept : Sent.Kept c q s.sender ring (book_of c q e.sent)
  pub sender_held : HeldIn c s.sender ring (past_of c q ring₀ e.sent)

abbrev pub Reached : Type 0
Reached =
    (cfg : StreamConfig) (W c q : ℕ) (ring₀ : List ℕ) → Started cfg W c q ring₀ → (calls : List Call) → AllTyped calls
    → (let u = run cfg W c q ring₀ calls in Kept W c q ring₀ u.stream u.ring (ends_of W calls))

-- ---- no call is refused for the stream's state

-- with a payload that is valid, where the call is given one
abbrev pub GivenValid : Call → Type 0
GivenValid (send_ump cfg ws) = Unit {0}
GivenValid (on_retransmit_request cfg r) = Unit {0}
GivenValid (on_ump_data cfg time seq ws) = Unit {0}
GivenValid (on_retransmit_error err) = Unit {0}
GivenValid on_retransmit_nak = Unit {0}
GivenValid (poll cfg time) = Unit {0}
GivenValid (write_request cfg p b) = payload_valid p (length b) ≡ true
GivenValid (write_data cfg time p b) = payload_valid p (length b) ≡ true
GivenValid next_deadline = Unit {0}
GivenValid (wants_write time) = Unit {0}
GivenValid reset = Unit {0}

pub record StateTaken (W c q : ℕ) (s : DataStream) (ring : List ℕ) : Type 0 where
  -- 13 is no call's answer
  pub never : (call : Call) → Typed call → GivenValid call → number_in (step_of s ring call).entry ≡ 13 → ⊥
  -- and each answer is what the call's definition says behind its tests: of one end, that end's
  pub of_sender : Sent.StateTaken s.sender ring
  pub of_receiver : Received.StateTaken s.receiver
  pub write_data : (cfg : StreamConfig) (time : ℕ) (p : PayloadWriter) (b : List ℕ)
      → write_answer s cfg time p b ring
      ≡ entry (check_of cfg) (payload_valid p (length b)) (write_refused s p b ring) (data_written s cfg time p b ring)
  pub next_deadline : deadline_answer s ring ≡ earlier (receiver_deadline s.receiver) (sender_deadline s.sender)
  pub wants_write : (time : ℕ) → wants_answer s ring time ≡ Ok (s.receiver.request_due || wants_of s.sender time)
  -- a reset leaves exactly a fresh stream
  pub reset : reset_answer s ring ≡ (record { stream = fresh W c q; answer = Ok tt }, replicate c 0)

abbrev pub NeverInvalid : Type 0
NeverInvalid =
    (cfg : StreamConfig) (W c q : ℕ) (ring₀ : List ℕ) → Started cfg W c q ring₀ → (calls : List Call) → AllTyped calls
    → (let u = run cfg W c q ring₀ calls in StateTaken W c q u.stream u.ring)

-- ---- answers

-- each answer, and with it the whole log, is settled by the past calls
pub record AnsweredIn (cfg : StreamConfig) (W c q : ℕ) (ring₀ : List ℕ) (calls : List Call) : Type 0 where
  pub next : (call : Call) → Typed call → (let u = run cfg W c q ring₀ calls in (step_of u.stream u.ring call).entry ≡ answer_of W c q (ends_of W calls) call)
  pub whole : (run cfg W c q ring₀ calls).log ≡ said_from W c q uncalled [] calls

abbrev pub Answered : Type 0
Answered =
    (cfg : StreamConfig) (W c q : ℕ) (ring₀ : List ℕ) → Started cfg W c q ring₀ → (calls : List Call) → AllTyped calls → AnsweredIn cfg W c q ring₀ calls

-- ---- "more"

-- the next command in order: a due request, then the sender's
abbrev pub next_of : ℕ → ℕ → ℕ → Ends → StreamConfig → List Packet
next_of W c q e cfg = request_wanted W (log_of W e.received) cfg ++ next_in (book_of c q e.sent)

-- A write answers "more" exactly when a command is left that doesn't fit; without it nothing is left.
pub record MoreRight (W c q : ℕ) (s : DataStream) (ring : List ℕ) (e : Ends) : Type 0 where
  pub more : (cfg : StreamConfig) → TypedConfig cfg → (time : ℕ) (p : PayloadWriter) (b : List ℕ) (n : ℕ)
      → (let w = write_answer s cfg time p b ring in w.0.answer ≡ Ok record { commands = n; more = true }
      → NoRoom w.0.payload w.1 (next_of W c q (ends_after W e (write_data cfg time p b)) cfg))
  pub no_more : (cfg : StreamConfig) → TypedConfig cfg → (time : ℕ) (p : PayloadWriter) (b : List ℕ) (n : ℕ)
      → (write_answer s cfg time p b ring).0.answer ≡ Ok record { commands = n; more = false }
      → (let e' = ends_after W e (write_data cfg time p b) in
      (due_in W (log_of W e'.received) ≡ false) × ((book_of c q e'.sent).waiting ≡ []) × ((book_of c q e'.sent).unwritten ≡ []))

abbrev pub More : Type 0
More =
    (cfg : StreamConfig) (W c q : ℕ) (ring₀ : List ℕ) → Started cfg W c q ring₀ → (calls : List Call) → AllTyped calls
    → (let u = run cfg W c q ring₀ calls in MoreRight W c q u.stream u.ring (ends_of W calls))

-- ---- demand 3, second sentence

-- Each position from 0 to the highest, since the start or the last reset, is handed on at most once, and if not handed on lies in a reported loss or is still missing;
-- the missing span reaches from the oldest of these to the newest.
pub record Accounted (W : ℕ) (s : DataStream) (e : Ends) : Type 0 where
  pub promise : Received.Promise W (reports (log_of W e.received))
  pub span : Received.FromTo W (reports (log_of W e.received)) (missing_span s.receiver.window)

abbrev pub StreamPromise : Type 0
StreamPromise =
    (cfg : StreamConfig) (W c q : ℕ) (ring₀ : List ℕ) → Started cfg W c q ring₀ → (calls : List Call) → AllTyped calls
    → Accounted W (run cfg W c q ring₀ calls).stream (ends_of W calls)
