-- 01, "The runs of demand 3", and demand 3's second sentence, for every list of calls on a fresh receiver of size W.
use Rattle.std.specs.Prelude.{ℕ, ◌+◌, ◌-◌, ◌%◌, ◌≤◌, ◌<◌, ◌≡◌, ◌⊎◌, true, not, List, [], length, Option, Some, None}
use Rattle.window.specs.declared.window.SeqRange.{SeqRange}
use Rattle.config.specs.Entry.{entry}
use Rattle.config.specs.Sequence.{turn}
use Rattle.config.specs.Settings.{check_of, tested}
use Rattle.config.specs.declared.settings.StreamConfig.{StreamConfig}
use Rattle.packet.specs.Write.{valid_of as payload_valid}
use Rattle.packet.specs.declared.writer.PayloadWriter.{PayloadWriter}
use Rattle.command.specs.declared.retransmit.RetransmitError.{RetransmitError}
use Rattle.window.specs.Set.{max_window}
use Rattle.window.specs.Window.{processed, missing_span, request_of}
use Rattle.receiver.specs.Receiver.{valid_of, heard_of, polled_of, error_of, nak_of, taken_of}
use Rattle.receiver.specs.Answers.{data_answer, hearing_refused, poll_answer, event_refused, error_answer, nak_answer, take_answer, request_refused}
use Rattle.receiver.specs.declared.receiver.Receiver.{Receiver}
use Rattle.receiver_log.specs.Calls.{Call, Entry, step_of, run, AllTyped, Typed}
use Rattle.receiver_log.specs.Log.{Report, reports, origin, high, times, lost, unprocessed, Missing}
use Rattle.receiver_log.specs.Spans.{missing_in, request_in}
use Rattle.receiver_log.specs.Timing.{timer_in, due_in, nak_in, asked_in}
use Rattle.receiver_log.specs.Answers.{answer_of, said_of}

-- ---- demand 3, second sentence

-- Each position from 0 to the highest has been handed on at most once, and if not handed on lies in a reported loss or is still missing.
-- Nothing else is handed on.
pub record Promise (W : ℕ) (t : List Report) : Type 0 where
  pub once : (x : ℕ) → origin ≤ x → x ≤ high t → times t x ≤ 1
  pub accounted : (x : ℕ) → origin ≤ x → x ≤ high t → times t x ≡ 0 → (lost t x ≡ true) ⊎ Missing W t x
  pub nothing_before : (x : ℕ) → x < origin → times t x ≡ 0
  pub nothing_above : (x : ℕ) → high t < x → times t x ≡ 0

-- ---- the missing span

-- it reaches from the oldest missing position to the newest
pub data FromTo (W : ℕ) (t : List Report) : Option SeqRange → Type 0 where
  nothing : ((x : ℕ) → Missing W t x → ⊥) → FromTo W t None
  from : (oldest newest : ℕ) → Missing W t oldest → Missing W t newest → ((x : ℕ) → Missing W t x → (oldest ≤ x) × (x ≤ newest))
      → FromTo W t (Some record { first = oldest % turn; count = newest - oldest + 1 })

-- ---- the state

-- the state that is left passes the state test, and is what the log says
pub record Kept (W : ℕ) (r : Receiver) (t : List Entry) : Type 0 where
  pub valid : valid_of r ≡ true
  pub size : r.window.size ≡ W
  pub highest : r.window.highest ≡ high (reports t) % turn
  pub position : (b : ℕ) → b ≤ high (reports t) → processed r.window b ≡ not (unprocessed (reports t) (high (reports t) - b))
  pub missing : missing_span r.window ≡ missing_in W (reports t)
  pub request : request_of r.window ≡ request_in W (reports t)
  pub timer : r.timer ≡ timer_in W t
  pub due : r.request_due ≡ due_in W t
  pub refused : r.refused ≡ nak_in t
  pub asked : r.asked ≡ asked_in W t

-- no call is refused for the receiver's state: what is left are its settings (9, 7, 8) and, for taking a request, the payload
pub record StateTaken (r : Receiver) : Type 0 where
  pub data_command : (s : StreamConfig) (time seq : ℕ) → data_answer r s time seq ≡ tested (check_of s) (hearing_refused r) (heard_of r s time seq)
  pub poll : (s : StreamConfig) (time : ℕ) → poll_answer r s time ≡ tested (check_of s) (event_refused r) (polled_of r s time)
  pub retransmit_error : (e : RetransmitError) → error_answer r e ≡ error_of r e
  pub nak : nak_answer r ≡ nak_of r
  pub take_request : (s : StreamConfig) (p : PayloadWriter) (b : List ℕ)
      → take_answer r s p b
      ≡ entry (check_of s) (payload_valid p (length b)) (request_refused r p b) (taken_of r s p b)

-- ---- the theorems

abbrev pub log_of : ℕ → List Call → List Entry
log_of W calls = (run W calls).log

abbrev pub ReceiverPromise : Type 0
ReceiverPromise = (W : ℕ) → 1 ≤ W → W ≤ max_window → (calls : List Call) → AllTyped calls → Promise W (reports (log_of W calls))

abbrev pub MissingSpan : Type 0
MissingSpan =
    (W : ℕ) → 1 ≤ W → W ≤ max_window → (calls : List Call) → AllTyped calls
    → FromTo W (reports (log_of W calls)) (missing_span (run W calls).receiver.window)

abbrev pub Reached : Type 0
Reached = (W : ℕ) → 1 ≤ W → W ≤ max_window → (calls : List Call) → AllTyped calls → Kept W (run W calls).receiver (log_of W calls)

abbrev pub NeverInvalid : Type 0
NeverInvalid = (W : ℕ) → 1 ≤ W → W ≤ max_window → (calls : List Call) → AllTyped calls → StateTaken (run W calls).receiver

-- each answer, and with it the whole log, is settled by the past calls
pub record AnsweredIn (W : ℕ) (calls : List Call) : Type 0 where
  pub next : (c : Call) → Typed c → (step_of (run W calls).receiver c).entry ≡ answer_of W (log_of W calls) c
  pub whole : log_of W calls ≡ said_of W [] calls

abbrev pub Answered : Type 0
Answered = (W : ℕ) → 1 ≤ W → W ≤ max_window → (calls : List Call) → AllTyped calls → AnsweredIn W calls
