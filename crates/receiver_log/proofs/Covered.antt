-- What the theorems are said of: every call, with any arguments of its types, every list of them, and every window.
use Prim.Native.Nat.{ℕ, ◌+◌, ◌≤◌, ◌<◌}
use Rattle.std.proofs.Common.{None, Ok}
use mathlib.Core.Path.{◌≡◌, ap, ◌∙◌}
use mathlib.Core.Bool.{true, false, not}
use mathlib.Core.List.{List, [], ◌∷◌}
use native.Mathlib.Omega.{arith}
use lib.ListN.{length}
use Rattle.config.specs.declared.settings.StreamConfig.{StreamConfig}
use Rattle.packet.specs.declared.writer.PayloadWriter.{PayloadWriter}
use Rattle.command.specs.declared.retransmit.RetransmitError.{RetransmitError}
use Rattle.window.specs.Window.{missing_span}
use Rattle.window.specs.declared.window.Class.TheVariants.{New}
use Rattle.receiver.specs.Receiver.{fresh_of, loss_of, restarts}
use Rattle.receiver.specs.Answers.{data_answer}
use Rattle.receiver.specs.declared.receiver.Delivery.{Delivery}
use Rattle.receiver.specs.declared.receiver.Receiver.{Receiver}
use Rattle.receiver_log.specs.Calls.{Call, data_command, poll, retransmit_error, nak, take_request, Entry, data_entry, step_of, run_from, run, AllTyped}
use Rattle.receiver_log.specs.Log.{reports}
use Rattle.receiver_log.specs.Spans.{missing_in}
use Rattle.receiver_log.specs.Timing.{nak_in, timer_in}
use Rattle.receiver_log.specs.RequestTimes.{polls_of, requests_from, RequestTimes}
use Rattle.receiver_log.specs.Promise.{Promise, FromTo, Kept, StateTaken, AnsweredIn, ReceiverPromise, MissingSpan, Reached, NeverInvalid, Answered, log_of}

pub every_call : (s : StreamConfig) (time seq : ℕ) (ws : List ℕ) (e : RetransmitError) (p : PayloadWriter) (b : List ℕ)
    → seq < 65536 → AllTyped (data_command s time seq ws ∷ poll s time ∷ retransmit_error e ∷ nak ∷ take_request s p b ∷ [])
every_call s time seq ws e p b l = (l, (tt, (tt, (tt, (tt, tt)))))

-- each theorem holds of each list of calls and each window of 1 to 128, and asks nothing else
pub every_window : (W : ℕ) → 1 ≤ W → W ≤ 128 → (calls : List Call) → AllTyped calls
    → (ReceiverPromise → Promise W (reports (log_of W calls)))
    × (MissingSpan → FromTo W (reports (log_of W calls)) (missing_span (run W calls).receiver.window))
    × (Reached → Kept W (run W calls).receiver (log_of W calls))
    × (NeverInvalid → StateTaken (run W calls).receiver)
    × (Answered → AnsweredIn W calls)
every_window W m n calls l = (λ t. t W m n calls l, λ t. t W m n calls l, λ t. t W m n calls l, λ t. t W m n calls l, λ t. t W m n calls l)

-- and the log holds each call, refused ones too
log_length : (calls : List Call) (r : Receiver) (t : List Entry) → length (run_from r t calls).log ≡ length calls + length t
unfolding run_from
log_length [] r t = omega arith
log_length (c ∷ calls) r t = log_length calls (step_of r c).receiver ((step_of r c).entry ∷ t) ∙ omega arith

pub every_entry : (W : ℕ) (calls : List Call) → length (log_of W calls) ≡ length calls
unfolding run
every_entry W calls = log_length calls (fresh_of W) [] ∙ omega arith

-- the defaults, but for D and M
abbrev asking : ℕ → ℕ → StreamConfig
asking D M =
    record { idle_interval_ms = 100; idle_growth = 2; idle_further = 5; fec_repeats = 2; retransmit = true; request_delay_ms = D; max_requests = M; max_command_words = 64 }

-- every arriving gap, of any size, with any settings that pass, whatever D and M, after every list of calls
pub every_gap : RequestTimes → (W : ℕ) → 1 ≤ W → W ≤ 128 → (calls : List Call) → AllTyped calls → (D M time seq : ℕ) → seq < 65536 → (d : Delivery) (gap : ℕ)
    → (let cfg = asking D M in
    let a = data_answer (run W calls).receiver cfg time seq in
    a.answer ≡ Ok d → d.class ≡ New (gap + 1) → nak_in (log_of W calls) ≡ false → timer_in W (log_of W calls) ≡ None
    → polls_of (M + 1) cfg a.receiver ≡ requests_from D 0 M time (loss_of (missing_in W (reports (data_entry cfg time seq [] (Ok d) ∷ log_of W calls)))))
every_gap p W l m calls typed D M time seq few d gap answered class none stopped =
    p W l m calls typed (asking D M) time seq [] few d (gap + 1) (M + 1) answered class (omega arith) (ap not none) (ap restarts stopped) (omega arith)
