-- 01, "Position, window, loss": a new gap starts the request timer at D; each poll at or after the due time makes a request due and sets the next delay, 2D, 4D and on,
-- the power capped at 2^32; after M requests it reports the missing span. Times add with saturation at 2^64-1.
use Rattle.std.specs.Prelude.{ℕ, zero, suc, ◌+◌, ◌*◌, ◌^◌, ◌≤◌, ◌<◌, min, ◌≡◌, Bool, true, false, List, [], ◌∷◌, Option, Some, None, Result, Ok}
use Rattle.config.specs.declared.refusal.Refusal.{Refusal}
use Rattle.receiver.specs.declared.receiver.RequestTimer.{RequestTimer}
use Rattle.config.specs.Sequence.{turn}
use Rattle.config.specs.Time.{later}
use Rattle.config.specs.declared.settings.StreamConfig.{StreamConfig}
use Rattle.window.specs.Set.{max_window}
use Rattle.window.specs.declared.window.Class.TheVariants.{New}
use Rattle.receiver.specs.Receiver.{loss_of, restarts}
use Rattle.receiver.specs.Answers.{data_answer, poll_answer}
use Rattle.receiver.specs.declared.receiver.Delivery.{Delivery}
use Rattle.receiver.specs.declared.receiver.Receiver.{Receiver}
use Rattle.receiver.specs.declared.receiver.StreamEvent.{StreamEvent}
use Rattle.receiver_log.specs.Calls.{Call, data_entry, run, AllTyped}
use Rattle.receiver_log.specs.Log.{reports}
use Rattle.receiver_log.specs.Spans.{missing_in}
use Rattle.receiver_log.specs.Timing.{timer_in, enabled_in}
use Rattle.receiver_log.specs.Promise.{log_of}

-- a poll: its time, what it reports, and whether a request is due after it
pub record Poll : Type 0 where
  pub time : ℕ
  pub event : (Result (Option StreamEvent) Refusal)
  pub due : Bool

abbrev pub polled : ℕ → Result (Option StreamEvent) Refusal → Bool → Poll
polled time event due = record { time = time; event = event; due = due }

-- ---- a receiver that is polled at each due time, with nothing arriving, in at most so many polls

abbrev pub at_due : Option RequestTimer → (ℕ → List Poll) → List Poll
at_due None go = []
at_due (Some k) go = go k.due

unfoldable pub polls_of : ℕ → StreamConfig → Receiver → List Poll
polls_of zero cfg r = []
polls_of (suc f) cfg r =
    at_due r.timer (λ due.
    let a = poll_answer r cfg due in
    polled due a.answer a.receiver.request_due ∷ polls_of f cfg a.receiver)

-- ---- the times

-- the i-th delay: D, 2D, 4D and on
abbrev pub delayed : ℕ → ℕ → ℕ → ℕ
delayed D i time = later time (D * 2 ^ min i 32)

-- k requests, the first one the i-th delay after `time`, each one delay after the last; and then the report
unfoldable pub requests_from : ℕ → ℕ → ℕ → ℕ → Result (Option StreamEvent) Refusal → List Poll
requests_from D i zero time loss = polled (delayed D i time) loss false ∷ []
requests_from D i (suc k) time loss = polled (delayed D i time) (Ok None) true ∷ requests_from D (i + 1) k (delayed D i time) loss

-- A data command that is answered New with a gap at `time`, requests enabled, when no timer runs or when the running one has made a request due; then silence:
-- M requests, then the missing span as a loss, then no further due time.
abbrev pub RequestTimes : Type 0
RequestTimes =
    (W : ℕ) → 1 ≤ W → W ≤ max_window → (calls : List Call) → AllTyped calls → (cfg : StreamConfig) (time seq : ℕ) (ws : List ℕ) → seq < turn
    → (let t = log_of W calls in
    let a = data_answer (run W calls).receiver cfg time seq in
    (d : Delivery) (gap f : ℕ) → a.answer ≡ Ok d → d.class ≡ New gap → 0 < gap
    → enabled_in t cfg ≡ true → restarts (timer_in W t) ≡ true → cfg.max_requests + 1 ≤ f
    → polls_of f cfg a.receiver
    ≡ requests_from cfg.request_delay_ms 0 cfg.max_requests time (loss_of (missing_in W (reports (data_entry cfg time seq ws (Ok d) ∷ t)))))
