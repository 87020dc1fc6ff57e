-- A poll.
use Prim.Native.Nat.{ℕ, ◌+◌}
use Rattle.std.proofs.Common.{Option, Some, None, Result, Ok, Err}
use Rattle.receiver.specs.declared.receiver.ReceiverAnswer.{ReceiverAnswer}
use Rattle.std.specs.Bool.{⊤}
use mathlib.Core.Path.{◌≡◌, refl, ap, sym, ◌∙◌, subst}
use mathlib.Core.Bool.{Bool, true, false, cond, not, ◌&&◌}
use mathlib.Core.List.{List}
use native.Mathlib.Omega.{arith}
use lib.Dec.{eqb, ltb}
use Rattle.config.specs.Settings.{check_of}
use Rattle.config.specs.declared.refusal.Refusal.{Refusal}
use Rattle.config.specs.declared.settings.StreamConfig.{StreamConfig}
use Rattle.window.specs.Window.{missing_of, missing_span}
use Rattle.receiver.specs.Receiver.{enabled_of, due_after, quiet_of, loss_of, gave_up, polled_at, polled_of}
use Rattle.receiver.specs.Answers.{poll_answer, event_refused}
use Rattle.receiver.specs.declared.receiver.Receiver.{Receiver}
use Rattle.receiver.specs.declared.receiver.RequestTimer.{RequestTimer}
use Rattle.receiver.specs.declared.receiver.StreamEvent.{StreamEvent}
use Rattle.receiver_log.specs.Calls.{poll, Entry, poll_entry, Step, step_of}
use Rattle.receiver_log.specs.Log.{reports}
use Rattle.receiver_log.specs.Spans.{is_none, missing_in, nothing_missing}
use Rattle.receiver_log.specs.Timing.{enabled_in, Tick, waits, asks, gives_up, tick_at, later, ticked, timer_in, due_polled, due_in}
use Rattle.receiver_log.specs.Answers.{poll_event, answer_of}
use Rattle.config.specs.inner.Choices.{never, unless, by_cond}
use Rattle.receiver_log.proofs.Held.{held_quiet}
use Rattle.receiver_log.proofs.SpanIs.{missing_span_lem}
use Rattle.receiver_log.proofs.Follows.{Follows, StepOk, passes, none_missing_lem, quiet_ends, idle, follows_on, follows_same}
use Rattle.receiver_log.proofs.GivingUp.{gave_up_lem}

module _ (r : Receiver) (t : List Entry) (s : StreamConfig) (time : ℕ) (i : Follows r.window.size r t) where
  abbrev W : ℕ
  W = r.window.size

  abbrev step_from : ReceiverAnswer (Option StreamEvent) → Step
  step_from h = record { receiver = h.receiver; entry = poll_entry s time h.answer }

  abbrev Fine : Step → Type 0
  Fine = StepOk W t (poll s time)

  abbrev tick : Tick
  tick = tick_at (enabled_in t s) s time (timer_in W t)

  -- ---- refused

  refused_answer : (why : Refusal) → check_of s ≡ Err why → poll_answer r s time ≡ event_refused r why
  unfolding poll_answer
  refused_answer why e = rw e

  refused_ok : (why : Refusal) → check_of s ≡ Err why → Fine (step_from (event_refused r why))
  unfolding answer_of
  refused_ok why e = record { follows = follows_same W r _ t i refl refl refl refl refl; says = rw e }

  -- ---- polled

  polled_answer : check_of s ≡ Ok tt → poll_answer r s time ≡ polled_at r s time r.timer
  unfolding poll_answer polled_of
  polled_answer e = rw (e, passes r i.held.valid)

  module _ (e : check_of s ≡ Ok tt) where
    answers : (x : Tick) (event : Result (Option StreamEvent) Refusal) → tick ≡ x → event ≡ poll_event (missing_in W (reports t)) x → poll_entry s time event ≡ answer_of W t (poll s time)
    unfolding answer_of
    answers x event k f = ap (poll_entry s time) (f ∙ ap (poll_event (missing_in W (reports t))) (sym k)) ∙ rw e

    waits_ok : tick ≡ waits → Fine (step_from (quiet_of r))
    waits_ok k = record {
      follows = follows_same W r (poll_entry s time (Ok None)) t i refl (ap (ticked s time (timer_in W t)) k) (ap (due_polled (due_in W t)) k) refl refl;
      says = answers waits (Ok None) k refl;
    }

    module _ (k : RequestTimer) (at : r.timer ≡ Some k) where
      running : timer_in W t ≡ Some k
      running = sym i.timer ∙ at

      tick_is : tick ≡ cond (ltb time k.due) waits (cond (ltb k.sent s.max_requests && enabled_of r s) asks gives_up)
      tick_is =
          ap (tick_at (enabled_in t s) s time) running
          ∙ ap (λ (off : Bool). cond (ltb time k.due) waits (cond (ltb k.sent s.max_requests && (s.retransmit && not off)) asks gives_up)) (sym i.refused)

      -- a timer runs only while something is missing
      missing_some : nothing_missing W (reports t) ≡ false
      missing_some =
          unless (nothing_missing W (reports t))
          (λ n. let x : Some k ≡ None = sym running ∙ (idle W t n).0 in let y : ◌≡◌ {A = ℕ} 0 1 = cc in omega arith)

      abbrev asking : Receiver
      asking = record {
        window = r.window;
        timer = Some record { due = due_after s.request_delay_ms (k.sent + 1) time; sent = k.sent + 1 };
        request_due = true;
        refused = r.refused;
        asked = r.asked;
      }

      asks_ok : tick ≡ asks → Fine (step_from (quiet_of asking))
      asks_ok a = record {
        follows =
            follows_on W r.window (poll_entry s time (Ok None)) t (held_quiet i.held) refl _ true r.refused r.asked
            (ap is_none (quiet_ends W (reports t)) ∙ missing_some)
            (sym (ap (ticked s time (timer_in W t)) a ∙ ap (later s time) running)) (sym (ap (due_polled (due_in W t)) a)) i.refused i.asked i.few;
        says = answers asks (Ok None) a refl;
      }

      gives_up_ok : tick ≡ gives_up → Fine (step_from (gave_up r.refused r.window))
      unfolding gave_up
      gives_up_ok a = record {
        follows = gave_up_lem r t i (poll_entry s time (loss_of (missing_span r.window))) r.refused refl i.refused;
        says = answers gives_up (loss_of (missing_span r.window)) a (ap loss_of (missing_span_lem i.held));
      }

      running_ok : Fine (step_from (polled_at r s time (Some k)))
      running_ok =
          by_cond (λ h. Fine (step_from h)) (ltb time k.due) _ _ (λ n. waits_ok (tick_is ∙ rw n))
          (λ n.
          by_cond (λ h. Fine (step_from h)) (eqb (missing_of r.window) 0) _ _
          (λ m. absurd (never (sym (none_missing_lem W i.held refl) ∙ m) missing_some))
          (λ m.
          by_cond (λ h. Fine (step_from h)) (ltb k.sent s.max_requests && enabled_of r s) _ _ (λ a. asks_ok (tick_is ∙ rw (n, a)))
          (λ a. gives_up_ok (tick_is ∙ rw (n, a)))))

    polled_ok : (k : Option RequestTimer) → r.timer ≡ k → Fine (step_from (polled_at r s time k))
    polled_ok None at = waits_ok (ap (tick_at (enabled_in t s) s time) (sym i.timer ∙ at))
    polled_ok (Some k) at = running_ok k at

  pub poll_ok : Fine (step_of r (poll s time))
  unfolding step_of
  poll_ok = go (check_of s) refl
    where
      go : (k : Result ⊤ Refusal) → check_of s ≡ k → Fine (step_from (poll_answer r s time))
      go (Err why) e = subst (λ (h : ReceiverAnswer (Option StreamEvent)). Fine (step_from h)) (sym (refused_answer why e)) (refused_ok why e)
      go (Ok _) e = subst (λ (h : ReceiverAnswer (Option StreamEvent)). Fine (step_from h)) (sym (polled_answer e)) (polled_ok e r.timer refl)
