-- A data command.
use Prim.Native.Nat.{ℕ, ◌<◌}
use Rattle.std.proofs.Common.{Option, Some, Result, Ok, Err}
use Rattle.receiver.specs.declared.receiver.Delivery.{Delivery}
use Rattle.receiver.specs.declared.receiver.ReceiverAnswer.{ReceiverAnswer}
use Rattle.receiver.specs.declared.receiver.RequestTimer.{RequestTimer}
use Rattle.window.specs.declared.window.SeqRange.{SeqRange}
use Rattle.std.specs.Bool.{⊤}
use mathlib.Core.Path.{◌≡◌, refl, sym, ◌∙◌, subst}
use mathlib.Core.Bool.{false, not, ◌&&◌}
use mathlib.Core.List.{List, ◌∷◌}
use lib.Dec.{eqb}
use Rattle.config.specs.Sequence.{turn}
use Rattle.config.specs.Settings.{check_of}
use Rattle.config.specs.declared.refusal.Refusal.{Refusal}
use Rattle.config.specs.declared.settings.StreamConfig.{StreamConfig}
use Rattle.window.specs.Window.{missing_of}
use Rattle.window.specs.Arrival.{accept_of}
use Rattle.window.specs.declared.window.Arrival.{Arrival}
use Rattle.window.specs.declared.window.Class.{Class}
use Rattle.receiver.specs.Receiver.{enabled_of, gap_of, is_gap, restarts, due_after, settled_of, heard_of}
use Rattle.receiver.specs.Answers.{data_answer, hearing_refused}
use Rattle.receiver.specs.declared.receiver.Receiver.{Receiver}
use Rattle.receiver_log.specs.Calls.{data_command, Entry, data_entry, Step, step_of}
use Rattle.receiver_log.specs.Log.{reports}
use Rattle.receiver_log.specs.Spans.{nothing_missing}
use Rattle.receiver_log.specs.Timing.{enabled_in, timer_after, timer_in}
use Rattle.receiver_log.specs.Answers.{answer_of}
use Rattle.config.specs.inner.Choices.{cond_true, cond_false, by_cond}
use Rattle.receiver_log.proofs.Taken.{TakenOk, accept_ok}
use Rattle.receiver_log.proofs.Follows.{Follows, StepOk, passes, none_missing_lem, follows_rest, follows_on, follows_same}

module _ (r : Receiver) (t : List Entry) (s : StreamConfig) (time seq : ℕ) (ws : List ℕ) (i : Follows r.window.size r t) where
  abbrev W : ℕ
  W = r.window.size

  abbrev step_from : ReceiverAnswer Delivery → Step
  step_from h = record { receiver = h.receiver; entry = data_entry s time seq ws h.answer }

  abbrev Fine : Step → Type 0
  Fine = StepOk W t (data_command s time seq ws)

  -- ---- refused

  refused_answer : (why : Refusal) → check_of s ≡ Err why → data_answer r s time seq ≡ hearing_refused r why
  unfolding data_answer
  refused_answer why e = rw e

  refused_ok : (why : Refusal) → check_of s ≡ Err why → Fine (step_from (hearing_refused r why))
  unfolding answer_of
  refused_ok why e = record { follows = follows_same W r _ t i refl refl refl refl refl; says = rw e }

  -- ---- heard

  heard_answer : check_of s ≡ Ok tt → data_answer r s time seq ≡ heard_of r s time seq
  unfolding data_answer
  heard_answer e = rw (e, passes r i.held.valid)

  abbrev entry_for : ℕ → Class → Option SeqRange → Entry
  entry_for highest c lost = data_entry s time seq ws (Ok record { seq = seq; class = c; gap = gap_of highest c; lost = lost })

  -- the timer starts by the same test
  starts : (c : Class) → (is_gap c && (enabled_of r s && restarts r.timer)) ≡ (is_gap c && (enabled_in t s && restarts (timer_in W t)))
  starts c = λ j. is_gap c && ((s.retransmit && not (i.refused j)) && restarts (i.timer j))

  module _ (k : Arrival) (a : TakenOk r.window (reports t) seq ws k) where
    abbrev entry : Entry
    entry = entry_for r.window.highest k.class k.lost

    missing : eqb (missing_of k.window) 0 ≡ nothing_missing W (reports (entry ∷ t))
    missing = none_missing_lem W a.held a.size

    abbrev started : (Option RequestTimer)
    started = Some record { due = due_after s.request_delay_ms 0 time; sent = 0 }

    -- something is missing
    going : (timer : Option RequestTimer) → nothing_missing W (reports (entry ∷ t)) ≡ false → timer ≡ timer_after t (timer_in W t) entry
        → Follows W (record { window = k.window; timer = timer; request_due = r.request_due; refused = r.refused; asked = r.asked }) (entry ∷ t)
    going timer n f =
        follows_on W k.window entry t a.held a.size timer r.request_due r.refused r.asked n f i.due i.refused i.asked i.few

    settles : Follows W (settled_of r s time k.window k.class) (entry ∷ t)
    unfolding settled_of
    settles =
        by_cond (λ q. Follows W q (entry ∷ t)) (eqb (missing_of k.window) 0) _ _
        (λ n. follows_rest W k.window entry t a.held a.size r.refused (sym missing ∙ n) i.refused)
        (λ n.
        by_cond (λ q. Follows W q (entry ∷ t)) (is_gap k.class && (enabled_of r s && restarts r.timer)) _ _
        (λ g. going started (sym missing ∙ n) (cond_true started (timer_in W t) (sym (starts k.class) ∙ g)))
        (λ g. going r.timer (sym missing ∙ n) (i.timer ∙ cond_false started (timer_in W t) (sym (starts k.class) ∙ g))))

  heard_ok : seq < turn → check_of s ≡ Ok tt → Fine (step_from (heard_of r s time seq))
  unfolding heard_of answer_of
  heard_ok l e =
      let a = accept_ok r.window (reports t) seq ws i.held l in
      record {
        follows = settles (accept_of r.window seq) a;
        says = (λ j. entry_for (i.held.highest j) (a.class j) (a.lost j)) ∙ rw e;
      }

  pub data_ok : seq < turn → Fine (step_of r (data_command s time seq ws))
  unfolding step_of
  data_ok l = go (check_of s) refl
    where
      go : (k : Result ⊤ Refusal) → check_of s ≡ k → Fine (step_from (data_answer r s time seq))
      go (Err why) e = subst (λ (h : ReceiverAnswer Delivery). Fine (step_from h)) (sym (refused_answer why e)) (refused_ok why e)
      go (Ok _) e = subst (λ (h : ReceiverAnswer Delivery). Fine (step_from h)) (sym (heard_answer e)) (heard_ok l e)
