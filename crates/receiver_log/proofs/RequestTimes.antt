-- The times of requests after a gap and silence: a gap leaves its newest position missing and so starts the timer; each poll at the due time sets the next, M times, and
-- the one after that gives up.
use Prim.Native.Nat.{ℕ, zero, suc, ◌+◌, ◌-◌, ◌≤◌, ◌<◌}
use Rattle.std.proofs.Common.{Option, Some, None, Result, Ok, Err}
use Rattle.command.specs.declared.retransmit.RetransmitRequest.{RetransmitRequest}
use Rattle.config.specs.declared.refusal.Refusal.{Refusal}
use Rattle.receiver.specs.declared.receiver.ReceiverAnswer.{ReceiverAnswer}
use Rattle.receiver.specs.declared.receiver.RequestTimer.{RequestTimer}
use Rattle.std.specs.Bool.{⊤}
use mathlib.Core.Path.{◌≡◌, refl, sym, ap, ◌∙◌, subst}
use mathlib.Core.Bool.{Bool, true, false, not, ◌&&◌}
use mathlib.Core.List.{List, [], ◌∷◌}
use native.Mathlib.Omega.{arith}
use lib.Dec.{ltb, leb, eqb}
use Rattle.config.specs.Entry.{entry}
use Rattle.config.specs.Settings.{check_of}
use Rattle.config.specs.declared.settings.StreamConfig.{StreamConfig}
use Rattle.config.specs.inner.Tests.{lifts}
use Rattle.window.specs.Window.{valid_of as window_valid, processed, missing_of, missing_span}
use Rattle.window.specs.Arrival.{class_of, new_of, taken_of, accept_of}
use Rattle.window.specs.declared.window.ReceiveWindow.{ReceiveWindow}
use Rattle.window.specs.declared.window.Class.{Class}
use Rattle.window.specs.declared.window.Class.TheVariants.{New, Late, Duplicate}
use Rattle.window.proofs.AfterNew.{processed_new}
use Rattle.receiver.specs.Receiver.{valid_of, enabled_of, due_after, is_gap, restarts, settled_of, heard_of, polled_of, gave_up, loss_of}
use Rattle.receiver.specs.Answers.{hearing_refused, data_answer, poll_answer}
use Rattle.receiver.specs.declared.receiver.Receiver.{Receiver}
use Rattle.receiver.specs.declared.receiver.Delivery.{Delivery}
use Rattle.receiver_log.specs.Calls.{data_command, Entry, data_entry, step_of, run}
use Rattle.receiver_log.specs.Log.{Report, reports, high, unprocessed}
use Rattle.receiver_log.specs.Spans.{Ends, none, ends, is_none, ends_of, missing_ends, missing_in, nothing_missing}
use Rattle.receiver_log.specs.Timing.{timer_in}
use Rattle.receiver_log.specs.RequestTimes.{Poll, polled, polls_of, delayed, requests_from, RequestTimes}
use Rattle.config.specs.inner.Choices.{never, by_cond}
use Rattle.receiver_log.proofs.EndsOf.{EndsOk, ends_ok}
use Rattle.receiver_log.proofs.Held.{open_at}
use Rattle.receiver_log.proofs.SpanIs.{missing_span_lem}
use Rattle.receiver_log.proofs.Follows.{Follows, passes, none_missing_lem}
use Rattle.receiver_log.proofs.Runs.{step_ok, run_ok}

module _ (cfg : StreamConfig) (w : ReceiveWindow) (refused : Bool) (passed : check_of cfg ≡ Ok tt) (valid : window_valid w ≡ true) (some : eqb (missing_of w) 0 ≡ false) (on : (cfg.retransmit && not refused) ≡ true) where
  abbrev D : ℕ
  D = cfg.request_delay_ms

  -- the timer runs, with so many requests made
  abbrev waits : ℕ → ℕ → Bool → Option RetransmitRequest → Receiver
  waits due sent flag asked = record { window = w; timer = Some record { due = due; sent = sent }; request_due = flag; refused = refused; asked = asked }

  nothing_more : (f : ℕ) (r : Receiver) → r.timer ≡ None → polls_of f cfg r ≡ []
  unfolding polls_of
  nothing_more zero r e = refl
  nothing_more (suc f) r e = rw e

  gives_up : (f due sent : ℕ) (flag : Bool) (asked : Option RetransmitRequest) → cfg.max_requests ≤ sent → polls_of (suc f) cfg (waits due sent flag asked) ≡ polled due (loss_of (missing_span w)) false ∷ []
  unfolding polls_of poll_answer polled_of valid_of gave_up
  gives_up f due sent flag asked l =
      let due-now : ltb due due ≡ false = omega (arith, lifts) in
      let last : ltb sent cfg.max_requests ≡ false = omega (arith, lifts) in
      rw (passed, valid, due-now, some, last) (ap (λ (ps : List Poll). polled due (loss_of (missing_span w)) false ∷ ps) (nothing_more f _ refl))

  asks_once : (f due sent : ℕ) (flag : Bool) (asked : Option RetransmitRequest) → sent < cfg.max_requests
      → polls_of (suc f) cfg (waits due sent flag asked) ≡ polled due (Ok None) true ∷ polls_of f cfg (waits (delayed D (sent + 1) due) (sent + 1) true asked)
  unfolding polls_of poll_answer polled_of valid_of due_after
  asks_once f due sent flag asked l =
      let due-now : ltb due due ≡ false = omega (arith, lifts) in
      let more : ltb sent cfg.max_requests ≡ true = omega (arith, lifts) in
      rw (passed, valid, due-now, some, more, on)

  requests_made : (k f i time : ℕ) (flag : Bool) (asked : Option RetransmitRequest) → i + k ≡ cfg.max_requests → k + 1 ≤ f
      → polls_of f cfg (waits (delayed D i time) i flag asked) ≡ requests_from D i k time (loss_of (missing_span w))
  unfolding requests_from
  requests_made k zero i time flag asked e l = absurd (let z : ⊥ = omega arith in z)
  requests_made zero (suc f) i time flag asked e l = gives_up f (delayed D i time) i flag asked (omega arith)
  requests_made (suc k) (suc f) i time flag asked e l =
      asks_once f (delayed D i time) i flag asked (omega arith)
      ∙ ap (λ (ps : List Poll). polled (delayed D i time) (Ok None) true ∷ ps) (requests_made k f (i + 1) (delayed D i time) true asked (omega arith) (omega arith))

-- ---- the arriving gap

-- the newest of the skipped positions is unprocessed
gap_open : (w : ReceiveWindow) (seq gap : ℕ) → 1 ≤ w.size → (accept_of w seq).class ≡ New gap → 0 < gap → processed (accept_of w seq).window 1 ≡ false
unfolding accept_of new_of
gap_open w seq gap s e l = by (class_of w seq) e
  where
    by : (k : Class) → (taken_of w seq k).class ≡ New gap → processed (taken_of w seq k).window 1 ≡ false
    by (New g) f =
        let n : g + 1 - 1 ≡ gap = cc in
        let a : leb 1 w.size ≡ true = omega (arith, lifts) in
        let b : ltb 1 (g + 1) ≡ true = omega (arith, lifts) in
        processed_new w seq (g + 1) 1 (omega arith) ∙ rw (a, b)
    by Late f = absurd (let z : ◌≡◌ {A = ℕ} 0 1 = cc in omega arith)
    by Duplicate f = absurd (let z : ◌≡◌ {A = ℕ} 0 1 = cc in omega arith)

newest_missing : (W : ℕ) (t : List Report) → 1 ≤ W → unprocessed t (high t - 1) ≡ true → nothing_missing W t ≡ false
unfolding missing_ends
newest_missing W t l e = go (ends_of (λ b. unprocessed t (high t - b)) 1 W) (ends_ok (λ b. unprocessed t (high t - b)) 1 W)
  where
    go : (s : Ends) → EndsOk (λ b. unprocessed t (high t - b)) 1 W s → is_none s ≡ false
    go none h = absurd (never e (h 1 (omega arith) (omega arith)))
    go (ends x y) h = refl

settled_window : (r : Receiver) (cfg : StreamConfig) (time : ℕ) (w : ReceiveWindow) (c : Class) → (settled_of r cfg time w c).window ≡ w
unfolding settled_of
settled_window r cfg time w c =
    by_cond (λ (q : Receiver). q.window ≡ w) (eqb (missing_of w) 0) _ _ (λ n. refl)
    (λ n. by_cond (λ (q : Receiver). q.window ≡ w) (is_gap c && (enabled_of r cfg && restarts r.timer)) _ _ (λ s. refl) (λ s. refl))

-- a data command that is answered is heard
module _ (r : Receiver) (cfg : StreamConfig) (time seq : ℕ) (v : valid_of r ≡ true) (d : Delivery) where
  heard_passed : (data_answer r cfg time seq).answer ≡ Ok d → check_of cfg ≡ Ok tt
  unfolding data_answer
  heard_passed e = go (check_of cfg) refl e
    where
      go : (k : Result ⊤ Refusal) → check_of cfg ≡ k → (entry k (valid_of r) (hearing_refused r) (heard_of r cfg time seq)).answer ≡ Ok d → check_of cfg ≡ Ok tt
      go (Ok _) f g = f
      go (Err why) f g = absurd (let z : ◌≡◌ {A = ℕ} 0 1 = cc in omega arith)

  heard_window : (data_answer r cfg time seq).answer ≡ Ok d
      → ((accept_of r.window seq).class ≡ d.class) × ((data_answer r cfg time seq).receiver.window ≡ (accept_of r.window seq).window)
  unfolding data_answer heard_of
  heard_window e =
      let h : data_answer r cfg time seq ≡ heard_of r cfg time seq = rw (heard_passed e, v) in
      let f : (heard_of r cfg time seq).answer ≡ Ok d = ap (λ (x : ReceiverAnswer Delivery). x.answer) (sym h) ∙ e in
      let c : (accept_of r.window seq).class ≡ d.class = cc in
      (c, ap (λ (x : ReceiverAnswer Delivery). x.receiver.window) h ∙ settled_window r cfg time (accept_of r.window seq).window (accept_of r.window seq).class)

pub request_times : RequestTimes
unfolding step_of valid_of due_after
request_times W l m calls typed cfg time seq ws few d gap f answered class skipped on starts enough =
    let r : Receiver = (run W calls).receiver in
    let t = (run W calls).log in
    let i = run_ok W l m calls typed in
    let q : Receiver = (data_answer r cfg time seq).receiver in
    let e : Entry = data_entry cfg time seq ws (Ok d) in
    let v : valid_of r ≡ true = passes r i.held.valid in
    let n : Follows W q (e ∷ t) = rw answered at (step_ok W r t (data_command cfg time seq ws) i few).follows in
    let h = heard_window r cfg time seq v d answered in
    let o : processed q.window 1 ≡ false = ap (λ (w : ReceiveWindow). processed w 1) h.1 ∙ gap_open r.window seq gap (omega (arith, i.size)) (h.0 ∙ class) skipped in
    let u : unprocessed (reports (e ∷ t)) (high (reports (e ∷ t)) - 1) ≡ true = open_at n.held 1 (omega (arith, n.held.low)) ∙ ap not o in
    let missing : nothing_missing W (reports (e ∷ t)) ≡ false = newest_missing W (reports (e ∷ t)) l u in
    let some : eqb (missing_of q.window) 0 ≡ false = none_missing_lem W n.held n.size ∙ missing in
    let enabled : (cfg.retransmit && not q.refused) ≡ true = ap (λ (x : Bool). cfg.retransmit && not x) n.refused ∙ on in
    let gapped : is_gap d.class ≡ true = ap is_gap class ∙ omega (arith, lifts) in
    let timer : timer_in W (e ∷ t) ≡ Some record { due = delayed cfg.request_delay_ms 0 time; sent = 0 } = rw (missing, gapped, on, starts) in
    let goal : Option RequestTimer → Type 0 = λ x.
    polls_of f cfg record { window = q.window; timer = x; request_due = q.request_due; refused = q.refused; asked = q.asked }
    ≡ requests_from cfg.request_delay_ms 0 cfg.max_requests time (loss_of (missing_span q.window)) in
    subst goal (sym (n.timer ∙ timer)) (requests_made cfg q.window q.refused (heard_passed r cfg time seq v d answered) (passes q n.held.valid) some enabled cfg.max_requests f 0 time q.request_due q.asked (omega arith) enough)
    ∙ ap (λ s. requests_from cfg.request_delay_ms 0 cfg.max_requests time (loss_of s)) (missing_span_lem n.held ∙ ap (λ (x : ℕ). missing_in x (reports (e ∷ t))) n.size)
