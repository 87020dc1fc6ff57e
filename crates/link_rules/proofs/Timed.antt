-- The request timer of a receiver that is polled at every step: what each of its calls keeps.
use mathlib.Core.Path.{◌≡◌, refl, sym, ap, subst}
use Rattle.std.proofs.Common.{Option, Some, None, Result, Ok, Err}
use Rattle.config.specs.declared.refusal.Refusal.{Refusal}
use Rattle.receiver.specs.declared.receiver.ReceiverAnswer.{ReceiverAnswer}
use Rattle.receiver.specs.declared.receiver.StreamEvent.{StreamEvent}
use Rattle.window.specs.declared.window.SeqRange.{SeqRange}
use Rattle.std.specs.Bool.{⊤}
use mathlib.Core.Bool.{Bool, true, false, cond, not, ◌&&◌}
use mathlib.Core.List.{List}
use Prim.Native.Nat.{ℕ, ◌+◌, ◌*◌, ◌^◌, ◌≤◌, ◌<◌}
use native.Mathlib.Nat.{le_trans}
use native.Mathlib.Omega.{arith}
use lib.Dec.{ltb}
use Rattle.config.specs.inner.Tests.{tests, and_left}
use Rattle.config.specs.Time.{last_time}
use Rattle.config.specs.declared.settings.StreamConfig.{StreamConfig}
use Rattle.packet.specs.Write.{written_of}
use Rattle.packet.specs.declared.writer.PayloadWriter.{PayloadWriter}
use Rattle.command.specs.Write.{request_packet}
use Rattle.command.specs.declared.retransmit.RetransmitRequest.{RetransmitRequest}
use Rattle.command.specs.declared.retransmit.RetransmitError.{RetransmitError}
use Rattle.window.specs.Window.{Valid, fresh_of as all_processed, request_of}
use Rattle.window.specs.Arrival.{accept_of}
use Rattle.window.specs.Marking.{mark_of}
use Rattle.window.specs.declared.window.ReceiveWindow.{ReceiveWindow}
use Rattle.window.proofs.Preserved.{valid_accept, valid_mark, valid_all}
use Rattle.receiver.specs.Receiver.{quiet_of, rest_of, enabled_of, nothing_missing, due_after, is_gap, restarts, settled_of, gave_up, polled_at, polled_of, error_to, error_of, taken_by, offered_of, taken_span, taken_of, not_due, with_asked}
use Rattle.receiver.specs.declared.receiver.RequestTimer.{RequestTimer}
use Rattle.receiver.specs.declared.receiver.Receiver.{Receiver}
use Rattle.receiver.specs.declared.receiver.RequestWritten.{RequestWritten}
use Rattle.config.specs.inner.Choices.{by_cond}
use Rattle.link_rules.proofs.Window.{complete_after, full_missing}
use Rattle.link_rules.proofs.Times.{sum, due_later, due_most, next_sum, more_sum}

-- a receiver with another window, timer, due request and request unanswered
abbrev after : Receiver → ReceiveWindow → Option RequestTimer → Bool → Option RetransmitRequest → Receiver
after r w timer due asked = record { window = w; timer = timer; request_due = due; refused = r.refused; asked = asked }

-- nothing missing, and all but the window as at the start
pub record Quiet (r : Receiver) : Type 0 where
  pub none : nothing_missing r.window ≡ true
  pub rest : r ≡ rest_of false r.window

-- A timer that runs at `time`, with no new gap since step g: due now or later, and no later than all its delays since g.
pub record Waits (cfg : StreamConfig) (g time : ℕ) (k : RequestTimer) : Type 0 where
  pub few : k.sent ≤ cfg.max_requests
  pub later : time ≤ k.due
  pub soon : k.due ≤ g + sum cfg.request_delay_ms k.sent

pub data Stage (cfg : StreamConfig) (g time : ℕ) (r : Receiver) : Type 0 where
  quiet : Quiet r → Stage cfg g time r
  waits : (k : RequestTimer) → r.timer ≡ Some k → Waits cfg g time k → Stage cfg g time r

pub record Timed (cfg : StreamConfig) (g time : ℕ) (r : Receiver) : Type 0 where
  pub valid : Valid r.window
  pub able : r.refused ≡ false
  pub stage : Stage cfg g time r

module _ (cfg : StreamConfig) (on : cfg.retransmit ≡ true) (delayed : 1 ≤ cfg.request_delay_ms) (g time : ℕ) (in_time : time < last_time) where
  abbrev T : Receiver → Type 0
  T = Timed cfg g time

  pub at_rest : (off : Bool) (w : ReceiveWindow) → off ≡ false → Valid w → nothing_missing w ≡ true → (t : ℕ) → Timed cfg g t (rest_of off w)
  at_rest off w e v n t = record { valid = v; able = e; stage = quiet record { none = n; rest = ap (λ (x : Bool). rest_of x w) e } }

  module _ (r : Receiver) (i : T r) where
    enabled : enabled_of r cfg ≡ true
    enabled = rw (on, i.able)

    -- ---- a data command
    module _ (seq : ℕ) (gaps : is_gap (accept_of r.window seq).class ≡ true → time ≤ g) where
      abbrev w : ReceiveWindow
      w = (accept_of r.window seq).window

      starts : is_gap (accept_of r.window seq).class ≡ true → T (after r w (Some record { due = due_after cfg.request_delay_ms 0 time; sent = 0 }) r.request_due r.asked)
      starts e =
          let l = gaps e in
          let d : ℕ = cfg.request_delay_ms in
          let a : time < due_after d 0 time = due_later d 0 time delayed in_time in
          let b : due_after d 0 time ≤ time + sum d 0 = due_most d 0 time in
          record {
            valid = valid_accept r.window i.valid seq;
            able = i.able;
            stage = waits _ refl record { few = omega arith; later = omega arith; soon = omega arith };
          }

      goes_on : nothing_missing w ≡ false → (is_gap (accept_of r.window seq).class && (enabled_of r cfg && restarts r.timer)) ≡ false
          → T (after r w r.timer r.request_due r.asked)
      goes_on some f = record { valid = valid_accept r.window i.valid seq; able = i.able; stage = by i.stage }
        where
          by : Stage cfg g time r → Stage cfg g time (after r w r.timer r.request_due r.asked)
          by (waits k e h) = waits k e h
          by (quiet q) =
              let stopped : r.timer ≡ None = ap (λ (x : Receiver). x.timer) q.rest in
              let none : is_gap (accept_of r.window seq).class ≡ false = no_gap (is_gap (accept_of r.window seq).class) (rw (enabled, stopped) at f) in
              let z : ◌≡◌ {A = ℕ} 0 1 = cc (complete_after r.window i.valid q.none seq none) in
              absurd (let y : ⊥ = omega arith in y)
            where
              no_gap : (x : Bool) → (x && true) ≡ false → x ≡ false
              no_gap true e = e
              no_gap false e = refl

      pub heard_timed : T (settled_of r cfg time w (accept_of r.window seq).class)
      unfolding settled_of
      heard_timed =
          by_cond T (nothing_missing w) _ _ (λ n. at_rest r.refused w i.able (valid_accept r.window i.valid seq) n time)
          (λ some. by_cond T (is_gap (accept_of r.window seq).class && (enabled_of r cfg && restarts r.timer)) _ _ (λ e. starts (and_left _ _ e)) (goes_on some))

    -- ---- a Retransmit Error
    pub error_of_timed : (e : RetransmitError) → T (error_of r e).receiver
    unfolding error_of
    error_of_timed e = by r.asked refl
      where
        by : (a : Option RetransmitRequest) → r.asked ≡ a → T (error_to r e a).receiver
        by None f = i
        by (Some q) f =
            let m = (mark_of r.window record { first = q.seq; count = q.count }).window in
            let v : Valid m = valid_mark r.window i.valid record { first = q.seq; count = q.count } in
            by_cond T (nothing_missing m) _ _ (λ n. at_rest r.refused m i.able v n time) (λ some. record { valid = v; able = i.able; stage = on_with i.stage })
          where
            on_with : Stage cfg g time r → Stage cfg g time (after r (mark_of r.window record { first = q.seq; count = q.count }).window r.timer r.request_due None)
            on_with (waits k x h) = waits k x h
            on_with (quiet o) =
                let u : r.asked ≡ None = ap (λ (x : Receiver). x.asked) o.rest in
                let z : ◌≡◌ {A = ℕ} 0 1 = cc in
                absurd (let y : ⊥ = omega arith in y)

    -- ---- a due request is taken
    module _ (p : PayloadWriter) (b : List ℕ) where
      same : (asked : Option RetransmitRequest) (due : Bool) → (k : RequestTimer) → r.timer ≡ Some k → Waits cfg g time k → T (after r r.window r.timer due asked)
      same asked due k e h = record { valid = i.valid; able = i.able; stage = waits k e h }

      spanned : (k : RequestTimer) → r.timer ≡ Some k → Waits cfg g time k → (span : Option SeqRange) → T (taken_span r p b span).0.receiver
      unfolding offered_of
      spanned k e h None = same r.asked false k e h
      spanned k e h (Some range) = by (written_of p b (request_packet q)).0.answer
        where
          q : RetransmitRequest
          q = record { seq = range.first; count = range.count }

          by : (a : Result ⊤ Refusal) → T (taken_by r q (written_of p b (request_packet q)).0.payload a).receiver
          by (Ok _) = same (Some q) false k e h
          by (Err why) = i

      pub taken_timed : T (taken_of r cfg p b).0.receiver
      unfolding taken_of
      taken_timed = by i.stage
        where
          by : Stage cfg g time r → T (taken_of r cfg p b).0.receiver
          by (quiet o) = let u : r.request_due ≡ false = ap (λ (x : Receiver). x.request_due) o.rest in
              subst (λ (x : Bool). T (cond (not x) (not_due r p, b) (cond (not (enabled_of r cfg)) (not_due (with_asked r r.asked) p, b) (taken_span r p b (request_of r.window)))).0.receiver) (sym u) i
          by (waits k e h) =
              by_cond (λ (x : RequestWritten × List ℕ). T x.0.receiver) (not r.request_due) _ _ (λ _. i)
              (λ _. by_cond (λ (x : RequestWritten × List ℕ). T x.0.receiver) (not (enabled_of r cfg)) _ _ (λ _. same r.asked false k e h) (λ _. spanned k e h (request_of r.window)))

    -- ---- a poll, after which the next call is a step later
    abbrev Next : Receiver → Type 0
    Next = Timed cfg g (time + 1)

    module _ (k : RequestTimer) (e : r.timer ≡ Some k) (h : Waits cfg g time k) where
      -- one more request is due
      abbrev asking : Receiver
      asking = after r r.window (Some record { due = due_after cfg.request_delay_ms (k.sent + 1) time; sent = k.sent + 1 }) true r.asked

      early : time < k.due → Next r
      early l = record { valid = i.valid; able = i.able; stage = waits k e record { few = h.few; later = omega arith; soon = h.soon } }

      asks : k.due ≤ time → k.sent < cfg.max_requests → Next asking
      asks l m =
          let d : ℕ = cfg.request_delay_ms in
          let a : time < due_after d (k.sent + 1) time = due_later d (k.sent + 1) time delayed in_time in
          let b : due_after d (k.sent + 1) time ≤ time + d * 2 ^ (k.sent + 1) = due_most d (k.sent + 1) time in
          let n : sum d k.sent + d * 2 ^ (k.sent + 1) ≡ sum d (k.sent + 1) = next_sum d k.sent in
          let s : k.due ≤ g + sum d k.sent = h.soon in
          let t : time ≤ k.due = h.later in
          record {
            valid = i.valid;
            able = i.able;
            stage = waits _ refl record { few = omega arith; later = omega arith; soon = omega arith };
          }

      gives_up : Next (gave_up r.refused r.window).receiver
      unfolding gave_up
      gives_up =
          at_rest r.refused (all_processed r.window.size r.window.highest) i.able (valid_all r.window i.valid) (full_missing r.window.size r.window.highest) (time + 1)

      fires : k.due ≤ time → Next (cond (ltb k.sent cfg.max_requests && enabled_of r cfg) (quiet_of asking) (gave_up r.refused r.window)).receiver
      fires l =
          by_cond (λ (x : ReceiverAnswer (Option StreamEvent)). Next x.receiver) (ltb k.sent cfg.max_requests && enabled_of r cfg) _ _
          (λ f. asks l (let t = and_left (ltb k.sent cfg.max_requests) (enabled_of r cfg) f in omega (arith, tests))) (λ _. gives_up)

      runs : Next (polled_at r cfg time (Some k)).receiver
      runs =
          by_cond (λ (x : ReceiverAnswer (Option StreamEvent)). Next x.receiver) (ltb time k.due) _ _ (λ f. early (omega (arith, tests)))
          (λ f. by_cond (λ (x : ReceiverAnswer (Option StreamEvent)). Next x.receiver) (nothing_missing r.window) _ _
          (λ n. at_rest r.refused r.window i.able i.valid n (time + 1)) (λ _. fires (omega (arith, tests))))

    pub polled_timed : Next (polled_of r cfg time).receiver
    unfolding polled_of
    polled_timed = by i.stage
      where
        by : Stage cfg g time r → Next (polled_at r cfg time r.timer).receiver
        by (quiet o) =
            let u : r.timer ≡ None = ap (λ (x : Receiver). x.timer) o.rest in
            subst (λ (t : Option RequestTimer). Next (polled_at r cfg time t).receiver) (sym u) (record { valid = i.valid; able = i.able; stage = quiet o })
        by (waits k e h) = subst (λ (t : Option RequestTimer). Next (polled_at r cfg time t).receiver) (sym e) (runs k e h)

-- a later gap weakens it
pub timed_gap : (cfg : StreamConfig) (g g' time : ℕ) → g ≤ g' → (r : Receiver) → Timed cfg g time r → Timed cfg g' time r
timed_gap cfg g g' time l r i = record { valid = i.valid; able = i.able; stage = by i.stage }
  where
    by : Stage cfg g time r → Stage cfg g' time r
    by (quiet o) = quiet o
    by (waits k e h) = waits k e record { few = h.few; later = h.later; soon = le_trans h.soon (plus (sum cfg.request_delay_ms k.sent)) }
      where
        plus : (x : ℕ) → g + x ≤ g' + x
        plus x = omega arith

-- after all the delays nothing is missing
pub timed_done : (cfg : StreamConfig) (g time : ℕ) → g + sum cfg.request_delay_ms cfg.max_requests < time → (r : Receiver) → Timed cfg g time r → nothing_missing r.window ≡ true
timed_done cfg g time l r i = by i.stage
  where
    by : Stage cfg g time r → nothing_missing r.window ≡ true
    by (quiet o) = o.none
    by (waits k e h) =
        let m : sum cfg.request_delay_ms k.sent ≤ sum cfg.request_delay_ms cfg.max_requests = more_sum cfg.request_delay_ms k.sent cfg.max_requests h.few in
        let a : time ≤ k.due = h.later in
        let b : k.due ≤ g + sum cfg.request_delay_ms k.sent = h.soon in
        absurd (let y : ⊥ = omega arith in y)
