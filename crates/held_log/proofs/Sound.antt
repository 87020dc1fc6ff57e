-- What a receiver's answers say of its log: a New command is above all before, and a loss lies wholly at or below the highest.
use Prim.Native.Nat.{ℕ, zero, suc, ◌+◌, ◌-◌, ◌%◌, ◌≤◌, ◌<◌, max}
use Rattle.std.proofs.Common.{Option, Some, None, Result, Ok, Err}
use Rattle.command.specs.declared.retransmit.RetransmitRequest.{RetransmitRequest}
use Rattle.config.specs.declared.refusal.Refusal.{Refusal}
use Rattle.window.specs.declared.window.SeqRange.{SeqRange}
use Rattle.std.specs.Bool.{⊤}
use mathlib.Core.Path.{◌≡◌, refl}
use mathlib.Core.Logic.{◌⊎◌, inl, inr}
use mathlib.Core.Bool.{Bool, true, false, cond, not, ◌&&◌}
use mathlib.Core.List.{List, [], ◌∷◌}
use native.Mathlib.Omega.{arith}
use lib.Dec.{ltb, leb, eqb}
use lib.ListN.{length}
use borrow.Author.Tests.{leb-true, ltb-true, eqb-true}
use Rattle.config.specs.inner.Choices.{never}
use Rattle.config.specs.Range.{within}
use Rattle.config.specs.Sequence.{turn, ahead}
use Rattle.config.specs.Settings.{check_of, tested}
use Rattle.config.specs.declared.settings.StreamConfig.{StreamConfig}
use Rattle.config.specs.inner.Tests.{split, tests, and_left, and_right}
use Rattle.config.specs.Entry.{entry}
use Rattle.packet.specs.Write.{valid_of as payload_valid}
use Rattle.packet.specs.declared.writer.PayloadWriter.{PayloadWriter}
use Rattle.command.specs.declared.retransmit.RetransmitError.{RetransmitError}
use Rattle.window.specs.Arrival.{reach}
use Rattle.window.specs.Marking.{in_range}
use Rattle.window.specs.Set.{max_window}
use Rattle.window.specs.declared.window.Class.TheVariants.{New, Late, Duplicate}
use Rattle.receiver.specs.Receiver.{error_event}
use Rattle.receiver.specs.declared.receiver.Request.TheVariants.{Nothing as NotDue}
use Rattle.receiver_log.specs.Calls.{Call, data_command, poll, retransmit_error, nak, take_request, Entry, data_entry, take_entry}
use Rattle.receiver_log.specs.Log.{Report, heard, told, loss_of, loss_in, report_of, reports, origin, is_ahead, place, high, times, start, lost, unprocessed, Missing}
use Rattle.receiver_log.specs.Spans.{Ends, none, ends, widen, ends_of, span_from, class_in, lost_at, lost_in, missing_ends, missing_in, request_in, asked_for}
use Rattle.receiver_log.specs.Timing.{Tick, waits, asks, gives_up, enabled_in, timer_in, tick_at, due_in, asked_in}
use Rattle.receiver_log.specs.Answers.{delivery_in, poll_event, error_in, nak_event, offered, take_in, answer_of}
use Rattle.receiver_log.specs.Promise.{Promise}
use Rattle.held_log.proofs.Standing.{Rises, LossBelow}

-- ---- ends

-- where the ends lie, and that the test holds at the oldest
abbrev EndsIn : (ℕ → Bool) → ℕ → ℕ → Ends → Type 0
EndsIn f low n none = Unit {0}
EndsIn f low n (ends newest oldest) = (low ≤ newest) × (newest ≤ oldest) × (oldest < low + n) × (f oldest ≡ true)

module _ (f : ℕ → Bool) (low n : ℕ) where
  one_more : (t : Bool) → f (low + n) ≡ t → (s : Ends) → EndsIn f low n s → EndsIn f low (suc n) (cond t (widen (low + n) s) s)
  one_more false e none h = tt
  one_more false e (ends x y) h = (h.0, h.1, omega arith, h.3)
  one_more true e none h = (omega arith, omega arith, omega arith, e)
  one_more true e (ends x y) h = (h.0, omega arith, omega arith, e)

ends_in : (f : ℕ → Bool) (low n : ℕ) → EndsIn f low n (ends_of f low n)
unfolding ends_of
ends_in f low zero = tt
ends_in f low (suc n) = one_more f low n (f (low + n)) refl (ends_of f low n) (ends_in f low n)

-- ---- a span that isn't long lies at or below its highest

start_at : (H b : ℕ) → b ≤ H → b < turn → start H ((H - b) % turn) ≡ H - b
unfolding start
start_at H b p q = let e : ahead ((H - b) % turn) (H % turn) ≡ b = omega arith in rw e

span_below : (H newest oldest : ℕ) → newest ≤ oldest → oldest ≤ H → oldest < turn → LossBelow H (span_from H (ends newest oldest))
span_below H newest oldest a b c x e =
    let s : start H ((H - oldest) % turn) ≡ H - oldest = start_at H oldest b c in
    let r : x < start H ((H - oldest) % turn) + (oldest - newest + 1) = ltb-true _ _ (and_right (leb (start H ((H - oldest) % turn)) x) (ltb x (start H ((H - oldest) % turn) + (oldest - newest + 1))) e) in
    let q : x < H - oldest + (oldest - newest + 1) = rw s at r in
    omega arith

no_loss : (H : ℕ) → LossBelow H None
no_loss H x e = absurd (never e refl)

high_least : (t : List Report) → origin - 1 ≤ high t
high_least [] = omega arith
high_least (heard seq ws c l ∷ t) = omega (arith, high_least t)
high_least (told l ∷ t) = high_least t

module _ (W : ℕ) (most : W ≤ max_window) (t : List Report) (p : Promise W t) where
  -- ---- at most W behind the highest

  near_below : (f : ℕ → Bool) (s : Ends) → EndsIn f 1 W s → LossBelow (high t) (span_from (high t) s)
  near_below f none h = no_loss (high t)
  near_below f (ends newest oldest) h = span_below (high t) newest oldest h.1 (omega (arith, high_least t)) (omega arith)

  missing_below : LossBelow (high t) (missing_in W t)
  unfolding missing_ends
  missing_below = near_below (λ b. unprocessed t (high t - b)) (missing_ends W t) (ends_in (λ b. unprocessed t (high t - b)) 1 W)

  -- ---- behind a New number

  -- what is not processed is above the old highest, or at most W behind it
  unprocessed_near : (y : ℕ) → unprocessed t y ≡ true → high t ≤ y + W
  unfolding unprocessed
  unprocessed_near y e = elim (split (ltb (high t) y)) [
    | inl k ↦ omega (arith, tests)
    | inr k ↦ by (p.accounted y from_0 (omega (arith, tests)) not_handed_on)
  ]
    where
      from_0 : origin ≤ y
      from_0 = leb-true _ _ (and_left (leb origin y) (eqb (times t y) 0 && not (lost t y)) e)

      rest : (eqb (times t y) 0 && not (lost t y)) ≡ true
      rest = and_right (leb origin y) (eqb (times t y) 0 && not (lost t y)) e

      not_handed_on : times t y ≡ 0
      not_handed_on = eqb-true _ _ (and_left (eqb (times t y) 0) (not (lost t y)) rest)

      by : (lost t y ≡ true) ⊎ Missing W t y → high t ≤ y + W
      by (inl l) = let n : not (lost t y) ≡ true = and_right (eqb (times t y) 0) (not (lost t y)) rest in absurd (never (rw l at n) refl)
      by (inr m) = m.within_W

  far_below : (to : ℕ) → high t < to → to ≤ high t + reach → (s : Ends) → EndsIn (λ b. unprocessed t (to - b)) (W + 1) (to - origin - W) s → LossBelow to (span_from to s)
  far_below to a b none h = no_loss to
  far_below to a b (ends newest oldest) h =
      let n = unprocessed_near (to - oldest) h.3 in
      span_below to newest oldest h.1 (omega arith) (omega arith)

  lost_below : (to : ℕ) → high t < to → to ≤ high t + reach → LossBelow to (lost_at W t to)
  unfolding lost_at
  lost_below to a b =
      far_below to a b (ends_of (λ b. unprocessed t (to - b)) (W + 1) (to - origin - W)) (ends_in (λ b. unprocessed t (to - b)) (W + 1) (to - origin - W))

  -- ---- a data command

  ahead_by : (seq : ℕ) → is_ahead (high t) seq ≡ true → (high t < place (high t) seq) × (place (high t) seq ≤ high t + reach)
  unfolding place is_ahead
  ahead_by seq e =
      let d : ℕ = ahead (high t % turn) seq in
      let a : 1 ≤ d = leb-true _ _ (and_left (leb 1 d) (leb d reach) e) in
      let b : d ≤ reach = leb-true _ _ (and_right (leb 1 d) (leb d reach) e) in
      rw e (omega arith, omega arith)

  class_rises : (seq : ℕ) (ws : List ℕ) (l : Option SeqRange) → Rises (high t) (heard seq ws (class_in W t seq) l)
  unfolding class_in
  class_rises seq ws l = by (is_ahead (high t) seq) (λ e. (ahead_by seq e).0) _ (within 1 W (ahead seq (high t % turn)) && unprocessed t (place (high t) seq))
    where
      by : (a : Bool) → (a ≡ true → high t < place (high t) seq) → (gap : ℕ) (b : Bool) → Rises (high t) (heard seq ws (cond a (New gap) (cond b Late Duplicate)) l)
      by true f gap b = f refl
      by false f gap true = tt
      by false f gap false = tt

  number_below : (seq : ℕ) → LossBelow (max (high t) (place (high t) seq)) (lost_in W t seq)
  unfolding lost_in
  number_below seq = elim (split (is_ahead (high t) seq)) [
    | inl k ↦
        let a : high t < place (high t) seq = (ahead_by seq k).0 in
        let m : max (high t) (place (high t) seq) ≡ place (high t) seq = omega arith in
        rw (k, m) (lost_below (place (high t) seq) a (ahead_by seq k).1)
    | inr k ↦ rw k (no_loss (max (high t) (place (high t) seq)))
  ]

-- ---- any call

abbrev Next : List Report → Report → Type 0
Next t r = Rises (high t) r × LossBelow (high (r ∷ t)) (loss_of r)

module _ (W : ℕ) (most : W ≤ max_window) (t : List Entry) (p : Promise W (reports t)) where
  abbrev H : ℕ
  H = high (reports t)

  data_next : (s : StreamConfig) (time seq : ℕ) (ws : List ℕ) (k : Result ⊤ Refusal)
      → Next (reports t) (report_of (data_entry s time seq ws (tested k Err (Ok (delivery_in W (reports t) seq)))))
  data_next s time seq ws (Ok _) = (class_rises W most (reports t) p seq ws (lost_in W (reports t) seq), number_below W most (reports t) p seq)
  data_next s time seq ws (Err why) = (tt, no_loss H)

  loss_of_missing : (m : Option SeqRange) → LossBelow H m → (k : Result ⊤ Refusal) (tick : Tick) → LossBelow H (loss_in (tested k Err (poll_event m tick)))
  loss_of_missing m h (Err why) tick = no_loss H
  loss_of_missing m h (Ok _) waits = no_loss H
  loss_of_missing m h (Ok _) asks = no_loss H
  loss_of_missing None h (Ok _) gives_up = h
  loss_of_missing (Some range) h (Ok _) gives_up = h

  loss_of_error : (e : RetransmitError) (m : Option SeqRange) → LossBelow H m → LossBelow H (loss_in (error_event e m))
  loss_of_error e None h = h
  loss_of_error e (Some range) h = h

  error_below : (e : RetransmitError) (a : Option RetransmitRequest) → LossBelow H (loss_in (error_in W (reports t) e a))
  unfolding asked_for
  error_below e None = no_loss H
  error_below e (Some q) =
      let f : ℕ → Bool = λ b. unprocessed (reports t) (H - b) && in_range (record { first = q.seq; count = q.count }) ((H - b) % turn) in
      loss_of_error e (asked_for W (reports t) q) (near_below W most (reports t) p f (ends_of f 1 W) (ends_in f 1 W))

  nak_below : (m : Option SeqRange) → LossBelow H m → (a : Option RetransmitRequest) → LossBelow H (loss_in (nak_event m a))
  nak_below m h None = no_loss H
  nak_below None h (Some q) = h
  nak_below (Some range) h (Some q) = h

  -- taking a request tells nothing
  take_quiet : (s : StreamConfig) (q : PayloadWriter) (b : List ℕ) (offers : Bool) (request : Option SeqRange) → report_of (take_in s q b offers request) ≡ told None
  take_quiet s q b offers request = by (check_of s) (payload_valid q (length b)) offers request
    where
      by : (k : Result ⊤ Refusal) (valid offers : Bool) (request : Option SeqRange)
          → report_of (entry k valid (λ why. take_entry s q b (Err why) q b) (cond offers (offered s q b request) (take_entry s q b (Ok NotDue) q b))) ≡ told None
      by (Err why) valid offers request = refl
      by (Ok _) false offers request = refl
      by (Ok _) true false request = refl
      by (Ok _) true true None = refl
      by (Ok _) true true (Some range) = refl

  pub next_sound : (c : Call) → Next (reports t) (report_of (answer_of W t c))
  unfolding answer_of
  next_sound (data_command s time seq ws) = data_next s time seq ws (check_of s)
  next_sound (poll s time) =
      (tt, loss_of_missing (missing_in W (reports t)) (missing_below W most (reports t) p) (check_of s) (tick_at (enabled_in t s) s time (timer_in W t)))
  next_sound (retransmit_error e) = (tt, error_below e (asked_in W t))
  next_sound nak = (tt, nak_below (missing_in W (reports t)) (missing_below W most (reports t) p) (asked_in W t))
  next_sound (take_request s q b) = rw (take_quiet s q b (due_in W t && enabled_in t s) (request_in W (reports t))) (tt, no_loss H)
