-- A receiver's calls on its words.
use mathlib.Core.Path.{◌≡◌, refl, sym, ap, ◌∙◌}
use Rattle.std.proofs.Common.{Option, Some, None, Result, Ok, Err}
use Rattle.command.specs.declared.retransmit.RetransmitRequest.{RetransmitRequest}
use Rattle.config.specs.declared.refusal.Refusal.{Refusal}
use Rattle.receiver.specs.declared.receiver.Delivery.{Delivery}
use Rattle.receiver.specs.declared.receiver.ReceiverAnswer.{ReceiverAnswer}
use Rattle.window.specs.declared.window.SeqRange.{SeqRange}
use mathlib.Core.Bool.{Bool, true, false, cond, not, ◌&&◌}
use mathlib.Core.List.{List}
use Prim.Native.Nat.{ℕ, ◌<◌}
use native.Mathlib.Omega.{arith}
use borrow.Author.Tests.{lt-ltb}
use Rattle.config.specs.Range.{within}
use Rattle.config.specs.Sequence.{ahead}
use Rattle.config.specs.Settings.{check_of}
use Rattle.config.specs.declared.refusal.Refusal.TheVariants.{InvalidState}
use Rattle.config.specs.declared.settings.StreamConfig.{StreamConfig}
use Rattle.window.specs.Window.{Valid, processed}
use Rattle.window.specs.Arrival.{reach, class_of, taken_of, accept_of}
use Rattle.window.specs.declared.window.ReceiveWindow.{ReceiveWindow}
use Rattle.window.specs.declared.window.Class.{Class}
use Rattle.window.specs.declared.window.Class.TheVariants.{Late, Duplicate}
use Rattle.window.specs.declared.window.Arrival.{Arrival}
use Rattle.receiver.specs.Receiver.{valid_of, rest_of, nothing_missing, due_after, gap_of, is_gap, settled_of, heard_of, quiet_of, polled_at, polled_of}
use Rattle.receiver.specs.Answers.{hearing_refused, data_answer, event_refused, poll_answer}
use Rattle.receiver.specs.declared.receiver.Receiver.{Receiver}
use Rattle.receiver.specs.declared.receiver.RequestTimer.{RequestTimer}
use Rattle.receiver.specs.declared.receiver.StreamEvent.{StreamEvent}
use Rattle.c_state.specs.Receiver.{NarrowReceiver, with_window}
use Rattle.c_state.specs.Stream.{receiver_fits, receiver_in, with_receiver}
use Rattle.c_state.specs.Receiving.{starts_timer, kept_of, heard_into, told_into}
use Rattle.c_state.proofs.Streams.{receiver_same}
use Rattle.c_state.proofs.ReceiverSizes.{polled_size}

-- a window that was tested fits its place
pub valid_narrow : (w : ReceiveWindow) → Valid w → w.size < 65536
valid_narrow w v = omega arith

-- ---- windows and receivers, part by part
rest_of_lem : (v w : ReceiveWindow) (t : Option RequestTimer) (q f : Bool) (a : Option RetransmitRequest) → q ≡ false → t ≡ None → a ≡ None → v ≡ w
    → ◌≡◌ {A = Receiver} (record { window = v; timer = t; request_due = q; refused = f; asked = a }) (rest_of f w)
rest_of_lem v w t q f a eq et ea ew = rw (eq, et, ea, ew)

pub rest_is : (r : Receiver) (w : ReceiveWindow) → r.request_due ≡ false → r.timer ≡ None → r.asked ≡ None → r.window ≡ w → r ≡ rest_of r.refused w
rest_is r w eq et ea ew = rest_of_lem r.window w r.timer r.request_due r.refused r.asked eq et ea ew

-- ---- what a number leaves
pub settled_rest : (r : Receiver) (s : StreamConfig) (time : ℕ) (w : ReceiveWindow) (class : Class) → nothing_missing w ≡ true → rest_of r.refused w ≡ settled_of r s time w class
unfolding settled_of
settled_rest r s time w class m = rw m

module _ (r : Receiver) (s : StreamConfig) (time : ℕ) (w : ReceiveWindow) (class : Class) (m : nothing_missing w ≡ false) where
  pub settled_started : (due : ℕ) → due ≡ due_after s.request_delay_ms 0 time → starts_timer r s class ≡ true
      → ◌≡◌ {A = Receiver} (record { window = w; timer = Some record { due = due; sent = 0 }; request_due = r.request_due; refused = r.refused; asked = r.asked }) (settled_of r s time w class)
  unfolding settled_of
  settled_started due d t = rw (m, t, d)

  pub settled_window : starts_timer r s class ≡ false → with_window r w ≡ settled_of r s time w class
  unfolding settled_of
  settled_window t = rw (m, t)

module _ (r : Receiver) (w : ReceiveWindow) where
  pub kept_rest : nothing_missing w ≡ true → rest_of r.refused w ≡ kept_of r w
  unfolding kept_of
  kept_rest m = rw m

  pub kept_window : nothing_missing w ≡ false → with_window r w ≡ kept_of r w
  unfolding kept_of
  kept_window m = rw m

  -- a receiver that is at rest with this window stays, and so does one that has it
  pub rest_kept : nothing_missing w ≡ true → r ≡ rest_of r.refused w → kept_of r w ≡ r
  rest_kept m e = sym (kept_rest m) ∙ sym e

  pub window_kept : nothing_missing w ≡ false → r.window ≡ w → kept_of r w ≡ r
  window_kept m e = sym (kept_window m) ∙ ap (with_window r) (sym e)

  pub kept_settled : (s : StreamConfig) (time : ℕ) (class : Class) → is_gap class ≡ false → kept_of r w ≡ settled_of r s time w class
  unfolding kept_of settled_of
  kept_settled s time class g = rw g

-- a number that is not ahead brings no gap
module _ (w : ReceiveWindow) (seq : ℕ) (e : within 1 reach (ahead w.highest seq) ≡ false) where
  no_gap_by : (t : Bool) → is_gap (taken_of w seq (cond t Late Duplicate)).class ≡ false
  no_gap_by true = refl
  no_gap_by false = refl

  pub behind_no_gap : is_gap (accept_of w seq).class ≡ false
  unfolding accept_of class_of
  behind_no_gap = rw e (no_gap_by (within 1 w.size (ahead seq w.highest) && not (processed w (ahead seq w.highest))))

-- ---- the answer, and the words
module _ (ws : List ℕ) (r : Receiver) (s : StreamConfig) (time seq : ℕ) where
  pub heard_into_lem : (taken : Arrival) (gap : Option SeqRange) (after : List ℕ) → taken ≡ accept_of r.window seq
      → after ≡ with_receiver ws (settled_of r s time taken.window taken.class) → gap ≡ gap_of r.window.highest taken.class
      → ◌≡◌ {A = Result Delivery Refusal × List ℕ} (Ok record { seq = seq; class = taken.class; gap = gap; lost = taken.lost }, after) (heard_into ws (heard_of r s time seq))
  unfolding heard_of
  heard_into_lem taken gap after t a g = rw (a, g, t)

-- words that stay are those of the receiver that they have
module _ (ws : List ℕ) (r : Receiver) (e : receiver_fits ws ≡ true) (f : r ≡ receiver_in ws) where
  pub words_stay : (next : Receiver) → next ≡ r → ws ≡ with_receiver ws next
  words_stay next g = sym (receiver_same ws e) ∙ ap (with_receiver ws) (sym (g ∙ f))

-- ---- a call whose state is tested first
module _ (ws : List ℕ) (r : Receiver) (s : StreamConfig) (time seq : ℕ) (f : r ≡ receiver_in ws) (p : check_of s ≡ Ok tt) where
  heard_valid : valid_of r ≡ true → heard_of r s time seq ≡ data_answer r s time seq
  unfolding data_answer
  heard_valid v = rw (p, v)

  heard_invalid : valid_of r ≡ false → hearing_refused r InvalidState ≡ data_answer r s time seq
  unfolding data_answer
  heard_invalid v = rw (p, v)

  pub heard_tested : valid_of r ≡ true → (x : Result Delivery Refusal × List ℕ) → x ≡ heard_into ws (heard_of r s time seq) → x ≡ heard_into ws (data_answer (receiver_in ws) s time seq)
  heard_tested v x e = e ∙ ap (heard_into ws) (heard_valid v) ∙ ap (λ (y : Receiver). heard_into ws (data_answer y s time seq)) f

  pub heard_refused_lem : valid_of r ≡ false → receiver_fits ws ≡ true → ◌≡◌ {A = Result Delivery Refusal × List ℕ} (Err InvalidState, ws) (heard_into ws (data_answer (receiver_in ws) s time seq))
  heard_refused_lem v e =
      ap (λ (l : List ℕ). (Err InvalidState, l)) (words_stay ws r e f r refl)
      ∙ ap (heard_into ws) (heard_invalid v)
      ∙ ap (λ (y : Receiver). heard_into ws (data_answer y s time seq)) f

module _ (ws : List ℕ) (r : Receiver) (s : StreamConfig) (time : ℕ) (f : r ≡ receiver_in ws) (p : check_of s ≡ Ok tt) where
  told_valid : valid_of r ≡ true → polled_of r s time ≡ poll_answer r s time
  unfolding poll_answer
  told_valid v = rw (p, v)

  told_invalid : valid_of r ≡ false → event_refused r InvalidState ≡ poll_answer r s time
  unfolding poll_answer
  told_invalid v = rw (p, v)

  pub told_tested : valid_of r ≡ true → (x : Result (Option StreamEvent) Refusal × List ℕ) → x ≡ told_into ws (polled_of r s time) → x ≡ told_into ws (poll_answer (receiver_in ws) s time)
  told_tested v x e = e ∙ ap (told_into ws) (told_valid v) ∙ ap (λ (y : Receiver). told_into ws (poll_answer y s time)) f

  pub told_refused : valid_of r ≡ false → receiver_fits ws ≡ true → ◌≡◌ {A = Result (Option StreamEvent) Refusal × List ℕ} (Err InvalidState, ws) (told_into ws (poll_answer (receiver_in ws) s time))
  told_refused v e =
      ap (λ (l : List ℕ). (Err InvalidState, l)) (words_stay ws r e f r refl)
      ∙ ap (told_into ws) (told_invalid v)
      ∙ ap (λ (y : Receiver). told_into ws (poll_answer y s time)) f

-- ---- a poll
pub told_into_lem : (ws : List ℕ) (e next : ReceiverAnswer (Option StreamEvent)) (after : List ℕ) → e ≡ next → after ≡ with_receiver ws e.receiver → ◌≡◌ {A = Result (Option StreamEvent) Refusal × List ℕ} (e.answer, after) (told_into ws next)
told_into_lem ws e next after q a = rw a (ap (told_into ws) q)

pub polled_narrow : (r : Receiver) (s : StreamConfig) (time : ℕ) (e : ReceiverAnswer (Option StreamEvent)) → e ≡ polled_of r s time → r.window.size < 65536 → NarrowReceiver e.receiver
polled_narrow r s time e q h = omega (arith, ap (λ (x : ReceiverAnswer (Option StreamEvent)). x.receiver.window.size) q, polled_size r s time)

module _ (ws : List ℕ) (r : Receiver) (fit : receiver_fits ws ≡ true) (f : r ≡ receiver_in ws) (s : StreamConfig) (time : ℕ) where
  quiet : polled_of r s time ≡ quiet_of r → ◌≡◌ {A = Result (Option StreamEvent) Refusal × List ℕ} (Ok None, ws) (told_into ws (polled_of r s time))
  quiet e = ap (λ (l : List ℕ). (Ok None, l)) (words_stay ws r fit f r refl) ∙ ap (told_into ws) (sym e)

  stopped : r.timer ≡ None → polled_of r s time ≡ quiet_of r
  unfolding polled_of
  stopped e = ap (polled_at r s time) e

  pub polled_stopped : r.timer ≡ None → ◌≡◌ {A = Result (Option StreamEvent) Refusal × List ℕ} (Ok None, ws) (told_into ws (polled_of r s time))
  polled_stopped e = quiet (stopped e)

  early : (t : RequestTimer) → r.timer ≡ Some t → time < t.due → polled_of r s time ≡ quiet_of r
  unfolding polled_of
  early t e h = ap (polled_at r s time) e ∙ rw (lt-ltb time t.due h)

  pub polled_early : (t : RequestTimer) → r.timer ≡ Some t → time < t.due → ◌≡◌ {A = Result (Option StreamEvent) Refusal × List ℕ} (Ok None, ws) (told_into ws (polled_of r s time))
  polled_early t e h = quiet (early t e h)
