-- An event in one word, and the events that a poll tells: none has a reason.
use mathlib.Core.Path.{◌≡◌, refl, ap, sym, ◌∙◌}
use Rattle.std.proofs.Common.{Option, Some, None, Result}
use Rattle.receiver.specs.declared.receiver.ReceiverAnswer.{ReceiverAnswer}
use Rattle.receiver.specs.declared.receiver.RequestTimer.{RequestTimer}
use Rattle.window.specs.declared.window.SeqRange.{SeqRange}
use mathlib.Core.Bool.{Bool, true, false, cond, ◌&&◌}
use mathlib.Core.List.{List}
use Prim.Native.Nat.{ℕ, ◌<◌}
use native.Mathlib.Omega.{arith}
use lib.Dec.{ltb}
use Rattle.config.specs.Settings.{check_of}
use Rattle.config.specs.declared.refusal.Refusal.{Refusal}
use Rattle.config.specs.declared.settings.StreamConfig.{StreamConfig}
use Rattle.config.specs.inner.Entries.{entry_any}
use Rattle.window.specs.Window.{missing_span}
use Rattle.window.specs.declared.window.ReceiveWindow.{ReceiveWindow}
use Rattle.receiver.specs.Receiver.{valid_of, enabled_of, nothing_missing, loss_of, gave_up, polled_at, polled_of}
use Rattle.receiver.specs.Answers as receiver
use Rattle.receiver.specs.declared.receiver.Receiver.{Receiver}
use Rattle.receiver.specs.declared.receiver.StreamEvent.{StreamEvent}
use Rattle.c_answers.specs.Answers.{event_of}
use Rattle.c_answers.specs.declared.answers.CEvent.{CEvent}
use Rattle.c_state.specs.Pack.{four_in, word, two_in, pair}
use Rattle.c_state.specs.Receiving.{told_into}
use Rattle.c_state.specs.declared.pack.Quarters.{Quarters}
use Rattle.c_state.specs.declared.pack.Halves.{Halves}
use Rattle.c_state.proofs.Packed.{four_word, two_pair}
use Rattle.c_stream.specs.EventWord.{event_in}

-- ---- put together and taken out again
pair_narrow : (low high : ℕ) → low < 256 → high < 256 → pair low high < 65536
unfolding pair
pair_narrow low high h g = omega arith

module _ (e : CEvent) (hr : e.refusal < 256) (hk : e.kind < 256) (hs : e.seq < 65536) (hc : e.count < 65536) where
  abbrev small : ℕ
  small = pair e.refusal e.kind

  figures : four_in (word small e.count e.seq e.first) ≡ record { a = small; b = e.count; c = e.seq; d = e.first }
  figures = four_word small e.count e.seq e.first (pair_narrow e.refusal e.kind hr hk) hc hs

  abbrev without : ℕ → CEvent
  without n = record { refusal = e.refusal; kind = e.kind; reason = n; seq = e.seq; first = e.first; count = e.count }

  read : (w : ℕ) → w ≡ word small e.count e.seq e.first → event_in w ≡ without 0
  unfolding event_in
  read w ew = rw (ew, figures, two_pair e.refusal e.kind hr)

  pub event_back : e.reason ≡ 0 → (p w : ℕ) → p ≡ small → w ≡ word p e.count e.seq e.first → event_in w ≡ e
  event_back plain p w ep ew = read w (ew ∙ ap (λ (x : ℕ). word x e.count e.seq e.first) ep) ∙ ap without (sym plain)

pub event_made : (w : ℕ) (q : Quarters) (s : Halves) → q ≡ four_in w → s ≡ two_in q.a
    → ◌≡◌ {A = CEvent} record { refusal = s.low; kind = s.high; reason = 0; seq = q.c; first = q.d; count = q.b } (event_in w)
unfolding event_in
event_made w q s eq es = rw (es, eq)

-- ---- what a poll tells
abbrev Plain : ReceiverAnswer (Option StreamEvent) → Type 0
Plain t = (event_of t.answer).reason ≡ 0

plain_by : (b : Bool) (x y : ReceiverAnswer (Option StreamEvent)) → Plain x → Plain y → Plain (cond b x y)
plain_by true x y p q = p
plain_by false x y p q = q

loss_plain : (lost : Option SeqRange) → (event_of (loss_of lost)).reason ≡ 0
loss_plain None = refl
loss_plain (Some range) = refl

gave_up_plain : (refused : Bool) (w : ReceiveWindow) → Plain (gave_up refused w)
unfolding gave_up
gave_up_plain refused w = loss_plain (missing_span w)

module _ (r : Receiver) (s : StreamConfig) (time : ℕ) where
  at_plain : (t : Option RequestTimer) → Plain (polled_at r s time t)
  at_plain None = refl
  at_plain (Some t) =
      plain_by (ltb time t.due) _ _ refl
      (plain_by (nothing_missing r.window) _ _ refl
      (plain_by (ltb t.sent s.max_requests && enabled_of r s) _ _ refl
      (gave_up_plain r.refused r.window)))

  polled_plain : Plain (polled_of r s time)
  unfolding polled_of
  polled_plain = at_plain r.timer

  answer_plain : Plain (receiver.poll_answer r s time)
  unfolding receiver.poll_answer
  answer_plain = entry_any Plain (receiver.event_refused r) (polled_of r s time) (λ (why : Refusal). refl) (check_of s) (valid_of r) (λ c v. polled_plain)

  pub no_reason : (ws : List ℕ) (t : Result (Option StreamEvent) Refusal) (after : List ℕ) (e : CEvent) → (t, after) ≡ told_into ws (receiver.poll_answer r s time) → e ≡ event_of t → e.reason ≡ 0
  no_reason ws t after e told of =
      ap (λ (x : CEvent). x.reason) of
      ∙ ap (λ (x : Result (Option StreamEvent) Refusal × List ℕ). (event_of x.0).reason) told
      ∙ answer_plain
