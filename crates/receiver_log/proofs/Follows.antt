-- What ties a receiver to the log, and how a call keeps it.
use Prim.Native.Nat.{ℕ, ◌-◌, ◌^◌, ◌≤◌, ◌<◌}
use Rattle.std.proofs.Common.{Option, Some, None}
use Rattle.command.specs.declared.retransmit.RetransmitRequest.{RetransmitRequest}
use Rattle.receiver.specs.declared.receiver.RequestTimer.{RequestTimer}
use mathlib.Core.Path.{◌≡◌, refl, ap, sym, ◌∙◌, subst}
use mathlib.Core.Logic.{inl, inr}
use mathlib.Core.Bool.{Bool, true, false, cond}
use mathlib.Core.List.{List, [], ◌∷◌}
use lib.Dec.{eqb}
use borrow.Author.Tests.{le-leb, lt-ltb}
use Rattle.config.specs.Sequence.{turn}
use Rattle.config.specs.inner.Tests.{split}
use Rattle.window.specs.Set.{max_window, val}
use Rattle.window.specs.Window.{Valid, valid_of as window_valid, fresh_of as all_processed, missing_of}
use Rattle.window.specs.declared.window.ReceiveWindow.{ReceiveWindow}
use Rattle.window.proofs.Positions.{processed_fresh}
use Rattle.receiver.specs.Receiver.{valid_of, rest_of}
use Rattle.receiver.specs.declared.receiver.Receiver.{Receiver}
use Rattle.receiver_log.specs.Calls.{Call, Entry, Step}
use Rattle.receiver_log.specs.Log.{Report, told, report_of, reports, high, unprocessed}
use Rattle.receiver_log.specs.Spans.{Ends, none, ends, is_none, ends_of, missing_ends, nothing_missing}
use Rattle.receiver_log.specs.Timing.{nak_after, nak_in, timer_after, timer_in, due_then, due_in, asked_after, asked_in}
use Rattle.receiver_log.specs.Answers.{answer_of}
use Rattle.receiver_log.proofs.EndsOf.{EndsOk, ends_ok}
use Rattle.config.specs.inner.Choices.{never}
use Rattle.receiver_log.proofs.Held.{Held, held_quiet, open_in}
use Rattle.receiver_log.proofs.SpanIs.{missing_none}

-- a request that was made here asks for no more than the window holds
abbrev pub AskedOk : ℕ → Option RetransmitRequest → Type 0
AskedOk W None = Unit {0}
AskedOk W (Some q) = (q.seq < turn) × (q.count ≤ W)

pub record Follows (W : ℕ) (r : Receiver) (t : List Entry) : Type 0 where
  pub held : Held r.window (reports t)
  pub size : r.window.size ≡ W
  pub timer : r.timer ≡ timer_in W t
  pub due : r.request_due ≡ due_in W t
  pub refused : r.refused ≡ nak_in t
  pub asked : r.asked ≡ asked_in W t
  pub few : AskedOk W r.asked

-- a call's step keeps it, and the answer is the log's
pub record StepOk (W : ℕ) (t : List Entry) (c : Call) (s : Step) : Type 0 where
  pub follows : Follows W s.receiver (s.entry ∷ t)
  pub says : s.entry ≡ answer_of W t c

-- ---- the state test

pub passes : (r : Receiver) → Valid r.window → valid_of r ≡ true
unfolding valid_of window_valid
passes r v =
    rw (le-leb 1 r.window.size v.some, le-leb r.window.size max_window v.most, lt-ltb (val r.window.bits) (2 ^ r.window.size) v.inside)

-- ---- what is missing

pub none_missing_lem : (W : ℕ) {w : ReceiveWindow} {t : List Report} → Held w t → w.size ≡ W → eqb (missing_of w) 0 ≡ nothing_missing W t
none_missing_lem W {w} {t} i e = missing_none i ∙ ap (λ (n : ℕ). is_none (missing_ends n t)) e

pub quiet_ends : (W : ℕ) (t : List Report) → missing_ends W (told None ∷ t) ≡ missing_ends W t
unfolding missing_ends unprocessed
quiet_ends W t = refl

pub all_none : (size highest : ℕ) (t : List Report) → Held (all_processed size highest) t → nothing_missing size t ≡ true
unfolding missing_ends
all_none size highest t i = go (ends_of (λ b. unprocessed t (high t - b)) 1 size) (ends_ok (λ b. unprocessed t (high t - b)) 1 size)
  where
    go : (s : Ends) → EndsOk (λ b. unprocessed t (high t - b)) 1 size s → is_none s ≡ true
    go none h = refl
    go (ends x y) h = absurd (never (processed_fresh size highest x) (open_in i x h.newest).3)

-- with nothing missing, no timer runs, no request is due and none unanswered
pub idle : (W : ℕ) (t : List Entry) → nothing_missing W (reports t) ≡ true → (timer_in W t ≡ None) × (due_in W t ≡ false) × (asked_in W t ≡ None)
idle W [] e = (refl, refl, refl)
idle W (x ∷ t) e = (rw e, rw e, rw e)

-- ---- after a call

module _ (W : ℕ) (w : ReceiveWindow) (e : Entry) (t : List Entry) (h : Held w (reports (e ∷ t))) (s : w.size ≡ W) where
  -- nothing is missing
  pub follows_rest : (off : Bool) → nothing_missing W (reports (e ∷ t)) ≡ true → off ≡ nak_in (e ∷ t) → Follows W (rest_of off w) (e ∷ t)
  follows_rest off n f = record { held = h; size = s; timer = rw n; due = rw n; refused = f; asked = rw n; few = tt }

  -- something is
  pub follows_on : (k : Option RequestTimer) (due off : Bool) (a : Option RetransmitRequest) → nothing_missing W (reports (e ∷ t)) ≡ false → k ≡ timer_after t (timer_in W t) e
      → due ≡ due_then t (timer_in W t) (due_in W t) e → off ≡ nak_in (e ∷ t) → a ≡ asked_after W t (asked_in W t) e → AskedOk W a
      → Follows W (record { window = w; timer = k; request_due = due; refused = off; asked = a }) (e ∷ t)
  follows_on k due off a n kt kd kf ka o = record { held = h; size = s; timer = rw n kt; due = rw n kd; refused = kf; asked = rw n ka; few = o }

-- the call changed nothing
module _ (W : ℕ) (r : Receiver) (e : Entry) (t : List Entry) (i : Follows W r t) (q : report_of e ≡ told None) where
  same_missing : nothing_missing W (reports (e ∷ t)) ≡ nothing_missing W (reports t)
  same_missing = ap (λ (x : Report). is_none (missing_ends W (x ∷ reports t))) q ∙ ap is_none (quiet_ends W (reports t))

  pub follows_same : timer_after t (timer_in W t) e ≡ timer_in W t → due_then t (timer_in W t) (due_in W t) e ≡ due_in W t → nak_after (nak_in t) e ≡ nak_in t
      → asked_after W t (asked_in W t) e ≡ asked_in W t → Follows W r (e ∷ t)
  follows_same kt kd kf ka = record {
    held = subst (λ (x : Report). Held r.window (x ∷ reports t)) (sym q) (held_quiet i.held);
    size = i.size;
    timer = i.timer ∙ keeps None (timer_in W t) (timer_after t (timer_in W t) e) (λ n. (idle W t n).0) kt;
    due = i.due ∙ keeps false (due_in W t) (due_then t (timer_in W t) (due_in W t) e) (λ n. (idle W t n).1) kd;
    refused = i.refused ∙ sym kf;
    asked = i.asked ∙ keeps None (asked_in W t) (asked_after W t (asked_in W t) e) (λ n. (idle W t n).2) ka;
    few = i.few;
  }
    where
      keeps : {A : Type 0} (rest before next : A) → (nothing_missing W (reports t) ≡ true → before ≡ rest) → next ≡ before
          → before ≡ cond (nothing_missing W (reports (e ∷ t))) rest next
      keeps rest before next f g = elim (split (nothing_missing W (reports t))) [
        | inl n ↦ rw (same_missing ∙ n) (f n)
        | inr n ↦ rw (same_missing ∙ n) (sym g)
      ]
