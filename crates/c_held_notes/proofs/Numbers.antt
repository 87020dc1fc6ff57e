-- One law for each way out of a test.
use Prim.Native.Nat.{ℕ}
use Rattle.std.proofs.Common.{Option, Some, None, Result, Ok, Err}
use Rattle.config.specs.declared.refusal.Refusal.{Refusal}
use Rattle.receiver.specs.declared.receiver.Delivery.{Delivery}
use Rattle.window.specs.declared.window.SeqRange.{SeqRange}
use mathlib.Core.Path.{◌≡◌, ap, ap₂, ◌∙◌}
use mathlib.Core.List.{List}
use borrow.Author.Tests.{eq-eqb, ne_eqb}
use Rattle.config.specs.declared.refusal.Refusal.TheVariants.{InvalidState}
use Rattle.window.specs.declared.window.Class.{Class}
use Rattle.window.specs.declared.window.Class.TheVariants.{New, Late, Duplicate}
use Rattle.receiver.specs.declared.receiver.StreamEvent.{StreamEvent}
use Rattle.receiver.specs.declared.receiver.StreamEvent.TheVariants.{DataLoss}
use Rattle.held_notes.specs.Calls.{delivered, told}
use Rattle.held_notes.specs.Answers.{answer_of}
use Rattle.held_notes.specs.declared.held.HeldNotes.{HeldNotes}
use Rattle.held_notes.specs.declared.held.Given.{Given as Left}
use Rattle.c_held_notes.specs.Numbers.{class_of, span_of, hearing_of, event_of, given_of}
use Rattle.c_held_notes.specs.declared.exports.CGiven.{CGiven}

module _ (n : ℕ) where
  pub class_new : n ≡ 0 → New 0 ≡ class_of n
  unfolding class_of
  class_new a = rw (eq-eqb n 0 a)

  pub class_late : (n ≡ 0 → ⊥) → n ≡ 1 → Late ≡ class_of n
  unfolding class_of
  class_late a b = rw (ne_eqb n 0 a, eq-eqb n 1 b)

  pub class_other : (n ≡ 0 → ⊥) → (n ≡ 1 → ⊥) → Duplicate ≡ class_of n
  unfolding class_of
  class_other a b = rw (ne_eqb n 0 a, ne_eqb n 1 b)

  pub span_none : n ≡ 0 → None ≡ span_of n
  unfolding span_of
  span_none a = rw (eq-eqb n 0 a)

  pub span_some : (n ≡ 0 → ⊥) → Some record { first = 0; count = n } ≡ span_of n
  unfolding span_of
  span_some a = rw (ne_eqb n 0 a)

  pub event_loss_lem : n ≡ 1 → Ok (Some (DataLoss record { first = 0; count = 1 })) ≡ event_of n
  unfolding event_of
  event_loss_lem a = rw (eq-eqb n 1 a)

  pub event_error_loss : (n ≡ 1 → ⊥) → n ≡ 2 → Ok (Some (DataLoss record { first = 0; count = 1 })) ≡ event_of n
  unfolding event_of
  event_error_loss a b = rw (ne_eqb n 1 a, eq-eqb n 2 b)

  pub event_none : (n ≡ 1 → ⊥) → (n ≡ 2 → ⊥) → Ok None ≡ event_of n
  unfolding event_of
  event_none a b = rw (ne_eqb n 1 a, ne_eqb n 2 b)

module _ (refusal class count : ℕ) where
  pub hearing_done : refusal ≡ 0 → (c : Class) (l : Option SeqRange) → c ≡ class_of class → l ≡ span_of count
      → Ok record { seq = 0; class = c; gap = None; lost = l } ≡ hearing_of refusal class count
  unfolding hearing_of
  hearing_done a c l e f = rw (eq-eqb refusal 0 a) (ap₂ (λ (x : Class) (y : Option SeqRange). Ok record { seq = 0; class = x; gap = None; lost = y }) e f)

  pub hearing_refused_lem : (refusal ≡ 0 → ⊥) → Err InvalidState ≡ hearing_of refusal class count
  unfolding hearing_of
  hearing_refused_lem a = rw (ne_eqb refusal 0 a)

-- ---- by what the numbers stand for

pub by_hearing : (s : HeldNotes) (ws : List ℕ) (g : Left) (r : CGiven) {h k : Result Delivery Refusal} → h ≡ k → g ≡ answer_of s (delivered h ws) → r ≡ given_of g
    → r ≡ given_of (answer_of s (delivered k ws))
by_hearing s ws g r e a i = i ∙ ap given_of (a ∙ ap (λ (x : Result Delivery Refusal). answer_of s (delivered x ws)) e)

pub by_event : (s : HeldNotes) (g : Left) (r : CGiven) {d e : Result (Option StreamEvent) Refusal} → d ≡ e → g ≡ answer_of s (told d) → r ≡ given_of g → r ≡ given_of (answer_of s (told e))
by_event s g r e a i = i ∙ ap given_of (a ∙ ap (λ (x : Result (Option StreamEvent) Refusal). answer_of s (told x)) e)
