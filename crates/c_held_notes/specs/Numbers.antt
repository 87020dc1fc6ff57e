-- The stream's answers by the numbers that include/sirmjold.h has for them, and what is given as numbers.
use Rattle.std.specs.Prelude.{ℕ, cond, ◌||◌, eqb, Option, Some, None, Result, Ok, Err}
use Rattle.config.specs.declared.refusal.Refusal.{Refusal}
use Rattle.receiver.specs.declared.receiver.Delivery.{Delivery}
use Rattle.window.specs.declared.window.SeqRange.{SeqRange}
use Rattle.config.specs.Refusals.{outcome_number}
use Rattle.config.specs.declared.refusal.Refusal.TheVariants.{InvalidState}
use Rattle.window.specs.declared.window.Class.{Class}
use Rattle.window.specs.declared.window.Class.TheVariants.{New, Late, Duplicate}
use Rattle.receiver.specs.declared.receiver.StreamEvent.{StreamEvent}
use Rattle.receiver.specs.declared.receiver.StreamEvent.TheVariants.{DataLoss}
use Rattle.held_notes.specs.declared.held.Given.{Given as Left}
use Rattle.c_held_notes.specs.declared.exports.CGiven.{CGiven}

-- ---- the stream's answers; their numbers, gaps and reasons are looked at by nobody

unfoldable pub class_of : ℕ → Class
class_of n = cond (eqb n 0) (New 0) (cond (eqb n 1) Late Duplicate)

unfoldable pub span_of : ℕ → Option SeqRange
span_of count = cond (eqb count 0) None (Some record { first = 0; count = count })

unfoldable pub hearing_of : ℕ → ℕ → ℕ → Result Delivery Refusal
hearing_of refusal class count =
    cond (eqb refusal 0) (Ok record { seq = 0; class = class_of class; gap = None; lost = span_of count }) (Err InvalidState)

unfoldable pub event_of : ℕ → Result (Option StreamEvent) Refusal
event_of kind = cond (eqb kind 1 || eqb kind 2) (Ok (Some (DataLoss record { first = 0; count = 1 }))) (Ok None)

-- ---- what is given

unfoldable pub given_of : Left → CGiven
given_of g = record { state = g.state; notes = g.notes; refusal = outcome_number g.answer }
