-- By the event.
use mathlib.Core.Path.{◌≡◌, ap, ◌∙◌}
use native.Mathlib.Omega.{arith}
use borrow.Author.Rules.{rules}
use Rattle.std.proofs.Common.{Some, None, Ok}
use Rattle.receiver.specs.declared.receiver.StreamEvent.TheVariants.{DataLoss, ErrorLoss, RetransmitError}
use Rattle.held_notes.proofs.Calls.{refuses, by_event}
use Rattle.held_notes.proofs.held.told.Goals as goal

pub returns-then-state-gt15 : goal.returns-then-state-gt15
returns-then-state-gt15 c = refuses _ _ _ (omega arith) c.refused.ensures

pub returns-in-Ok-None : goal.returns-in-Ok-None
returns-in-Ok-None c =
    by_event _ c.unchanged.result (search rules) (c.in-Ok-None.is ∙ ap Ok (let f : c.in-Ok-None.field-0 ≡ None = rw c.in-Ok-None.is at c.in-Ok-None.field-0-is in f)) (omega arith) c.unchanged.ensures

pub returns-in-Ok-Some-DataLoss : goal.returns-in-Ok-Some-DataLoss
returns-in-Ok-Some-DataLoss c =
    let e = c.in-Ok-Some-DataLoss in
    let f : e.field-0 ≡ Some e.field-0-0 = rw e.is at e.field-0-is in
    let g : e.field-0-0 ≡ DataLoss e.field-0-0-0 = rw (e.is, f) at e.field-0-0-is in
    by_event _ c.silence_all.result (search rules) (e.is ∙ ap Ok (f ∙ ap Some g)) (omega arith) c.silence_all.ensures

pub returns-in-Ok-Some-ErrorLoss : goal.returns-in-Ok-Some-ErrorLoss
returns-in-Ok-Some-ErrorLoss c =
    let e = c.in-Ok-Some-ErrorLoss in
    let f : e.field-0 ≡ Some e.field-0-0 = rw e.is at e.field-0-is in
    let g : e.field-0-0 ≡ ErrorLoss e.field-0-0-0 e.field-0-0-1 = rw (e.is, f) at e.field-0-0-is in
    by_event _ c.silence_all-in-Ok-Some-ErrorLoss.result (search rules) (e.is ∙ ap Ok (f ∙ ap Some g)) (omega arith)
    c.silence_all-in-Ok-Some-ErrorLoss.ensures

pub returns-in-Ok-Some-RetransmitError : goal.returns-in-Ok-Some-RetransmitError
returns-in-Ok-Some-RetransmitError c =
    let e = c.in-Ok-Some-RetransmitError in
    let f : e.field-0 ≡ Some e.field-0-0 = rw e.is at e.field-0-is in
    let g : e.field-0-0 ≡ RetransmitError e.field-0-0-0 = rw (e.is, f) at e.field-0-0-is in
    by_event _ c.unchanged-in-Ok-Some-RetransmitError.result (search rules) (e.is ∙ ap Ok (f ∙ ap Some g)) (omega arith)
    c.unchanged-in-Ok-Some-RetransmitError.ensures

pub returns-in-Err : goal.returns-in-Err
returns-in-Err c = by_event _ c.unchanged-in-Err.result (search rules) c.in-Err.is (omega arith) c.unchanged-in-Err.ensures
