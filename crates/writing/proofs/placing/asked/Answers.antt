-- The oldest request stands at the head.
use mathlib.Core.Path.{refl, ap}
use Rattle.command.specs.declared.retransmit.RetransmitRequest.{RetransmitRequest}
use Rattle.writing.proofs.Serving.{front_request}
use borrow.Author.Rules.{rules}
use Rattle.writing.proofs.placing.asked.Goals as goal

pub offset_bounds-queue-head : goal.offset_bounds-queue-head
offset_bounds-queue-head c = search rules

pub bounds-queue-head : goal.bounds-queue-head
bounds-queue-head c = search rules

pub returns : goal.returns
returns c = ap (λ (x : RetransmitRequest). x.seq) (front_request _ _ c.requires refl)
