use mathlib.Core.Path.{◌≡◌, refl, ap, ◌∙◌}
use Prim.Native.Nat.{ℕ, ◌+◌, ◌-◌}
use Rattle.writing.specs.Writing.{served_also, served_in}
use native.Mathlib.Omega.{arith}
use lib.ListN.{get_or}
use borrow.Author.Rules.{rules}
use Rattle.command.specs.declared.retransmit.RetransmitRequest.{RetransmitRequest}
use Rattle.history.specs.Queue.{blank}
use Rattle.history.specs.declared.queue.RetransmitQueue.{RetransmitQueue}
use Rattle.rows.proofs.Filling.{start_most, out_valid, out_length, out_grows}
use Rattle.sender.specs.Requests.{with_queue}
use Rattle.writing.proofs.Serving.{front_request, pop_made, popped_fit, served_start, served_few, served_popped, served_stays, served_end}
use Rattle.sender.proofs.Validity.{valid_fit, valid_unsent, valid_few}
use Rattle.writing.proofs.tested.serve.Goals as goal

-- the oldest request
abbrev front : RetransmitQueue → RetransmitRequest
front q = get_or q.items q.head blank

pub loop-queue-init : goal.loop-queue-init
loop-queue-init c = record { fit = valid_fit _ _ c.requires.0; payload = c.requires.1; buf = refl; few = omega arith; served = served_start _ _ _ _ }

pub offset_bounds-queue-head : goal.offset_bounds-queue-head
offset_bounds-queue-head c = search rules

pub bounds-queue-head : goal.bounds-queue-head
bounds-queue-head c = search rules

pub answer-out-requires : goal.answer-out-requires
answer-out-requires c = (c.requires.0, c.loop-queue.invariant.payload, c.requires.2)

pub overflow_add-n : goal.overflow_add-n
overflow_add-n c =
    omega (arith, out_grows _ _ _ _ _ _ _ c.answer-out.ensures, start_most _ _ (out_valid _ _ _ _ _ _ _ c.answer-out.ensures c.loop-queue.invariant.payload), c.loop-queue.invariant.few)

pub pop-popped-requires : goal.pop-popped-requires
pop-popped-requires c = c.loop-queue.invariant.fit

pub loop-queue-smaller : goal.loop-queue-smaller
loop-queue-smaller c =
    let next = pop_made _ _ c.loop-queue-test.true c.pop-popped.ensures in
    omega (arith, ap (λ (x : RetransmitQueue). x.len) next)

pub loop-queue-preserved : goal.loop-queue-preserved
loop-queue-preserved c =
    let next = pop_made _ _ c.loop-queue-test.true c.pop-popped.ensures in
    record {
      fit = rw next (popped_fit _ c.loop-queue.invariant.fit);
      payload = out_valid _ _ _ _ _ _ _ c.answer-out.ensures c.loop-queue.invariant.payload;
      buf = out_length _ _ _ _ _ _ _ c.answer-out.ensures ∙ c.loop-queue.invariant.buf;
      few = omega (arith, out_grows _ _ _ _ _ _ _ c.answer-out.ensures, c.loop-queue.invariant.few);
      served =
          let n : c.pop-popped.result.queue.len ≡ c.loop-queue.queue.len - 1 = ap (λ (x : RetransmitQueue). x.len) next in
          ap (λ (k : ℕ). served_also (c.loop-queue.n + c.answer-out.result.written) (served_in k (with_queue c.args.s c.pop-popped.result.queue) c.args.ring.now c.answer-out.result.payload c.answer-out.new.buf)) n
          ∙ served_popped (with_queue c.args.s c.loop-queue.queue) c.args.ring.now _ _ (front c.loop-queue.queue) _ _ _ _ c.answer-out.ensures (front_request _ _ c.loop-queue.invariant.fit refl) _ _ c.loop-queue-test.true _ c.loop-queue.invariant.served _ _ c.leaves.ensures c.if-leaves.true next;
    }

pub rest-requires : goal.rest-requires
rest-requires c =
    (c.loop-queue.invariant.fit, c.loop-queue-test.true, valid_unsent _ _ c.requires.0, valid_few _ _ c.requires.0, served_few c.args.s c.args.ring.now _ _ (front c.loop-queue.queue) _ _ _ _ c.answer-out.ensures)

pub shape_of-buf-else-leaves : goal.shape_of-buf-else-leaves
shape_of-buf-else-leaves c = out_length _ _ _ _ _ _ _ c.answer-out.ensures ∙ c.loop-queue.invariant.buf

pub returns-else-leaves : goal.returns-else-leaves
returns-else-leaves c =
    served_stays (with_queue c.args.s c.loop-queue.queue) c.args.ring.now _ _ (front c.loop-queue.queue) _ _ _ _ c.answer-out.ensures (front_request _ _ c.loop-queue.invariant.fit refl) _ _ c.loop-queue-test.true _ c.loop-queue.invariant.served _ _ c.leaves.ensures c.if-leaves.false c.rest.ensures

pub shape_of-buf : goal.shape_of-buf
shape_of-buf c = c.loop-queue.invariant.buf

pub returns : goal.returns
returns c = served_end _ _ _ _ _ _ _ c.loop-queue-test.false c.loop-queue.invariant.served
