-- What serving the requests that are left gives, after the commands that were written, is what serving all gives. The sender differs in its ring only.
use mathlib.Core.Path.{◌≡◌}
use mathlib.Core.Bool.{true}
use Prim.Native.Nat.{◌+◌, ◌*◌, ◌≤◌}
use lib.ListN.{length}
use Rattle.packet.specs.Write.{valid_of as payload_valid, start_of}
use Rattle.history.specs.Queue.{Fit}
use Rattle.sender.specs.Requests.{with_queue}
use Rattle.writing.specs.Writing.{served_also, served_in, served_of}
use Rattle.writing.proofs.tested.serve.Given as goal

abbrev pub invariant-loop-queue : goal.invariant-loop-queue
invariant-loop-queue l = record {
  fit : Fit l.queue;
  payload : payload_valid l.q (length l.buf) ≡ true;
  buf : length l.buf ≡ length l.initial.buf;
  few : start_of l.initial.q + 4 * l.n ≤ start_of l.q;
  served : served_also l.n (served_in l.queue.len (with_queue l.s l.queue) l.ring l.q l.buf) ≡ served_of l.s l.ring l.initial.q l.initial.buf;
}

abbrev pub decreases-loop-queue : goal.decreases-loop-queue
decreases-loop-queue l = l.queue.len
