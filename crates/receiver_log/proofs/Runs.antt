-- Every list of calls on a fresh receiver.
use Prim.Native.Nat.{ℕ, ◌-◌, ◌≤◌}
use mathlib.Core.Path.{◌≡◌, refl, ap, sym, ◌∙◌, subst}
use mathlib.Core.Bool.{Bool, true, false, not}
use mathlib.Core.List.{List, [], ◌∷◌}
use Rattle.window.specs.Set.{max_window}
use Rattle.window.specs.Window.{missing_span}
use Rattle.receiver.specs.Receiver.{valid_of, fresh_of}
use Rattle.receiver.specs.Answers.{data_answer, poll_answer, error_answer, nak_answer, take_answer}
use Rattle.receiver.specs.declared.receiver.Receiver.{Receiver}
use Rattle.receiver_log.specs.Calls.{Call, data_command, poll, retransmit_error, nak, take_request, Entry, step_of, run_from, run, Typed, AllTyped}
use Rattle.receiver_log.specs.Log.{reports, high}
use Rattle.receiver_log.specs.Spans.{missing_in, request_in}
use Rattle.receiver_log.specs.Answers.{said_of}
use Rattle.receiver_log.specs.Promise.{Promise, FromTo, Kept, StateTaken, ReceiverPromise, MissingSpan, Reached, NeverInvalid, Answered}
use Rattle.receiver_log.proofs.Settled.{settled, unprocessed_is}
use Rattle.receiver_log.proofs.Held.{held_fresh}
use Rattle.receiver_log.proofs.SpanIs.{missing_span_lem, request_is}
use Rattle.receiver_log.proofs.Missing.{promised, span_reaches}
use Rattle.receiver_log.proofs.Follows.{Follows, StepOk, passes}
use Rattle.receiver_log.proofs.Hearing.{data_ok}
use Rattle.receiver_log.proofs.Polling.{poll_ok}
use Rattle.receiver_log.proofs.Refusing.{error_ok, nak_ok}
use Rattle.receiver_log.proofs.Taking.{take_ok}

-- ---- one call

step_at : (r : Receiver) (t : List Entry) (c : Call) → Follows r.window.size r t → Typed c → StepOk r.window.size t c (step_of r c)
step_at r t (data_command s time seq ws) i l = data_ok r t s time seq ws i l
step_at r t (poll s time) i l = poll_ok r t s time i
step_at r t (retransmit_error e) i l = error_ok r t i e
step_at r t nak i l = nak_ok r t i
step_at r t (take_request s p b) i l = take_ok r t s p b i

pub step_ok : (W : ℕ) (r : Receiver) (t : List Entry) (c : Call) → Follows W r t → Typed c → StepOk W t c (step_of r c)
step_ok W r t c i l =
    subst (λ (n : ℕ). StepOk n t c (step_of r c)) i.size (step_at r t c (subst (λ (n : ℕ). Follows n r t) (sym i.size) i) l)

-- ---- all calls

from_ok : (W : ℕ) (calls : List Call) (r : Receiver) (t : List Entry) → Follows W r t → AllTyped calls → Follows W (run_from r t calls).receiver (run_from r t calls).log
unfolding run_from
from_ok W [] r t i l = i
from_ok W (c ∷ calls) r t i l = from_ok W calls (step_of r c).receiver ((step_of r c).entry ∷ t) (step_ok W r t c i l.0).follows l.1

fresh_ok : (W : ℕ) → 1 ≤ W → W ≤ max_window → Follows W (fresh_of W) []
fresh_ok W p q = record { held = held_fresh W p q; size = refl; timer = refl; due = refl; refused = refl; asked = refl; few = tt }

pub run_ok : (W : ℕ) → 1 ≤ W → W ≤ max_window → (calls : List Call) → AllTyped calls → Follows W (run W calls).receiver (run W calls).log
unfolding run
run_ok W p q calls l = from_ok W calls (fresh_of W) [] (fresh_ok W p q) l

-- ---- the log, from the calls alone

from_said : (W : ℕ) (calls : List Call) (r : Receiver) (t : List Entry) → Follows W r t → AllTyped calls → (run_from r t calls).log ≡ said_of W t calls
unfolding run_from said_of
from_said W [] r t i l = refl
from_said W (c ∷ calls) r t i l =
    let k = step_ok W r t c i l.0 in
    from_said W calls (step_of r c).receiver ((step_of r c).entry ∷ t) k.follows l.1 ∙ ap (λ (e : Entry). said_of W (e ∷ t) calls) k.says

pub run_said : (W : ℕ) → 1 ≤ W → W ≤ max_window → (calls : List Call) → AllTyped calls → (run W calls).log ≡ said_of W [] calls
unfolding run
run_said W p q calls l = from_said W calls (fresh_of W) [] (fresh_ok W p q) l

-- ---- the theorems

kept : (W : ℕ) (r : Receiver) (t : List Entry) → Follows W r t → Kept W r t
kept W r t i = record {
  valid = passes r i.held.valid;
  size = i.size;
  highest = i.held.highest;
  position = λ b l. i.held.same b l ∙ twice (settled (reports t) (high (reports t) - b)) ∙ ap not (sym (unprocessed_is (reports t) (high (reports t) - b)));
  missing = missing_span_lem i.held ∙ ap (λ (n : ℕ). missing_in n (reports t)) i.size;
  request = request_is i.held ∙ ap (λ (n : ℕ). request_in n (reports t)) i.size;
  timer = i.timer;
  due = i.due;
  refused = i.refused;
  asked = i.asked;
}
  where
    twice : (y : Bool) → y ≡ not (not y)
    twice true = refl
    twice false = refl

state_taken : (r : Receiver) → valid_of r ≡ true → StateTaken r
unfolding data_answer poll_answer error_answer nak_answer take_answer
state_taken r v = record {
  data_command = λ s time seq. rw v;
  poll = λ s time. rw v;
  retransmit_error = λ e. rw v;
  nak = rw v;
  take_request = λ s p b. rw v;
}

pub receiver_promise : ReceiverPromise
receiver_promise W p q calls l =
    let i = run_ok W p q calls l in
    subst (λ (n : ℕ). Promise n (reports (run W calls).log)) i.size (promised i.held)

pub missing_from_to : MissingSpan
missing_from_to W p q calls l =
    let i = run_ok W p q calls l in
    subst (λ (n : ℕ). FromTo n (reports (run W calls).log) (missing_span (run W calls).receiver.window)) i.size (span_reaches i.held)

pub reached : Reached
reached W p q calls l = kept W (run W calls).receiver (run W calls).log (run_ok W p q calls l)

pub never_invalid : NeverInvalid
never_invalid W p q calls l = state_taken (run W calls).receiver (reached W p q calls l).valid

pub answered : Answered
answered W p q calls l =
    record { next = λ c k. (step_ok W (run W calls).receiver (run W calls).log c (run_ok W p q calls l) k).says; whole = run_said W p q calls l }
