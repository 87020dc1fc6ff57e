-- Every list of calls on a fresh sender.
use Prim.Native.Nat.{ℕ}
use Rattle.std.proofs.Common.{Ok, Err}
use Rattle.sender.specs.declared.sender.SenderAnswer.{SenderAnswer}
use Rattle.std.specs.Bool.{⊤}
use mathlib.Core.Path.{◌≡◌, refl, ap, ◌∙◌}
use mathlib.Core.Bool.{Bool, true, false, cond, not, ◌||◌}
use mathlib.Core.List.{List, [], ◌∷◌}
use native.Mathlib.Omega.{arith}
use lib.Dec.{eqb}
use lib.ListN.{length}
use Rattle.config.specs.Range.{outside}
use Rattle.config.specs.declared.refusal.Refusal.{Refusal}
use Rattle.history.specs.State.{state_ok}
use Rattle.history.proofs.Entries.{holds_entries}
use Rattle.sender.specs.State.{valid_of, start_of}
use Rattle.sender.specs.Answers.{unstarted, not_started, new_answer, reset_answer, send_answer, request_answer, deadline_answer, wants_answer, next_answer}
use Rattle.writing.specs.Answers.{write_answer}
use Rattle.sender.specs.declared.sender.Sender.{Sender}
use Rattle.sender_log.specs.Book.{Book, nothing}
use Rattle.sender_log.specs.Calls.{Call, queue_words, retransmit_request, write, Entry, queue_entry, request_entry, Step, step_of, run_from, run, Typed, AllTyped}
use Rattle.sender_log.specs.Answers.{told_of, book_from, book_of, said_from}
use Rattle.sender_log.specs.Promise.{Kept, StateTaken, StateRefused, Started, Reached, NeverInvalid, NotStarted, Answered}
use Rattle.sender_log.proofs.Follows.{Follows, follows_valid, start_follows, request_follows, send_follows, write_follows}

-- ---- one call

pub record StepOk (c q : ℕ) (b : Book) (call : Call) (x : Step) : Type 0 where
  pub follows : Follows c q x.sender x.ring (told_of c q b call).book
  pub says : x.entry ≡ (told_of c q b call).entry

pub step_ok : (c q : ℕ) (s : Sender) (ring : List ℕ) (b : Book) (call : Call) → Follows c q s ring b → Typed call → StepOk c q b call (step_of s ring call)
unfolding step_of told_of
step_ok c q s ring b (queue_words cfg ws) f t =
    let k = send_follows c q s ring b f cfg ws in
    record { follows = k.0; says = ap (queue_entry cfg ws) k.1 }
step_ok c q s ring b (retransmit_request cfg r) f t =
    let k = request_follows c q s ring b f cfg r in
    record { follows = k.0; says = ap (request_entry cfg r) k.1 }
step_ok c q s ring b (write cfg time p by) f t =
    let k = write_follows c q s ring b f cfg t time p by in
    record { follows = k.0; says = cc (k.1, k.2, k.3) }

-- ---- all calls

from_ok : (c q : ℕ) (calls : List Call) (s : Sender) (ring : List ℕ) (b : Book) (t : List Entry) → Follows c q s ring b → AllTyped calls
    → Follows c q (run_from s ring t calls).sender (run_from s ring t calls).ring (book_from c q b calls)
unfolding run_from book_from
from_ok c q [] s ring b t f l = f
from_ok c q (call ∷ calls) s ring b t f l =
    from_ok c q calls (step_of s ring call).sender (step_of s ring call).ring (told_of c q b call).book ((step_of s ring call).entry ∷ t) (step_ok c q s ring b call f l.0).follows l.1

from_said : (c q : ℕ) (calls : List Call) (s : Sender) (ring : List ℕ) (b : Book) (t : List Entry) → Follows c q s ring b → AllTyped calls
    → (run_from s ring t calls).log ≡ said_from c q b t calls
unfolding run_from said_from
from_said c q [] s ring b t f l = refl
from_said c q (call ∷ calls) s ring b t f l =
    let k = step_ok c q s ring b call f l.0 in
    from_said c q calls (step_of s ring call).sender (step_of s ring call).ring (told_of c q b call).book ((step_of s ring call).entry ∷ t) k.follows l.1
    ∙ ap (λ (e : Entry). said_from c q (told_of c q b call).book (e ∷ t) calls) k.says

module _ (c q : ℕ) (ring₀ : List ℕ) (started : Started c q ring₀) (calls : List Call) (l : AllTyped calls) where
  pub run_ok : Follows c q (run c q ring₀ calls).sender (run c q ring₀ calls).ring (book_of c q calls)
  unfolding run
  run_ok = from_ok c q calls (new_answer c q ring₀).0.sender (new_answer c q ring₀).1 nothing [] (start_follows c q ring₀ started) l

  run_said : (run c q ring₀ calls).log ≡ said_from c q nothing [] calls
  unfolding run
  run_said = from_said c q calls (new_answer c q ring₀).0.sender (new_answer c q ring₀).1 nothing [] (start_follows c q ring₀ started) l

-- ---- the theorems

kept : (c q : ℕ) (s : Sender) (ring : List ℕ) (b : Book) → Follows c q s ring b → Kept c q s ring b
kept c q s ring b f = record {
  valid = follows_valid c q s ring b f;
  words = f.words;
  places = f.places;
  oldest = f.oldest;
  entries = holds_entries s.history ring _ f.holds;
  unsent = f.unsent;
  unsent_words = f.unsent_words;
  requests = f.requests;
  idle = f.idle;
}

state_taken : (s : Sender) (ring : List ℕ) → valid_of s ring ≡ true → StateTaken s ring
unfolding send_answer request_answer write_answer deadline_answer wants_answer next_answer reset_answer
state_taken s ring v = record {
  queue_words = λ cfg ws. rw v;
  retransmit_request = λ cfg r. rw v;
  write = λ cfg time p by. rw v;
  deadline = rw v;
  wants = λ time. rw v;
  next = rw v;
  reset = rw v;
}

state_refused : (s : Sender) (ring : List ℕ) → valid_of s ring ≡ false → StateRefused s ring
unfolding send_answer request_answer write_answer deadline_answer wants_answer next_answer reset_answer
state_refused s ring v = record {
  queue_words = λ cfg ws. rw v;
  retransmit_request = λ cfg r. rw v;
  write = λ cfg time p by. rw v;
  deadline = rw v;
  wants = λ time. rw v;
  next = rw v;
  reset = rw v;
}

unstarted_invalid : (ring : List ℕ) → valid_of unstarted ring ≡ false
unfolding valid_of state_ok
unstarted_invalid ring = refl

pub reached : Reached
reached c q ring₀ started calls l = kept c q (run c q ring₀ calls).sender (run c q ring₀ calls).ring (book_of c q calls) (run_ok c q ring₀ started calls l)

pub never_invalid : NeverInvalid
never_invalid c q ring₀ started calls l = state_taken (run c q ring₀ calls).sender (run c q ring₀ calls).ring (reached c q ring₀ started calls l).valid

pub answered : Answered
answered c q ring₀ started calls l = record {
  next = λ call t. (step_ok c q (run c q ring₀ calls).sender (run c q ring₀ calls).ring (book_of c q calls) call (run_ok c q ring₀ started calls l) t).says;
  whole = run_said c q ring₀ started calls l;
}

refused_start : (t : Bool) (r : SenderAnswer ⊤ × List ℕ) (ring₀ : List ℕ) (why : Refusal) → r.0.answer ≡ Ok tt → (cond t (not_started, ring₀) r).0.answer ≡ Err why
    → (ring : List ℕ) → StateRefused (cond t (not_started, ring₀) r).0.sender ring
refused_start true r ring₀ why d e ring = state_refused unstarted ring (unstarted_invalid ring)
refused_start false r ring₀ why d e ring = absurd (let z : ◌≡◌ {A = ℕ} 0 1 = cc in omega arith)

pub not_started_lem : NotStarted
unfolding new_answer
not_started_lem c q ring₀ why e ring =
    refused_start (outside 65 32768 c || (not (eqb (length ring₀) c) || outside 1 16 q)) (record { sender = (start_of c q ring₀).0; answer = Ok tt }, (start_of c q ring₀).1) ring₀ why refl e ring
