-- The sender over ring and counters holds what the book says.
use mathlib.Core.Path.{◌≡◌, refl, sym, ap, ◌∙◌}
use Rattle.std.proofs.Common.{Ok}
use Rattle.sender.specs.declared.sender.SenderAnswer.{SenderAnswer}
use Rattle.std.specs.Bool.{⊤}
use mathlib.Core.Bool.{Bool, true, false, cond, not}
use mathlib.Core.List.{List, ◌++◌}
use Prim.Native.Nat.{ℕ, zero, suc, ◌+◌, ◌≤◌}
use native.Mathlib.Omega.{arith}
use borrow.Author.Tests.{eqb-true, not-false}
use lib.Dec.{leb, eqb}
use lib.ListN.{length, length-append, replicate, length-replicate}
use Rattle.config.specs.Range.{outside}
use Rattle.config.specs.Sequence.{ahead}
use Rattle.command.specs.declared.retransmit.RetransmitRequest.{RetransmitRequest}
use Rattle.history.specs.Entries.{size, Holds}
use Rattle.history.specs.Queue.{Fit, blank, requests, waiting}
use Rattle.history.specs.declared.queue.RetransmitQueue.{RetransmitQueue}
use Rattle.history.proofs.Flat.{unwritten_newest}
use Rattle.history.proofs.Queues.{fit_queue, waiting_none}
use Rattle.history.proofs.Reached.{fresh_holds}
use Rattle.history.proofs.States.{holds_state}
use Rattle.idle.specs.Schedule.{idle_ok}
use Rattle.sender.specs.State.{valid_of, fresh}
use Rattle.sender.specs.Requests.{written_count, not_written, not_in_buffer, with_queue}
use Rattle.sender.specs.Answers.{not_started, new_answer}
use Rattle.sender.specs.declared.sender.Sender.{Sender}
use Rattle.config.specs.inner.Choices.{or_left, or_right}
use Rattle.config.specs.inner.Ranges.{not_outside}
use Rattle.sender.proofs.Validity.{passes}
use Rattle.sender_log.specs.Book.{Book, nothing, oldest_in, absent_in, error_in, with_waiting}
use Rattle.sender_log.proofs.Held.{Held}

-- a history of c words and q places for requests hold what the book says
pub record Follows (c q : ℕ) (s : Sender) (ring : List ℕ) (b : Book) : Type 0 where
  pub least : 65 ≤ c
  pub most : c ≤ 32768
  pub one_place : 1 ≤ q
  pub few_places : q ≤ 16
  pub words : s.history.size ≡ c
  pub places : s.queue.size ≡ q
  pub holds : Holds s.history ring (b.written ++ b.unwritten)
  pub oldest : s.history.oldest ≡ oldest_in b
  pub unsent : s.unsent ≡ length b.unwritten
  pub unsent_words : s.unsent_words ≡ size b.unwritten
  pub fit : Fit s.queue
  pub items : length s.queue.items ≡ 16
  pub requests : waiting s.queue ≡ b.waiting
  pub idle : s.idle ≡ b.idle
  pub step : idle_ok s.idle ≡ true

-- ---- what follows from it

length_requests : (q : RetransmitQueue) (k i : ℕ) → length (requests q k i) ≡ k
unfolding requests
length_requests q zero i = refl
length_requests q (suc k) i = ap suc (length_requests q k (i + 1))

module _ (c q : ℕ) (s : Sender) (ring : List ℕ) (b : Book) (f : Follows c q s ring b) where
  -- it passes the state test
  pub follows_valid : valid_of s ring ≡ true
  follows_valid =
      let u = unwritten_newest b.written b.unwritten in
      passes s ring
      (holds_state s.history ring s.unsent s.unsent_words (b.written ++ b.unwritten) f.holds (rw (f.unsent, f.unsent_words) u))
      (fit_queue s.queue f.fit)
      f.step

  pub follows_held : Held c s.history ring b
  follows_held = record { words = f.words; holds = f.holds; oldest = f.oldest }

  pub written_count_lem : written_count s ≡ length b.written
  written_count_lem = omega (arith, f.holds.many, f.unsent, length-append b.written b.unwritten)

  pub absent_same : (seq : ℕ) → not_written s seq ≡ absent_in b seq
  absent_same seq =
      ap (λ (n : ℕ). leb n (ahead s.history.oldest seq)) written_count_lem
      ∙ ap (λ (n : ℕ). leb (length b.written) (ahead n seq)) f.oldest

  pub error_same : not_in_buffer s ≡ error_in b
  error_same = ap (λ (n : ℕ). record { reason = 1; seq = n }) f.oldest

  -- the queue alone changes
  pub with_queue_lem : (x : RetransmitQueue) (rs : List RetransmitRequest) → x.size ≡ q → Fit x → length x.items ≡ 16 → waiting x ≡ rs
      → Follows c q (with_queue s x) ring (with_waiting b rs)
  with_queue_lem x rs p a n w = record {
    least = f.least;
    most = f.most;
    one_place = f.one_place;
    few_places = f.few_places;
    words = f.words;
    places = p;
    holds = f.holds;
    oldest = f.oldest;
    unsent = f.unsent;
    unsent_words = f.unsent_words;
    fit = a;
    items = n;
    requests = w;
    idle = f.idle;
    step = f.step;
  }

  pub waiting_count : s.queue.len ≡ length b.waiting
  waiting_count = sym (length_requests s.queue s.queue.len 0) ∙ ap length f.requests

-- ---- a start

start_taken : (t : Bool) (r : SenderAnswer ⊤ × List ℕ) (ring₀ : List ℕ) → (cond t (not_started, ring₀) r).0.answer ≡ Ok tt → t ≡ false
start_taken true r ring₀ e = absurd (let z : ◌≡◌ {A = ℕ} 0 1 = cc in omega arith)
start_taken false r ring₀ e = refl

fresh_follows : (c q : ℕ) → 65 ≤ c → c ≤ 32768 → 1 ≤ q → q ≤ 16 → Follows c q (fresh c q) (replicate c 0) nothing
unfolding size
fresh_follows c q l m o p = record {
  least = l;
  most = m;
  one_place = o;
  few_places = p;
  words = refl;
  places = refl;
  holds = fresh_holds c l m;
  oldest = refl;
  unsent = refl;
  unsent_words = refl;
  fit = record { least = o; most = p; inside = omega arith; held = omega arith };
  items = length-replicate 16 blank;
  requests = waiting_none q;
  idle = refl;
  step = refl;
}

pub start_follows : (c q : ℕ) (ring₀ : List ℕ) → (new_answer c q ring₀).0.answer ≡ Ok tt → Follows c q (new_answer c q ring₀).0.sender (new_answer c q ring₀).1 nothing
unfolding new_answer
start_follows c q ring₀ e =
    let t = start_taken _ _ ring₀ e in
    let w = not_outside 65 32768 c (or_left _ _ t) in
    let u = or_right (outside 65 32768 c) _ t in
    let n : length ring₀ ≡ c = eqb-true _ _ (not-false _ (or_left (not (eqb (length ring₀) c)) _ u)) in
    let p = not_outside 1 16 q (or_right (not (eqb (length ring₀) c)) _ u) in
    rw (t, n) (fresh_follows c q w.0 w.1 p.0 p.1)
