-- A sender and its words.
use mathlib.Core.Path.{◌≡◌, refl, ap, ◌∙◌}
use Rattle.std.proofs.Common.{Option, Some, None}
use mathlib.Core.Bool.{Bool, true, false}
use mathlib.Core.List.{List, [], ◌∷◌, ◌++◌}
use Prim.Native.Nat.{ℕ, ◌≤◌, ◌<◌}
use native.Mathlib.Omega.{arith}
use lib.ListN.{length, drop, length-append, length-drop}
use lib.Dec.{eqb, leb}
use borrow.Author.Tests.{le-leb, lt-leb, leb-true}
use Rattle.config.specs.inner.Tests.{and_left, and_right}
use Rattle.command.specs.declared.retransmit.RetransmitRequest.{RetransmitRequest}
use Rattle.history.specs.declared.history.SendHistory.{SendHistory}
use Rattle.history.specs.declared.queue.RetransmitQueue.{RetransmitQueue}
use Rattle.sender.specs.declared.sender.Sender.{Sender}
use Rattle.idle.specs.declared.idle.Idle.{Idle}
use Rattle.c_answers.specs.Answers.{bit}
use Rattle.c_state.specs.Pack.{four_in, word, two_in, pair, held}
use Rattle.c_state.specs.Receiver.{at}
use Rattle.c_state.specs.Sender.{history_in, queue_in, idle_in, idle_words, requests_in, request_words, figure_words, sender_words, sender_of, sender_holds}
use Rattle.c_state.specs.Theorems.{SenderSmall}
use Rattle.c_state.specs.declared.pack.Quarters.{Quarters}
use Rattle.c_state.specs.declared.pack.Halves.{Halves}
use Rattle.c_state.specs.declared.sender_part.IdleWords.{IdleWords}
use Rattle.c_state.proofs.Packed.{word_four, four_word, pair_two, two_pair, bit_same, bit_back, bit_small, by_flag}
use Rattle.c_words.proofs.Runs.{run, run_drop}
use Rattle.c_state.proofs.Requests.{words_requests, requests_words, length_words}

-- ---- the idle timer, by its flag
idle_back : (i : Option Idle) → let w = idle_words i in idle_in w.on w.due w.step w.interval ≡ i
idle_back None = refl
idle_back (Some i) = refl

idle_same : (on : Bool) (due interval step : ℕ) → held on due interval step ≡ true
    → idle_words (idle_in on due step interval) ≡ record { on = on; due = due; step = step; interval = interval }
idle_same on due interval step h =
    by_flag (λ (o : Bool) (x y z : ℕ). ◌≡◌ {A = IdleWords} (idle_words (idle_in o x z y)) record { on = o; due = x; step = z; interval = y }) on due interval step h refl refl

idle_held : (i : Option Idle) → let w = idle_words i in held w.on w.due w.interval w.step ≡ true
unfolding held
idle_held None = refl
idle_held (Some i) = refl

step_small : (i : Option Idle) → ((w : Idle) → i ≡ Some w → w.step < 65536) → (idle_words i).step < 65536
step_small None h = omega arith
step_small (Some w) h = h w refl

-- ---- a sender, stored
module _ (s : Sender) (small : SenderSmall s) where
  abbrev i : IdleWords
  i = idle_words s.idle

  first : four_in (word s.history.head s.history.used s.history.count s.history.oldest)
      ≡ record { a = s.history.head; b = s.history.used; c = s.history.count; d = s.history.oldest }
  first = four_word _ _ _ _ small.1.head small.1.used small.1.count

  second : four_in (word s.history.last s.history.size s.unsent s.unsent_words)
      ≡ record { a = s.history.last; b = s.history.size; c = s.unsent; d = s.unsent_words }
  second = four_word _ _ _ _ small.1.last small.1.size small.1.unsent

  third : four_in (word s.queue.head s.queue.len i.step (pair s.queue.size (bit i.on)))
      ≡ record { a = s.queue.head; b = s.queue.len; c = i.step; d = pair s.queue.size (bit i.on) }
  third = four_word _ _ _ _ small.1.front small.1.waiting (step_small s.idle small.0.idle)

  size_and_flag : two_in (pair s.queue.size (bit i.on)) ≡ record { low = s.queue.size; high = bit i.on }
  size_and_flag = two_pair _ _ small.1.places

  -- the sender, from parts that are its own
  parts : (rs : List RetransmitRequest) (j : Option Idle) → rs ≡ s.queue.items → j ≡ s.idle
      → ◌≡◌ {A = Sender}
      record {
        history = s.history;
        queue = record { items = rs; head = s.queue.head; len = s.queue.len; size = s.queue.size };
        unsent = s.unsent;
        unsent_words = s.unsent_words;
        idle = j;
      }
      s
  parts rs j e g = rw (e, g)

  pub sender_back : sender_of (sender_words s) ≡ s
  unfolding sender_of sender_words figure_words
  sender_back =
      rw (first, second, third, size_and_flag, bit_back i.on)
      (parts _ _ (requests_words 8 s.queue.items small.0.items.places small.0.items.narrow) (idle_back s.idle))

  pub sender_holds_lem : sender_holds (sender_words s) ≡ true
  unfolding sender_holds sender_words figure_words
  sender_holds_lem = rw (third, size_and_flag, bit_back i.on, le-leb (bit i.on) 1 (bit_small i.on), idle_held s.idle)

pub figure_words_lem : (s : Sender) (i : IdleWords) (a b p c : ℕ) → i ≡ idle_words s.idle
    → a ≡ word s.history.head s.history.used s.history.count s.history.oldest
    → b ≡ word s.history.last s.history.size s.unsent s.unsent_words
    → p ≡ pair s.queue.size (bit i.on) → c ≡ word s.queue.head s.queue.len i.step p
    → a ∷ b ∷ c ∷ i.due ∷ i.interval ∷ [] ≡ figure_words s
unfolding figure_words
figure_words_lem s i a b p c ei ea eb ep ec = rw (ea, eb, ec, ep, ei)

pub length_figures : (s : Sender) → length (figure_words s) ≡ 5
unfolding figure_words
length_figures s = refl

pub length_sender : (s : Sender) → length (sender_words s) ≡ 13
unfolding sender_words
length_sender s = simp length-append (omega (arith, length_figures s, length_words 8 s.queue.items))

-- ---- words, loaded
module _ (ws : List ℕ) where
  abbrev q : Quarters
  q = four_in (at ws 2)

  abbrev b : Halves
  b = two_in q.d

  pub flag_held : sender_holds ws ≡ true → (b.high ≤ 1) × (held (eqb b.high 1) (at ws 3) (at ws 4) q.c ≡ true)
  unfolding sender_holds
  flag_held e = (leb-true b.high 1 (and_left (leb b.high 1) _ e), and_right (leb b.high 1) _ e)

  figures_run : sender_holds ws ≡ true → figure_words (sender_of ws) ≡ run ws 0 5
  unfolding figure_words sender_of
  figures_run e =
      let h = flag_held e in
      let third : word q.a q.b q.c (pair b.low (bit (eqb b.high 1))) ≡ at ws 2
      = rw (bit_same b.high h.0, pair_two q.d) (word_four (at ws 2)) in
      rw (word_four (at ws 0), word_four (at ws 1), idle_same (eqb b.high 1) (at ws 3) (at ws 4) q.c h.1, third)

  pub sender_again : length ws ≡ 13 → sender_holds ws ≡ true → sender_words (sender_of ws) ≡ ws
  unfolding sender_words sender_of
  sender_again l e =
      ap (λ (x : List ℕ). x ++ request_words 8 (requests_in (drop 5 ws))) (figures_run e)
      ∙ ap (λ (x : List ℕ). run ws 0 5 ++ x) (words_requests 8 (drop 5 ws) (omega (arith, length-drop 5 ws)))
      ∙ run_drop ws 0 5 (omega arith)

  -- ---- what the code makes
  pub history_made : (p n : Quarters) → p ≡ four_in (at ws 0) → n ≡ four_in (at ws 1)
      → record { size = n.b; head = p.a; used = p.b; count = p.c; oldest = p.d; last = n.a } ≡ history_in ws
  history_made p n ep en = rw (ep, en)

  pub queue_made : (p : Quarters) (m : Halves) (rs : List RetransmitRequest) → p ≡ q → m ≡ two_in p.d → rs ≡ requests_in (drop 5 ws)
      → record { items = rs; head = p.a; len = p.b; size = m.low } ≡ queue_in ws
  queue_made p m rs ep em er = rw (er, em, ep)

  pub sender_made : (n p : Quarters) (m : Halves) (h : SendHistory) (r : RetransmitQueue) (i : Option Idle)
      → n ≡ four_in (at ws 1) → p ≡ q → m ≡ two_in p.d → h ≡ history_in ws → r ≡ queue_in ws → i ≡ idle_in (eqb m.high 1) (at ws 3) p.c (at ws 4)
      → record { history = h; queue = r; unsent = n.c; unsent_words = n.d; idle = i } ≡ sender_of ws
  unfolding sender_of
  sender_made n p m h r i en ep em eh er ei = rw (ei, er, eh, en, em, ep)

  -- ---- the tests, one by one
  module _ (p : Quarters) (m : Halves) (ep : p ≡ q) (em : m ≡ two_in p.d) where
    pub flag_fails : 1 < m.high → false ≡ sender_holds ws
    unfolding sender_holds
    flag_fails h =
        let k : 1 < b.high = rw (em, ep) at h in
        rw (lt-leb b.high 1 k)

    pub idle_last : m.high ≤ 1 → held (eqb m.high 1) (at ws 3) (at ws 4) p.c ≡ sender_holds ws
    unfolding sender_holds
    idle_last h =
        let k : b.high ≤ 1 = rw (em, ep) at h in
        rw (le-leb b.high 1 k, em, ep)
