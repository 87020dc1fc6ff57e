-- The state test: its ways out, and what a state that passes is.
use mathlib.Core.Path.{◌≡◌, sym, ap, ◌∙◌}
use mathlib.Core.Bool.{Bool, true, false, ◌&&◌, and-false}
use mathlib.Core.List.{List}
use Prim.Native.Nat.{ℕ, ◌+◌, ◌-◌, ◌≤◌, ◌<◌}
use native.Mathlib.Omega.{arith}
use lib.ListN.{length, take, drop, take-append-drop}
use Rattle.config.specs.inner.Tests.{and_left, and_right}
use Rattle.history.specs.State.{state_ok, Good}
use Rattle.history.specs.Entries.{size, entries_of, Unwritten}
use Rattle.history.specs.Queue.{queue_ok, Fit}
use Rattle.history.proofs.Entries.{length_entries, size_entries}
use Rattle.history.proofs.Flat.{size_append}
use Rattle.history.proofs.Queues.{queue_fit}
use Rattle.history.proofs.Room.{good_few, good_last}
use Rattle.history.proofs.States.{state_good, state_unwritten}
use Rattle.idle.specs.Schedule.{idle_ok}
use Rattle.sender.specs.State.{valid_of}
use Rattle.sender.specs.declared.sender.Sender.{Sender}

module _ (s : Sender) (ring : List ℕ) where
  -- ---- the ways out of the test
  abbrev history_ok : Bool
  history_ok = state_ok s.history ring s.unsent s.unsent_words

  pub test_history : history_ok ≡ false → false ≡ valid_of s ring
  unfolding valid_of
  test_history h = rw h

  pub test_queue : queue_ok s.queue ≡ false → false ≡ valid_of s ring
  unfolding valid_of
  test_queue q = rw (q, and-false)

  pub test_idle : history_ok ≡ true → queue_ok s.queue ≡ true → (b : Bool) → b ≡ idle_ok s.idle → b ≡ valid_of s ring
  unfolding valid_of
  test_idle h q b e = rw (h, q) e

  pub passes : history_ok ≡ true → queue_ok s.queue ≡ true → idle_ok s.idle ≡ true → valid_of s ring ≡ true
  unfolding valid_of
  passes h q i = rw (h, q, i)

  -- ---- a state that passes
  module _ (v : valid_of s ring ≡ true) where
    pub valid_history : history_ok ≡ true
    unfolding valid_of
    valid_history = and_left history_ok _ v

    others : (queue_ok s.queue && idle_ok s.idle) ≡ true
    unfolding valid_of
    others = and_right history_ok _ v

    pub valid_queue : queue_ok s.queue ≡ true
    valid_queue = and_left (queue_ok s.queue) _ others

    pub valid_idle : idle_ok s.idle ≡ true
    valid_idle = and_right (queue_ok s.queue) _ others

    pub valid_good : Good s.history ring
    valid_good = state_good s.history ring s.unsent s.unsent_words valid_history

    pub valid_fit : Fit s.queue
    valid_fit = queue_fit s.queue valid_queue

    unwritten : Unwritten (entries_of s.history ring) s.unsent s.unsent_words
    unwritten = state_unwritten s.history ring s.unsent s.unsent_words valid_history

    pub valid_unsent : s.unsent ≤ s.history.count
    valid_unsent = omega (arith, unwritten.some, length_entries s.history.count ring s.history.head)

    pub valid_words : s.unsent_words ≤ s.history.size
    valid_words =
        let es : List (List ℕ) = entries_of s.history ring in
        let k : ℕ = length es - s.unsent in
        let u : size (drop k es) ≡ s.unsent_words = unwritten.take in
        let a : size es ≡ size (take k es) + size (drop k es) = ap size (sym (take-append-drop k es)) ∙ size_append (take k es) (drop k es) in
        let t : size es ≡ s.history.used = size_entries s.history.count ring s.history.head ∙ valid_good.words in
        omega (arith, valid_good.room)

    pub valid_few : s.history.count ≤ 32768
    valid_few = omega (arith, good_few s.history ring valid_good, valid_good.room, valid_good.most)

    pub valid_small : (s.unsent ≤ 32768) × (s.history.size ≤ 32768)
    valid_small = (omega (arith, valid_unsent, valid_few), valid_good.most)

    pub valid_last : (s.unsent ≡ 0 → ⊥) → s.history.last < length ring
    valid_last n = good_last s.history ring valid_good (let p : 0 < s.unsent = omega arith in omega (arith, valid_unsent))
