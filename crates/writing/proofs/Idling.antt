-- The idle command: when one is queued, and the state that this leaves.
use mathlib.Core.Path.{◌≡◌, refl, sym, ap, subst, ◌∙◌}
use Rattle.std.proofs.Common.{Option, Some, None}
use mathlib.Core.Bool.{true, ◌||◌}
use mathlib.Core.Logic.{inl, inr}
use mathlib.Core.List.{List, []}
use Prim.Native.Nat.{ℕ, ◌-◌, ◌≤◌, ◌<◌}
use native.Mathlib.Omega.{arith}
use lib.ListN.{length, drop}
use lib.Seq.{drop-length}
use lib.Dec.{ltb}
use borrow.Author.Tests.{lt-ltb, le-ltb, ltb-false}
use Rattle.config.specs.inner.Tests.{split, tests}
use Rattle.config.specs.Sequence.{turn}
use Rattle.config.specs.declared.settings.StreamConfig.{StreamConfig}
use Rattle.config.specs.inner.Choices.{or_left}
use Rattle.history.specs.State.{Marks, oldest_mark}
use Rattle.history.specs.Push.{pushed}
use Rattle.history.specs.Entries.{size, entries_of}
use Rattle.history.specs.declared.history.Mark.{Mark}
use Rattle.history.specs.declared.history.SendHistory.{SendHistory}
use Rattle.history.proofs.Past.{mark_oldest}
use Rattle.history.proofs.Reached.{pushed_state}
use Rattle.history.proofs.States.{state_unwritten}
use Rattle.idle.specs.Schedule.{idle_next}
use Rattle.idle.specs.declared.idle.Idle.{Idle}
use Rattle.idle.proofs.Steps.{next_ok}
use Rattle.sender.specs.State.{valid_of}
use Rattle.sender.specs.Queueing.{holding}
use Rattle.writing.specs.Writing.{with_idle, idled_by, idled_of, mark_after}
use Rattle.sender.specs.declared.sender.Sender.{Sender}
use Rattle.sender.proofs.Validity.{passes, valid_history, valid_queue, valid_good}

-- ---- the command that is queued
module _ (s : Sender) (cfg : StreamConfig) (time : ℕ) (ring : List ℕ) where
  pub idled_off : s.idle ≡ None → (s, ring) ≡ idled_of s cfg time ring
  unfolding idled_of
  idled_off e = sym (ap (idled_by s cfg time ring) e)

  pub idled_unsent : 0 < s.unsent → (s, ring) ≡ idled_of s cfg time ring
  unfolding idled_of
  idled_unsent h = by s.idle
    where
      by : (t : Option Idle) → (s, ring) ≡ idled_by s cfg time ring t
      by None = refl
      by (Some i) = rw (lt-ltb 0 s.unsent h)

  module _ (i : Idle) (e : s.idle ≡ Some i) where
    module _ (none : s.unsent ≤ 0) where
      pub idled_early : time < i.due → (s, ring) ≡ idled_of s cfg time ring
      unfolding idled_of
      idled_early h = sym (ap (idled_by s cfg time ring) e ∙ rw (le-ltb _ _ none, lt-ltb _ _ h))

      pub idled_queued : (h : SendHistory) (next : List ℕ) (t : Option Idle) → i.due ≤ time → (h, next) ≡ pushed s.history ring [] → t ≡ idle_next cfg time i
          → (with_idle (holding s h 1 1) t, next) ≡ idled_of s cfg time ring
      unfolding idled_of
      idled_queued h next t l p f = sym (ap (idled_by s cfg time ring) e ∙ rw (le-ltb _ _ none, le-ltb _ _ l, ← p, f))

-- ---- the state stays one that passes the test
-- no command is unwritten, and no word
pub valid_none : (s : Sender) (ring : List ℕ) → valid_of s ring ≡ true → s.unsent ≡ 0 → s.unsent_words ≡ 0
unfolding size
valid_none s ring v e =
    let es : List (List ℕ) = entries_of s.history ring in
    let u : size (drop (length es - s.unsent) es) ≡ s.unsent_words = (state_unwritten s.history ring s.unsent s.unsent_words (valid_history s ring v)).take in
    let z : length es - s.unsent ≡ length es = omega arith in
    sym u ∙ rw (z, drop-length es)

module _ (s : Sender) (cfg : StreamConfig) (time : ℕ) (ring : List ℕ) (v : valid_of s ring ≡ true) (o : s.history.oldest < turn) (few : cfg.fec_repeats ≤ 255) (less : cfg.idle_further ≤ 255) where
  queued_kept : (i : Idle) → s.unsent ≡ 0 → valid_of (with_idle (holding s (pushed s.history ring []).0 1 1) (idle_next cfg time i)) (pushed s.history ring []).1 ≡ true
  queued_kept i e =
      let w = valid_none s ring v e in
      let p = pushed_state s.history ring s.unsent s.unsent_words (valid_history s ring v) o [] (omega arith) (omega (arith, (valid_good s ring v).least)) in
      passes (with_idle (holding s (pushed s.history ring []).0 1 1) (idle_next cfg time i)) (pushed s.history ring []).1 p (valid_queue s ring v) (next_ok cfg time i few less)

  idled_kept : valid_of (idled_of s cfg time ring).0 (idled_of s cfg time ring).1 ≡ true
  unfolding idled_of
  idled_kept = by s.idle
    where
      by : (t : Option Idle) → valid_of (idled_by s cfg time ring t).0 (idled_by s cfg time ring t).1 ≡ true
      by None = v
      by (Some i) = elim (split (ltb 0 s.unsent || ltb time i.due)) [
        | inl a ↦ rw a v
        | inr a ↦ rw a (queued_kept i (omega (arith, ltb-false 0 s.unsent (or_left _ _ a))))
      ]

  pub idled_next : (next : Sender) (words : List ℕ) → (next, words) ≡ idled_of s cfg time ring → valid_of next words ≡ true
  idled_next next words e = rw (← e) at idled_kept

-- where a command was unwritten, the mark stands where it stood
pub mark_kept : (s : Sender) (cfg : StreamConfig) (time : ℕ) (ring : List ℕ) (m : Mark) → Marks s.history ring m
    → (next : Sender) (words : List ℕ) → (next, words) ≡ idled_of s cfg time ring → valid_of next words ≡ true → (r : Mark) → r ≡ mark_after s.unsent next.history m → Marks next.history words r
mark_kept s cfg time ring m a next words e v r t = elim (split (ltb 0 s.unsent)) [
  | inl k ↦
      let some : 0 < s.unsent = omega (arith, tests) in
      let f : ◌≡◌ {A = Sender × List ℕ} (next, words) (s, ring) = e ∙ sym (idled_unsent s cfg time ring some) in
      let u : r ≡ m = rw k at t in
      rw u (subst (λ (z : Sender × List ℕ). Marks z.0.history z.1 m) (sym f) a)
  | inr k ↦
      let u : r ≡ oldest_mark next.history = rw k at t in
      rw u (mark_oldest next.history words (valid_good next words v))
]
