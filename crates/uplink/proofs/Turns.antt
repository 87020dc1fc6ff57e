-- The turn goes round: of n steps each division's is one.
use mathlib.Core.Path.{◌≡◌, refl, ap, ◌∙◌}
use mathlib.Core.Bool.{true, false}
use mathlib.Core.Logic.{◌⊎◌, inl, inr}
use mathlib.Core.List.{List, [], ◌∷◌}
use Prim.Native.Nat.{ℕ, zero, suc, ◌+◌, ◌-◌, ◌≤◌, ◌<◌}
use native.Mathlib.Omega.{arith}
use borrow.Author.Tests.{lt-ltb, le-ltb}
use lib.ListN.{length, get_or}
use lib.Dec.{ltb}
use Rattle.config.specs.inner.Tests.{split, tests}
use Rattle.uplink.specs.Grants.{next_of, allowed, step_of}
use Rattle.uplink.specs.Promise.{Call, Taken, none, taken_of, Once, EachFirstOnce}
use Rattle.uplink.proofs.Steps.{turn_in}

-- ---- the turn after k moves

unfoldable moved : ℕ → ℕ → ℕ → ℕ
moved n t zero = t
moved n t (suc k) = next_of n (moved n t k)

-- the first move may be made first
moved_next : (n t k : ℕ) → moved n (next_of n t) k ≡ moved n t (suc k)
unfolding moved
moved_next n t zero = refl
moved_next n t (suc k) = ap (next_of n) (moved_next n t k)

next_up : (n t : ℕ) → t + 1 < n → next_of n t ≡ t + 1
unfolding next_of
next_up n t h = rw (lt-ltb _ _ h)

next_round : (n t : ℕ) → n ≤ t + 1 → next_of n t ≡ 0
unfolding next_of
next_round n t h = rw (le-ltb _ _ h)

pub next_in_lem : (n t : ℕ) → t < n → next_of n t < n
next_in_lem n t h = by (split (ltb (t + 1) n))
  where
    by : (ltb (t + 1) n ≡ true) ⊎ (ltb (t + 1) n ≡ false) → next_of n t < n
    by (inl s) = omega (arith, tests, next_up n t (omega (arith, tests)))
    by (inr s) = omega (arith, tests, next_round n t (omega (arith, tests)))

module _ (n t : ℕ) (h : t < n) where
  moved_up : (k : ℕ) → t + k < n → moved n t k ≡ t + k
  unfolding moved
  moved_up zero p = omega arith
  moved_up (suc k) p = rw (moved_up k (omega arith), next_up n (t + k) (omega arith)) (omega arith)

  moved_round : (k : ℕ) → n ≤ t + k → k < n → moved n t k ≡ t + k - n
  unfolding moved
  moved_round zero p q = absurd (let z : ⊥ = omega arith in z)
  moved_round (suc k) p q = by (split (ltb (t + k) n)) (moved_round k)
    where
      by : (ltb (t + k) n ≡ true) ⊎ (ltb (t + k) n ≡ false) → (n ≤ t + k → k < n → moved n t k ≡ t + k - n) → next_of n (moved n t k) ≡ t + suc k - n
      by (inl s) go = rw (moved_up k (omega (arith, tests)), next_round n (t + k) (omega arith)) (omega (arith, tests))
      by (inr s) go = rw (go (omega (arith, tests)) (omega arith), next_up n (t + k - n) (omega arith)) (omega (arith, tests))

-- ---- one turn each

module _ (n t d : ℕ) (h : t < n) (i : d < n) (turns : ℕ → ℕ) (are : (k : ℕ) → k < n → turns k ≡ moved n t k) where
  module _ (k : ℕ) (p : k < n) (e : turns k ≡ d) where
    alone_up : t ≤ d → k ≡ d - t
    alone_up q = by (split (ltb (t + k) n))
      where
        by : (ltb (t + k) n ≡ true) ⊎ (ltb (t + k) n ≡ false) → k ≡ d - t
        by (inl s) = omega (arith, tests, are k p, moved_up n t h k (omega (arith, tests)))
        by (inr s) = omega (arith, tests, are k p, moved_round n t h k (omega (arith, tests)) p)

    alone_round : d < t → k ≡ d + n - t
    alone_round q = by (split (ltb (t + k) n))
      where
        by : (ltb (t + k) n ≡ true) ⊎ (ltb (t + k) n ≡ false) → k ≡ d + n - t
        by (inl s) = omega (arith, tests, are k p, moved_up n t h k (omega (arith, tests)))
        by (inr s) = omega (arith, tests, are k p, moved_round n t h k (omega (arith, tests)) p)

  once : Once n d turns
  once = by (split (ltb d t))
    where
      by : (ltb d t ≡ true) ⊎ (ltb d t ≡ false) → Once n d turns
      by (inl s) =
          let q : d < t = omega (arith, tests) in
          record {
            step = d + n - t;
            within = omega arith;
            its = are (d + n - t) (omega arith) ∙ moved_round n t h (d + n - t) (omega arith) (omega arith) ∙ (omega arith);
            alone = λ k p e. alone_round k p e q;
          }
      by (inr s) =
          let q : t ≤ d = omega (arith, tests) in
          record {
            step = d - t;
            within = omega arith;
            its = are (d - t) (omega arith) ∙ moved_up n t h (d - t) (omega arith) ∙ (omega arith);
            alone = λ k p e. alone_up k p e q;
          }

-- ---- the turns of the calls that were not refused

step_moves : (a t : ℕ) (ws : List ℕ) → allowed (length ws) t ≡ true → (step_of a t ws).turn ≡ next_of (length ws) t
unfolding step_of
step_moves a t ws e = rw e

step_keeps : (a t : ℕ) (ws : List ℕ) → allowed (length ws) t ≡ false → (step_of a t ws).turn ≡ t
unfolding step_of
step_keeps a t ws e = rw e

module _ (t : ℕ) (c : Call) (cs : List Call) where
  pub taken_granted : allowed (length c.wants) t ≡ true → taken_of t (c ∷ cs) ≡ record { turn = t; divisions = length c.wants } ∷ taken_of (next_of (length c.wants) t) cs
  unfolding taken_of
  taken_granted e = rw (step_moves c.words t c.wants e, e)

  pub taken_refused : allowed (length c.wants) t ≡ false → taken_of t (c ∷ cs) ≡ taken_of t cs
  unfolding taken_of
  taken_refused e = rw (step_keeps c.words t c.wants e, e)

abbrev All : ℕ → List Taken → Type 0
All n ts = (k : ℕ) → k < length ts → (get_or ts k none).divisions ≡ n

-- each turn is the first, moved on as often as steps were made
abbrev Moved : ℕ → ℕ → List Taken → Type 0
Moved n t ts = All n ts → (k : ℕ) → k < length ts → (get_or ts k none).turn ≡ moved n t k

-- the first turn is one of the divisions
taken_in : (n t : ℕ) (cs : List Call) → 0 < length (taken_of t cs) → All n (taken_of t cs) → t < n
unfolding taken_of
taken_in n t [] p all = absurd (let z : ⊥ = omega arith in z)
taken_in n t (c ∷ cs) p all = by (split (allowed (length c.wants) t)) (taken_in n t cs)
  where
    by : (allowed (length c.wants) t ≡ true) ⊎ (allowed (length c.wants) t ≡ false)
        → (0 < length (taken_of t cs) → All n (taken_of t cs) → t < n) → t < n
    by (inl e) go =
        let l : length c.wants ≡ n = (rw (taken_granted t c cs e) at all) 0 (omega arith) in
        omega (arith, turn_in (length c.wants) t e)
    by (inr e) go = go (rw (taken_refused t c cs e) at p) (rw (taken_refused t c cs e) at all)

module _ (n t m : ℕ) (ts : List Taken) (all : All n (record { turn = t; divisions = m } ∷ ts)) where
  head_moved : Moved n (next_of m t) ts
      → (k : ℕ) → k < suc (length ts) → (get_or (record { turn = t; divisions = m } ∷ ts) k none).turn ≡ moved n t k
  unfolding moved
  head_moved go zero p = refl
  head_moved go (suc k) p =
      let l : m ≡ n = all 0 (omega arith) in
      go (λ j q. all (suc j) (omega arith)) k (omega arith) ∙ rw l (moved_next n t k)

taken_moved : (n t : ℕ) (cs : List Call) → Moved n t (taken_of t cs)
unfolding taken_of
taken_moved n t [] all k p = absurd (let z : ⊥ = omega arith in z)
taken_moved n t (c ∷ cs) all k p = by (split (allowed (length c.wants) t)) (taken_moved n (next_of (length c.wants) t) cs) (taken_moved n t cs)
  where
    by : (allowed (length c.wants) t ≡ true) ⊎ (allowed (length c.wants) t ≡ false)
        → Moved n (next_of (length c.wants) t) (taken_of (next_of (length c.wants) t) cs) → Moved n t (taken_of t cs)
        → (get_or (taken_of t (c ∷ cs)) k none).turn ≡ moved n t k
    by (inl e) next same =
        rw (taken_granted t c cs e)
        (head_moved n t (length c.wants) (taken_of (next_of (length c.wants) t) cs) (rw (taken_granted t c cs e) at all) next k (rw (taken_granted t c cs e) at p))
    by (inr e) next same = rw (taken_refused t c cs e) (same (rw (taken_refused t c cs e) at all) k (rw (taken_refused t c cs e) at p))

pub each_first_once : EachFirstOnce
each_first_once t n calls l all d i =
    once n t d (taken_in n t calls (omega arith) (λ k p. all k (omega arith))) i (λ k. (get_or (taken_of t calls) k none).turn)
    (λ k p. taken_moved n t calls (λ k p. all k (omega arith)) k (omega arith))
