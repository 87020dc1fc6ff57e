-- The walk from header to header: its first step, its lengths, its places.
use Rattle.std.proofs.Common.{◌≡◌, ℕ, zero, suc, ◌+◌, ◌-◌, ◌*◌, ◌<◌, ◌≤◌, true, leb, List, length, get_or, refl, arith, eqb-true, leb-true}
use Rattle.config.specs.Sequence.{turn, after}
use Rattle.config.specs.inner.Tests.{and_left, and_right}
use Rattle.history.specs.Headers.{length_at, entry_size, next_at, header_at, words_from, header_ok, numbered}
use Rattle.history.proofs.Slots.{slot_in}

-- ---- the first entry

pub numbered_first : (k : ℕ) (b : List ℕ) (i n : ℕ) → 0 < k → numbered k b i n ≡ true
    → (length_at b i ≤ 64) × (get_or b i 0 ≡ n * turn + length_at b i) × (numbered (k - 1) b (next_at b i) (after n 1) ≡ true)
unfolding numbered
numbered_first zero b i n p e = absurd (omega arith)
numbered_first (suc k) b i n p e =
    let z : suc k - 1 ≡ k = omega arith in
    let f = and_left (header_ok b i n) _ e in
    let l = leb (length_at b i) 64 in
    (leb-true _ _ (and_left l _ f), eqb-true _ _ (and_right l _ f), rw z (and_right (header_ok b i n) _ e))

pub words_first : (k : ℕ) (b : List ℕ) (i : ℕ) → 0 < k → words_from k b i ≡ entry_size b i + words_from (k - 1) b (next_at b i)
unfolding words_from
words_first zero b i p = absurd (omega arith)
words_first (suc k) b i p = let z : suc k - 1 ≡ k = omega arith in rw z

pub header_first : (k : ℕ) (b : List ℕ) (i : ℕ) → 0 < k → header_at k b i ≡ header_at (k - 1) b (next_at b i)
unfolding header_at
header_first zero b i p = absurd (omega arith)
header_first (suc k) b i p = let z : suc k - 1 ≡ k = omega arith in rw z

pub words_none : (b : List ℕ) (i : ℕ) → words_from 0 b i ≡ 0
unfolding words_from
words_none b i = refl

pub words_one : (b : List ℕ) (i : ℕ) → words_from 1 b i ≡ entry_size b i + 0
unfolding words_from
words_one b i = refl

pub header_none : (b : List ℕ) (i : ℕ) → header_at 0 b i ≡ i
unfolding header_at
header_none b i = refl

pub header_add : (j k : ℕ) (b : List ℕ) (i : ℕ) → header_at (j + k) b i ≡ header_at k b (header_at j b i)
unfolding header_at
header_add zero k b i = let e : 0 + k ≡ k = omega arith in rw e
header_add (suc j) k b i = let e : suc j + k ≡ suc (j + k) = omega arith in rw e (header_add j k b (next_at b i))

-- the numbers of the entries after the first j
pub numbered_add : (j k : ℕ) (b : List ℕ) (i n : ℕ) → n < turn → numbered (j + k) b i n ≡ true → numbered k b (header_at j b i) (after n j) ≡ true
unfolding numbered header_at
numbered_add zero k b i n o e =
    let z : 0 + k ≡ k = omega arith in
    let m : after n 0 ≡ n = omega arith in
    rw m (rw z at e)
numbered_add (suc j) k b i n o e =
    let z : suc j + k ≡ suc (j + k) = omega arith in
    let m : after n (suc j) ≡ after (after n 1) j = omega arith in
    rw m (numbered_add j k b (next_at b i) (after n 1) (omega arith) (and_right (header_ok b i n) _ (rw z at e)))

-- ---- lengths

-- each entry takes a word
pub words_count : (k : ℕ) (b : List ℕ) (i : ℕ) → k ≤ words_from k b i
unfolding words_from
words_count zero b i = omega arith
words_count (suc k) b i = omega (arith, words_count k b (next_at b i))

-- the words of the first k entries and of those after them
pub words_add : (k j : ℕ) (b : List ℕ) (i : ℕ) → words_from (k + j) b i ≡ words_from k b i + words_from j b (header_at k b i)
unfolding words_from header_at
words_add zero j b i = let e : 0 + j ≡ j = omega arith in rw e (omega arith)
words_add (suc k) j b i =
    let e : suc k + j ≡ suc (k + j) = omega arith in
    rw e (omega (arith, words_add k j b (next_at b i)))

pub words_prefix : (j k : ℕ) (b : List ℕ) (i : ℕ) → j ≤ k → words_from j b i ≤ words_from k b i
words_prefix j k b i h =
    let e : j + (k - j) ≡ k = omega arith in
    omega (arith, rw e at (words_add j (k - j) b i))

-- no entry of the walk has more than 64 words
pub Shorts : ℕ → List ℕ → ℕ → Type 0
Shorts zero b i = Unit
Shorts (suc k) b i = (length_at b i ≤ 64) × Shorts k b (next_at b i)

pub numbered_shorts : (k : ℕ) (b : List ℕ) (i n : ℕ) → numbered k b i n ≡ true → Shorts k b i
unfolding Shorts numbered
numbered_shorts zero b i n e = tt
numbered_shorts (suc k) b i n e =
    let f = and_left (header_ok b i n) _ e in
    (leb-true _ _ (and_left (leb (length_at b i) 64) _ f), numbered_shorts k b (next_at b i) (after n 1) (and_right (header_ok b i n) _ e))

pub shorts_prefix : (j k : ℕ) (b : List ℕ) (i : ℕ) → j ≤ k → Shorts k b i → Shorts j b i
unfolding Shorts
shorts_prefix zero k b i p s = tt
shorts_prefix (suc j) zero b i p s = absurd (omega arith)
shorts_prefix (suc j) (suc k) b i p s = (s.0, shorts_prefix j k b (next_at b i) (omega arith) s.1)

-- ---- places

pub next_in_lem : (b : List ℕ) (i : ℕ) → i < length b → 65 ≤ length b → length_at b i ≤ 64 → next_at b i < length b
next_in_lem b i p l s = slot_in (length b) i (entry_size b i) p (omega arith)

pub header_in : (k : ℕ) (b : List ℕ) (i : ℕ) → i < length b → 65 ≤ length b → Shorts k b i → header_at k b i < length b
unfolding header_at Shorts
header_in zero b i p l s = p
header_in (suc k) b i p l s = header_in k b (next_at b i) (next_in_lem b i p l s.0) l s.1
