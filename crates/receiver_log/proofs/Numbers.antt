-- Numbers and places.
use Prim.Native.Nat.{ℕ, ◌+◌, ◌-◌, ◌%◌, ◌≤◌, ◌<◌, max}
use mathlib.Core.Path.{◌≡◌, ◌∙◌}
use mathlib.Core.Logic.{inl, inr}
use mathlib.Core.Bool.{true, false, ◌&&◌}
use native.Mathlib.Nat.{le_trans}
use native.Mathlib.Omega.{arith}
use lib.Dec.{ltb, leb, eqb}
use borrow.Author.Tests.{leb-true, ltb-true, lt-ltb}
use Rattle.config.specs.Sequence.{turn, ahead}
use Rattle.config.specs.inner.Tests.{split, tests, lifts, and_left, and_right}
use Rattle.window.specs.Arrival.{reach}
use Rattle.window.specs.Window.{behind}
use Rattle.receiver_log.specs.Log.{is_ahead, place, start}

-- ---- reading a number

module _ (H seq : ℕ) where
  module _ (e : is_ahead H seq ≡ true) where
    pub ahead_by : (1 ≤ ahead (H % turn) seq) × (ahead (H % turn) seq ≤ reach)
    unfolding is_ahead
    ahead_by =
        let d : ℕ = ahead (H % turn) seq in
        (leb-true _ _ (and_left (leb 1 d) (leb d reach) e), leb-true _ _ (and_right (leb 1 d) (leb d reach) e))

    pub place_ahead : place H seq ≡ H + ahead (H % turn) seq
    unfolding place
    place_ahead = rw e

    pub high_ahead : max H (place H seq) ≡ H + ahead (H % turn) seq
    high_ahead = rw place_ahead (omega arith)

  module _ (e : is_ahead H seq ≡ false) where
    pub place_behind : place H seq ≡ H - ahead seq (H % turn)
    unfolding place
    place_behind = rw e

    pub high_behind : max H (place H seq) ≡ H
    high_behind = rw place_behind (omega arith)

    pub behind_by : seq < turn → ahead seq (H % turn) ≤ reach + 1
    unfolding is_ahead
    behind_by l = go (H % turn) (omega arith) e
      where
        go : (h : ℕ) → h < turn → (leb 1 (ahead h seq) && leb (ahead h seq) reach) ≡ false → ahead seq h ≤ reach + 1
        go h b f = elim (split (leb 1 (ahead h seq))) [
          | inl p ↦ let q : leb (ahead h seq) reach ≡ false = cc in omega (arith, tests)
          | inr p ↦ omega (arith, tests)
        ]

-- a place that is not too far off is read from its number
pub read_ahead : (H x : ℕ) → H < x → x ≤ H + reach → place H (x % turn) ≡ x
unfolding place is_ahead
read_ahead H x p q =
    let e : ahead (H % turn) (x % turn) ≡ x - H = omega arith in
    let a : leb 1 (x - H) ≡ true = omega (arith, lifts) in
    let b : leb (x - H) reach ≡ true = omega (arith, lifts) in
    rw (e, a, b) (omega arith)

pub read_behind : (H x : ℕ) → x ≤ H → H ≤ x + (reach + 1) → place H (x % turn) ≡ x
unfolding is_ahead
read_behind H x p q =
    let e : ahead (x % turn) (H % turn) ≡ H - x = omega arith in
    place_behind H (x % turn) (elim (split (eqb H x)) [ inl k ↦ same (omega (arith, tests)) | inr k ↦ below (omega (arith, tests)) ]) ∙ rw e (omega arith)
  where
    same : H ≡ x → is_ahead H (x % turn) ≡ false
    same k = let d : ahead (H % turn) (x % turn) ≡ 0 = omega arith in rw d

    below : x < H → is_ahead H (x % turn) ≡ false
    below k =
        let d : ahead (H % turn) (x % turn) ≡ turn - (H - x) = omega arith in
        let a : leb 1 (turn - (H - x)) ≡ true = omega (arith, lifts) in
        let b : leb (turn - (H - x)) reach ≡ false = omega (arith, lifts) in
        rw (d, a, b)

-- the number of what is read ahead
pub number_ahead : (H seq : ℕ) → seq < turn → (H + ahead (H % turn) seq) % turn ≡ seq
number_ahead H seq l = omega arith

-- the number b behind
pub number_behind : (H b : ℕ) → b ≤ H → b < turn → behind (H % turn) b ≡ (H - b) % turn
number_behind H b p q = omega arith

-- ---- where a loss starts

pub start_at : (H b : ℕ) → b ≤ H → b < turn → start H ((H - b) % turn) ≡ H - b
unfolding start
start_at H b p q = let e : ahead ((H - b) % turn) (H % turn) ≡ b = omega arith in rw e

-- ---- a range of few numbers meets the window in one piece

ahead_within : (k m c : ℕ) → k % turn < c → c ≤ 32768 → m ≤ 32767 → (k + m) % turn ≡ k % turn + m
ahead_within k m c h l u = omega arith

-- how far the place b behind is ahead of a number
ahead_from : (H f b y : ℕ) → f < turn → b ≤ y → y ≤ 32767 → y ≤ H → ahead f ((H - b) % turn) ≡ (H - y + (turn - f) + (y - b)) % turn
ahead_from H f b y l p q h = omega arith

no_more : (k b : ℕ) → k + (b - b) ≡ k
no_more k b = omega arith

pub range_convex : (H f c W : ℕ) → W ≤ 32767 → W ≤ H → c ≤ W → f < turn → (a x b : ℕ) → a ≤ x → x ≤ b → b ≤ W
    → ltb (ahead f ((H - a) % turn)) c ≡ true → ltb (ahead f ((H - b) % turn)) c ≡ true → ltb (ahead f ((H - x) % turn)) c ≡ true
range_convex H f c W w hw l fl a x b p q r ea eb =
    let k : ℕ = H - b + (turn - f) in
    let fa : ahead f ((H - a) % turn) ≡ (k + (b - a)) % turn = ahead_from H f a b fl (le_trans p q) (omega arith) (omega arith) in
    let fx : ahead f ((H - x) % turn) ≡ (k + (b - x)) % turn = ahead_from H f x b fl q (omega arith) (omega arith) in
    let fb : ahead f ((H - b) % turn) ≡ (k + (b - b)) % turn = ahead_from H f b b fl (omega arith) (omega arith) (omega arith) in
    let none : k + (b - b) ≡ k = no_more k b in
    let lb : k % turn < c = rw (fb, none) at (ltb-true _ c eb) in
    let la : (k + (b - a)) % turn < c = rw fa at (ltb-true _ c ea) in
    let wa = ahead_within k (b - a) c lb (few l w) (short a b r w) in
    let wx = ahead_within k (b - x) c lb (few l w) (short x b r w) in
    lt-ltb _ c (rw (fx, wx) (less (k % turn) (rw wa at la)))
  where
    few : c ≤ W → W ≤ 32767 → c ≤ 32768
    few l w = omega arith

    short : (a b : ℕ) → b ≤ W → W ≤ 32767 → b - a ≤ 32767
    short a b r w = omega arith

    less : (k : ℕ) → k + (b - a) < c → k + (b - x) < c
    less k h = omega arith
