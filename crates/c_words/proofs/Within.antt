-- Words within their limits, and words that are stored.
use mathlib.Core.Path.{◌≡◌, refl}
use mathlib.Core.Bool.{Bool, true, false, ◌&&◌}
use mathlib.Core.List.{List, [], ◌∷◌, append-nil}
use Prim.Native.Nat.{ℕ, zero, suc, ◌+◌, ◌≤◌, ◌<◌}
use native.Mathlib.Omega.{arith}
use lib.ListN.{length, get_or, drop_of_length-le}
use lib.Bits.{bit_or, or_add_and, and_le_l, and_le_r}
use lib.Dec.{eqb, leb}
use borrow.Author.Tests.{ne_eqb, eqb-true, lt-leb, leb-true}
use Rattle.config.specs.inner.Tests.{and_left, and_right}
use Rattle.packet.specs.Bytes.{spliced}
use Rattle.c_words.specs.Limits.{within}

pub and_false : (a b : Bool) → false ≡ b → false ≡ a && b
and_false true b e = e
and_false false b e = refl

pub and_true : (b : Bool) → b ≡ b && true
and_true true = refl
and_true false = refl

-- ---- two numbers, bit by bit
pub or_left : (a b : ℕ) → a ≤ bit_or a b
or_left a b = omega (arith, or_add_and a b, and_le_r a b)

pub or_right : (a b : ℕ) → b ≤ bit_or a b
or_right a b = omega (arith, or_add_and a b, and_le_l a b)

-- ---- pair i of the limits
abbrev pub place : List (ℕ × ℕ) → ℕ → ℕ
place ps i = (get_or ps i (0, 0)).0

abbrev pub most : List (ℕ × ℕ) → ℕ → ℕ
most ps i = (get_or ps i (0, 0)).1

pub within_at : (ps : List (ℕ × ℕ)) (ws : List ℕ) → within ps ws ≡ true → (i : ℕ) → i < length ps → get_or ws (place ps i) 0 ≤ most ps i
unfolding within
within_at [] ws e i h = absurd (let z : ⊥ = omega arith in z)
within_at (p ∷ ps) ws e zero h = leb-true _ _ (and_left (leb (get_or ws p.0 0) p.1) (within ps ws) e)
within_at (p ∷ ps) ws e (suc i) h = within_at ps ws (and_right (leb (get_or ws p.0 0) p.1) (within ps ws) e) i (omega arith)

pub above_at : (ps : List (ℕ × ℕ)) (ws : List ℕ) (i : ℕ) → i < length ps → most ps i < get_or ws (place ps i) 0 → false ≡ within ps ws
unfolding within
above_at [] ws i h g = absurd (let z : ⊥ = omega arith in z)
above_at (p ∷ ps) ws zero h g = rw (lt-leb (get_or ws p.0 0) p.1 g)
above_at (p ∷ ps) ws (suc i) h g = and_false (leb (get_or ws p.0 0) p.1) _ (above_at ps ws i (omega arith) g)

-- ---- the words of a state: as many as there are, and within their limits
module _ (ws : List ℕ) (n : ℕ) (ps : List (ℕ × ℕ)) where
  -- the length and the limits
  abbrev both : Bool
  both = eqb (length ws) n && within ps ws

  pub not_as_many : (length ws ≡ n → ⊥) → false ≡ both
  not_as_many h = rw (ne_eqb (length ws) n h)

  pub too_large : (i : ℕ) → i < length ps → most ps i < get_or ws (place ps i) 0 → false ≡ both
  too_large i h g = and_false (eqb (length ws) n) _ (above_at ps ws i h g)

  pub as_many : both ≡ true → length ws ≡ n
  as_many e = eqb-true (length ws) n (and_left (eqb (length ws) n) (within ps ws) e)

  pub small_at : both ≡ true → (i : ℕ) → i < length ps → get_or ws (place ps i) 0 ≤ most ps i
  small_at e i h = within_at ps ws (and_right (eqb (length ws) n) (within ps ws) e) i h

-- ---- words that are stored
-- as many as there are
pub put_whole : (to from : List ℕ) → length to ≡ length from → spliced to 0 from ≡ from
unfolding spliced
put_whole to from e =
    let h : length to ≤ 0 + length from = omega arith in
    rw (drop_of_length-le to h) (append-nil from)
