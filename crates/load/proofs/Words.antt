-- What a value asks to send.
use Rattle.std.proofs.Common.{◌≡◌, ℕ, zero, suc, ◌+◌, ◌/◌, ◌%◌, ◌^◌, ◌<◌, ◌≤◌, Bool, true, false, cond, ◌∷◌, take, replicate, refl, ap, arith, eq-eqb, ne_eqb}
use Rattle.load.specs.Load.{sends, count_of, word}

pub idle : (x : ℕ) → x / 268435456 < 8 → 0 ≡ count_of x
unfolding count_of
idle x h = rw (ne_eqb (x / 2 ^ 31 % 2) 1 (λ z. let w : ⊥ = omega (arith, z) in w)) refl

pub sending : (x : ℕ) → x < 4294967296 → 8 ≤ x / 268435456 → x / 268435456 % 8 + 1 ≡ count_of x
unfolding count_of
sending x b h = rw (eq-eqb (x / 2 ^ 31 % 2) 1 (omega arith)) refl

pub count_le : (x : ℕ) → count_of x ≤ 8
unfolding count_of
count_le x = go (sends x)
  where
    go : (t : Bool) → cond t (x / 2 ^ 28 % 8 + 1) 0 ≤ 8
    go true = omega arith
    go false = omega arith

-- the first of so many equal words
pub take_words : (k n : ℕ) → k ≤ n → take k (replicate n word) ≡ replicate k word
take_words zero n h = refl
take_words (suc k) zero h = absurd (let z : ⊥ = omega arith in z)
take_words (suc k) (suc n) h = ap (λ l. word ∷ l) (take_words k n (omega arith))
