-- Due times.
use mathlib.Core.Path.{◌≡◌, refl, sym, ap, ◌∙◌}
use Prim.Native.Nat.{ℕ, ◌+◌, ◌-◌, ◌*◌, ◌^◌, ◌≤◌, ◌<◌, min}
use native.Mathlib.Nat.{mul-add, mul-pos, mul-le-mul_left, min-le_left}
use native.Mathlib.Omega.{arith}
use lib.Pow.{pow_pos, pow_mono, pow-add}
use Rattle.config.specs.Time.{last_time}
use Rattle.receiver.specs.Receiver.{due_after}

-- D, 2D, 4D and on up to so many doublings
abbrev pub sum : ℕ → ℕ → ℕ
sum delay n = delay * (2 ^ (n + 1) - 1)

module _ (delay sent time : ℕ) where
  pub due_later : 1 ≤ delay → time < last_time → time < due_after delay sent time
  unfolding due_after
  due_later d l =
      let p : 0 < delay * 2 ^ min sent 32 = mul-pos d (pow_pos (min sent 32)) in
      over (delay * 2 ^ min sent 32) p
    where
      over : (x : ℕ) → 0 < x → time < min (time + x) last_time
      over x p = omega arith

  pub due_most : due_after delay sent time ≤ time + delay * 2 ^ sent
  unfolding due_after
  due_most =
      let p : delay * 2 ^ min sent 32 ≤ delay * 2 ^ sent = mul-le-mul_left delay (pow_mono (min-le_left sent 32)) in
      under (delay * 2 ^ min sent 32) (delay * 2 ^ sent) p
    where
      under : (x y : ℕ) → x ≤ y → min (time + x) last_time ≤ time + y
      under x y p = omega arith

pub first_sum : (delay : ℕ) → delay * 2 ^ 0 ≡ sum delay 0
first_sum delay = refl

twice : (p : ℕ) → 0 < p → p - 1 + p ≡ p * 2 - 1
twice p l = omega arith

-- one doubling more
pub next_sum : (delay n : ℕ) → sum delay n + delay * 2 ^ (n + 1) ≡ sum delay (n + 1)
next_sum delay n =
    let p : ℕ = 2 ^ (n + 1) in
    sym (mul-add delay (p - 1) p) ∙ ap (λ (x : ℕ). delay * x) (twice p (pow_pos (n + 1)) ∙ ap (λ (x : ℕ). x - 1) (sym (pow-add 2 (n + 1) 1)))

less : (p q : ℕ) → p ≤ q → p - 1 ≤ q - 1
less p q l = omega arith

pub more_sum : (delay m n : ℕ) → m ≤ n → sum delay m ≤ sum delay n
more_sum delay m n l = mul-le-mul_left delay (less _ _ (pow_mono (more l)))
  where
    more : m ≤ n → m + 1 ≤ n + 1
    more h = omega arith
