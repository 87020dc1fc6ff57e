-- What the set's operations do to its number; N is how many positions there are.
use mathlib.Core.Path.{◌≡◌, sym, ap, ◌∙◌, subst}
use Prim.Native.Nat.{ℕ, ◌+◌, ◌-◌, ◌*◌, ◌/◌, ◌%◌, ◌^◌, ◌≤◌, ◌<◌}
use native.Mathlib.Nat.{add-mul, mul_assoc, mul_comm, mul-mod_left, mod-eq_of_lt, sub-add_cancel, div-add-mod', mul-add-mod_self_right}
use native.Mathlib.Omega.{arith}
use lib.Pow.{pow_pos, pow-add, mod-mod-pow, not_mod, shr_lt}
use lib.Bits.{bit_and, and_mask, and_high}
use Rattle.window.specs.Set.{max_window}

-- ---- shift

pub shl_out : (x n N : ℕ) → N ≤ n → 0 ≡ (x * 2 ^ n) % 2 ^ N
shl_out x n N h =
    let e : n - N + N ≡ n = sub-add_cancel {n = n} {m = N} h in
    sym (ap (λ (y : ℕ). (x * 2 ^ y) % 2 ^ N) (sym e) ∙ ap (λ (y : ℕ). (x * y) % 2 ^ N) (pow-add 2 (n - N) N)
    ∙ ap (λ (y : ℕ). y % 2 ^ N) (sym (mul_assoc x (2 ^ (n - N)) (2 ^ N))) ∙ mul-mod_left (x * 2 ^ (n - N)) (2 ^ N))

-- a factor may be cut first
pub mod_times : (x y m : ℕ) → ((x % m) * y) % m ≡ (x * y) % m
mod_times x y m =
    sym (ap (λ (z : ℕ). (z * y) % m) (sym (div-add-mod' x m)) ∙ ap (λ (z : ℕ). z % m) (add-mul (x / m * m) (x % m) y)
    ∙ ap (λ (z : ℕ). (z + (x % m) * y) % m) (mul_assoc (x / m) m y ∙ ap (λ (z : ℕ). x / m * z) (mul_comm m y) ∙ sym (mul_assoc (x / m) y m))
    ∙ mul-add-mod_self_right (x / m * y) m ((x % m) * y))

-- ---- masks

-- the low digits of what fits a set
pub cut_mask : (x size : ℕ) → size ≤ max_window → bit_and (x % 2 ^ max_window) (2 ^ size - 1) ≡ x % 2 ^ size
cut_mask x size h =
    and_mask (x % 2 ^ max_window) size ∙ ap (λ (z : ℕ). x % 2 ^ z % 2 ^ size) (sym (sub-add_cancel {n = max_window} {m = size} h)) ∙ mod-mod-pow x (max_window - size) size

-- the other positions, cut
pub missing_is : (size n : ℕ) → size ≤ max_window → n < 2 ^ size → bit_and ((2 ^ max_window - 1) - n) (2 ^ size - 1) ≡ (2 ^ size - 1) - n
missing_is size n h b =
    and_mask ((2 ^ max_window - 1) - n) size ∙ ap (λ (z : ℕ). ((2 ^ z - 1) - n) % 2 ^ size) (sym (sub-add_cancel {n = max_window} {m = size} h)) ∙ not_mod (max_window - size) size b

-- the positions at k and above
pub from_is : (m k : ℕ) → k ≤ max_window → m < 2 ^ max_window → bit_and m ((2 ^ max_window - 1) - (2 ^ k - 1)) ≡ m / 2 ^ k * 2 ^ k
from_is m k h b =
    let e : max_window - k + k ≡ max_window = sub-add_cancel {n = max_window} {m = k} h in
    ap (bit_and m) (less (2 ^ max_window) (2 ^ k) (pow_pos k) ∙ ap (λ (z : ℕ). 2 ^ z - 2 ^ k) (sym e)) ∙ and_high m (max_window - k) k
    ∙ ap (λ (z : ℕ). z * 2 ^ k) (mod-eq_of_lt (shr_lt (max_window - k) k (subst (λ (z : ℕ). m < 2 ^ z) (sym e) b)))
  where
    less : (a b : ℕ) → 1 ≤ b → (a - 1) - (b - 1) ≡ a - b
    less a b p = omega arith
