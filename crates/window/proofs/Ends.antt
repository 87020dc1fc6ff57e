-- The highest and the lowest position of a set.
use mathlib.Core.Path.{◌≡◌, refl, sym, ap, ap₂, ◌∙◌, subst}
use Prim.Native.Nat.{ℕ, zero, suc, ◌+◌, ◌-◌, ◌*◌, ◌/◌, ◌%◌, ◌^◌, ◌≤◌, ◌<◌}
use native.Mathlib.Nat.{le_refl, le_trans, le_of_eq, lt_of_le_of_lt, lt_of_lt_of_le, lt_of_not-le, not-le_of_lt, mul-le-mul_right, mul-lt-mul_of_pos_right, pow-suc, pow-succ', mul_assoc, add-mul, suc-add, one-mul, le-add_right, le-add_left, zero-add, add-zero, zero-mul, lt_irrefl, zero-lt-suc, sub-add_cancel, le-div_iff_mul-le}
use native.Mathlib.Omega.{arith}
use lib.Arith.{half_le, digits_lt}
use lib.Pow.{pow_pos, pow_mono, pow-add, shl-shr, split}
use lib.Count.{count_leading_zeros, leading_top, count_trailing_zeros, under}
use Rattle.window.specs.Set.{top_in, top_of, bottom_of, over}
use Rattle.window.proofs.Words.{join}

pub pow_lt_cancel : {a b : ℕ} → 2 ^ a < 2 ^ b → a < b
pow_lt_cancel h = lt_of_not-le (λ g. not-le_of_lt h (pow_mono g))

-- n has its highest set digit at t
abbrev pub Top : ℕ → ℕ → Type 0
Top n t = (2 ^ t ≤ n) × (n < 2 ^ suc t)

top_step : (n f : ℕ) → 0 < n → (m : ℕ) → n / 2 ≡ m → (0 < n / 2 → Top (n / 2) (top_in f (n / 2))) → Top n (over m (top_in f (n / 2)))
unfolding top_in
top_step n f p zero e ih = (p, omega arith)
top_step n f p (suc m) e ih =
    let h = ih (omega arith) in
    let a : 2 ^ suc (top_in f (n / 2)) ≡ 2 ^ top_in f (n / 2) * 2 = pow-suc 2 (top_in f (n / 2)) in
    let b : 2 ^ suc (suc (top_in f (n / 2))) ≡ 2 ^ suc (top_in f (n / 2)) * 2 = pow-suc 2 (suc (top_in f (n / 2))) in
    (omega arith, omega arith)

top_in_lem : (f n : ℕ) → 0 < n → n ≤ f → Top n (top_in f n)
unfolding top_in
top_in_lem zero n p h = absurd (omega arith)
top_in_lem (suc f) n p h = top_step n f p (n / 2) refl (λ q. top_in_lem f (n / 2) q (half_le h))

pub top_is : (n : ℕ) → 0 < n → Top n (top_of n)
unfolding top_of
top_is n p = top_in_lem n n p (le_refl n)

pub top_unique : (n t : ℕ) → Top n t → t ≡ top_of n
top_unique n t h =
    let g = top_is n (le_trans (pow_pos t) h.0) in
    let a : t < suc (top_of n) = pow_lt_cancel (lt_of_le_of_lt h.0 g.1) in
    let b : top_of n < suc t = pow_lt_cancel (lt_of_le_of_lt g.0 h.1) in
    omega arith

-- n has its lowest set digit at t
abbrev pub Bottom : ℕ → ℕ → Type 0
Bottom n t = (q : ℕ) × (n ≡ (q * 2 + 1) * 2 ^ t)

bottom_step : (n f : ℕ) → 0 < n → (d : ℕ) → n % 2 ≡ d → (0 < n / 2 → Bottom (n / 2) (count_trailing_zeros f (n / 2))) → Bottom n (under d (count_trailing_zeros f (n / 2)))
bottom_step n f p zero e ih =
    let h = ih (omega arith) in
    let t : ℕ = count_trailing_zeros f (n / 2) in
    let x : ℕ = h.0 * 2 + 1 in
    let w : n ≡ n / 2 * 2 = omega arith in
    (h.0, w ∙ ap (λ (y : ℕ). y * 2) h.1 ∙ mul_assoc x (2 ^ t) 2 ∙ ap (λ (y : ℕ). x * y) (sym (pow-suc 2 t)))
bottom_step n f p (suc d) e ih = (n / 2, omega arith)

bottom_in : (k n : ℕ) → 0 < n → n < 2 ^ k → Bottom n (count_trailing_zeros k n)
unfolding count_trailing_zeros
bottom_in zero n p h = absurd (omega arith)
bottom_in (suc k) n p h =
    let e : 2 ^ suc k ≡ 2 ^ k * 2 = pow-suc 2 k in
    bottom_step n k p (n % 2) refl (λ q. bottom_in k (n / 2) q (omega arith))

lt_pow : (n : ℕ) → n < 2 ^ n
lt_pow zero = pow_pos 0
lt_pow (suc n) = let h = lt_pow n in let e : 2 ^ suc n ≡ 2 ^ n * 2 = pow-suc 2 n in omega arith

pub bottom_is : (n : ℕ) → 0 < n → Bottom n (bottom_of n)
unfolding bottom_of
bottom_is n p = bottom_in n n p (lt_pow n)

-- a number has one lowest digit
bottom_lt : (n s t : ℕ) → Bottom n s → Bottom n t → s < t → ⊥
bottom_lt n s t a b g =
    let k : ℕ = t - suc s in
    let e : suc k + s ≡ t = omega arith in
    let x : ℕ = b.0 * 2 + 1 in
    let wide : n ≡ x * 2 ^ k * 2 * 2 ^ s =
    b.1 ∙ ap (λ (y : ℕ). x * 2 ^ y) (sym e) ∙ ap (λ (y : ℕ). x * y) (pow-add 2 (suc k) s ∙ ap (λ (y : ℕ). y * 2 ^ s) (pow-suc 2 k))
    ∙ sym (mul_assoc x (2 ^ k * 2) (2 ^ s)) ∙ ap (λ (y : ℕ). y * 2 ^ s) (sym (mul_assoc x (2 ^ k) 2)) in
    let here : n / 2 ^ s ≡ a.0 * 2 + 1 = ap (λ (y : ℕ). y / 2 ^ s) a.1 ∙ shl-shr (a.0 * 2 + 1) s in
    let there : n / 2 ^ s ≡ x * 2 ^ k * 2 = ap (λ (y : ℕ). y / 2 ^ s) wide ∙ shl-shr (x * 2 ^ k * 2) s in
    let same : a.0 * 2 + 1 ≡ x * 2 ^ k * 2 = sym here ∙ there in
    odd_even a.0 (x * 2 ^ k) same
  where
    odd_even : (p q : ℕ) → p * 2 + 1 ≡ q * 2 → ⊥
    odd_even p q e = omega arith

pub bottom_unique : (n t : ℕ) → 0 < n → Bottom n t → t ≡ bottom_of n
bottom_unique n t p h =
    let g = bottom_is n p in
    let a : t < suc (bottom_of n) = lt_of_not-le (λ z. bottom_lt n (bottom_of n) t g h z) in
    let b : bottom_of n < suc t = lt_of_not-le (λ z. bottom_lt n t (bottom_of n) h g z) in
    omega arith

pub pos_times : (n k : ℕ) → 0 < n → 0 < n * 2 ^ k
pos_times n k p = subst (λ (z : ℕ). z < n * 2 ^ k) (zero-mul (2 ^ k)) (mul-lt-mul_of_pos_right p (pow_pos k))

pub pos_left : (h b : ℕ) → 0 < h * b → 0 < h
pos_left zero b p = absurd (lt_irrefl 0 (subst (λ (y : ℕ). 0 < y) (zero-mul b) p))
pos_left (suc h) b p = zero-lt-suc h

-- ---- the ends of a word, by the counts of its zeros
pub top_of_word : (l : ℕ) → 0 < l → l < 2 ^ 64 → (count_leading_zeros 64 l ≤ 63) × (63 - count_leading_zeros 64 l ≡ top_of l)
top_of_word l p b =
    let t = leading_top 64 l p b in
    let j : 63 - count_leading_zeros 64 l ≡ t.0 = omega (arith, t.1) in
    (omega (arith, t.1), j ∙ top_unique l t.0 (t.2, t.3))

pub bottom_of_word : (l : ℕ) → 0 < l → l < 2 ^ 64 → count_trailing_zeros 64 l ≡ bottom_of l
bottom_of_word l p b = bottom_unique l (count_trailing_zeros 64 l) p (bottom_in 64 l p b)

-- ---- the ends of a number h of any length with a word l below it
pub top_join : (h l w : ℕ) → 0 < h → l < 2 ^ w → top_of h + w ≡ top_of (h * 2 ^ w + l)
top_join h l w p b =
    let t = top_is h p in
    let k : ℕ = top_of h in
    top_unique (h * 2 ^ w + l) (k + w) (
      le_trans (le_of_eq (pow-add 2 k w)) (le_trans (mul-le-mul_right (2 ^ w) t.0) (le-add_right (h * 2 ^ w) l)),
      lt_of_lt_of_le (digits_lt t.1 b) (le_of_eq (sym (pow-add 2 (suc k) w) ∙ ap (λ (y : ℕ). 2 ^ y) (suc-add k w))),
    )

pub bottom_join : (h l w : ℕ) → 0 < l → l < 2 ^ w → bottom_of l ≡ bottom_of (h * 2 ^ w + l)
bottom_join h l w p bl =
    let b = bottom_is l p in
    let x : ℕ = b.0 * 2 + 1 in
    let t : ℕ = bottom_of l in
    let short : t < w = pow_lt_cancel (lt_of_le_of_lt (le_trans (le_of_eq (sym (one-mul (2 ^ t)))) (le_trans (mul-le-mul_right (2 ^ t) (le-add_left 1 (b.0 * 2))) (le_of_eq (sym b.1)))) bl) in
    let k : ℕ = w - 1 - t in
    let e : k + suc t ≡ w = omega arith in
    let word : h * 2 ^ w ≡ h * 2 ^ k * 2 * 2 ^ t =
    ap (λ (y : ℕ). h * 2 ^ y) (sym e) ∙ ap (λ (y : ℕ). h * y) (pow-add 2 k (suc t) ∙ ap (λ (y : ℕ). 2 ^ k * y) (pow-succ' 2 t))
    ∙ sym (mul_assoc h (2 ^ k) (2 * 2 ^ t)) ∙ sym (mul_assoc (h * 2 ^ k) 2 (2 ^ t)) in
    let q : ℕ = h * 2 ^ k + b.0 in
    let sum : h * 2 ^ k * 2 + x ≡ q * 2 + 1 = join (h * 2 ^ k) b.0 in
    bottom_unique (h * 2 ^ w + l) t (le_trans p (le-add_left l (h * 2 ^ w))) (q, ap₂ (λ (y z : ℕ). y + z) word b.1 ∙ sym (add-mul (h * 2 ^ k * 2) x (2 ^ t)) ∙ ap (λ (y : ℕ). y * 2 ^ t) sum)
  where
    join : (a c : ℕ) → a * 2 + (c * 2 + 1) ≡ (a + c) * 2 + 1
    join a c = omega arith

-- nothing in the word
pub bottom_up : (h l w : ℕ) → 0 < h → l ≡ 0 → bottom_of h + w ≡ bottom_of (h * 2 ^ w + l)
bottom_up h l w p z =
    let b = bottom_is h p in
    let x : ℕ = b.0 * 2 + 1 in
    let v : h * 2 ^ w + l ≡ h * 2 ^ w = ap (λ (y : ℕ). h * 2 ^ w + y) z ∙ add-zero (h * 2 ^ w) in
    bottom_unique (h * 2 ^ w) (bottom_of h + w) (pos_times h w p) (b.0, ap (λ (y : ℕ). y * 2 ^ w) b.1 ∙ mul_assoc x (2 ^ bottom_of h) (2 ^ w) ∙ ap (λ (y : ℕ). x * y) (sym (pow-add 2 (bottom_of h) w)))
    ∙ ap bottom_of (sym v)

pub nothing_above : (h l b : ℕ) → h ≡ 0 → h * b + l ≡ l
nothing_above h l b e = ap (λ (y : ℕ). y * b + l) e ∙ ap (λ (y : ℕ). y + l) (zero-mul b) ∙ zero-add l

-- ---- a set moved up, and one with a bound

pub top_shift : (n k : ℕ) → 0 < n → top_of n + k ≡ top_of (n * 2 ^ k)
top_shift n k p =
    let t = top_is n p in
    top_unique (n * 2 ^ k) (top_of n + k) (
      le_trans (le_of_eq (pow-add 2 (top_of n) k)) (mul-le-mul_right (2 ^ k) t.0),
      lt_of_lt_of_le (mul-lt-mul_of_pos_right t.1 (pow_pos k)) (le_of_eq (sym (pow-add 2 (suc (top_of n)) k) ∙ ap (λ (z : ℕ). 2 ^ z) (suc-add (top_of n) k))),
    )

pub bottom_shift : (n k : ℕ) → 0 < n → bottom_of n + k ≡ bottom_of (n * 2 ^ k)
bottom_shift n k p =
    let b = bottom_is n p in
    let x : ℕ = b.0 * 2 + 1 in
    bottom_unique (n * 2 ^ k) (bottom_of n + k) (pos_times n k p)
    (b.0, ap (λ (z : ℕ). z * 2 ^ k) b.1 ∙ mul_assoc x (2 ^ bottom_of n) (2 ^ k) ∙ ap (λ (z : ℕ). x * z) (sym (pow-add 2 (bottom_of n) k)))

-- the positions at k and above have the same highest, where it is one of them
pub top_from : (n k : ℕ) → 0 < n → k ≤ top_of n → (0 < n / 2 ^ k * 2 ^ k) × (top_of n ≡ top_of (n / 2 ^ k * 2 ^ k))
top_from n k p l =
    let t = top_is n p in
    let j : ℕ = top_of n - k in
    let e : 2 ^ top_of n ≡ 2 ^ j * 2 ^ k = ap (λ (x : ℕ). 2 ^ x) (sym (sub-add_cancel {n = top_of n} {m = k} l)) ∙ pow-add 2 j k in
    let one : 2 ^ j ≤ n / 2 ^ k = (le-div_iff_mul-le (pow_pos k)).1 (le_trans (le_of_eq (sym e)) t.0) in
    let lo : 2 ^ top_of n ≤ n / 2 ^ k * 2 ^ k = le_trans (le_of_eq e) (mul-le-mul_right (2 ^ k) one) in
    let le : n / 2 ^ k * 2 ^ k ≤ n = le_trans (le-add_right (n / 2 ^ k * 2 ^ k) (n % 2 ^ k)) (le_of_eq (split n k)) in
    (le_trans (pow_pos (top_of n)) lo, top_unique (n / 2 ^ k * 2 ^ k) (top_of n) (lo, lt_of_le_of_lt le t.1))

pub bottom_le_top : (n : ℕ) → 0 < n → bottom_of n ≤ top_of n
bottom_le_top n p =
    let b = bottom_is n p in
    let t = top_is n p in
    let low : 2 ^ bottom_of n ≤ n = le_trans (le_of_eq (sym (one-mul (2 ^ bottom_of n)))) (le_trans (mul-le-mul_right (2 ^ bottom_of n) (le-add_left 1 (b.0 * 2))) (le_of_eq (sym b.1))) in
    let h : bottom_of n < suc (top_of n) = pow_lt_cancel (lt_of_le_of_lt low t.1) in
    omega arith

pub top_lt : (n k : ℕ) → 0 < n → n < 2 ^ k → top_of n < k
top_lt n k p h = pow_lt_cancel (lt_of_le_of_lt (top_is n p).0 h)

-- ---- the ends of two words

-- a number with its end
abbrev TopAt : ℕ → ℕ → Type 0
TopAt x t = (0 < x) × (t ≡ top_of x)

abbrev BottomAt : ℕ → ℕ → Type 0
BottomAt x t = (0 < x) × (t ≡ bottom_of x)

pos_up : (h l b : ℕ) → 0 < b → 0 < h → 0 < h * b + l
pos_up h l b q p = le_trans (subst (λ (z : ℕ). z < h * b) (zero-mul b) (mul-lt-mul_of_pos_right p q)) (le-add_right (h * b) l)

pos_down : (h l b : ℕ) → l ≡ 0 → 0 < h * b + l → 0 < h
pos_down h l b e p = pos_left h b (subst (λ (z : ℕ). 0 < z) (ap (λ (y : ℕ). h * b + y) e ∙ add-zero (h * b)) p)

up : (h l t : ℕ) → l < 2 ^ 64 → TopAt h t → TopAt (h * 2 ^ 64 + l) (t + 64)
up h l t b p = (pos_up h l (2 ^ 64) (pow_pos 64) p.0, ap (λ (y : ℕ). y + 64) p.1 ∙ top_join h l 64 p.0 b)

skip : (h l t : ℕ) → h ≡ 0 → TopAt l t → TopAt (h * 2 ^ 64 + l) t
skip h l t e p = subst (λ (y : ℕ). TopAt y t) (sym (nothing_above h l (2 ^ 64) e)) p

low_end : (h l t : ℕ) → l < 2 ^ 64 → BottomAt l t → BottomAt (h * 2 ^ 64 + l) t
low_end h l t b p = (le_trans p.0 (le-add_left l (h * 2 ^ 64)), p.1 ∙ bottom_join h l 64 p.0 b)

next_end : (h l t : ℕ) → l ≡ 0 → BottomAt h t → BottomAt (h * 2 ^ 64 + l) (t + 64)
next_end h l t e p = (pos_up h l (2 ^ 64) (pow_pos 64) p.0, ap (λ (y : ℕ). y + 64) p.1 ∙ bottom_up h l 64 p.0 e)

word : (l : ℕ) → 0 < l → l < 2 ^ 64 → TopAt l (63 - count_leading_zeros 64 l)
word l p b = (p, (top_of_word l p b).1)

lowest : (l : ℕ) → 0 < l → l < 2 ^ 64 → BottomAt l (count_trailing_zeros 64 l)
lowest l p b = (p, bottom_of_word l p b)

module _ (h l : ℕ) (hh : h < 2 ^ 64) (hl : l < 2 ^ 64) where
  pub top1 : 0 < h → (count_leading_zeros 64 h ≤ 63) × (63 - count_leading_zeros 64 h + 64 ≡ top_of (join h l))
  top1 p = ((top_of_word h p hh).0, (up h l _ hl (word h p hh)).1)

  pub top0 : h ≡ 0 → 0 < join h l → (count_leading_zeros 64 l ≤ 63) × (63 - count_leading_zeros 64 l ≡ top_of (join h l))
  top0 e q =
      let p : 0 < l = subst (λ (y : ℕ). 0 < y) (nothing_above h l (2 ^ 64) e) q in
      ((top_of_word l p hl).0, (skip h l _ e (word l p hl)).1)

  pub bottom0 : 0 < l → count_trailing_zeros 64 l ≡ bottom_of (join h l)
  bottom0 p = (low_end h l _ hl (lowest l p hl)).1

  pub bottom1 : l ≡ 0 → 0 < join h l → count_trailing_zeros 64 h + 64 ≡ bottom_of (join h l)
  bottom1 e q = (next_end h l _ e (lowest h (pos_down h l (2 ^ 64) e q) hh)).1
