-- A number of words. The laws down to `lacks` hold of any number of words.
use mathlib.Core.Path.{◌≡◌, sym, ap, ap₂, ◌∙◌, subst}
use mathlib.Core.Bool.{false}
use mathlib.Core.Logic.{inl, inr}
use Prim.Native.Nat.{ℕ, zero, suc, ◌+◌, ◌-◌, ◌*◌, ◌/◌, ◌%◌, ◌^◌, ◌≤◌, ◌<◌}
use native.Mathlib.Nat.{add-zero, zero-add, one-mul, zero-mul, mul_assoc, mul_comm, add-mul, add_comm, add_assoc, sub-add_cancel, mul-add-mod_self_right, mul-add-div_right, mod-lt, le_trans, le-add_right, le-add_left, zero-lt-suc, lt_irrefl, lt_of_lt_of_le, le_of_eq, mod-eq_of_lt, le_of_lt, pos_of_ne-zero, div-eq_of_lt, mul-le-mul_right, mul-lt-mul_of_pos_right}
use native.Mathlib.Omega.{arith}
use lib.Dec.{lit<, eqb, leb, ltb, eqb-suc-zero}
use lib.Arith.{le-zero, digits_lt}
use lib.Pow.{pow_pos, pow-lt, pow_mono, pow-add, high, low, split, mod-pow-add, shr_lt, shr-shr, ones_lt, ones_split}
use lib.Bits.{bit_or, bit_and, or_shifted, and_mask, or_disjoint, or_block, or_lt, or_zero_r, and_block, and_zero_r}
use borrow.Author.Tests.{eq-eqb, ne_eqb, eqb-true, eqb-false, lt-ltb, le-ltb, le-leb, lt-leb, ltb-true, ltb-false}
use Rattle.config.specs.inner.Tests.{split as test, tests}
use Rattle.window.specs.Set.{max_window, val, set_of, has}
use Rattle.window.specs.declared.set.Bits.{Bits}

-- j + k digits of a number with k digits r below h
pub carry : (h j k : ℕ) {r : ℕ} → r < 2 ^ k → (h * 2 ^ k + r) % 2 ^ (j + k) ≡ (h % 2 ^ j) * 2 ^ k + r
carry h j k {r} b = mod-pow-add (h * 2 ^ k + r) j k ∙ ap₂ (λ (x y : ℕ). (x % 2 ^ j) * 2 ^ k + y) (high h k b) (low h k b)

pub carry_zero : (h j k : ℕ) → (h * 2 ^ k) % 2 ^ (j + k) ≡ (h % 2 ^ j) * 2 ^ k
carry_zero h j k = ap (λ (x : ℕ). x % 2 ^ (j + k)) (sym (add-zero (h * 2 ^ k))) ∙ carry h j k (pow_pos k) ∙ add-zero ((h % 2 ^ j) * 2 ^ k)

-- a complement, word by word
pub flip : (m k b h l : ℕ) → h ≤ m → l ≤ k → (m - h) * b + (k - l) ≡ (m * b + k) - (h * b + l)
flip m k b h l p q =
    let e : (m - h) * b + h * b ≡ m * b = sym (add-mul (m - h) h b) ∙ ap (λ (x : ℕ). x * b) (sub-add_cancel p) in
    omega arith

-- nothing in the words
pub empty_up : (h b l : ℕ) → 0 < b → l ≡ 0 → eqb h 0 ≡ eqb (h * b + l) 0
empty_up zero b l p e = sym (eq-eqb (0 * b + l) 0 (ap (λ (x : ℕ). x + l) (zero-mul b) ∙ zero-add l ∙ e))
empty_up (suc h) b l p e =
    let q : 0 < suc h * b = subst (λ (x : ℕ). x < suc h * b) (zero-mul b) (mul-lt-mul_of_pos_right {m = 0} {n = suc h} {k = b} (zero-lt-suc h) p) in
    eqb-suc-zero h ∙ sym (ne_eqb (suc h * b + l) 0 (λ z. lt_irrefl 0 (subst (λ (y : ℕ). 0 < y) z (le_trans q (le-add_right (suc h * b) l)))))

pub empty_not : (h b l : ℕ) → (l ≡ 0 → ⊥) → false ≡ eqb (h * b + l) 0
empty_not h b l f = sym (ne_eqb (h * b + l) 0 (λ z. f (le-zero (subst (λ (y : ℕ). l ≤ y) z (le-add_left l (h * b))))))

-- a shift by n below a word's 64: j digits of a word stay, and n come in from the word below
module _ (n j : ℕ) (e : j + n ≡ 64) where
  out_lt : (l : ℕ) → l < 2 ^ 64 → l / 2 ^ j < 2 ^ n
  out_lt l b = shr_lt n j (subst (λ (x : ℕ). l < 2 ^ x) (sym (add_comm n j ∙ e)) b)

  -- the top word
  pub top_word : (l c : ℕ) → c < 2 ^ n → bit_or ((l * 2 ^ n) % 2 ^ 64) c ≡ (l * 2 ^ n + c) % 2 ^ 64
  top_word l c h =
      ap (λ (x : ℕ). bit_or ((l * 2 ^ n) % 2 ^ x) c) (sym e) ∙ ap (λ (x : ℕ). bit_or x c) (carry_zero l j n) ∙ or_shifted (l % 2 ^ j) n c h
      ∙ sym (carry l j n h) ∙ ap (λ (x : ℕ). (l * 2 ^ n + c) % 2 ^ x) e

  -- a word and those above it, f digits of them
  pub next_word : (f h l c : ℕ) → c < 2 ^ n → ((h * 2 ^ 64 + l) * 2 ^ n + c) % 2 ^ (f + 64) ≡ ((h * 2 ^ n + l / 2 ^ j) % 2 ^ f) * 2 ^ 64 + bit_or ((l * 2 ^ n) % 2 ^ 64) c
  next_word f h l c b =
      let x : ℕ = l * 2 ^ n + c in
      let times : (h * 2 ^ 64 + l) * 2 ^ n + c ≡ (h * 2 ^ n) * 2 ^ 64 + x =
      ap (λ (y : ℕ). y + c) (add-mul (h * 2 ^ 64) l (2 ^ n) ∙ ap (λ (y : ℕ). y + l * 2 ^ n) (mul_assoc h (2 ^ 64) (2 ^ n) ∙ ap (λ (y : ℕ). h * y) (mul_comm (2 ^ 64) (2 ^ n)) ∙ sym (mul_assoc h (2 ^ n) (2 ^ 64))))
      ∙ add_assoc (h * 2 ^ n * 2 ^ 64) (l * 2 ^ n) c in
      let out : x / 2 ^ 64 ≡ l / 2 ^ j = ap (λ (y : ℕ). x / 2 ^ y) (sym (add_comm n j ∙ e)) ∙ sym (shr-shr x n j) ∙ ap (λ (y : ℕ). y / 2 ^ j) (high l n b) in
      mod-pow-add ((h * 2 ^ 64 + l) * 2 ^ n + c) f 64
      ∙ ap (λ (y : ℕ). (y / 2 ^ 64 % 2 ^ f) * 2 ^ 64 + y % 2 ^ 64) times
      ∙ ap₂ (λ (y z : ℕ). (y % 2 ^ f) * 2 ^ 64 + z)
      (mul-add-div_right (pow_pos 64) (h * 2 ^ n) x ∙ ap (λ (y : ℕ). h * 2 ^ n + y) out)
      (mul-add-mod_self_right (h * 2 ^ n) (2 ^ 64) x ∙ sym (top_word l c b))

-- the low f digits, and a word below them
pub low_word : (f h l : ℕ) → l < 2 ^ 64 → (h * 2 ^ 64 + l) % 2 ^ (f + 64) ≡ (h % 2 ^ f) * 2 ^ 64 + l
low_word f h l b = carry h f 64 b

-- a digit, taken and set
pub and_bit : (n k : ℕ) → bit_and n (2 ^ k) ≡ (n / 2 ^ k % 2) * 2 ^ k
and_bit n k =
    ap₂ bit_and (sym (split n k)) (sym (add-zero (1 * 2 ^ k) ∙ one-mul (2 ^ k)))
    ∙ and_block k (n / 2 ^ k) 1 (n % 2 ^ k) 0 (mod-lt n (pow_pos k)) (pow_pos k)
    ∙ ap₂ (λ (x y : ℕ). x * 2 ^ k + y) (and_mask (n / 2 ^ k) 1) (and_zero_r (n % 2 ^ k)) ∙ add-zero ((n / 2 ^ k % 2) * 2 ^ k)

pub or_bit : (n k : ℕ) → n / 2 ^ k % 2 ≡ 0 → bit_or n (2 ^ k) ≡ n + 2 ^ k
or_bit n k e = or_disjoint n (2 ^ k) (and_bit n k ∙ ap (λ (x : ℕ). x * 2 ^ k) e ∙ zero-mul (2 ^ k))

pub lacks : (n k : ℕ) → has n k ≡ false → n / 2 ^ k % 2 ≡ 0
lacks n k e = let f = eqb-false (n / 2 ^ k % 2) 1 e in omega arith

-- a word's n lowest digits, and what is among them
pub word_ones : (n j : ℕ) → j + n ≡ 64 → (2 ^ 64 - 1) / 2 ^ j ≡ 2 ^ n - 1
word_ones n j e = ap (λ (x : ℕ). (2 ^ x - 1) / 2 ^ j) (sym (add_comm n j ∙ e)) ∙ ap (λ (x : ℕ). x / 2 ^ j) (ones_split n j) ∙ high (2 ^ n - 1) j (ones_lt j)

leb_ones : (x n : ℕ) → leb x (2 ^ n - 1) ≡ ltb x (2 ^ n)
leb_ones x n = go (2 ^ n) (pow_pos n)
  where
    go : (b : ℕ) → 0 < b → leb x (b - 1) ≡ ltb x b
    go b p = elim (test (ltb x b)) [
      | inl q ↦ le-leb x (b - 1) (omega (arith, tests)) ∙ sym q
      | inr q ↦ lt-leb x (b - 1) (omega (arith, tests)) ∙ sym q
    ]

-- ---- two words

abbrev pub words : ℕ → ℕ → Bits
words h l = record { low = l; high = h }

abbrev pub join : ℕ → ℕ → ℕ
join h l = h * 2 ^ 64 + l

under : (l : ℕ) → join 0 l ≡ l
under l = ap (λ (x : ℕ). x + l) (zero-mul (2 ^ 64)) ∙ zero-add l

pub val_of : (n : ℕ) → val (set_of n) ≡ n
unfolding val set_of
val_of n = split n 64

pub val_is : (s : Bits) (n : ℕ) → s ≡ set_of n → val s ≡ n
val_is s n e = ap val e ∙ val_of n

module _ (h l : ℕ) (hl : l < 2 ^ 64) where
  -- words are the words of the number that they make
  pub of_words : (n : ℕ) → join h l ≡ n → words h l ≡ set_of n
  unfolding set_of
  of_words n e = ap₂ words (sym (high h 64 hl) ∙ ap (λ (x : ℕ). x / 2 ^ 64) e) (sym (low h 64 hl) ∙ ap (λ (x : ℕ). x % 2 ^ 64) e)

  -- up by a word and n more
  pub up_words : (n : ℕ) → join ((l * 2 ^ n) % 2 ^ 64) 0 ≡ (join h l * 2 ^ (n + 64)) % 2 ^ max_window
  up_words n =
      let swap : h * 2 ^ 64 * 2 ^ n ≡ h * 2 ^ n * 2 ^ 64 = mul_assoc h (2 ^ 64) (2 ^ n) ∙ ap (λ (x : ℕ). h * x) (mul_comm (2 ^ 64) (2 ^ n)) ∙ sym (mul_assoc h (2 ^ n) (2 ^ 64)) in
      let cut : (join h l * 2 ^ n) % 2 ^ 64 ≡ (l * 2 ^ n) % 2 ^ 64 =
      ap (λ (x : ℕ). x % 2 ^ 64) (add-mul (h * 2 ^ 64) l (2 ^ n) ∙ ap (λ (x : ℕ). x + l * 2 ^ n) swap) ∙ mul-add-mod_self_right (h * 2 ^ n) (2 ^ 64) (l * 2 ^ n) in
      sym (ap (λ (x : ℕ). (join h l * x) % 2 ^ max_window) (pow-add 2 n 64) ∙ ap (λ (x : ℕ). x % 2 ^ max_window) (sym (mul_assoc (join h l) (2 ^ n) (2 ^ 64)))
      ∙ carry_zero (join h l * 2 ^ n) 64 64 ∙ ap (λ (x : ℕ). x * 2 ^ 64) cut ∙ sym (add-zero ((l * 2 ^ n) % 2 ^ 64 * 2 ^ 64)))

  pub bits_words : (n j : ℕ) → j + n ≡ 64 → join (bit_or ((h * 2 ^ n) % 2 ^ 64) (l / 2 ^ j)) ((l * 2 ^ n) % 2 ^ 64) ≡ (join h l * 2 ^ n) % 2 ^ max_window
  bits_words n j e =
      sym (ap (λ (x : ℕ). x % 2 ^ max_window) (sym (add-zero (join h l * 2 ^ n)))
      ∙ next_word n j e 64 h l 0 (pow_pos n)
      ∙ ap₂ (λ (x y : ℕ). x * 2 ^ 64 + y) (sym (top_word n j e h (l / 2 ^ j) (out_lt n j e l hl))) (or_zero_r ((l * 2 ^ n) % 2 ^ 64)))

module _ (h l : ℕ) (hl : l < 2 ^ 64) where
  -- with position k
  pub with_low : (k : ℕ) → k < 64 → words h (bit_or l ((1 * 2 ^ k) % 2 ^ 64)) ≡ set_of (bit_or (join h l) (2 ^ k))
  with_low k b =
      let one : (1 * 2 ^ k) % 2 ^ 64 ≡ 2 ^ k = ap (λ (x : ℕ). x % 2 ^ 64) (one-mul (2 ^ k)) ∙ mod-eq_of_lt (pow-lt b) in
      ap (λ (x : ℕ). words h (bit_or l x)) one
      ∙ of_words h (bit_or l (2 ^ k)) (or_lt 64 l (2 ^ k) hl (pow-lt b)) (bit_or (join h l) (2 ^ k))
      (sym (ap (bit_or (join h l)) (sym (under (2 ^ k))) ∙ or_block 64 h 0 l (2 ^ k) hl (pow-lt b) ∙ ap (λ (x : ℕ). join x (bit_or l (2 ^ k))) (or_zero_r h)))

  pub with_high : (k j : ℕ) → j + 64 ≡ k → j < 64 → words (bit_or h ((1 * 2 ^ j) % 2 ^ 64)) l ≡ set_of (bit_or (join h l) (2 ^ k))
  with_high k j e b =
      let one : (1 * 2 ^ j) % 2 ^ 64 ≡ 2 ^ j = ap (λ (x : ℕ). x % 2 ^ 64) (one-mul (2 ^ j)) ∙ mod-eq_of_lt (pow-lt b) in
      let up : join (2 ^ j) 0 ≡ 2 ^ k = add-zero (2 ^ j * 2 ^ 64) ∙ sym (pow-add 2 j 64) ∙ ap (λ (x : ℕ). 2 ^ x) e in
      ap (λ (x : ℕ). words (bit_or h x) l) one
      ∙ of_words (bit_or h (2 ^ j)) l hl (bit_or (join h l) (2 ^ k))
      (sym (ap (bit_or (join h l)) (sym up) ∙ or_block 64 h (2 ^ j) l 0 hl (pow_pos 64) ∙ ap (join (bit_or h (2 ^ j))) (or_zero_r l)))

  -- nothing at n and above, for n up to a word and for n beyond it
  pub below_not : (n : ℕ) → n ≤ 64 → (h ≡ 0 → ⊥) → false ≡ ltb (join h l) (2 ^ n)
  below_not n b f =
      let one : 1 * 2 ^ 64 ≤ h * 2 ^ 64 = mul-le-mul_right (2 ^ 64) (pos_of_ne-zero f) in
      sym (le-ltb (join h l) (2 ^ n) (le_trans (pow_mono b) (le_trans (le_of_eq (sym (one-mul (2 ^ 64)))) (le_trans one (le-add_right (h * 2 ^ 64) l)))))

  pub below_low : (n j : ℕ) → j + n ≡ 64 → h ≡ 0 → leb l ((2 ^ 64 - 1) / 2 ^ j) ≡ ltb (join h l) (2 ^ n)
  below_low n j e z =
      ap (leb l) (word_ones n j e) ∙ leb_ones l n ∙ ap (λ (x : ℕ). ltb x (2 ^ n)) (sym (ap (λ (x : ℕ). join x l) z ∙ under l))

  pub below_high : (n j : ℕ) → 64 < n → j + n ≡ max_window → leb h ((2 ^ 64 - 1) / 2 ^ j) ≡ ltb (join h l) (2 ^ n)
  below_high n j b e =
      let k : ℕ = n - 64 in
      let up : k + 64 ≡ n = omega arith in
      ap (leb h) (word_ones k j (omega arith)) ∙ leb_ones h k ∙ high_below k ∙ ap (λ (x : ℕ). ltb (join h l) (2 ^ x)) up
    where
      high_below : (k : ℕ) → ltb h (2 ^ k) ≡ ltb (join h l) (2 ^ (k + 64))
      high_below k = elim (test (ltb h (2 ^ k))) [
        | inl q ↦ q ∙ sym (lt-ltb (join h l) (2 ^ (k + 64)) (lt_of_lt_of_le (digits_lt (ltb-true h (2 ^ k) q) hl) (le_of_eq (sym (pow-add 2 k 64)))))
        | inr q ↦
            q ∙ sym (le-ltb (join h l) (2 ^ (k + 64))
            (le_trans (le_of_eq (pow-add 2 k 64)) (le_trans (mul-le-mul_right (2 ^ 64) (ltb-false h (2 ^ k) q)) (le-add_right (h * 2 ^ 64) l))))
      ]

  -- all the n lowest positions, the same
  pub all_low : (n j : ℕ) → j + n ≡ 64 → join h l < 2 ^ n → eqb l ((2 ^ 64 - 1) / 2 ^ j) ≡ eqb (join h l) (2 ^ n - 1)
  all_low n j e b =
      let z : h ≡ 0 = sym (high h 64 hl) ∙ div-eq_of_lt (lt_of_lt_of_le b (pow_mono {j = 64} (omega arith))) in
      ap (eqb l) (word_ones n j e) ∙ ap (λ (x : ℕ). eqb x (2 ^ n - 1)) (sym (ap (λ (x : ℕ). join x l) z ∙ under l))

  module _ (n : ℕ) (b : 64 < n) where
    parts : 2 ^ n - 1 ≡ join (2 ^ (n - 64) - 1) (2 ^ 64 - 1)
    parts = ap (λ (x : ℕ). 2 ^ x - 1) (sym (sub-add_cancel {n = n} {m = 64} (le_of_lt b))) ∙ ones_split (n - 64) 64

    pub all_not : (l ≡ 2 ^ 64 - 1 → ⊥) → false ≡ eqb (join h l) (2 ^ n - 1)
    all_not f =
        sym (ne_eqb (join h l) (2 ^ n - 1) (λ z. f (sym (low h 64 hl) ∙ ap (λ (x : ℕ). x % 2 ^ 64) (z ∙ parts) ∙ low (2 ^ (n - 64) - 1) 64 (ones_lt 64))))

    pub all_high : (j : ℕ) → j + n ≡ max_window → l ≡ 2 ^ 64 - 1 → eqb h ((2 ^ 64 - 1) / 2 ^ j) ≡ eqb (join h l) (2 ^ n - 1)
    all_high j e el = ap (eqb h) (word_ones (n - 64) j (omega arith)) ∙ elim (test (eqb h (2 ^ (n - 64) - 1))) [
      | inl q ↦ q ∙ sym (eq-eqb (join h l) (2 ^ n - 1) (ap₂ join (eqb-true h (2 ^ (n - 64) - 1) q) el ∙ sym parts))
      | inr q ↦
          q ∙ sym (ne_eqb (join h l) (2 ^ n - 1)
          (λ z. eqb-false h (2 ^ (n - 64) - 1) q (sym (high h 64 hl) ∙ ap (λ (x : ℕ). x / 2 ^ 64) (z ∙ parts) ∙ high (2 ^ (n - 64) - 1) 64 (ones_lt 64))))
    ]

-- the n lowest positions, for n up to a word and for n beyond it
pub lowest_low : (n j : ℕ) → j + n ≡ 64 → words 0 ((2 ^ 64 - 1) / 2 ^ j) ≡ set_of (2 ^ n - 1)
lowest_low n j e =
    ap (words 0) (word_ones n j e) ∙ of_words 0 (2 ^ n - 1) (lt_of_lt_of_le (ones_lt n) (pow_mono {j = 64} (omega arith))) (2 ^ n - 1) (under (2 ^ n - 1))

pub lowest_high : (n j : ℕ) → 64 < n → j + n ≡ max_window → words ((2 ^ 64 - 1) / 2 ^ j) (2 ^ 64 - 1) ≡ set_of (2 ^ n - 1)
lowest_high n j b e =
    let k : ℕ = n - 64 in
    let up : k + 64 ≡ n = omega arith in
    ap (λ (x : ℕ). words x (2 ^ 64 - 1)) (word_ones k j (omega arith))
    ∙ of_words (2 ^ k - 1) (2 ^ 64 - 1) (ones_lt 64) (2 ^ n - 1) (sym (ones_split k 64) ∙ ap (λ (x : ℕ). 2 ^ x - 1) up)

-- two words have no further positions
pub words_lt : (h l : ℕ) → h < 2 ^ 64 → l < 2 ^ 64 → join h l < 2 ^ max_window
words_lt h l hh hl = digits_lt {m = 2 ^ 64} {c = 2 ^ 64} hh hl

-- twice, and 1
pub push : (v f : ℕ) → bit_or ((v * 2 ^ 1) % 2 ^ (f + 1)) (2 ^ 0) ≡ (v * 2 + 1) % 2 ^ (f + 1)
push v f = ap (λ (x : ℕ). bit_or x 1) (carry_zero v f 1) ∙ or_shifted (v % 2 ^ f) 1 1 (lit< tt) ∙ sym (carry v f 1 (lit< tt))

-- a set with nothing added
pub set_same : (s : Bits) → s.low < 2 ^ 64 → s ≡ set_of (val s + 0)
unfolding val
set_same s b = of_words s.high s.low b (val s + 0) (sym (add-zero (val s)))
