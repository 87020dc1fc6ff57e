-- Figures in one number: put together and taken out again they are the same, and so is a number whose figures are put together again.
use mathlib.Core.Path.{◌≡◌, refl}
use mathlib.Core.Bool.{Bool, true, false, ◌&&◌}
use mathlib.Core.Logic.{inl, inr}
use Prim.Native.Nat.{ℕ, zero, suc, ◌+◌, ◌*◌, ◌/◌, ◌%◌, ◌≤◌, ◌<◌}
use native.Mathlib.Omega.{arith}
use lib.Dec.{eqb}
use borrow.Author.Tests.{eq-eqb, ne_eqb, eqb-true}
use Rattle.config.specs.inner.Tests.{split, and_left, and_right}
use Rattle.c_answers.specs.Answers.{bit}
use Rattle.c_state.specs.Pack.{four_in, word, two_in, pair, flags_in, flags_number, held}
use Rattle.c_state.specs.declared.pack.Flags.{Flags}

-- ---- four of 16 bits
pub word_four : (w : ℕ) → let q = four_in w in word q.a q.b q.c q.d ≡ w
unfolding word four_in
word_four w = omega arith

pub four_word : (a b c d : ℕ) → a < 65536 → b < 65536 → c < 65536 → four_in (word a b c d) ≡ record { a = a; b = b; c = c; d = d }
unfolding word four_in
four_word a b c d ha hb hc =
    let n = a + b * 65536 + c * 4294967296 + d * 281474976710656 in
    let x : n % 65536 ≡ a = omega arith in
    let y : n / 65536 ≡ b + (c + d * 65536) * 65536 = omega arith in
    let y2 : (b + (c + d * 65536) * 65536) % 65536 ≡ b = omega arith in
    let z : n / 4294967296 ≡ c + d * 65536 = omega arith in
    let z2 : (c + d * 65536) % 65536 ≡ c = omega arith in
    let u : n / 281474976710656 ≡ d = omega arith in
    rw (x, y, y2, z, z2, u)

-- ---- two of 8 bits
pub pair_two : (n : ℕ) → let h = two_in n in pair h.low h.high ≡ n
unfolding pair two_in
pair_two n = omega arith

pub two_pair : (low high : ℕ) → low < 256 → two_in (pair low high) ≡ record { low = low; high = high }
unfolding pair two_in
two_pair low high h =
    let x : (low + high * 256) % 256 ≡ low = omega arith in
    let y : (low + high * 256) / 256 ≡ high = omega arith in
    rw (x, y)

pub high_small : (n : ℕ) → n ≤ 4095 → (two_in n).high < 16
unfolding two_in
high_small n h = omega arith

pub pair_small : (low high : ℕ) → low < 256 → high < 16 → pair low high ≤ 4095
unfolding pair
pair_small low high h g = omega arith

-- ---- flags
pub bit_same : (n : ℕ) → n ≤ 1 → bit (eqb n 1) ≡ n
bit_same zero h = refl
bit_same (suc zero) h = refl
bit_same (suc (suc n)) h = absurd (let z : ⊥ = omega arith in z)

pub bit_back : (b : Bool) → eqb (bit b) 1 ≡ b
bit_back true = refl
bit_back false = refl

pub bit_small : (b : Bool) → bit b ≤ 1
bit_small true = omega arith
bit_small false = omega arith

pub number_flags : (n : ℕ) → n < 16 → flags_number (flags_in n) ≡ n
unfolding flags_number flags_in
number_flags n h =
    let a : n % 2 ≤ 1 = omega arith in
    let b : n / 2 % 2 ≤ 1 = omega arith in
    let c : n / 4 % 2 ≤ 1 = omega arith in
    let d : n / 8 ≤ 1 = omega arith in
    let four : n / 2 / 2 ≡ n / 4 = omega arith in
    let eight : n / 4 / 2 ≡ n / 8 = omega arith in
    rw (bit_same (n % 2) a, bit_same (n / 2 % 2) b, bit_same (n / 4 % 2) c, bit_same (n / 8) d) (omega arith)

pub flags_number_lem : (f : Flags) → flags_in (flags_number f) ≡ f
unfolding flags_number flags_in
flags_number_lem f =
    let w = bit f.timer in
    let x = bit f.request_due in
    let y = bit f.refused in
    let z = bit f.asked in
    let n = w + x * 2 + y * 4 + z * 8 in
    let hw = bit_small f.timer in
    let hx = bit_small f.request_due in
    let hy = bit_small f.refused in
    let hz = bit_small f.asked in
    let a : n % 2 ≡ w = omega arith in
    let b : n / 2 ≡ x + (y + z * 2) * 2 = omega arith in
    let b2 : (x + (y + z * 2) * 2) % 2 ≡ x = omega arith in
    let c : n / 4 ≡ y + z * 2 = omega arith in
    let c2 : (y + z * 2) % 2 ≡ y = omega arith in
    let d : n / 8 ≡ z = omega arith in
    rw (a, b, b2, c, c2, d, bit_back f.timer, bit_back f.request_due, bit_back f.refused, bit_back f.asked)

pub number_small : (f : Flags) → flags_number f < 16
unfolding flags_number
number_small f = omega (arith, bit_small f.timer, bit_small f.request_due, bit_small f.refused, bit_small f.asked)

-- what holds where the flag is set, and where it is not and the figures are 0, holds of all that is taken
pub by_flag : (P : Bool → ℕ → ℕ → ℕ → Type 0) (on : Bool) (x y z : ℕ) → held on x y z ≡ true → P true x y z → P false 0 0 0 → P on x y z
unfolding held
by_flag P true x y z h set unset = set
by_flag P false x y z h set unset =
    let r = and_right (eqb x 0) _ h in
    let ex : x ≡ 0 = eqb-true x 0 (and_left (eqb x 0) _ h) in
    let ey : y ≡ 0 = eqb-true y 0 (and_left (eqb y 0) _ r) in
    let ez : z ≡ 0 = eqb-true z 0 (and_right (eqb y 0) _ r) in
    rw (ex, ey, ez) unset

eqb_not : (n : ℕ) → eqb n 0 ≡ false → n ≡ 0 → ⊥
eqb_not n e z = let t = eq-eqb n 0 z in let y : ◌≡◌ {A = ℕ} 0 1 = cc in omega arith

and_same : (a b : Bool) → ((a && b) && true) ≡ (a && (b && true))
and_same true b = refl
and_same false b = refl

-- the two figures above the others are 0 where what is above the others is
upper_figures : (w : ℕ) → eqb (w / 4294967296) 0 ≡ (eqb (w / 4294967296 % 65536) 0 && eqb (w / 281474976710656) 0)
upper_figures w = elim (split (eqb (w / 4294967296) 0)) [
  | inl z ↦
      let e = eqb-true (w / 4294967296) 0 z in
      let c : w / 4294967296 % 65536 ≡ 0 = omega arith in
      let d : w / 281474976710656 ≡ 0 = omega arith in
      rw (c, d, e)
  | inr z ↦ elim (split (eqb (w / 4294967296 % 65536) 0)) [
    | inl y ↦
        let e = eqb-true (w / 4294967296 % 65536) 0 y in
        let f : w / 4294967296 ≡ 0 → ⊥ = λ g. eqb_not (w / 4294967296) z g in
        let d : w / 281474976710656 ≡ 0 → ⊥ = λ g. f (omega arith) in
        rw (z, y, ne_eqb (w / 281474976710656) 0 d)
    | inr y ↦ rw (z, y)
  ]
]

pub held_upper : (on : Bool) (w : ℕ) → let q = four_in w in held on (w / 4294967296) 0 0 ≡ held on q.c q.d 0
unfolding held four_in
held_upper true w = refl
held_upper false w = rw (upper_figures w) (and_same (eqb (w / 4294967296 % 65536) 0) (eqb (w / 281474976710656) 0))
