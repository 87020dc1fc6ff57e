-- What leaves the window when a number d ahead arrives.
use mathlib.Core.Path.{◌≡◌, refl, sym, ap, ap₂, ◌∙◌, subst, subst₂}
use Rattle.std.proofs.Common.{Some, None}
use mathlib.Core.Logic.{◌⊎◌, inl, inr}
use Prim.Native.Nat.{ℕ, zero, suc, ◌+◌, ◌-◌, ◌*◌, ◌/◌, ◌^◌, ◌≤◌, ◌<◌}
use native.Mathlib.Nat.{le_refl, le_trans, le_of_eq, lt_of_lt_of_le, le-add_right, le-add_left, zero-add, add_comm, add_assoc, add-mul, mul_assoc, mul_comm, mul-one, zero-mul, suc-add, mul-le-mul_right, pow-suc, lt_irrefl, zero-lt-suc, eq-or-lt_of_le, sub-le, div-one, div-eq_of_lt}
use native.Mathlib.Omega.{arith}
use lib.Arith.{digits_lt, le-zero}
use lib.Pow.{pow_pos, pow_mono, pow-add, high, shr-shr, ones_lt, ones_split}
use Rattle.window.specs.Set.{top_of, bottom_of}
use Rattle.window.specs.Window.{span_of}
use Rattle.window.specs.Arrival.{lost_of}
use Rattle.window.specs.declared.window.SeqRange.{SeqRange}
use Rattle.window.proofs.Spans.{RangeTo, span_none, span_some}
use Rattle.window.proofs.Ends.{top_is, top_unique, bottom_unique, top_shift, bottom_shift, pos_left, pos_times}

-- ---- what leaves, where skipped numbers do: d is e + 2 and more above the size
module _ (size m d e : ℕ) (ed : e + 2 + size ≡ d) where
  pub far_is : lost_of size m d ≡ m * 2 ^ (e + 2) + (2 ^ (e + 1) - 1)
  unfolding lost_of
  far_is =
      let up : m * 2 ^ d ≡ m * 2 ^ (e + 2) * 2 ^ size = ap (λ (z : ℕ). m * 2 ^ z) (sym ed) ∙ ap (λ (z : ℕ). m * z) (pow-add 2 (e + 2) size) ∙ sym (mul_assoc m (2 ^ (e + 2)) (2 ^ size)) in
      let under : 2 ^ (d - 1) - 1 ≡ (2 ^ (e + 1) - 1) * 2 ^ size + (2 ^ size - 1) = ap (λ (z : ℕ). 2 ^ z - 1) less ∙ ones_split (e + 1) size in
      ap (λ (z : ℕ). z / 2 ^ size)
      (ap₂ (λ (y z : ℕ). y + z) up under ∙ sym (add_assoc (m * 2 ^ (e + 2) * 2 ^ size) ((2 ^ (e + 1) - 1) * 2 ^ size) (2 ^ size - 1))
      ∙ ap (λ (z : ℕ). z + (2 ^ size - 1)) (sym (add-mul (m * 2 ^ (e + 2)) (2 ^ (e + 1) - 1) (2 ^ size))))
      ∙ high (m * 2 ^ (e + 2) + (2 ^ (e + 1) - 1)) size (ones_lt size)
    where
      less : d - 1 ≡ e + 1 + size
      less = omega arith

  -- the newest is at the size
  odd : lost_of size m d ≡ (m * 2 ^ (e + 1) + (2 ^ e - 1)) * 2 + 1
  odd =
      far_is
      ∙ ap₂ (λ (y z : ℕ). m * y + z) (ap (λ (z : ℕ). 2 ^ z) more ∙ pow-add 2 (e + 1) 1) (ones_split e 1)
      ∙ ap (λ (z : ℕ). z + ((2 ^ e - 1) * 2 + 1)) (sym (mul_assoc m (2 ^ (e + 1)) 2))
      ∙ sym (add_assoc (m * 2 ^ (e + 1) * 2) ((2 ^ e - 1) * 2) 1) ∙ ap (λ (z : ℕ). z + 1) (sym (add-mul (m * 2 ^ (e + 1)) (2 ^ e - 1) 2))
    where
      more : e + 2 ≡ e + 1 + 1
      more = omega arith

  pub far_pos : 0 < lost_of size m d
  far_pos = subst (λ (z : ℕ). 0 < z) (sym odd) (le-add_left 1 ((m * 2 ^ (e + 1) + (2 ^ e - 1)) * 2))

  pub far_bottom : 0 ≡ bottom_of (lost_of size m d)
  far_bottom = bottom_unique (lost_of size m d) 0 far_pos (m * 2 ^ (e + 1) + (2 ^ e - 1), odd ∙ sym (mul-one ((m * 2 ^ (e + 1) + (2 ^ e - 1)) * 2 + 1)))

  -- the oldest is the oldest that was missing, or the first that was skipped
  pub far_top : 0 < m → top_of m + (e + 2) ≡ top_of (lost_of size m d)
  far_top p =
      let t = top_is m p in
      let small : 2 ^ (e + 1) - 1 < 2 ^ (e + 2) = lt_of_lt_of_le (ones_lt (e + 1)) (pow_mono grow) in
      let lo : 2 ^ (top_of m + (e + 2)) ≤ m * 2 ^ (e + 2) + (2 ^ (e + 1) - 1) =
      le_trans (le_of_eq (pow-add 2 (top_of m) (e + 2))) (le_trans (mul-le-mul_right (2 ^ (e + 2)) t.0) (le-add_right (m * 2 ^ (e + 2)) (2 ^ (e + 1) - 1))) in
      let hi : m * 2 ^ (e + 2) + (2 ^ (e + 1) - 1) < 2 ^ suc (top_of m + (e + 2)) =
      lt_of_lt_of_le (digits_lt t.1 small) (le_of_eq (sym (pow-add 2 (suc (top_of m)) (e + 2)) ∙ ap (λ (z : ℕ). 2 ^ z) (suc-add (top_of m) (e + 2)))) in
      top_unique (m * 2 ^ (e + 2) + (2 ^ (e + 1) - 1)) (top_of m + (e + 2)) (lo, hi) ∙ ap top_of (sym far_is)
    where
      grow : e + 1 ≤ e + 2
      grow = omega arith

  pub far_skipped : m ≡ 0 → e ≡ top_of (lost_of size m d)
  far_skipped z =
      let v : lost_of size m d ≡ 2 ^ (e + 1) - 1 = far_is ∙ ap (λ (y : ℕ). y * 2 ^ (e + 2) + (2 ^ (e + 1) - 1)) z ∙ ap (λ (y : ℕ). y + (2 ^ (e + 1) - 1)) (zero-mul (2 ^ (e + 2))) ∙ zero-add (2 ^ (e + 1) - 1) in
      let twice : 2 ^ (e + 1) ≡ 2 ^ e * 2 = pow-add 2 e 1 in
      let next : 2 ^ suc e ≡ 2 ^ e * 2 = pow-suc 2 e in
      let some : 0 < 2 ^ e = pow_pos e in
      top_unique (2 ^ (e + 1) - 1) e (omega arith, omega arith) ∙ ap top_of (sym v)

-- ---- what leaves, where no skipped number does: the missing positions from k on

pub record Near (size d old gone : ℕ) : Type 0 where
  pub none : old ≡ 0 → gone ≡ 0
  pub some : 0 < old → 0 < gone
  pub oldest : 0 < old → size + top_of gone ≡ top_of old + d
  pub newest : 0 < old → size + bottom_of gone ≡ bottom_of old + d

-- old is what leaves, times 2 ^ k
near_up : (size d k gone : ℕ) → k + d ≡ size → Near size d (gone * 2 ^ k) gone
near_up size d k gone e = record {
  none = λ z. le-zero (not_pos gone (λ p. lt_irrefl 0 (subst (λ (y : ℕ). 0 < y) z (pos_times gone k p))));
  some = pos;
  oldest = λ p. let s = top_shift gone k (pos p) in omega arith;
  newest = λ p. let s = bottom_shift gone k (pos p) in omega arith;
}
  where
    not_pos : (n : ℕ) → (0 < n → ⊥) → n ≤ 0
    not_pos zero f = le_refl 0
    not_pos (suc n) f = absurd (f (zero-lt-suc n))

    pos : 0 < gone * 2 ^ k → 0 < gone
    pos p = pos_left gone (2 ^ k) p

-- what leaves is twice old
near_down : (size d old : ℕ) → size + 1 ≡ d → Near size d old (old * 2)
near_down size d old e = record {
  none = λ z. ap (λ (y : ℕ). y * 2) z;
  some = λ p. pos_times old 1 p;
  oldest = λ p. let s : top_of old + 1 ≡ top_of (old * 2) = top_shift old 1 p in omega arith;
  newest = λ p. let s : bottom_of old + 1 ≡ bottom_of (old * 2) = bottom_shift old 1 p in omega arith;
}

pub near : (size m d k : ℕ) → 1 ≤ d → d ≤ size + 1 → k ≡ size - d → Near size d (m / 2 ^ k * 2 ^ k) (lost_of size m d)
unfolding lost_of
near size m d k p q ek = go (eq-or-lt_of_le q)
  where
    go : (d ≡ size + 1) ⊎ (d < size + 1) → Near size d (m / 2 ^ k * 2 ^ k) (lost_of size m d)
    go (inl e) =
        let k0 : 0 ≡ k = omega arith in
        let old : m ≡ m / 2 ^ k * 2 ^ k = subst (λ (z : ℕ). m ≡ m / 2 ^ z * 2 ^ z) k0 (sym (mul-one (m / 1) ∙ div-one m)) in
        let d1 : d - 1 ≡ size = omega arith in
        let gone : lost_of size m d ≡ m * 2 =
        ap₂ (λ (y z : ℕ). (m * 2 ^ y + (2 ^ z - 1)) / 2 ^ size) e d1
        ∙ ap (λ (z : ℕ). (m * z + (2 ^ size - 1)) / 2 ^ size) (pow-add 2 size 1 ∙ mul_comm (2 ^ size) 2)
        ∙ ap (λ (z : ℕ). (z + (2 ^ size - 1)) / 2 ^ size) (sym (mul_assoc m 2 (2 ^ size)))
        ∙ high (m * 2) size (ones_lt size) in
        subst₂ (λ (y z : ℕ). Near size d y z) old (sym gone) (near_down size d m (sym e))
    go (inr h) =
        let kd : k + d ≡ size = omega arith in
        let small : 2 ^ (d - 1) - 1 < 2 ^ d = lt_of_lt_of_le (ones_lt (d - 1)) (pow_mono (sub-le d 1)) in
        let gone : lost_of size m d ≡ m / 2 ^ k =
        ap (λ (z : ℕ). (m * 2 ^ d + (2 ^ (d - 1) - 1)) / 2 ^ z) (sym (add_comm d k ∙ kd)) ∙ sym (shr-shr (m * 2 ^ d + (2 ^ (d - 1) - 1)) d k) ∙ ap (λ (z : ℕ). z / 2 ^ k) (high m d small) in
        subst (λ (z : ℕ). Near size d (m / 2 ^ k * 2 ^ k) z) (sym gone) (near_up size d k (m / 2 ^ k) kd)

-- ---- the loss, by the tests that lead to it

module _ (h size m d : ℕ) where
  module _ (p : size + 2 ≤ d) where
    rest : d - 2 - size + 2 + size ≡ d
    rest = omega arith

    pub loss_skipped : {r : SeqRange} → m ≡ 0 → RangeTo h (d - 2) size r → Some r ≡ span_of h size (lost_of size m d)
    loss_skipped {r} z e =
        let top = far_skipped size m d (d - 2 - size) rest z in
        let bottom = far_bottom size m d (d - 2 - size) rest in
        span_some h size (lost_of size m d) (d - 2) size r (far_pos size m d (d - 2 - size) rest) (omega arith) (omega arith) e

    pub loss_both : {r : SeqRange} {t : ℕ} → 0 < m → t ≡ top_of m → RangeTo h (t + d) size r → Some r ≡ span_of h size (lost_of size m d)
    loss_both {r} {t} q et e =
        let top = far_top size m d (d - 2 - size) rest q in
        let bottom = far_bottom size m d (d - 2 - size) rest in
        span_some h size (lost_of size m d) (t + d) size r (far_pos size m d (d - 2 - size) rest) (omega arith) (omega arith) e

  -- nothing was missing at size - d or above
  loss_stays : 1 ≤ d → d ≤ size + 1 → m < 2 ^ (size - d) → None ≡ span_of h size (lost_of size m d)
  loss_stays p q b =
      span_none h size (lost_of size m d) ((near size m d (size - d) p q refl).none (ap (λ (z : ℕ). z * 2 ^ (size - d)) (div-eq_of_lt b) ∙ zero-mul (2 ^ (size - d))))

  pub loss_empty : 1 ≤ d → d ≤ size + 1 → m ≡ 0 → None ≡ span_of h size (lost_of size m d)
  loss_empty p q z = loss_stays p q (subst (λ (y : ℕ). y < 2 ^ (size - d)) (sym z) (pow_pos (size - d)))

  pub loss_young : {t : ℕ} → 1 ≤ d → 0 < m → t ≡ top_of m → t + d < size → None ≡ span_of h size (lost_of size m d)
  loss_young {t} p q et b =
      let up : suc (top_of m) ≤ size - d = omega arith in
      loss_stays p (omega arith) (lt_of_lt_of_le (top_is m q).1 (pow_mono up))

  -- `old` is what leaves of the positions that were missing
  module _ (p : 1 ≤ d) (q : d ≤ size + 1) {k : ℕ} (ek : k ≡ size - d) {old : ℕ} (is : old ≡ m / 2 ^ k * 2 ^ k) where
    leaves : Near size d old (lost_of size m d)
    leaves = subst (λ (x : ℕ). Near size d x (lost_of size m d)) (sym is) (near size m d k p q ek)

    pub loss_old : {r : SeqRange} {t b : ℕ} → 0 < old → t ≡ top_of old → b ≡ bottom_of old → RangeTo h (t + d) (b + d) r → Some r ≡ span_of h size (lost_of size m d)
    loss_old {r} {t} {b} o et eb e =
        let top = leaves.oldest o in
        let bottom = leaves.newest o in
        span_some h size (lost_of size m d) (t + d) (b + d) r (leaves.some o) (omega arith) (omega arith) e
