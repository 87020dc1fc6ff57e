-- The positions that a range hits.
use mathlib.Core.Path.{◌≡◌, sym, ap, ap₂, ◌∙◌}
use Rattle.std.proofs.Common.{Option}
use mathlib.Core.Bool.{Bool, true, false, ◌&&◌, cond}
use Prim.Native.Nat.{ℕ, zero, suc, ◌+◌, ◌*◌, ◌^◌, ◌≤◌, ◌<◌, zero-le}
use native.Mathlib.Nat.{le_refl, pow-suc}
use native.Mathlib.Omega.{arith}
use native.Mathlib.Numerals.{add-one}
use lib.Pow.{pow_pos}
use lib.Bits.{bit_or}
use Rattle.window.specs.Set.{val, set_of, has}
use Rattle.window.specs.Window.{behind, missing_of, span_of}
use Rattle.window.specs.Marking.{in_range, hit_at, hits_of, mark_of}
use Rattle.window.specs.declared.set.Bits.{Bits}
use Rattle.window.specs.declared.window.Marked.{Marked}
use Rattle.window.specs.declared.window.ReceiveWindow.{ReceiveWindow}
use Rattle.window.specs.declared.window.SeqRange.{SeqRange}
use Rattle.window.proofs.Digits.{has_above}
use Rattle.window.proofs.Words.{val_is, set_same, or_bit, lacks}

cond_le : (b : Bool) (x : ℕ) → cond b x 0 ≤ x
cond_le true x = le_refl x
cond_le false x = zero-le

pub hits_lt : (r : SeqRange) (h m k : ℕ) → hits_of r h m k < 2 ^ k
unfolding hits_of hit_at
hits_lt r h m zero = pow_pos 0
hits_lt r h m (suc k) =
    let a = hits_lt r h m k in
    let b : hit_at r h m k ≤ 2 ^ k = cond_le (has m k && in_range r (behind h (k + 1))) (2 ^ k) in
    let e : 2 ^ suc k ≡ 2 ^ k * 2 = pow-suc 2 k in
    omega arith

pub hits_more : (r : SeqRange) (h m k : ℕ) → hits_of r h m k + hit_at r h m k ≡ hits_of r h m (k + 1)
unfolding hits_of
hits_more r h m k = ap (hits_of r h m) (sym (add-one k))

-- ---- one more position, by the tests that lead there

module _ (r : SeqRange) (h : ℕ) (m found : Bits) (k : ℕ) where
  same : {x : ℕ} → found.low < 2 ^ 64 → 0 ≡ x → found ≡ set_of (val found + x)
  same b e = set_same found b ∙ ap (λ (x : ℕ). set_of (val found + x)) e

  pub hit_no : found.low < 2 ^ 64 → has (val m) k ≡ false → found ≡ set_of (val found + hit_at r h (val m) k)
  unfolding hit_at
  hit_no b p = same b (simp p)

  module _ {seq : ℕ} (is : seq ≡ behind h (k + 1)) (p : has (val m) k ≡ true) where
    tested : {t : Bool} → in_range r seq ≡ t → in_range r (behind h (k + 1)) ≡ t
    tested e = ap (in_range r) (sym is) ∙ e

    pub hit_out : found.low < 2 ^ 64 → in_range r seq ≡ false → found ≡ set_of (val found + hit_at r h (val m) k)
    unfolding hit_at
    hit_out b q = same b (simp (p, tested q))

    pub hit_yes : val found < 2 ^ k → in_range r seq ≡ true → set_of (bit_or (val found) (2 ^ k)) ≡ set_of (val found + hit_at r h (val m) k)
    unfolding hit_at
    hit_yes b q = ap set_of (or_bit (val found) k (lacks _ _ (has_above (val found) k b)) ∙ simp (p, tested q))

-- ---- the window with its hits

abbrev marked : ReceiveWindow → Bits → Option SeqRange → Marked
marked w s l = record { window = record { size = w.size; highest = w.highest; bits = s }; span = l }

pub mark_is : (w : ReceiveWindow) (r : SeqRange) {m found s : Bits} {l : Option SeqRange} → m ≡ set_of (missing_of w) → found ≡ set_of (hits_of r w.highest (val m) w.size)
    → s ≡ set_of (bit_or (val w.bits) (val found)) → l ≡ span_of w.highest 0 (val found) → marked w s l ≡ mark_of w r
unfolding mark_of
mark_is w r {m} {found} em ef es el =
    let is : val found ≡ hits_of r w.highest (missing_of w) w.size = val_is found _ ef ∙ ap (λ (x : ℕ). hits_of r w.highest x w.size) (val_is m _ em) in
    ap₂ (marked w) (es ∙ ap (λ (x : ℕ). set_of (bit_or (val w.bits) x)) is) (el ∙ ap (span_of w.highest 0) is)
