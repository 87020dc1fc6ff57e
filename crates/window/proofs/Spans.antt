-- The span of a set of positions, by its ends.
use mathlib.Core.Path.{◌≡◌, sym, ap, ap₂, ◌∙◌, subst}
use Rattle.std.proofs.Common.{Some, None}
use mathlib.Core.Bool.{true, false}
use Prim.Native.Nat.{ℕ, ◌+◌, ◌-◌, ◌<◌}
use native.Mathlib.Nat.{lt_irrefl, pos_of_ne-zero}
use native.Mathlib.Omega.{arith}
use lib.Dec.{eqb}
use borrow.Author.Tests.{eq-eqb, ne_eqb, eqb-false}
use Rattle.window.specs.Set.{val, set_of, top_of, bottom_of}
use Rattle.window.specs.Window.{behind, missing_of, span_of, request_of}
use Rattle.window.specs.declared.set.Bits.{Bits}
use Rattle.window.specs.declared.window.ReceiveWindow.{ReceiveWindow}
use Rattle.window.specs.declared.window.SeqRange.{SeqRange}
use Rattle.window.proofs.Words.{val_is}

pub span_none : (h base m : ℕ) → m ≡ 0 → None ≡ span_of h base m
unfolding span_of
span_none h base m e = simp (eq-eqb m 0 e)

-- the numbers from position o to position n behind h
abbrev pub RangeTo : ℕ → ℕ → ℕ → SeqRange → Type 0
RangeTo h o n r = (r.first ≡ behind h (o + 1)) × (r.count ≡ o - n + 1)

pub span_some : (h base m o n : ℕ) (r : SeqRange) → 0 < m → base + top_of m ≡ o → base + bottom_of m ≡ n → RangeTo h o n r → Some r ≡ span_of h base m
unfolding span_of
span_some h base m o n r p et eb e =
    let no : eqb m 0 ≡ false = ne_eqb m 0 (λ z. lt_irrefl 0 (subst (λ (y : ℕ). 0 < y) z p)) in
    let first : r.first ≡ behind h (base + top_of m + 1) = e.0 ∙ ap (λ (x : ℕ). behind h (x + 1)) (sym et) in
    let count : r.count ≡ top_of m - bottom_of m + 1 = omega (arith, e.1) in
    ap₂ (λ (x y : ℕ). Some (record { first = x; count = y })) first count ∙ simp no

pub pos_of_not_empty : (n : ℕ) → eqb n 0 ≡ false → 0 < n
pos_of_not_empty n e = pos_of_ne-zero (eqb-false n 0 e)

-- ---- the request

pub request_none : (w : ReceiveWindow) {m : Bits} → m ≡ set_of (missing_of w) → eqb (val m) 0 ≡ true → None ≡ request_of w
unfolding request_of
request_none w {m} em e = let no : eqb (missing_of w) 0 ≡ true = ap (λ (x : ℕ). eqb x 0) (sym (val_is m (missing_of w) em)) ∙ e in simp no

pub request_some : (w : ReceiveWindow) {m : Bits} {t : ℕ} {r : SeqRange} → m ≡ set_of (missing_of w) → eqb (val m) 0 ≡ false → t ≡ top_of (val m) → RangeTo w.highest t 0 r → Some r ≡ request_of w
unfolding request_of
request_some w {m} {t} {r} em e et f =
    let is : val m ≡ missing_of w = val_is m (missing_of w) em in
    let some : eqb (missing_of w) 0 ≡ false = ap (λ (x : ℕ). eqb x 0) (sym is) ∙ e in
    let top : t ≡ top_of (missing_of w) = et ∙ ap top_of is in
    let count : r.count ≡ top_of (missing_of w) + 1 = omega (arith, f.1) in
    ap₂ (λ (x y : ℕ). Some (record { first = x; count = y })) (f.0 ∙ ap (λ (x : ℕ). behind w.highest (x + 1)) top) count ∙ simp some
