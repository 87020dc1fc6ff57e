-- The state test and the answers, each from the tests that lead to it.
use mathlib.Core.Path.{◌≡◌, refl, sym, ◌∙◌}
use mathlib.Core.Bool.{Bool, true, false, cond, ◌||◌}
use mathlib.Core.List.{List}
use Prim.Native.Nat.{ℕ, ◌-◌, ◌≤◌, ◌<◌}
use native.Mathlib.Omega.{arith}
use borrow.Author.Tests.{eq-eqb, ne_eqb, lt-ltb, le-leb, eqb-true, ltb-true, leb-true}
use lib.ListN.{length, take, drop, length-drop}
use lib.Seq.{take_all}
use lib.Dec.{ltb, leb, eqb}
use Rattle.config.specs.Range.{outside}
use mathlib.Core.Logic.{◌⊎◌, inl, inr}
use Rattle.config.specs.inner.Ranges.{not_outside}
use Rattle.config.specs.inner.Tests.{split, and_left, and_right}
use Rattle.sheet_blocks.specs.Bytes.{spliced}
use Rattle.sheet_blocks.specs.Records.{all_records, is_block, rows}
use Rattle.loss_sheet.specs.Sheet.{all_below, state_ok, taken_of, answer_of, arrivals, block_of, pushed_all, sheet_bytes, held}
use Rattle.loss_sheet.specs.inner.Fits.{Good}
use Rattle.loss_sheet.specs.declared.sheet.Sheet.{Sheet}

-- ---- the state test

module _ (s : Sheet) (b : List ℕ) (r : length b ≡ s.n) (i : s.head < s.n) (l : s.len ≤ s.n) (f : (eqb s.head 0 || eqb s.len s.n) ≡ true) where
  pub state_rest : (t : Bool) → all_below 196608 (take s.len b) ≡ true → t ≡ all_below 1 (drop s.len b) → t ≡ state_ok s b
  unfolding state_ok
  state_rest t h e = rw (eq-eqb (length b) s.n r, lt-ltb s.head s.n i, le-leb s.len s.n l, f, h) e

-- what a part up to the end is
pub rest_is : (b : List ℕ) (l : ℕ) → take (length b - l) (drop l b) ≡ drop l b
rest_is b l = take_all _ _ (simp length-drop (omega arith))

-- ---- the answers

none_of : (o t : Bool) (k : ℕ) → cond o 12 (cond t k 13) ≡ 0 → (o ≡ false) × (t ≡ true) × (k ≡ 0)
none_of true t k e = absurd (let z : ⊥ = omega arith in z)
none_of false true k e = (refl, refl, e)
none_of false false k e = absurd (let z : ⊥ = omega arith in z)

neither_of : (i r : Bool) → ◌≡◌ {A = ℕ} (cond i (cond r 0 17) 16) 0 → (i ≡ true) × (r ≡ true)
neither_of true true e = (refl, refl)
neither_of true false e = absurd (let z : ⊥ = omega arith in z)
neither_of false r e = absurd (let z : ⊥ = omega arith in z)

pub taken_both : (bs : List ℕ) (room : ℕ) → taken_of bs room ≡ 0 → (is_block (length bs) room ≡ true) × (all_records bs (rows bs) 0 ≡ true)
unfolding taken_of
taken_both bs room e = neither_of (is_block (length bs) room) (all_records bs (rows bs) 0) e

pub answered_none : (s : Sheet) (b bs : List ℕ) (room : ℕ) → answer_of s b bs room ≡ 0
    → (outside 1 4096 s.n ≡ false) × (state_ok s b ≡ true) × (taken_of bs room ≡ 0)
unfolding answer_of
answered_none s b bs room e = none_of (outside 1 4096 s.n) (state_ok s b) (taken_of bs room) e

either : (h l n : ℕ) → (eqb h 0 || eqb l n) ≡ true → l < n → h ≡ 0
either h l n e k = by (split (eqb h 0))
  where
    by : (eqb h 0 ≡ true) ⊎ (eqb h 0 ≡ false) → h ≡ 0
    by (inl p) = eqb-true h 0 p
    by (inr p) = absurd (let q : l ≡ n = eqb-true l n (rw p at e) in let z : ⊥ = omega arith in z)

-- a state that passes the tests
pub good : (s : Sheet) (b : List ℕ) → outside 1 4096 s.n ≡ false → state_ok s b ≡ true → Good s b
unfolding state_ok
good s b o t =
    let t₁ = and_right (eqb (length b) s.n) _ t in
    let t₂ = and_right (ltb s.head s.n) _ t₁ in
    let t₃ = and_right (leb s.len s.n) _ t₂ in
    record {
      ring = eqb-true (length b) s.n (and_left (eqb (length b) s.n) _ t);
      most = (not_outside 1 4096 s.n o).1;
      inside = ltb-true s.head s.n (and_left (ltb s.head s.n) _ t₁);
      room = leb-true s.len s.n (and_left (leb s.len s.n) _ t₂);
      first = either s.head s.len s.n (and_left (eqb s.head 0 || eqb s.len s.n) _ t₃);
    }

-- ---- the block

module _ (s : Sheet) (b bs o : List ℕ) (a : ℕ) (e : a ≡ answer_of s b bs (length o)) where
  pub block_refused : (a ≡ 0 → ⊥) → (record { sheet = s; refusal = a }, b, o) ≡ block_of s b bs o
  unfolding block_of
  block_refused h = rw (← e, ne_eqb a 0 h)

  pub block_done : (s' : Sheet) (b' o' : List ℕ) → a ≡ 0 → (s', b') ≡ pushed_all s b (arrivals bs)
      → o' ≡ spliced o 0 (sheet_bytes s.n (held s b) (arrivals bs))
      → (record { sheet = s'; refusal = 0 }, b', o') ≡ block_of s b bs o
  unfolding block_of
  block_done s' b' o' h p q = rw (← e, eq-eqb a 0 h, ← p, ← q)

  pub done_good : a ≡ 0 → Good s b
  done_good h =
      let k = answered_none s b bs (length o) (sym e ∙ h) in
      good s b k.0 k.1

  pub done_block : a ≡ 0 → is_block (length bs) (length o) ≡ true
  done_block h = (taken_both bs (length o) (answered_none s b bs (length o) (sym e ∙ h)).2).0
