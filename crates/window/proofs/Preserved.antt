-- A window stays valid.
use mathlib.Core.Path.{◌≡◌, refl, sym, subst}
use mathlib.Core.Bool.{Bool, true, false, not, ◌&&◌, cond}
use Prim.Native.Nat.{ℕ, ◌+◌, ◌-◌, ◌*◌, ◌^◌, ◌≤◌, ◌<◌}
use native.Mathlib.Nat.{mod-lt}
use native.Mathlib.Omega.{arith}
use lib.Bits.{or_lt}
use lib.Dec.{leb}
use lib.Pow.{pow_pos, pow-lt, ones_lt}
use borrow.Author.Tests.{leb-true}
use Rattle.config.specs.Range.{within}
use Rattle.config.specs.Sequence.{turn, ahead}
use Rattle.window.specs.Set.{max_window, val, set_of}
use Rattle.window.specs.Window.{Valid, fresh_of, fresh, processed, missing_of}
use Rattle.window.specs.Arrival.{reach, class_of, moved_of, new_of, late_at, taken_of, accept_of}
use Rattle.window.specs.Marking.{hits_of, mark_of}
use Rattle.window.specs.declared.window.ReceiveWindow.{ReceiveWindow}
use Rattle.window.specs.declared.window.SeqRange.{SeqRange}
use Rattle.window.specs.declared.window.Class.{Class}
use Rattle.window.specs.declared.window.Class.TheVariants.{New, Late, Duplicate}
use Rattle.window.proofs.Words.{val_of}
use Rattle.window.proofs.Hits.{hits_lt}

module _ (size highest n : ℕ) (p : 1 ≤ size) (q : size ≤ max_window) (h : n < 2 ^ size) where
  valid_set : Valid (record { size = size; highest = highest; bits = set_of n })
  valid_set = record { some = p; most = q; inside = subst (λ (x : ℕ). x < 2 ^ size) (sym (val_of n)) h }

pub valid_fresh : (size highest : ℕ) → 1 ≤ size → size ≤ max_window → Valid (fresh_of size highest)
valid_fresh size highest p q = valid_set size highest (2 ^ size - 1) p q (ones_lt size)

-- a Late number is in the window
late_in : (b b' n h : Bool) (x : ℕ) → Late ≡ cond n (New x) (cond ((b && b') && h) Late Duplicate) → (b ≡ true) × (b' ≡ true)
late_in b b' true h x e = absurd (let z : ◌≡◌ {A = ℕ} 0 1 = cc in omega arith)
late_in true true false h x e = (refl, refl)
late_in true false false h x e = absurd (let z : ◌≡◌ {A = ℕ} 0 1 = cc in omega arith)
late_in false b' false h x e = absurd (let z : ◌≡◌ {A = ℕ} 0 1 = cc in omega arith)

module _ (w : ReceiveWindow) (v : Valid w) where
  pub valid_all : Valid (fresh_of w.size w.highest)
  valid_all = valid_fresh w.size w.highest v.some v.most

  pub valid_reset : Valid (fresh w.size)
  valid_reset = valid_fresh w.size (turn - 1) v.some v.most

  pub valid_new : (seq d : ℕ) → Valid (new_of w seq d).window
  unfolding new_of moved_of
  valid_new seq d = valid_set w.size seq _ v.some v.most (mod-lt ((val w.bits * 2 + 1) * 2 ^ (d - 1)) (pow_pos w.size))

  pub valid_late : (k : ℕ) → k < w.size → Valid (late_at w k).window
  valid_late k l = valid_set w.size w.highest _ v.some v.most (or_lt w.size (val w.bits) (2 ^ k) v.inside (pow-lt l))

  pub valid_mark : (r : SeqRange) → Valid (mark_of w r).window
  unfolding mark_of
  valid_mark r =
      valid_set w.size w.highest _ v.some v.most
      (or_lt w.size (val w.bits) (hits_of r w.highest (missing_of w) w.size) v.inside (hits_lt r w.highest (missing_of w) w.size))

  pub valid_accept : (seq : ℕ) → Valid (accept_of w seq).window
  unfolding accept_of class_of
  valid_accept seq = go (class_of w seq) refl
    where
      go : (c : Class) → c ≡ class_of w seq → Valid (taken_of w seq c).window
      go (New gap) e = valid_new seq (gap + 1)
      go Late e =
          let back : ℕ = ahead seq w.highest in
          let d : ℕ = ahead w.highest seq in
          let i = late_in (leb 1 back) (leb back w.size) (within 1 reach d) (not (processed w back)) (d - 1) e in
          let low : 1 ≤ back = leb-true _ _ i.0 in
          let top : back ≤ w.size = leb-true _ _ i.1 in
          valid_late (back - 1) (omega arith)
      go Duplicate e = v
