-- What `accept` leaves, position by position.
use mathlib.Core.Path.{◌≡◌, ap, sym, ◌∙◌}
use Rattle.std.proofs.Common.{Option, None}
use Rattle.window.specs.declared.window.SeqRange.{SeqRange}
use mathlib.Core.Bool.{true, false, ◌||◌, cond}
use Prim.Native.Nat.{ℕ, ◌+◌, ◌-◌, ◌^◌, ◌≤◌}
use native.Mathlib.Omega.{arith}
use lib.Bits.{bit_or}
use lib.Dec.{leb, eqb}
use Rattle.config.specs.Range.{within}
use Rattle.config.specs.Sequence.{ahead}
use Rattle.window.specs.Set.{val, set_of}
use Rattle.window.specs.Window.{processed}
use Rattle.window.specs.Arrival.{reach, new_of, late_at, unchanged, accept_of}
use Rattle.window.specs.declared.set.Bits.{Bits}
use Rattle.window.specs.declared.window.ReceiveWindow.{ReceiveWindow}
use Rattle.window.specs.declared.window.Arrival.{Arrival}
use Rattle.window.specs.declared.window.Class.{Class}
use Rattle.window.specs.declared.window.Class.TheVariants.{Late}
use Rattle.config.specs.inner.Ranges.{within_range}
use Rattle.window.proofs.Positions.{unprocessed_in}
use Rattle.window.proofs.AfterNew.{shifted, processed_new}
use Rattle.window.proofs.AfterMark.{processed_late}
use Rattle.window.proofs.Classes.{accept_class, class_new_at, class_late_at, class_duplicate_at}

module _ (w : ReceiveWindow) (seq : ℕ) where
  abbrev d : ℕ
  d = ahead w.highest seq

  abbrev back : ℕ
  back = ahead seq w.highest

  -- ---- New

  module _ (e : within 1 reach d ≡ true) where
    near : 1 ≤ d
    near = (within_range 1 reach d e).0

    pub accept_as_new : accept_of w seq ≡ new_of w seq d
    accept_as_new = accept_class w seq (class_new_at w seq e) ∙ ap (new_of w seq) more
      where
        more : d - 1 + 1 ≡ d
        more = omega (arith, near)

    pub processed_after_new : (b : ℕ) → processed (accept_of w seq).window b ≡ cond (leb b w.size) (shifted w d b) true
    processed_after_new b = ap (λ (t : Arrival). processed t.window b) accept_as_new ∙ processed_new w seq d b near

  module _ (e : within 1 reach d ≡ false) where
    -- ---- Late

    module _ (f : processed w back ≡ false) where
      pub accept_as_late : accept_of w seq ≡ late_at w (back - 1)
      accept_as_late = accept_class w seq (class_late_at w seq e f)

      pub processed_after_late : (b : ℕ) → processed (accept_of w seq).window b ≡ (processed w b || eqb b back)
      processed_after_late b =
          let i = unprocessed_in w back f in
          ap (λ (t : Arrival). processed t.window b) accept_as_late ∙ processed_late w back b i.0 i.1

    -- ---- Duplicate

    pub accept_as_duplicate : processed w back ≡ true → accept_of w seq ≡ unchanged w
    accept_as_duplicate f = accept_class w seq (class_duplicate_at w seq e f)

-- ---- by what the code has at hand

pub taken_is : (t : Arrival) {n : ReceiveWindow} {k : Class} {l : Option SeqRange} → n ≡ t.window → k ≡ t.class → l ≡ t.lost
    → ◌≡◌ {A = Arrival} (record { window = n; class = k; lost = l }) t
taken_is t en ek el = rw (en, ek, el)

module _ (w : ReceiveWindow) (seq : ℕ) {dist : ℕ} (ed : dist ≡ ahead w.highest seq) (e : within 1 reach (ahead w.highest seq) ≡ true) where
  pub new_distance : (1 ≤ dist) × (dist ≤ reach)
  new_distance = rw ed (within_range 1 reach (ahead w.highest seq) e)

  pub accept_new_is : new_of w seq dist ≡ accept_of w seq
  accept_new_is = ap (new_of w seq) ed ∙ sym (accept_as_new w seq e)

abbrev late : ReceiveWindow → Bits → Arrival
late w s = record { window = record { size = w.size; highest = w.highest; bits = s }; class = Late; lost = None }

module _ (w : ReceiveWindow) (seq : ℕ) {b : ℕ} (eb : b ≡ ahead seq w.highest) (e : within 1 reach (ahead w.highest seq) ≡ false) where
  pub behind_duplicate : processed w b ≡ true → unchanged w ≡ accept_of w seq
  behind_duplicate f = sym (accept_as_duplicate w seq e (ap (processed w) (sym eb) ∙ f))

  pub behind_late : {s : Bits} → processed w b ≡ false → s ≡ set_of (bit_or (val w.bits) (2 ^ (b - 1))) → late w s ≡ accept_of w seq
  behind_late f es =
      ap (late w) es ∙ ap (λ (x : ℕ). late_at w (x - 1)) eb ∙ sym (accept_as_late w seq e (ap (processed w) (sym eb) ∙ f))
