-- What ties a window to the log: its positions are processed exactly where the log settles them.
use Prim.Native.Nat.{ℕ, ◌-◌, ◌%◌, ◌≤◌, ◌<◌}
use Rattle.std.proofs.Common.{None}
use mathlib.Core.Path.{◌≡◌, refl, ap, sym, ◌∙◌}
use mathlib.Core.Logic.{inl, inr}
use mathlib.Core.Bool.{true, false, not}
use mathlib.Core.List.{List, [], ◌∷◌}
use native.Mathlib.Omega.{arith}
use lib.Dec.{ltb}
use borrow.Author.Tests.{lt-ltb}
use Rattle.config.specs.Sequence.{turn}
use Rattle.config.specs.inner.Tests.{split, tests, lifts}
use Rattle.window.specs.Set.{max_window}
use Rattle.window.specs.Window.{Valid, fresh, processed}
use Rattle.window.specs.declared.window.ReceiveWindow.{ReceiveWindow}
use Rattle.window.proofs.Positions.{processed_fresh, unprocessed_in}
use Rattle.window.proofs.Preserved.{valid_fresh}
use Rattle.receiver_log.specs.Log.{Report, told, origin, high, times, unprocessed}
use Rattle.config.specs.inner.Choices.{never, not_true}
use Rattle.receiver_log.proofs.Settled.{settled, unprocessed_is, before_0}

pub record Held (w : ReceiveWindow) (t : List Report) : Type 0 where
  pub valid : Valid w
  pub highest : w.highest ≡ high t % turn
  pub low : origin - 1 ≤ high t
  pub same : (b : ℕ) → b ≤ high t → processed w b ≡ settled t (high t - b)
  pub clear : (x : ℕ) → high t < x → settled t x ≡ false
  pub once : (x : ℕ) → times t x ≤ 1
  pub before : (x : ℕ) → x < origin → times t x ≡ 0

pub held_fresh : (W : ℕ) → 1 ≤ W → W ≤ max_window → Held (fresh W) []
held_fresh W p q = record {
  valid = valid_fresh W (turn - 1) p q;
  highest = refl;
  low = omega arith;
  same = λ b l. processed_fresh W (turn - 1) b ∙ sym (lt-ltb (65535 - b) 65536 (omega arith));
  clear = λ x l. omega (arith, lifts);
  once = λ x. omega arith;
  before = λ x l. refl;
}

-- a call that reports nothing
pub held_quiet : {w : ReceiveWindow} {t : List Report} → Held w t → Held w (told None ∷ t)
held_quiet i =
    record { valid = i.valid; highest = i.highest; low = i.low; same = i.same; clear = i.clear; once = i.once; before = i.before }

-- ---- unprocessed by the log, and in the window

module _ {w : ReceiveWindow} {t : List Report} (i : Held w t) where
  pub open_at : (b : ℕ) → b ≤ high t → unprocessed t (high t - b) ≡ not (processed w b)
  open_at b l = unprocessed_is t (high t - b) ∙ ap not (sym (i.same b l))

  pub open_in : (b : ℕ) → unprocessed t (high t - b) ≡ true → (1 ≤ b) × (b ≤ w.size) × (b ≤ high t) × (processed w b ≡ false)
  open_in b e = elim (split (ltb (high t) b)) [
    | inl k ↦ let z : high t - b < origin = omega (arith, tests) in absurd (never e (before_0 t (high t - b) z))
    | inr k ↦
        let l : b ≤ high t = omega (arith, tests) in
        let f : processed w b ≡ false = not_true (processed w b) (sym (open_at b l) ∙ e) in
        let j = unprocessed_in w b f in
        (j.0, j.1, l, f)
  ]

  -- the window is short, and the highest far from place 0
  pub near : (w.size ≤ max_window) × (max_window < high t)
  near = (i.valid.most, omega (arith, i.low))
