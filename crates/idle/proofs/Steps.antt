-- The steps of the schedule: an interval that grows, the ways out of `next`, and the state test that each passes.
use mathlib.Core.Path.{◌≡◌, refl}
use Rattle.std.specs.Bool.{⊤}
use Rattle.std.proofs.Common.{Option, Some, None, Result, Ok, Err}
use Rattle.config.specs.declared.refusal.Refusal.{Refusal}
use mathlib.Core.Bool.{Bool, true, false, cond}
use mathlib.Core.Logic.{inl, inr}
use Prim.Native.Nat.{ℕ, ◌+◌, ◌*◌, ◌/◌, ◌≤◌, ◌<◌}
use native.Mathlib.Nat.{le-div_iff_mul-le, div-lt_iff_lt-mul}
use native.Mathlib.Omega.{arith}
use lib.Dec.{leb, ltb, eqb}
use borrow.Author.Tests.{lt-ltb, le-ltb, le-leb, lt-leb, leb-true}
use Rattle.config.specs.inner.Tests.{split, tests, lifts}
use Rattle.config.specs.Range.{outside}
use Rattle.config.specs.Settings.{check_of}
use Rattle.config.specs.Time.{last_time, later}
use Rattle.config.specs.declared.refusal.Refusal.TheVariants.{IdleInterval, IdleGrowth, CommandWords}
use Rattle.config.specs.declared.settings.StreamConfig.{StreamConfig}
use Rattle.idle.specs.Schedule.{idle_ok, idle_start, grown_by, idle_next}
use Rattle.idle.specs.declared.idle.Idle.{Idle}

-- ---- an interval that grows
module _ (i g : ℕ) (some : 0 < g) where
  pub grown_last : last_time / g < i → last_time ≡ grown_by g i
  grown_last h = let l : last_time < i * g = (div-lt_iff_lt-mul {k = g} {x = last_time} {y = i} some).0 h in omega arith

  pub grown_fits : i ≤ last_time / g → i * g ≤ last_time
  grown_fits h = (le-div_iff_mul-le {k = g} {x = i} {y = last_time} some).0 h

  pub grown_product : i ≤ last_time / g → i * g ≡ grown_by g i
  grown_product h = let l = grown_fits h in omega arith

pub settings_growth : (cfg : StreamConfig) → check_of cfg ≡ Ok tt → 0 < cfg.idle_growth
unfolding check_of
settings_growth cfg e = by (outside 1 64 cfg.max_command_words) (outside 1 300 cfg.idle_interval_ms) (eqb cfg.idle_growth 0) refl e
  where
    by : (a b t : Bool) → eqb cfg.idle_growth 0 ≡ t → cond {A = Result ⊤ Refusal} a (Err CommandWords) (cond b (Err IdleInterval) (cond t (Err IdleGrowth) (Ok tt))) ≡ Ok tt → 0 < cfg.idle_growth
    by true b t f h = absurd (let z : ◌≡◌ {A = ℕ} 0 1 = cc in omega arith)
    by false true t f h = absurd (let z : ◌≡◌ {A = ℕ} 0 1 = cc in omega arith)
    by false false true f h = absurd (let z : ◌≡◌ {A = ℕ} 0 1 = cc in omega arith)
    by false false false f h = omega (arith, tests)

-- ---- the start
pub started : (cfg : StreamConfig) (time due : ℕ) → due ≡ later time cfg.idle_interval_ms → Some record { due = due; step = 0; interval = cfg.idle_interval_ms } ≡ idle_start cfg time
started cfg time due e = rw e

-- ---- the next step
module _ (cfg : StreamConfig) (time : ℕ) (i : Idle) where
  pub next_repeat : (due : ℕ) → i.step + 1 ≤ cfg.fec_repeats → due ≡ later time i.interval → Some record { due = due; step = i.step + 1; interval = i.interval } ≡ idle_next cfg time i
  unfolding idle_next
  next_repeat due h e = rw (le-leb _ _ h, e)

  module _ (h : cfg.fec_repeats < i.step + 1) where
    pub next_further : (due interval : ℕ) → i.step + 1 < 1 + cfg.fec_repeats + cfg.idle_further → interval ≡ grown_by cfg.idle_growth i.interval → due ≡ later time interval
        → Some record { due = due; step = i.step + 1; interval = interval } ≡ idle_next cfg time i
    unfolding idle_next
    next_further due interval l e f = rw (lt-leb _ _ h, lt-ltb _ _ l, f, e)

    pub next_off : 1 + cfg.fec_repeats + cfg.idle_further ≤ i.step + 1 → None ≡ idle_next cfg time i
    unfolding idle_next
    next_off l = rw (lt-leb _ _ h, le-ltb _ _ l)

-- ---- the state test
pub idle_step : (t : Option Idle) (i : Idle) → idle_ok t ≡ true → t ≡ Some i → i.step ≤ 510
idle_step t i ok e = leb-true _ _ (rw e at ok)

pub next_ok : (cfg : StreamConfig) (time : ℕ) (i : Idle) → cfg.fec_repeats ≤ 255 → cfg.idle_further ≤ 255 → idle_ok (idle_next cfg time i) ≡ true
unfolding idle_next
next_ok cfg time i r k = elim (split (leb (i.step + 1) cfg.fec_repeats)) [
  | inl a ↦ rw a (omega (arith, tests, lifts))
  | inr a ↦ elim (split (ltb (i.step + 1) (1 + cfg.fec_repeats + cfg.idle_further))) [
    | inl b ↦ rw (a, b) (omega (arith, tests, lifts))
    | inr b ↦ rw (a, b)
  ]
]
