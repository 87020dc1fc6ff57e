-- The test of eight words, by its tests.
use mathlib.Core.Path.{◌≡◌, refl, sym, ◌∙◌}
use Rattle.std.proofs.Common.{Result, Ok, Err}
use Rattle.std.specs.Bool.{⊤}
use mathlib.Core.Bool.{Bool, true, false, cond}
use mathlib.Core.List.{List}
use Prim.Native.Nat.{ℕ, ◌≤◌, ◌<◌}
use native.Mathlib.Omega.{arith}
use lib.ListN.{length, get_or}
use lib.Bits.{bit_or, or_lt}
use lib.Dec.{leb, eqb}
use borrow.Author.Tests.{eq-eqb, ne_eqb, le-leb, eqb-true}
use Rattle.config.specs.Entry.{on_state, entry}
use Rattle.config.specs.Range.{outside}
use Rattle.config.specs.Refusals.{number_of, outcome_number}
use Rattle.config.specs.Settings.{check_of}
use Rattle.config.specs.declared.refusal.Refusal.{Refusal}
use Rattle.config.specs.declared.refusal.Refusal.TheVariants.{IdleInterval, IdleGrowth, CommandWords}
use Rattle.config.specs.declared.settings.StreamConfig.{StreamConfig}
use Rattle.config.specs.inner.Entries.{state_any, entry_any}
use Rattle.c_words.specs.Limits.{within}
use Rattle.c_words.specs.Settings.{settings_of, settings_limits, settings_check, Small}
use Rattle.c_words.proofs.Within.{within_at, and_true, or_left, or_right}

-- the settings' own test looks at three of them
pub own_test : (s : StreamConfig) → check_of record {
  idle_interval_ms = s.idle_interval_ms;
  idle_growth = s.idle_growth;
  idle_further = 0;
  fec_repeats = 0;
  retransmit = false;
  request_delay_ms = 0;
  max_requests = 0;
  max_command_words = s.max_command_words;
} ≡ check_of s
unfolding check_of
own_test s = refl

-- none of its refusals has the number 0
none_refused : (eight size interval growth narrow : Bool)
    → let k = on_state eight Err (entry (cond size (Err CommandWords) (cond interval (Err IdleInterval) (cond growth (Err IdleGrowth) (Ok tt)))) narrow Err (Ok tt)) in
    outcome_number k ≡ 0 → k ≡ Ok tt
none_refused false size interval growth narrow e = absurd (let z : ⊥ = omega arith in z)
none_refused true true interval growth narrow e = absurd (let z : ⊥ = omega arith in z)
none_refused true false true growth narrow e = absurd (let z : ⊥ = omega arith in z)
none_refused true false false true narrow e = absurd (let z : ⊥ = omega arith in z)
none_refused true false false false false e = absurd (let z : ⊥ = omega arith in z)
none_refused true false false false true e = refl

-- the number n of settings that pass
pub passed : (ws : List ℕ) {n : ℕ} → n ≡ outcome_number (settings_check ws) → n ≡ 0 → settings_check ws ≡ Ok tt
unfolding settings_check check_of
passed ws s z =
    let c = settings_of ws in
    none_refused (eqb (length ws) 8) (outside 1 64 c.max_command_words) (outside 1 300 c.idle_interval_ms) (eqb c.idle_growth 0) (within settings_limits ws) (sym s ∙ z)

module _ (ws : List ℕ) where
  abbrev at : ℕ → ℕ
  at k = get_or ws k 0

  -- K, R and M together
  abbrev wide : ℕ
  wide = bit_or (bit_or (at 2) (at 3)) (at 6)

  each_narrow : wide ≤ 255 → (at 2 ≤ 255) × (at 3 ≤ 255) × (at 6 ≤ 255)
  each_narrow h =
      let kr : bit_or (at 2) (at 3) ≤ 255 = omega (arith, or_left (bit_or (at 2) (at 3)) (at 6)) in
      (omega (arith, or_left (at 2) (at 3)), omega (arith, or_right (at 2) (at 3)), omega (arith, or_right (bit_or (at 2) (at 3)) (at 6)))

  together_narrow : within settings_limits ws ≡ true → wide < 256
  together_narrow e =
      let s = within_at settings_limits ws e in
      let k = s 0 (omega arith) in
      let r = s 1 (omega arith) in
      let m = s 3 (omega arith) in
      or_lt 8 (bit_or (at 2) (at 3)) (at 6) (or_lt 8 (at 2) (at 3) (omega arith) (omega arith)) (omega arith)

  pub too_wide : 255 < wide → false ≡ within settings_limits ws
  too_wide h = by (within settings_limits ws) refl
    where
      by : (b : Bool) → within settings_limits ws ≡ b → false ≡ within settings_limits ws
      by true e = absurd (let z : ⊥ = omega (arith, together_narrow e) in z)
      by false e = sym e

  pub last_figure : wide ≤ 255 → leb (at 4) 1 ≡ within settings_limits ws
  unfolding within
  last_figure h =
      let n = each_narrow h in
      rw (le-leb (at 2) 255 n.0, le-leb (at 3) 255 n.1, le-leb (at 6) 255 n.2) (and_true (leb (at 4) 1))

  pub not_eight : (length ws ≡ 8 → ⊥) → 13 ≡ outcome_number (settings_check ws)
  unfolding settings_check
  not_eight h = rw (ne_eqb (length ws) 8 h)

  module _ (l : length ws ≡ 8) where
    pub own_refused : (why : Refusal) → Err why ≡ check_of (settings_of ws) → number_of why ≡ outcome_number (settings_check ws)
    unfolding settings_check
    own_refused why e = rw (eq-eqb (length ws) 8 l, ← e)

    pub own_passed : Ok tt ≡ check_of (settings_of ws) → outcome_number (on_state (within settings_limits ws) Err (Ok tt)) ≡ outcome_number (settings_check ws)
    unfolding settings_check
    own_passed e = rw (eq-eqb (length ws) 8 l, ← e)

  -- what settings that pass are
  are : settings_check ws ≡ Ok tt → (eqb (length ws) 8 ≡ true) × (check_of (settings_of ws) ≡ Ok tt) × (within settings_limits ws ≡ true)
  unfolding settings_check
  are = state_any P Err _ denied (eqb (length ws) 8) (λ l. entry_any P Err (Ok tt) denied (check_of (settings_of ws)) (within settings_limits ws) (λ c w _. (l, c, w)))
    where
      P : Result ⊤ Refusal → Type 0
      P k = k ≡ Ok tt → (eqb (length ws) 8 ≡ true) × (check_of (settings_of ws) ≡ Ok tt) × (within settings_limits ws ≡ true)

      denied : (why : Refusal) → P (Err why)
      denied why e = absurd (let z : ◌≡◌ {A = ℕ} 0 1 = cc in omega arith)

  pub figures_small : settings_check ws ≡ Ok tt → Small ws
  figures_small e =
      let s = within_at settings_limits ws (are e).2 in
      record { whole = eqb-true (length ws) 8 (are e).0; further = s 0 (omega arith); repeats = s 1 (omega arith); requests = s 3 (omega arith) }

  pub settings_passed : settings_check ws ≡ Ok tt → check_of (settings_of ws) ≡ Ok tt
  settings_passed e = (are e).1
