-- The answers of `check_of`, each from the tests that lead to it.
use Rattle.std.proofs.Common.{◌≡◌, true, false, eq-eqb, ne_eqb, Ok, Err}
use Rattle.config.specs.Range.{outside}
use Rattle.config.specs.Settings.{check_of}
use Rattle.config.specs.declared.refusal.Refusal.TheVariants.{IdleInterval, IdleGrowth, CommandWords}
use Rattle.config.specs.declared.settings.StreamConfig.{StreamConfig}

module _ (s : StreamConfig) where
  pub refused_words : outside 1 64 s.max_command_words ≡ true → Err CommandWords ≡ check_of s
  unfolding check_of
  refused_words w = rw w

  module _ (w : outside 1 64 s.max_command_words ≡ false) where
    pub refused_interval : outside 1 300 s.idle_interval_ms ≡ true → Err IdleInterval ≡ check_of s
    unfolding check_of
    refused_interval i = rw (w, i)

    module _ (i : outside 1 300 s.idle_interval_ms ≡ false) where
      pub refused_growth : s.idle_growth ≡ 0 → Err IdleGrowth ≡ check_of s
      unfolding check_of
      refused_growth g = rw (w, i, eq-eqb _ _ g)

      pub passed : (s.idle_growth ≡ 0 → ⊥) → Ok tt ≡ check_of s
      unfolding check_of
      passed g = rw (w, i, ne_eqb _ _ g)
