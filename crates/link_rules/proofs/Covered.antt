-- 02's own form of the bound follows, and settings, sizes and steps that it speaks of are none too few.
use mathlib.Core.Path.{◌≡◌, refl}
use Rattle.std.proofs.Common.{Ok}
use mathlib.Core.Bool.{true, false}
use Prim.Native.Nat.{ℕ, ◌+◌, ◌-◌, ◌*◌, ◌^◌, ◌≤◌, ◌<◌}
use native.Mathlib.Omega.{arith}
use Rattle.config.specs.Range.{within}
use Rattle.config.specs.Settings.{check_of}
use Rattle.config.specs.declared.settings.StreamConfig.{StreamConfig}
use Rattle.window.specs.Set.{max_window}
use Rattle.link_rules.specs.Link.{Ends, start_of}
use Rattle.link_rules.specs.Cleared.{new_gap, none_missing}
use Rattle.link_rules.proofs.Bound.{cleared}

-- requests enabled, with this D and M
abbrev asking : ℕ → ℕ → StreamConfig
asking D M =
    record { idle_interval_ms = 100; idle_growth = 2; idle_further = 5; fec_repeats = 2; retransmit = true; request_delay_ms = D; max_requests = M; max_command_words = 64 }

every_delay : (D M : ℕ) → check_of (asking D M) ≡ Ok tt
unfolding check_of
every_delay D M = refl

-- Where requests are enabled, D is at least 1 and M at most 8: the last new gap up to a step is at g, that step is D × (2^(M+1) - 1) steps after it, and a budget of up to
-- 65,536 steps lasts so long.
module _
    (cfg : StreamConfig) (window words places seed drop figure budget g : ℕ)
    (allowed : check_of cfg ≡ Ok tt) (size : within 1 max_window window ≡ true) (taken : budget ≤ 65536)
    (enabled : cfg.retransmit ≡ true) (D-some : 1 ≤ cfg.request_delay_ms) (M-few : cfg.max_requests ≤ 8) where
  abbrev start : Ends
  start = start_of window words places seed drop

  abbrev then : ℕ
  then = g + cfg.request_delay_ms * (2 ^ (cfg.max_requests + 1) - 1)

  as_asked : new_gap cfg figure start g ≡ true → ((j : ℕ) → g < j → j ≤ then → new_gap cfg figure start j ≡ false) → then < budget → none_missing cfg figure start then ≡ true
  as_asked gap none lasts = cleared cfg window words places seed drop figure allowed size enabled D-some g then (omega arith) (omega arith) none

-- D 128 with M 8, and D 2 with M 13: the bound still lies in a run; with M 16 it does not
in_a_run : (128 * (2 ^ (8 + 1) - 1) < 65536) × (2 * (2 ^ (13 + 1) - 1) < 65536) × (65536 ≤ 1 * (2 ^ (16 + 1) - 1))
in_a_run = (omega arith, omega arith, omega arith)
