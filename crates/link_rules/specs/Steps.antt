-- 02, 7/14: a run takes a step budget up to 65,536 and reports how many steps were done, commands handed on and losses reported.
use Rattle.std.specs.Prelude.{ℕ, ◌≤◌, ◌<◌, ◌≡◌, false, List, Ok, Err}
use Rattle.config.specs.Settings.{check_of}
use Rattle.config.specs.declared.refusal.Refusal.TheVariants.{SizeNotAllowed}
use Rattle.config.specs.declared.settings.StreamConfig.{StreamConfig}
use Rattle.stream.specs.Answers.{sizes_out}
use Rattle.link_rules.specs.Link.{start_of, run_of, run_answer}

-- With settings and sizes that a start takes, every budget up to 65,536 is taken and all its steps are done; 12 above that.
pub record Steps (cfg : StreamConfig) (window words places seed drop figure budget : ℕ) (ring other : List ℕ) : Type 0 where
  pub done : budget ≤ 65536
      → (let e = run_of cfg figure (start_of window words places seed drop) budget in
      run_answer cfg window words places seed drop figure budget ring other
      ≡ (Ok record { steps = budget; handed = e.handed; losses = e.losses }, e.console_ring, e.chamber_ring))
  pub over : 65536 < budget → run_answer cfg window words places seed drop figure budget ring other ≡ (Err SizeNotAllowed, ring, other)

abbrev pub StepsDone : Type 0
StepsDone =
    (cfg : StreamConfig) (window words places seed drop figure budget : ℕ) (ring other : List ℕ)
    → check_of cfg ≡ Ok tt
    → sizes_out window words places ring ≡ false
    → sizes_out window words places other ≡ false
    → Steps cfg window words places seed drop figure budget ring other
