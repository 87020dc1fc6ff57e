-- All steps of a budget that is taken are done.
use mathlib.Core.Path.{◌≡◌}
use mathlib.Core.Bool.{true, false}
use Prim.Native.Nat.{ℕ, zero, suc, ◌+◌}
use native.Mathlib.Omega.{arith}
use lib.Dec.{ltb}
use borrow.Author.Tests.{lt-ltb, le-ltb}
use Rattle.config.specs.declared.settings.StreamConfig.{StreamConfig}
use Rattle.link_rules.specs.Link.{Ends, start_of, step_of, run_of, most_steps, run_answer}
use Rattle.link_rules.specs.Steps.{StepsDone}

module _ (cfg : StreamConfig) (figure : ℕ) (e : Ends) where
  steps_on : (n : ℕ) → (run_of cfg figure e n).steps ≡ e.steps + n
  unfolding run_of step_of
  steps_on zero = omega arith
  steps_on (suc n) = omega (arith, steps_on n)

pub steps_are : (cfg : StreamConfig) (figure : ℕ) (window words places seed drop n : ℕ) → (run_of cfg figure (start_of window words places seed drop) n).steps ≡ n
steps_are cfg figure window words places seed drop n = omega (arith, steps_on cfg figure (start_of window words places seed drop) n)

pub steps_done : StepsDone
unfolding run_answer
steps_done cfg window words places seed drop figure budget ring other ok sizes sizes' = record {
  done = λ l.
      let few : ltb most_steps budget ≡ false = le-ltb most_steps budget (omega arith) in
      rw (ok, sizes, sizes', few, steps_are cfg figure window words places seed drop budget);
  over = λ l.
      let many : ltb most_steps budget ≡ true = lt-ltb most_steps budget (omega arith) in
      rw (ok, sizes, sizes', many);
}
