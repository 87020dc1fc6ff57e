-- Field by field.
use Prim.Native.Nat.{ℕ}
use mathlib.Core.Path.{◌≡◌}
use Rattle.config.specs.Refusals.{outcome_number}
use Rattle.uplink.specs.declared.grants.Step.{Step}
use Rattle.c_uplink.specs.Numbers.{numbers_of}
use Rattle.c_uplink.proofs.numbers.Goals as goal

told : (s : Step) (n : ℕ) → n ≡ outcome_number s.answer → record { grants = s.grants; turn = s.turn; refusal = n } ≡ numbers_of s
told s n e = rw e

pub returns : goal.returns
returns c = told c.args.step _ c.number.ensures
