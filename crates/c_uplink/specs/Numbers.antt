-- A step of the uplink as numbers: its answer is 0, or the refusal's number.
use Rattle.config.specs.Refusals.{outcome_number}
use Rattle.uplink.specs.declared.grants.Step.{Step}
use Rattle.c_uplink.specs.declared.CStep.{CStep}

abbrev pub numbers_of : Step → CStep
numbers_of s = record { grants = s.grants; turn = s.turn; refusal = outcome_number s.answer }
