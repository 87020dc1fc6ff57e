-- The numbers of the library's step.
use mathlib.Core.Path.{ap, ◌∙◌}
use Rattle.c_uplink.specs.Numbers.{numbers_of}
use Rattle.c_uplink.proofs.sirmjold_uplink_grant.Goals as goal

pub returns : goal.returns
returns c = c.numbers.ensures ∙ ap numbers_of c.grant-step.ensures
