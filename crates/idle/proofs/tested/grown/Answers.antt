-- The quotient is below the interval exactly when the product is past the last time.
use native.Mathlib.Omega.{arith}
use Rattle.idle.proofs.Steps.{grown_last, grown_fits, grown_product}
use Rattle.idle.proofs.tested.grown.Goals as goal

pub returns-then-times-interval : goal.returns-then-times-interval
returns-then-times-interval c = grown_last _ _ c.requires c.if-times-interval.true

pub overflow_mul-result : goal.overflow_mul-result
overflow_mul-result c = record { fits = let l = grown_fits _ _ c.requires c.if-times-interval.false in omega arith }

pub returns : goal.returns
returns c = grown_product _ _ c.requires c.if-times-interval.false
