-- The sum of four flags is below 16.
use mathlib.Core.Path.{refl}
use Rattle.c_state.specs.Pack.{flags_number}
use Rattle.c_state.proofs.Packed.{bit_small}
use native.Mathlib.Omega.{arith}
use Rattle.c_state.proofs.pack.number.Goals as goal

pub overflow_mul-result : goal.overflow_mul-result
overflow_mul-result c = omega (arith, bit_small c.args.f.request_due)

pub overflow_add-result : goal.overflow_add-result
overflow_add-result c = omega (arith, bit_small c.args.f.timer, bit_small c.args.f.request_due)

pub overflow_mul-result-2 : goal.overflow_mul-result-2
overflow_mul-result-2 c = omega (arith, bit_small c.args.f.refused)

pub overflow_add-result-2 : goal.overflow_add-result-2
overflow_add-result-2 c = omega (arith, bit_small c.args.f.timer, bit_small c.args.f.request_due, bit_small c.args.f.refused)

pub overflow_mul-result-3 : goal.overflow_mul-result-3
overflow_mul-result-3 c = omega (arith, bit_small c.args.f.asked)

pub overflow_add-result-3 : goal.overflow_add-result-3
overflow_add-result-3 c = omega (arith, bit_small c.args.f.timer, bit_small c.args.f.request_due, bit_small c.args.f.refused, bit_small c.args.f.asked)

pub returns : goal.returns
unfolding flags_number
returns c = refl
