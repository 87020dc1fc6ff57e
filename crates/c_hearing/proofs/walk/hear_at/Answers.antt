-- By cases of what stands there.
use mathlib.Core.Path.{sym, ◌∙◌}
use native.Mathlib.Omega.{arith}
use Rattle.packet.proofs.Reading.{next_found}
use Rattle.c_hearing.proofs.Turns.{part_body, turn_end, turn_cut, turn_whole}
use Rattle.c_hearing.proofs.walk.hear_at.Goals as goal

pub overflow_add-from : goal.overflow_add-from
overflow_add-from c = omega (arith, next_found _ _ _ _ _ (sym c.next.ensures ∙ c.in-Command.is))

pub slice_bounds-whole-count : goal.slice_bounds-whole-count
slice_bounds-whole-count c = omega (arith, next_found _ _ _ _ _ (sym c.next.ensures ∙ c.in-Command.is))

pub slice_bounds-whole-start : goal.slice_bounds-whole-start
slice_bounds-whole-start c = omega (arith, next_found _ _ _ _ _ (sym c.next.ensures ∙ c.in-Command.is))

pub slice_bounds-whole-end : goal.slice_bounds-whole-end
slice_bounds-whole-end c = omega (arith, next_found _ _ _ _ _ (sym c.next.ensures ∙ c.in-Command.is))

pub whole-requires : goal.whole-requires
whole-requires c = c.requires

pub returns-in-End : goal.returns-in-End
returns-in-End c = (turn_end _ _ _ _ _ _ _ _ (sym c.next.ensures ∙ c.in-End.is), c.requires.0)

pub returns-in-Truncated : goal.returns-in-Truncated
returns-in-Truncated c = (turn_cut _ _ _ _ _ _ _ _ _ (sym c.next.ensures ∙ c.in-Truncated.is) _ _ c.cut.ensures, c.requires.0)

pub returns-in-Command : goal.returns-in-Command
returns-in-Command c = let e = sym c.next.ensures ∙ c.in-Command.is in (turn_whole _ _ _ _ _ _ _ _ _ _ _ e _ (part_body _ _ _ _ _ e) _ c.whole.ensures.0, c.whole.ensures.1)
