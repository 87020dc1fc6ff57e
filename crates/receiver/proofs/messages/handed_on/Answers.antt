-- The whole messages lie in the body, and nothing of a Duplicate is taken.
use mathlib.Core.Path.{sym, ◌∙◌}
use Prim.Native.Nat.{◌≤◌}
use native.Mathlib.Omega.{arith}
use lib.ListN.{length}
use lib.Seq.{length-take-le}
use Rattle.receiver.proofs.Handed.{whole_bytes, handed_part, handed_none}
use Rattle.receiver.proofs.messages.handed_on.Goals as goal
use Rattle.receiver.proofs.messages.handed_on.Goals.{then-delivers, else-delivers}

pub overflow_mul-end : goal.overflow_mul-end
overflow_mul-end c = omega (arith, whole_bytes c.args.body.now)

pub slice_bounds-result-end : goal.slice_bounds-result-end
slice_bounds-result-end c =
    let fits : c.if-delivers.end ≤ length c.args.body.now = elim c.if-delivers.branch [
      | then-delivers w ↦ omega (arith, w.end-is, w.whole_words_in.ensures, whole_bytes c.args.body.now)
      | else-delivers w ↦ omega (arith, w.end-is)
    ] in
    sym (length-take-le _ _ fits)

pub returns : goal.returns
returns c = elim c.if-delivers.branch [
  | then-delivers w ↦ rw w.end-is (handed_part _ _ (sym c.delivers.ensures ∙ w.if-delivers.true) _ w.whole_words_in.ensures)
  | else-delivers w ↦ rw w.end-is (handed_none _ _ (sym c.delivers.ensures ∙ w.if-delivers.false))
]
