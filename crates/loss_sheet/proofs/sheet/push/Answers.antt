-- Behind the words held, or in the place of the oldest; the figures follow.
use Rattle.loss_sheet.proofs.Counts.{few_of, few_after, grow_figures, over_within, over_figures}
use Rattle.loss_sheet.proofs.Ring.{push_grow, push_over}
use lib.ListN.{length-take}
use native.Mathlib.Omega.{arith}
use Rattle.loss_sheet.proofs.sheet.push.Goals as goal

pub add-requires : goal.add-requires
add-requires c = few_of _ _ c.requires.1 (simp length-take (omega (arith, c.requires.0.most, c.requires.0.room)))

pub returns-then-sheet : goal.returns-then-sheet
returns-then-sheet c =
    (push_grow c.args.g.sheet _ _ (omega arith), grow_figures c.args.ring.now c.args.g.sheet.len c.args.w _ _ (omega (arith, c.requires.0.ring)) c.requires.1 c.add.ensures)

pub sub-less-requires : goal.sub-less-requires
sub-less-requires c = over_within c.args.ring.now c.args.g.sheet.len c.args.g.sheet.head _ (omega (arith, c.requires.0.ring, c.requires.0.inside)) (omega (arith, c.requires.0.ring)) c.requires.1

pub add-requires-2 : goal.add-requires-2
add-requires-2 c = few_after _ _ _ (few_of _ _ c.requires.1 (simp length-take (omega (arith, c.requires.0.most, c.requires.0.room)))) c.sub-less.ensures

pub returns : goal.returns
returns c = (
  push_over c.args.g.sheet _ _ _ (omega arith) c.next.ensures.0,
  over_figures c.args.ring.now c.args.g.sheet.len c.args.g.sheet.head c.args.w _ _ _ (omega (arith, c.requires.0.ring, c.requires.0.inside)) (omega (arith, c.requires.0.ring)) c.requires.1 c.sub-less.ensures c.add-2.ensures,
)
