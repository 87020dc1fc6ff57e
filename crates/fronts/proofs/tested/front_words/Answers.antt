-- All words where they are so few, or the whole messages among the first n.
use native.Mathlib.Omega.{arith}
use lib.ListN.{length-take}
use Rattle.fronts.proofs.Fronts.{front_taken, part_of}
use Rattle.fronts.proofs.tested.front_words.Goals as goal

pub returns-then-words-n : goal.returns-then-words-n
returns-then-words-n c = ((part_of _ _ c.requires).all c.if-words-n.true, omega arith, c.if-words-n.true)

pub slice_bounds-whole_words-end : goal.slice_bounds-whole_words-end
slice_bounds-whole_words-end c = simp length-take (omega arith)

pub returns : goal.returns
returns c =
    let p = part_of c.args.n _ c.requires in
    let e = front_taken c.args.n c.args.words.now (omega arith) c.requires _ c.whole_words.ensures in
    (e, omega (arith, p.fits), omega (arith, p.few))
