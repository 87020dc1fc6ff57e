use Rattle.std.proofs.Common.{◌≡◌, ◌+◌, ◌-◌, ◌<◌, refl, sym, ◌∙◌, arith}
use native.Mathlib.Nat.{sub-zero}
use Rattle.history.proofs.Walk.{header_first, header_none, words_first, words_none}
use Rattle.rows.proofs.Packets.{short_first}
use Rattle.rows.proofs.tested.walk.Goals as goal

pub loop-init : goal.loop-init
loop-init c = (omega arith, c.requires.0.inside, rw sub-zero c.requires.0.short, rw sub-zero refl, rw sub-zero (omega arith))

pub overflow_add-words-in-loop : goal.overflow_add-words-in-loop
overflow_add-words-in-loop c =
    let left : 0 < c.args.k - c.loop.counter = omega arith in
    omega (arith, c.loop.invariant.4, words_first (c.args.k - c.loop.counter) c.args.ring.now c.loop.i left, c.pl.ensures, c.requires.1)

pub next_index-i-requires : goal.next_index-i-requires
next_index-i-requires c =
    let left : 0 < c.args.k - c.loop.counter = omega arith in
    (c.loop.invariant.1, c.requires.0.least, c.requires.0.most, (short_first _ _ _ left c.loop.invariant.2).0)

pub loop-preserved : goal.loop-preserved
loop-preserved c =
    let left : 0 < c.args.k - c.loop.counter = omega arith in
    let next : c.args.k - (c.loop.counter + 1) ≡ c.args.k - c.loop.counter - 1 = omega arith in (
      omega arith,
      c.next_index-i.ensures.1,
      rw (next, c.next_index-i.ensures.0) (short_first _ _ _ left c.loop.invariant.2).1,
      rw (next, c.next_index-i.ensures.0) (sym (header_first _ _ _ left) ∙ c.loop.invariant.3),
      rw (next, c.next_index-i.ensures.0) (omega (arith, c.loop.invariant.4, words_first (c.args.k - c.loop.counter) c.args.ring.now c.loop.i left, c.pl.ensures)),
    )

pub returns : goal.returns
returns c =
    let z : c.args.k - c.loop.counter ≡ 0 = omega arith in
    (sym (header_none _ _) ∙ rw z at c.loop.invariant.3, c.loop.invariant.1, omega (arith, rw (z, words_none) at c.loop.invariant.4))
