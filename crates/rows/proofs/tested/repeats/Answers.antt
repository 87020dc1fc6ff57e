use mathlib.Core.Path.{refl, sym, ◌∙◌}
use native.Mathlib.Omega.{arith}
use native.Mathlib.Nat.{sub_self}
use Rattle.history.proofs.Walk.{words_first, header_none}
use Rattle.rows.proofs.Packets.{short_first, header_next, words_some}
use Rattle.rows.proofs.Choice.{repeats_drop, repeats_stay}
use Rattle.rows.proofs.tested.repeats.Goals as goal

pub overflow_sub-room : goal.overflow_sub-room
overflow_sub-room c = omega (arith, c.pl.ensures, c.free_words-free.ensures, c.requires.3)

pub loop-left-init : goal.loop-left-init
loop-left-init c = (c.requires.0.inside, omega arith, c.requires.0.short, c.requires.1, rw sub_self (sym (header_none _ _)), λ q e. refl)

pub overflow_sub-left : goal.overflow_sub-left
overflow_sub-left c =
    let some = words_some c.loop-left.count c.args.ring.now c.loop-left.i _ c.loop-left-test.true c.loop-left.invariant.3 in
    omega (arith, c.loop-left.invariant.3, words_first c.loop-left.count c.args.ring.now c.loop-left.i some, c.pl-in-loop-left.ensures)

pub next_index-i-requires : goal.next_index-i-requires
next_index-i-requires c =
    let some = words_some c.loop-left.count c.args.ring.now c.loop-left.i _ c.loop-left-test.true c.loop-left.invariant.3 in
    (c.loop-left.invariant.0, c.requires.0.least, c.requires.0.most, (short_first _ _ _ some c.loop-left.invariant.2).0)

pub overflow_sub-count : goal.overflow_sub-count
overflow_sub-count c =
    words_some c.loop-left.count c.args.ring.now c.loop-left.i _ c.loop-left-test.true c.loop-left.invariant.3

pub loop-left-smaller : goal.loop-left-smaller
loop-left-smaller c =
    omega (arith, words_some c.loop-left.count c.args.ring.now c.loop-left.i _ c.loop-left-test.true c.loop-left.invariant.3)

pub loop-left-preserved : goal.loop-left-preserved
loop-left-preserved c =
    let some = words_some c.loop-left.count c.args.ring.now c.loop-left.i _ c.loop-left-test.true c.loop-left.invariant.3 in (
      c.next_index-i.ensures.1,
      omega (arith, c.loop-left.invariant.1),
      rw c.next_index-i.ensures.0 (short_first _ _ _ some c.loop-left.invariant.2).1,
      rw c.next_index-i.ensures.0 (omega (arith, c.loop-left.invariant.3, words_first c.loop-left.count c.args.ring.now c.loop-left.i some, c.pl-in-loop-left.ensures)),
      header_next _ _ c.args.ring.now _ _ _ some c.loop-left.invariant.1 c.loop-left.invariant.4 c.next_index-i.ensures.0,
      λ p f. rw c.next_index-i.ensures.0 (sym (repeats_drop p c.args.buf.now c.args.ring.now c.args.first c.loop-left.count c.loop-left.i some (omega (arith, f, c.loop-left.invariant.3, c.pl.ensures, c.loop-left-test.true))) ∙ c.loop-left.invariant.5 p f),
    )

pub returns : goal.returns
returns c =
    record {
      packets = sym (repeats_stay c.args.p c.args.buf.now c.args.ring.now c.args.first c.loop-left.count c.loop-left.i (omega (arith, c.free_words-free.ensures, c.pl.ensures, c.loop-left.invariant.3, c.requires.3, c.loop-left-test.false))) ∙ c.loop-left.invariant.5 _ c.free_words-free.ensures;
      few = c.loop-left.invariant.1;
      place = c.loop-left.invariant.4;
      words = c.loop-left.invariant.3;
      room = omega (arith, c.free_words-free.ensures, c.pl.ensures, c.requires.3, c.loop-left-test.false);
    }
