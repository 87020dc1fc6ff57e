-- The walk ends at the first new command; where that fits, the repeats that fit beside it and the new ones are one row.
use mathlib.Core.Path.{sym, ◌∙◌}
use native.Mathlib.Omega.{arith}
use Rattle.writing.proofs.Repeating.{at_most, less_than, least_few, last_standing, last_words, last_end, again_place, new_none, new_large, new_more, new_row_lem}
use Rattle.sender.proofs.Validity.{valid_good, valid_unsent}
use Rattle.writing.proofs.tested.write_new.Goals as goal

pub returns-then-s-eq0 : goal.returns-then-s-eq0
returns-then-s-eq0 c =
    new_none c.args.s c.args.cfg c.args.time _ c.args.p _ _ c.if-s-eq0.true

pub overflow_sub-written : goal.overflow_sub-written
overflow_sub-written c = valid_unsent _ _ c.requires.0

pub place_of-at-requires : goal.place_of-at-requires
place_of-at-requires c =
    (valid_good _ _ c.requires.0, omega (arith, c.least-k.ensures), c.requires.3)

pub walk-last-requires : goal.walk-last-requires
walk-last-requires c =
    let few = least_few _ _ _ c.least-k.ensures in
    (last_standing _ _ c.requires.0 _ _ few c.place_of-at.ensures.0, last_words _ _ c.requires.0 _ _ few c.place_of-at.ensures.0)

pub returns-then-p-eq0 : goal.returns-then-p-eq0
returns-then-p-eq0 c =
    let e = c.walk-last.ensures.0 ∙ last_end c.args.s _ c.requires.0 _ _ (least_few _ _ _ c.least-k.ensures) c.place_of-at.ensures.0 in
    new_large c.args.s c.args.cfg c.args.time c.args.before c.args.p c.args.buf.now c.args.ring.now c.if-s-eq0.false _ e (at_most _ _ c.free_words.ensures c.pl.ensures c.if-free_words-pl.true) c.if-p-eq0.true

pub returns-then-free_words-pl : goal.returns-then-free_words-pl
returns-then-free_words-pl c =
    let e = c.walk-last.ensures.0 ∙ last_end c.args.s _ c.requires.0 _ _ (least_few _ _ _ c.least-k.ensures) c.place_of-at.ensures.0 in
    new_more c.args.s c.args.cfg c.args.time c.args.before c.args.p c.args.buf.now c.args.ring.now c.if-s-eq0.false _ e (at_most _ _ c.free_words.ensures c.pl.ensures c.if-free_words-pl.true) c.if-p-eq0.false

pub repeats-again-requires : goal.repeats-again-requires
repeats-again-requires c =
    let few = least_few _ _ _ c.least-k.ensures in
    (last_standing _ _ c.requires.0 _ _ few c.place_of-at.ensures.0, c.walk-last.ensures.2, c.walk-last.ensures.1, less_than _ _ c.pl.ensures c.free_words.ensures c.if-free_words-pl.false)

pub write_row-requires : goal.write_row-requires
write_row-requires c =
    let few = least_few _ _ _ c.least-k.ensures in (
      c.requires.0,
      c.requires.1,
      c.requires.2,
      record {
        few = omega (arith, c.repeats-again.ensures.few, c.least-k.ensures);
        place = again_place _ _ c.requires.0 _ _ few c.place_of-at.ensures.0 _ _ c.repeats-again.ensures.few c.repeats-again.ensures.place;
        words = c.repeats-again.ensures.words;
        room = c.repeats-again.ensures.room;
      },
    )

pub returns : goal.returns
returns c =
    let few = least_few _ _ _ c.least-k.ensures in
    let e = c.walk-last.ensures.0 ∙ last_end c.args.s _ c.requires.0 _ _ few c.place_of-at.ensures.0 in
    let a = again_place c.args.s _ c.requires.0 _ _ few c.place_of-at.ensures.0 _ _ c.repeats-again.ensures.few c.repeats-again.ensures.place in
    new_row_lem c.args.s c.args.cfg c.args.time c.args.before c.args.p c.args.buf.now c.args.ring.now c.if-s-eq0.false _ e _ (less_than _ _ c.pl.ensures c.free_words.ensures c.if-free_words-pl.false) _ _ _ _ c.least-k.ensures c.place_of-at.ensures.0 c.repeats-again.ensures.packets (last_end c.args.s _ c.requires.0 _ _ (omega (arith, c.repeats-again.ensures.few, c.least-k.ensures)) a ∙ sym e) c.write_row.ensures
