-- The words that join and the further commands are those of the definition, and they are queued when they fit.
use native.Mathlib.Omega.{arith}
use lib.ListN.{length-take}
use Rattle.fronts.proofs.Fronts.{divides_at}
use Rattle.sender.proofs.Validity.{valid_good, valid_words, valid_small}
use Rattle.sender.proofs.Queued.{check_divides, split_divides, join_ready, join_good, placed_full, placed_queued}
use Rattle.sender.proofs.tested.queue_words.Goals as goal

pub front_words-split-requires : goal.front_words-split-requires
front_words-split-requires c = (check_divides _ _ c.requires.2).whole

pub commands-commands-requires : goal.commands-commands-requires
commands-commands-requires c =
    let d = divides_at _ c.args.words.now _ (split_divides _ _ _ _ (check_divides _ _ c.requires.2) c.front_words-split.ensures.0) in
    (d.whole, d.small)

pub overflow_sub-s : goal.overflow_sub-s
overflow_sub-s c =
    valid_words _ _ c.requires.0

pub returns-then-s-need : goal.returns-then-s-need
returns-then-s-need c =
    placed_full _ _ _ _ _ _ _ c.room.ensures c.front_words-split.ensures.0 c.commands-commands.ensures.0 c.if-s-need.true

pub slice_bounds-join-end : goal.slice_bounds-join-end
slice_bounds-join-end c =
    simp length-take (omega (arith, c.front_words-split.ensures))

pub join-joined-requires : goal.join-joined-requires
join-joined-requires c =
    (valid_good _ _ c.requires.0, join_ready _ _ _ c.requires.0 c.requires.1 _ _ c.room.ensures c.front_words-split.ensures.2 _)

pub offset_bounds-words-split-2 : goal.offset_bounds-words-split-2
offset_bounds-words-split-2 c =
    omega (arith, c.front_words-split.ensures, valid_small _ _ c.requires.0, c.if-s-need.false)

pub slice_bounds-push_all-count : goal.slice_bounds-push_all-count
slice_bounds-push_all-count c = c.front_words-split.ensures.1

-- LEFT slice-bounds-push-all-start
-- part-push-all-start : tie.Need-slice-bounds-push-all-start
-- part-push-all-start c = c.before.before.before.before.before.before.before.before.before.before.before.front-words.ensures.1

pub push_all-all-requires : goal.push_all-all-requires
push_all-all-requires c =
    let d = divides_at _ c.args.words.now _ (split_divides _ _ _ _ (check_divides _ _ c.requires.2) c.front_words-split.ensures.0) in
    let g = join_good _ _ _ c.requires.0 c.requires.1 _ _ c.room.ensures c.front_words-split.ensures.2 (omega arith) _ _ _ (omega (arith, valid_words _ _ c.requires.0, c.front_words-split.ensures, c.if-s-need.false)) c.join-joined.ensures in
    (g.0, g.1, c.requires.1, d.whole, d.small)

pub overflow_add-result : goal.overflow_add-result
overflow_add-result c =
    omega (arith, valid_small _ _ c.requires.0, c.if-s-need.false)

pub overflow_add-result-2 : goal.overflow_add-result-2
overflow_add-result-2 c =
    omega (arith, valid_words _ _ c.requires.0, valid_small _ _ c.requires.0, c.if-s-need.false)

pub returns : goal.returns
returns c =
    placed_queued c.args.s c.args.ring.now c.args.max c.args.words.now _ _ _ c.room.ensures c.front_words-split.ensures.0 c.commands-commands.ensures.0 c.join-joined.result c.push_all-all.result _ _ (check_divides _ _ c.requires.2).whole c.if-s-need.false c.join-joined.ensures c.push_all-all.ensures
