-- The repeats fit, so the row has them all, and what it takes beside their words is what the new commands take.
use native.Mathlib.Omega.{arith}
use Rattle.writing.proofs.Repeating.{row_standing, row_again, row_most, row_less, row_words, row_wrote}
use Rattle.sender.proofs.Validity.{valid_few, valid_small}
use Rattle.writing.proofs.tested.write_row.Goals as goal

pub write_entries-out-requires : goal.write_entries-out-requires
write_entries-out-requires c =
    (c.requires.1, row_standing _ _ c.requires.0 _ c.args.buf.now c.requires.1 _ _ _ c.requires.3.few c.requires.3.place c.requires.3.words c.requires.3.room)

pub overflow_sub-took : goal.overflow_sub-took
overflow_sub-took c =
    row_less _ _ c.requires.0 _ _ c.requires.1 _ _ _ c.requires.3.few c.requires.3.place c.requires.3.words c.requires.3.room _ _ _ _ c.write_entries-out.ensures _ _ c.free_words-free.ensures c.free_words.ensures

pub overflow_sub-n : goal.overflow_sub-n
overflow_sub-n c =
    row_again _ _ c.requires.0 _ _ c.requires.1 _ _ _ c.requires.3.few c.requires.3.place c.requires.3.words c.requires.3.room _ _ _ _ c.write_entries-out.ensures

pub overflow_sub-took-2 : goal.overflow_sub-took-2
overflow_sub-took-2 c =
    (row_words _ _ c.requires.0 _ _ c.requires.1 _ _ _ c.requires.3.few c.requires.3.place c.requires.3.words c.requires.3.room _ _ _ _ c.write_entries-out.ensures _ _ c.free_words-free.ensures c.free_words.ensures).0

pub written_off-requires : goal.written_off-requires
written_off-requires c =
    (omega (arith, row_most _ _ c.requires.0 _ _ c.requires.1 _ _ _ c.requires.3.few c.requires.3.place c.requires.3.words c.requires.3.room _ _ _ _ c.write_entries-out.ensures), (row_words _ _ c.requires.0 _ _ c.requires.1 _ _ _ c.requires.3.few c.requires.3.place c.requires.3.words c.requires.3.room _ _ _ _ c.write_entries-out.ensures _ _ c.free_words-free.ensures c.free_words.ensures).1)

pub overflow_add-result : goal.overflow_add-result
overflow_add-result c =
    omega (arith, row_most _ _ c.requires.0 _ _ c.requires.1 _ _ _ c.requires.3.few c.requires.3.place c.requires.3.words c.requires.3.room _ _ _ _ c.write_entries-out.ensures, valid_few _ _ c.requires.0, valid_small _ _ c.requires.0, c.requires.2, c.requires.3.few)

pub returns : goal.returns
returns c =
    row_wrote _ _ c.requires.0 _ _ c.requires.1 _ _ _ c.requires.3.few c.requires.3.place c.requires.3.words c.requires.3.room _ _ _ _ c.write_entries-out.ensures _ _ c.free_words-free.ensures c.free_words.ensures _ _ _ _ c.written_off.ensures
