-- Worked examples: four records with n 2 in one block and in two, the columns of two records, and each refusal.
use mathlib.Core.Path.{◌≡◌, refl}
use mathlib.Core.Bool.{false}
use mathlib.Core.List.{List, [], ◌∷◌, ◌++◌}
use Prim.Native.Nat.{ℕ}
use lib.ListN.{take, drop, replicate}
use Rattle.sheet_blocks.specs.Bytes.{spliced}
use Rattle.sheet_blocks.specs.Records.{entry_at, entries, all_records, is_block}
use Rattle.sheet_blocks.specs.Columns.{every_of, by_column, columns_of}
use Rattle.loss_sheet.specs.Figures.{classes, losses, figures, figure_bytes}
use Rattle.loss_sheet.specs.Sheet.{last_of, sheet_bytes, fresh, all_below, state_ok, held, next_of, pushed, pushed_all, taken_of, answer_of, block_of}
use Rattle.sheet_log.specs.Calls.{Call, after, started}

records : List ℕ
records =
    0 ∷ 0 ∷ 0 ∷ 0 ∷ 0 ∷ 0 ∷ 0 ∷ 0 ∷ 0 ∷ 0 ∷ 0 ∷ 0 ∷ 0 ∷ 0 ∷ 0 ∷ 0
    ∷ 0 ∷ 0 ∷ 0 ∷ 0 ∷ 0 ∷ 0 ∷ 0 ∷ 1 ∷ 0 ∷ 5 ∷ 0 ∷ 0 ∷ 0 ∷ 1 ∷ 0 ∷ 0
    ∷ 0 ∷ 0 ∷ 0 ∷ 0 ∷ 0 ∷ 0 ∷ 0 ∷ 2 ∷ 0 ∷ 4 ∷ 1 ∷ 0 ∷ 0 ∷ 0 ∷ 0 ∷ 0
    ∷ 0 ∷ 0 ∷ 0 ∷ 0 ∷ 0 ∷ 0 ∷ 0 ∷ 3 ∷ 0 ∷ 5 ∷ 2 ∷ 0 ∷ 0 ∷ 0 ∷ 0 ∷ 0 ∷ []

answers : List ℕ
answers =
    0 ∷ 0 ∷ 0 ∷ 1 ∷ 0 ∷ 0 ∷ 0 ∷ 0 ∷ 0 ∷ 0 ∷ 0 ∷ 0 ∷ 0 ∷ 0 ∷ 0 ∷ 0
    ∷ 0 ∷ 0 ∷ 0 ∷ 2 ∷ 0 ∷ 0 ∷ 0 ∷ 0 ∷ 0 ∷ 0 ∷ 0 ∷ 0 ∷ 0 ∷ 0 ∷ 0 ∷ 1
    ∷ 0 ∷ 0 ∷ 0 ∷ 1 ∷ 0 ∷ 0 ∷ 0 ∷ 1 ∷ 0 ∷ 0 ∷ 0 ∷ 0 ∷ 0 ∷ 0 ∷ 0 ∷ 1
    ∷ 0 ∷ 0 ∷ 0 ∷ 0 ∷ 0 ∷ 0 ∷ 0 ∷ 1 ∷ 0 ∷ 0 ∷ 0 ∷ 1 ∷ 0 ∷ 0 ∷ 0 ∷ 0 ∷ []

-- a block of k records after others, from a start with n 2
block_after : List Call → List ℕ → List ℕ
block_after cs bs = (block_of (started 2 cs).0 (started 2 cs).1 bs (replicate 64 7)).2

one_block : block_after [] records ≡ answers
unfolding block_after records answers after block_of answer_of taken_of state_ok all_below is_block all_records entries entry_at pushed_all pushed next_of held sheet_bytes last_of figures figure_bytes classes losses spliced
one_block = refl

one_and_three : block_after ((take 16 records, replicate 16 0) ∷ []) (drop 16 records) ≡ drop 16 answers ++ replicate 16 7
unfolding block_after records answers after block_of answer_of taken_of state_ok all_below is_block all_records entries entry_at pushed_all pushed next_of held sheet_bytes last_of figures figure_bytes classes losses spliced
one_and_three = refl

two_and_two : block_after ((take 32 records, replicate 32 0) ∷ []) (drop 32 records) ≡ drop 32 answers ++ replicate 32 7
unfolding block_after records answers after block_of answer_of taken_of state_ok all_below is_block all_records entries entry_at pushed_all pushed next_of held sheet_bytes last_of figures figure_bytes classes losses spliced
two_and_two = refl

two_columns : columns_of (take 32 records)
    ≡ replicate 14 0 ++ (0 ∷ 1 ∷ 0 ∷ 0 ∷ 0 ∷ 5 ∷ 0 ∷ 0 ∷ 0 ∷ 0 ∷ 0 ∷ 0 ∷ 0 ∷ 1 ∷ 0 ∷ 0 ∷ 0 ∷ 0 ∷ [])
unfolding records columns_of by_column every_of
two_columns = refl

n_0 : answer_of (fresh 0) [] (replicate 15 0) 15 ≡ 12
unfolding answer_of
n_0 = refl

head_early : answer_of (record { n = 2; head = 1; len = 1 }) (0 ∷ 0 ∷ []) [] 0 ≡ 13
unfolding answer_of state_ok
head_early = refl

cut : answer_of (fresh 2) (0 ∷ 0 ∷ []) (replicate 15 0) 15 ≡ 16
unfolding answer_of state_ok all_below taken_of is_block
cut = refl

class_3 : List ℕ
class_3 = 0 ∷ 0 ∷ 0 ∷ 0 ∷ 0 ∷ 0 ∷ 0 ∷ 0 ∷ 0 ∷ 0 ∷ 3 ∷ 0 ∷ 0 ∷ 0 ∷ 0 ∷ 0 ∷ []

class_3_no_room : answer_of (fresh 2) (0 ∷ 0 ∷ []) class_3 15 ≡ 16
unfolding answer_of state_ok all_below taken_of is_block class_3
class_3_no_room = refl

class_3_room : answer_of (fresh 2) (0 ∷ 0 ∷ []) class_3 16 ≡ 17
unfolding answer_of state_ok all_below taken_of is_block all_records class_3
class_3_room = refl

too_long : is_block 65552 65552 ≡ false
unfolding is_block
too_long = refl
