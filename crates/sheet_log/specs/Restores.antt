-- 02, 10/14: the inverse restores every block.
use Rattle.std.specs.Prelude.{ℕ, ◌≡◌, true, List, length}
use Rattle.sheet_blocks.specs.Records.{is_block}
use Rattle.sheet_blocks.specs.Columns.{columns_of, records_of}

-- a block stored by column has its length, and the inverse restores it; the other way round too
pub record Restores : Type 0 where
  pub stored_length : (b : List ℕ) (room : ℕ) → is_block (length b) room ≡ true → length (columns_of b) ≡ length b
  pub records_length : (b : List ℕ) (room : ℕ) → is_block (length b) room ≡ true → length (records_of b) ≡ length b
  pub there_back : (b : List ℕ) (room : ℕ) → is_block (length b) room ≡ true → records_of (columns_of b) ≡ b
  pub back_there : (b : List ℕ) (room : ℕ) → is_block (length b) room ≡ true → columns_of (records_of b) ≡ b
