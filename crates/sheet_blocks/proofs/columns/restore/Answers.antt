-- A block is stored by column with rows and columns exchanged.
use Rattle.sheet_blocks.proofs.Blocks.{restored_fit}
use Rattle.sheet_blocks.proofs.Stored.{restored_not, restored_done}
use Rattle.sheet_blocks.proofs.columns.restore.Goals as goal

pub put_columns-requires : goal.put_columns-requires
put_columns-requires c = restored_fit _ _ (cc)

pub returns-then-is_block : goal.returns-then-is_block
returns-then-is_block c = restored_done _ _ _ (cc) c.put_columns.ensures

pub returns : goal.returns
returns c = restored_not _ _ _ c.number.ensures (cc)
