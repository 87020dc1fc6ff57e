-- One test, then the columns.
use Rattle.sheet_blocks.proofs.Blocks.{stored_fit}
use Rattle.sheet_blocks.proofs.Stored.{stored_not, stored_done}
use Rattle.sheet_blocks.proofs.columns.columns.Goals as goal

pub put_columns-requires : goal.put_columns-requires
put_columns-requires c = stored_fit _ _ (cc)

pub returns-then-is_block : goal.returns-then-is_block
returns-then-is_block c = stored_done _ _ _ (cc) c.put_columns.ensures

pub returns : goal.returns
returns c = stored_not _ _ _ c.number.ensures (cc)
