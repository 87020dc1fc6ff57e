-- 02, 10/14: blocks of up to 4,096 records are stored by column, all first bytes, then all second; the inverse restores every block.
use Rattle.std.specs.Prelude.{ℕ, zero, suc, ◌+◌, cond, List, [], ◌∷◌, ◌++◌, length, get_or}
use Rattle.config.specs.Refusals.{number_of}
use Rattle.config.specs.declared.refusal.Refusal.TheVariants.{InvalidBlock}
use Rattle.sheet_blocks.specs.Bytes.{spliced}
use Rattle.sheet_blocks.specs.Records.{is_block, rows}

-- k bytes, the first at index i, each d after the one before
unfoldable pub every_of : List ℕ → ℕ → ℕ → ℕ → List ℕ
every_of b d zero i = []
every_of b d (suc k) i = get_or b i 0 ∷ every_of b d k (i + d)

-- c columns of r bytes out of rows of d bytes, from column i on
unfoldable pub by_column : List ℕ → ℕ → ℕ → ℕ → ℕ → List ℕ
by_column b d r zero i = []
by_column b d r (suc c) i = every_of b d r i ++ by_column b d r c (i + 1)

-- all first bytes of the records, then all second ..
unfoldable pub columns_of : List ℕ → List ℕ
columns_of b = by_column b 16 (rows b) 16 0

-- the first byte of each of the 16 columns, then the second ..
unfoldable pub records_of : List ℕ → List ℕ
records_of b = by_column b (rows b) 16 (rows b) 0

unfoldable pub stored_of : List ℕ → List ℕ → ℕ × List ℕ
stored_of b o = cond (is_block (length b) (length o)) (0, spliced o 0 (columns_of b)) (number_of InvalidBlock, o)

unfoldable pub restored_of : List ℕ → List ℕ → ℕ × List ℕ
restored_of b o = cond (is_block (length b) (length o)) (0, spliced o 0 (records_of b)) (number_of InvalidBlock, o)
