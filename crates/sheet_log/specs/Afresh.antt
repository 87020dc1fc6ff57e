-- 02, 10/14: each record gives three class counts and the sum of loss counts, equal to those worked afresh. Here from the bytes of a file, record by record.
use Rattle.std.specs.Prelude.{ℕ, zero, suc, ◌+◌, ◌*◌, ◌-◌, cond, List, [], ◌++◌, eqb}
use Rattle.sheet_blocks.specs.Bytes.{word_bytes}
use Rattle.sheet_blocks.specs.Records.{class_at, loss_at}

-- how many of k records from index i on have the class
unfoldable pub of_class : ℕ → List ℕ → ℕ → ℕ → ℕ
of_class c b zero i = 0
of_class c b (suc k) i = cond (eqb (class_at b i) c) 1 0 + of_class c b k (i + 16)

-- the sum of their loss counts
unfoldable pub loss_sum : List ℕ → ℕ → ℕ → ℕ
loss_sum b zero i = 0
loss_sum b (suc k) i = loss_at b i + loss_sum b k (i + 16)

-- the figures of k records after the first r: New, Late, Duplicate, losses
unfoldable pub figures_from : List ℕ → ℕ → ℕ → List ℕ
figures_from b k r = word_bytes (of_class 0 b k (16 * r)) (word_bytes (of_class 1 b k (16 * r)) (word_bytes (of_class 2 b k (16 * r)) (word_bytes (loss_sum b k (16 * r)) [])))

-- those of the last n of the first m records, of all while there are fewer
unfoldable pub figures_at : ℕ → List ℕ → ℕ → List ℕ
figures_at n b m = figures_from b (m - (m - n)) (m - n)

-- for each of k records after the first m, those over the last n up to it
unfoldable pub figures_of : ℕ → List ℕ → ℕ → ℕ → List ℕ
figures_of n b m zero = []
figures_of n b m (suc k) = figures_at n b (m + 1) ++ figures_of n b (m + 1) k
