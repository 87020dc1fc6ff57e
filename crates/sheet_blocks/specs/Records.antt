-- 02, 10/14: records of 16 bytes, no header: time (8 bytes), number (2), class (1), a zero, loss count (2), loss first (2), big-endian.
use Rattle.std.specs.Prelude.{ℕ, zero, suc, ◌+◌, ◌*◌, ◌/◌, ◌%◌, Bool, true, ◌&&◌, List, [], ◌∷◌, length, get_or, leb, eqb}

-- fields of the record at index i that the figures look at
abbrev pub class_at : List ℕ → ℕ → ℕ
class_at b i = get_or b (i + 10) 0

abbrev pub zero_at : List ℕ → ℕ → ℕ
zero_at b i = get_or b (i + 11) 0

abbrev pub loss_at : List ℕ → ℕ → ℕ
loss_at b i = get_or b (i + 12) 0 * 256 + get_or b (i + 13) 0

-- what is kept of it, as one word
unfoldable pub entry_at : List ℕ → ℕ → ℕ
entry_at b i = class_at b i * 65536 + loss_at b i

-- what is kept of k records from index i on
unfoldable pub entries : List ℕ → ℕ → ℕ → List ℕ
entries b zero i = []
entries b (suc k) i = entry_at b i ∷ entries b k (i + 16)

-- 17 otherwise: k records from index i on have a class up to 2 and a zero byte that is zero
unfoldable pub all_records : List ℕ → ℕ → ℕ → Bool
all_records b zero i = true
all_records b (suc k) i = leb (class_at b i) 2 && (eqb (zero_at b i) 0 && all_records b k (i + 16))

-- 16 otherwise: whole records, at most 65,536 bytes, and no more than the output lent
unfoldable pub is_block : ℕ → ℕ → Bool
is_block len room = eqb (len % 16) 0 && (leb len 65536 && leb len room)

-- the number of records in a block
abbrev pub rows : List ℕ → ℕ
rows b = length b / 16
