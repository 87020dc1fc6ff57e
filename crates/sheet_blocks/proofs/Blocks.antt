-- Laws of records and of the tests of a block.
use mathlib.Core.Path.{◌≡◌, refl, ap}
use mathlib.Core.Bool.{true}
use mathlib.Core.List.{List, [], ◌∷◌}
use Prim.Native.Nat.{ℕ, zero, suc, ◌+◌, ◌*◌, ◌-◌, ◌/◌, ◌%◌, ◌≤◌, ◌<◌}
use native.Mathlib.Omega.{arith}
use borrow.Author.Tests.{leb-true, eqb-true}
use lib.ListN.{length}
use lib.Dec.{leb, eqb}
use Rattle.config.specs.inner.Tests.{and_left, and_right}
use Rattle.sheet_blocks.specs.Records.{entry_at, entries, is_block}

-- ---- a block's length

module _ (len room : ℕ) (t : is_block len room ≡ true) where
  pub block_whole : len % 16 ≡ 0
  unfolding is_block
  block_whole = eqb-true (len % 16) 0 (and_left (eqb (len % 16) 0) _ t)

  pub block_most : len ≤ 65536
  unfolding is_block
  block_most = leb-true len 65536 (and_left (leb len 65536) (leb len room) (and_right (eqb (len % 16) 0) _ t))

  pub block_room : len ≤ room
  unfolding is_block
  block_room = leb-true len room (and_right (leb len 65536) (leb len room) (and_right (eqb (len % 16) 0) _ t))

  pub block_rows : 16 * (len / 16) ≡ len
  block_rows = omega (arith, block_whole)

  pub stored_fit : (16 * (len / 16) ≤ room) × (len / 16 * 16 ≤ len) × (16 ≤ 4096) × (len ≤ 65536)
  stored_fit = (omega (arith, block_room), omega arith, omega arith, block_most)

  pub restored_fit : (len / 16 * 16 ≤ room) × (16 * (len / 16) ≤ len) × (len / 16 ≤ 4096) × (len ≤ 65536)
  restored_fit = (omega (arith, block_room), omega arith, omega (arith, block_most), block_most)

  pub run_fit : (16 * (len / 16) ≤ len) × (16 * (len / 16) ≤ room) × (len / 16 ≤ 4096)
  run_fit = (omega arith, omega (arith, block_room), omega (arith, block_most))

-- ---- what is kept of the records

-- what is kept of the first of some records, and of the others
pub entries_more : (b : List ℕ) (k i : ℕ) → 0 < k → entries b k i ≡ entry_at b i ∷ entries b (k - 1) (i + 16)
unfolding entries
entries_more b zero i m = absurd (let z : ⊥ = omega arith in z)
entries_more b (suc k) i m = let e : suc k - 1 ≡ k = omega arith in rw e

pub entries_none : (b : List ℕ) (k i : ℕ) → k ≤ 0 → entries b k i ≡ []
unfolding entries
entries_none b zero i m = refl
entries_none b (suc k) i m = absurd (let z : ⊥ = omega arith in z)

pub length_entries : (b : List ℕ) (k i : ℕ) → length (entries b k i) ≡ k
unfolding entries
length_entries b zero i = refl
length_entries b (suc k) i = ap suc (length_entries b k (i + 16))
