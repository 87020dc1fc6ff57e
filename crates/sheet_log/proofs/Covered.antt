-- What the theorem over lists of calls is said of: every n from 1 to 4,096, every block and every output, blocks that are refused too, and no call but
-- those that the library offers.
use Prim.Native.Nat.{ℕ, ◌≤◌}
use mathlib.Core.Path.{◌≡◌}
use mathlib.Core.Bool.{true, ◌&&◌}
use mathlib.Core.List.{List, [], ◌∷◌, ◌++◌}
use borrow.Author.Tests.{le-leb, eq-eqb, ne_eqb}
use lib.ListN.{length}
use Rattle.config.specs.Range.{within}
use Rattle.loss_sheet.specs.Sheet.{all_below, fresh, start_of, taken_of, answer_of, block_of}
use Rattle.sheet_log.specs.Calls.{Call, all_bytes, after, started, file}
use Rattle.loss_sheet.specs.declared.sheet.Sheet.{Sheet}
use Rattle.sheet_log.proofs.Kept.{both}

-- every n of the request
pub every_n : (n : ℕ) → 1 ≤ n → n ≤ 4096 → within 1 4096 n ≡ true
every_n n h k = rw (le-leb 1 n h, le-leb n 4096 k)

-- a start over any ring of n words leads to where the lists begin
pub every_start : (n : ℕ) (b : List ℕ) → within 1 4096 n ≡ true → length b ≡ n → start_of n b ≡ (record { sheet = fresh n; refusal = 0 }, (started n []).1)
unfolding start_of after
every_start n b h e = rw (h, eq-eqb (length b) n e)

-- a list may begin with any block and any output, bytes both, and goes on with any other such list
pub every_call : (bs o : List ℕ) (cs : List Call) → all_below 256 bs ≡ true → all_below 256 o ≡ true → all_bytes cs ≡ true → all_bytes ((bs, o) ∷ cs) ≡ true
unfolding all_bytes
every_call bs o cs p q r = both (all_below 256 bs) (all_below 256 o && all_bytes cs) p (both (all_below 256 o) (all_bytes cs) q r)

-- a call that is refused, with whatever state, ring, block and output: all is as it was
pub refused_nothing : (s : Sheet) (b bs o : List ℕ) → (answer_of s b bs (length o) ≡ 0 → ⊥) → block_of s b bs o ≡ (record { sheet = s; refusal = answer_of s b bs (length o) }, b, o)
unfolding block_of
refused_nothing s b bs o h = rw (ne_eqb (answer_of s b bs (length o)) 0 h)

-- a refused block is no part of the file
pub refused_no_part : (bs o : List ℕ) (cs : List Call) → (taken_of bs (length o) ≡ 0 → ⊥) → file ((bs, o) ∷ cs) ≡ file cs
unfolding file
refused_no_part bs o cs h = rw (ne_eqb (taken_of bs (length o)) 0 h)

-- an accepted one is
pub accepted_part : (bs o : List ℕ) (cs : List Call) → taken_of bs (length o) ≡ 0 → file ((bs, o) ∷ cs) ≡ bs ++ file cs
unfolding file
accepted_part bs o cs h = rw (eq-eqb (taken_of bs (length o)) 0 h)
