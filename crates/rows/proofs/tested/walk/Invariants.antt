-- What is left of the way leads to the same place, and takes the words that are not counted yet.
use mathlib.Core.Path.{◌≡◌}
use Prim.Native.Nat.{◌+◌, ◌-◌, ◌≤◌, ◌<◌}
use lib.ListN.{length}
use Rattle.history.specs.Headers.{header_at, words_from, entries_from}
use Rattle.history.specs.Entries.{Short}
use Rattle.rows.proofs.tested.walk.Given as goal

abbrev pub invariant-loop : goal.invariant-loop
invariant-loop l =
    (l.counter ≤ l.k)
    × (l.i < length l.ring)
    × Short (entries_from (l.k - l.counter) l.ring l.i)
    × (header_at (l.k - l.counter) l.ring l.i ≡ header_at l.k l.ring l.at)
    × (l.words + words_from (l.k - l.counter) l.ring l.i ≡ words_from l.k l.ring l.at)

abbrev pub decreases-loop : goal.decreases-loop
decreases-loop l = l.k - l.counter
