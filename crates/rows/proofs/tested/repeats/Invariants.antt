-- Those that are left give the same repeats, and the oldest of them is dropped exactly where it does not fit.
use mathlib.Core.Path.{◌≡◌}
use Prim.Native.Nat.{◌-◌, ◌≤◌, ◌<◌}
use lib.ListN.{length}
use Rattle.packet.specs.Write.{free_of}
use Rattle.packet.specs.declared.writer.PayloadWriter.{PayloadWriter}
use Rattle.history.specs.Headers.{header_at, words_from, entries_from}
use Rattle.history.specs.Entries.{Short}
use Rattle.history.specs.Written.{entry_packet}
use Rattle.rows.specs.Rows.{packets_from}
use Rattle.rows.specs.Choice.{repeats_of}
use Rattle.rows.proofs.tested.repeats.Given as goal

abbrev pub invariant-loop-left : goal.invariant-loop-left
invariant-loop-left l =
    (l.i < length l.ring)
    × (l.count ≤ l.k)
    × Short (entries_from l.count l.ring l.i)
    × (l.left ≡ words_from l.count l.ring l.i)
    × (l.i ≡ header_at (l.k - l.count) l.ring l.at)
    × ((p : PayloadWriter) → l.free ≡ free_of p (length l.buf)
    → repeats_of p l.buf (entry_packet l.ring l.first) (packets_from l.count l.ring l.i) ≡ repeats_of p l.buf (entry_packet l.ring l.first) (packets_from l.k l.ring l.at))

abbrev pub decreases-loop-left : goal.decreases-loop-left
decreases-loop-left l = l.count
