-- What is left of the row from here, after the commands that were written, is the whole row.
use mathlib.Core.Path.{◌≡◌}
use mathlib.Core.Bool.{true}
use Prim.Native.Nat.{◌-◌, ◌<◌}
use lib.ListN.{length}
use Rattle.packet.specs.Write.{valid_of as payload_valid}
use Rattle.history.specs.Headers.{entries_from}
use Rattle.history.specs.Entries.{Short}
use Rattle.rows.specs.Rows.{row_of, packets_from}
use Rattle.rows.proofs.Filling.{also}
use Rattle.rows.proofs.tested.write_entries.Given as goal

abbrev pub invariant-loop-n : goal.invariant-loop-n
invariant-loop-n l =
    (l.i < length l.ring)
    × Short (entries_from (l.k - l.n) l.ring l.i)
    × (payload_valid l.q (length l.buf) ≡ true)
    × (length l.buf ≡ length l.initial.buf)
    × (also l.n (row_of l.q l.buf (packets_from (l.k - l.n) l.ring l.i)) ≡ row_of l.initial.q l.initial.buf (packets_from l.k l.ring l.at))
