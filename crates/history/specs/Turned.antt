-- 02, 5/14: a command that passes the history's end gives the bytes that it gives when it doesn't.
use Rattle.std.specs.Prelude.{◌≡◌, ℕ, ◌<◌, ◌≤◌, List, length, take}
use Rattle.packet.specs.Write.{written_of}
use Rattle.packet.specs.declared.writer.PayloadWriter.{PayloadWriter}
use Rattle.history.specs.Ring.{view}
use Rattle.history.specs.Headers.{length_at, entry_size}
use Rattle.history.specs.Written.{entry_packet}

-- a command of up to 64 words, with its header at place i of a ring that can hold it
pub record Stands (ring : List ℕ) (i : ℕ) : Type 0 where
  pub inside : i < length ring
  pub least : 65 ≤ length ring
  pub short : length_at ring i ≤ 64

-- its header and its words, read on from place i
abbrev pub command_at : List ℕ → ℕ → List ℕ
command_at ring i = take (entry_size ring i) (view ring i)

-- `written_of p b (entry_packet ring i)` is the answer, the payload and the buffer that `write_entry` leaves
pub record PastTheEnd : Type 0 where
  -- in the ring turned so that its header stands at place 0, as long as before, the command ends before the end,
  pub length_turned : (ring : List ℕ) (i : ℕ) → Stands ring i → length (view ring i) ≡ length ring
  pub stands : (ring : List ℕ) (i : ℕ) → Stands ring i → Stands (view ring i) 0
  pub ends : (ring : List ℕ) (i : ℕ) → Stands ring i → entry_size (view ring i) 0 ≤ length (view ring i)
  -- and gives the same, into every payload and buffer, those that refuse it too
  pub same : (p : PayloadWriter) (b ring : List ℕ) (i : ℕ) → Stands ring i
      → written_of p b (entry_packet ring i) ≡ written_of p b (entry_packet (view ring i) 0)
  -- so it does from every ring, whatever its length, and from every place in it
  pub anywhere : (p : PayloadWriter) (b ring other : List ℕ) (i j : ℕ) → Stands ring i → Stands other j
      → command_at ring i ≡ command_at other j
      → written_of p b (entry_packet ring i) ≡ written_of p b (entry_packet other j)
