-- What holds of all payloads, beyond the contracts of single calls.
use Rattle.std.specs.Prelude.{◌≡◌, List, ℕ, ◌≤◌, length, drop}
use Rattle.packet.specs.Layout.{Packet, payload_of, AllEncodable}
use Rattle.packet.specs.Read.{items_from, items_of, walked, placed}
use Rattle.packet.specs.Write.{written_of, bytes_in}
use Rattle.packet.specs.declared.writer.PayloadWriter.{PayloadWriter}

-- From any place on, the cursor gives exactly the items that stand there, in order; and steps past as many as there are bytes find nothing more.
pub record CursorWalks : Type 0 where
  pub same : (f : ℕ) (b : List ℕ) (at : ℕ) → walked f b at ≡ items_from f at (drop at b)
  pub ends : (f g at : ℕ) (b : List ℕ) → length b ≤ f → length b ≤ g → items_from f at b ≡ items_from g at b

-- A write, refused or not, touches no byte at or past the new length, and of those below the old length none.
-- (An empty payload's old length is 0: its signature is written with the first command.)
pub record Untouched : Type 0 where
  pub after : (p : PayloadWriter) (b : List ℕ) (c : Packet)
      → drop (written_of p b c).0.payload.len (written_of p b c).1 ≡ drop (written_of p b c).0.payload.len b
  pub before : (p : PayloadWriter) (b : List ℕ) (c : Packet) → bytes_in p (written_of p b c).1 ≡ bytes_in p b

-- Reading a payload's bytes gives its commands, each at its place, none cut; so two different lists of commands never give the same bytes.
pub record ReadsBack : Type 0 where
  pub items : (cs : List Packet) → AllEncodable cs → items_of (payload_of cs) ≡ placed 4 cs
  pub different : (cs ds : List Packet) → AllEncodable cs → AllEncodable ds → payload_of cs ≡ payload_of ds → cs ≡ ds
