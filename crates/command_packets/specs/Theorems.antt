-- What holds of the reader on every payload, beyond the contracts of its calls.
use Rattle.std.specs.Prelude.{◌≡◌, List, ℕ, ◌≤◌, length, drop}
use Rattle.packet.specs.Layout.{Packet, payload_of, AllEncodable}
use Rattle.packet.specs.Read.{open_of, next_of, items_of, walked, placed}
use Rattle.command_packets.specs.Held.{opened_of, payload_at, step_of, item_at, collected, read_all}

-- The reader that holds the unread bytes and the cursor agree on every payload.
pub record ReadersAgree : Type 0 where
  -- opening gives the same answer
  pub opens : (b : List ℕ) → (opened_of b).1 ≡ open_of b
  -- from any place on, a step gives the cursor's item, and the bytes that the cursor's place of it gives
  pub item : (b : List ℕ) (at : ℕ) → item_at at (step_of (drop at b)).1.1 ≡ next_of b at
  pub payload : (b : List ℕ) (at : ℕ) → (step_of (drop at b)).1.0 ≡ payload_at (next_of b at) b
  -- so many steps give what so many steps of the cursor give
  pub steps : (f : ℕ) (b : List ℕ) (at : ℕ) → at ≤ length b → collected f (length b) (drop at b) ≡ walked f b at
  -- a whole payload: its items, in order; nothing without the signature; and nothing after a cut command
  pub items : (b : List ℕ) → read_all b ≡ items_of b
  -- of a payload that was written: its commands, each at its place, none cut
  pub back : (cs : List Packet) → AllEncodable cs → read_all (payload_of cs) ≡ placed 4 cs
