-- What the theorem is said of: every payload's bytes, signed or not, whole or cut, and every place in them.
use mathlib.Core.Path.{◌≡◌}
use mathlib.Core.List.{List, ◌∷◌}
use Prim.Native.Nat.{ℕ, ◌≤◌}
use lib.ListN.{length, drop}
use Rattle.packet.specs.Layout.{Packet, packet, payload_of, Words32, AllEncodable}
use Rattle.packet.specs.Read.{next_of, items_of, placed}
use Rattle.command_packets.specs.Held.{step_of, item_at, read_all}
use Rattle.command_packets.specs.Theorems.{ReadersAgree}

pub every_payload : ReadersAgree → (b : List ℕ) → read_all b ≡ items_of b
every_payload t = t.items

-- past the end too
pub every_place : ReadersAgree → (b : List ℕ) (at : ℕ) → item_at at (step_of (drop at b)).1.1 ≡ next_of b at
every_place t = t.item

-- a command of any code and command bytes, with 0 to 255 words of 32 bits, before any others
pub every_command : ReadersAgree → (code csd1 csd2 : ℕ) (ws : List ℕ) → length ws ≤ 255 → Words32 ws → (cs : List Packet) → AllEncodable cs
    → read_all (payload_of (packet code csd1 csd2 ws ∷ cs)) ≡ placed 4 (packet code csd1 csd2 ws ∷ cs)
unfolding AllEncodable
every_command t code csd1 csd2 ws few words cs rest = t.back (packet code csd1 csd2 ws ∷ cs) (record { few = few; words32 = words }, rest)
