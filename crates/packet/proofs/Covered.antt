-- What the theorems are said of: every payload's bytes and every place in them, every write, and every command that a payload can hold.
use mathlib.Core.Path.{◌≡◌}
use mathlib.Core.List.{List, ◌∷◌}
use Prim.Native.Nat.{ℕ, ◌≤◌}
use lib.ListN.{length, drop}
use Rattle.packet.specs.Layout.{Packet, packet, payload_of, Words32, AllEncodable}
use Rattle.packet.specs.Read.{items_from, items_of, walked, placed}
use Rattle.packet.specs.Write.{written_of}
use Rattle.packet.specs.Theorems.{CursorWalks, Untouched, ReadsBack}

-- any bytes, signed or not, whole or cut, from any place on, past the end too
pub every_place : CursorWalks → (b : List ℕ) (at : ℕ) → walked (length b) b at ≡ items_from (length b) at (drop at b)
every_place t b at = t.same (length b) b at

-- any state and any command, refused ones too
pub every_write : Untouched → (len max code csd1 csd2 : ℕ) (ws b : List ℕ)
    → let w = written_of record { len = len; max = max } b (packet code csd1 csd2 ws) in drop w.0.payload.len w.1 ≡ drop w.0.payload.len b
every_write t len max code csd1 csd2 ws b = t.after record { len = len; max = max } b (packet code csd1 csd2 ws)

-- a command of any code and command bytes, with 0 to 255 words of 32 bits, before any others
pub every_command : ReadsBack → (code csd1 csd2 : ℕ) (ws : List ℕ) → length ws ≤ 255 → Words32 ws → (cs : List Packet) → AllEncodable cs
    → items_of (payload_of (packet code csd1 csd2 ws ∷ cs)) ≡ placed 4 (packet code csd1 csd2 ws ∷ cs)
unfolding AllEncodable
every_command t code csd1 csd2 ws few words cs rest = t.items (packet code csd1 csd2 ws ∷ cs) (record { few = few; words32 = words }, rest)
