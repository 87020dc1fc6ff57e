-- 01, "From the packet up", 2: UMP Data FF; the command bytes are the 16-bit number.
use Rattle.std.specs.Prelude.{ℕ, ◌/◌, ◌%◌, List}
use Rattle.packet.specs.Layout.{Packet, packet}
use Rattle.history.specs.Headers.{number_at, words_at}

-- a data command
abbrev pub data_packet : ℕ → List ℕ → Packet
data_packet n ws = packet 0xFF (n / 256) (n % 256) ws

-- the entry whose header stands at place i, as a data command
unfoldable pub entry_packet : List ℕ → ℕ → Packet
entry_packet b i = data_packet (number_at b i) (words_at b i)
