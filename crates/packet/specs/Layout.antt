-- 01, "From the packet up", 1: a payload is the signature and then commands.
use Rattle.std.specs.Prelude.{ℕ, ◌+◌, ◌*◌, ◌≤◌, ◌<◌, List, [], ◌∷◌, ◌++◌, length}
use Rattle.packet.specs.Bytes.{bytes_of}

-- a command packet: code, two command bytes, words
pub record Packet : Type 0 where
  pub code : ℕ
  pub csd1 : ℕ
  pub csd2 : ℕ
  pub words : List ℕ

abbrev pub packet : ℕ → ℕ → ℕ → List ℕ → Packet
packet code csd1 csd2 ws = record { code = code; csd1 = csd1; csd2 = csd2; words = ws }

abbrev pub signature : List ℕ
signature = 0x4D ∷ 0x49 ∷ 0x44 ∷ 0x49 ∷ []

-- its bytes: code, length in words, two command bytes, the words
abbrev pub encoded : Packet → List ℕ
encoded c = c.code ∷ length c.words ∷ c.csd1 ∷ c.csd2 ∷ bytes_of c.words

-- how many bytes that is
abbrev pub size_of : Packet → ℕ
size_of c = 4 + 4 * length c.words

-- commands one after the other
unfoldable pub encoded_all : List Packet → List ℕ
encoded_all [] = []
encoded_all (c ∷ cs) = encoded c ++ encoded_all cs

-- the whole payload of a list of commands: nothing, or the signature and then the commands
unfoldable pub payload_of : List Packet → List ℕ
payload_of [] = []
payload_of (c ∷ cs) = signature ++ encoded_all (c ∷ cs)

-- the words are 32-bit ones
unfoldable pub Words32 : List ℕ → Type 0
Words32 [] = Unit {0}
Words32 (w ∷ ws) = (w < 4294967296) × Words32 ws

-- a command that a payload can hold: at most 255 words
pub record Encodable (c : Packet) : Type 0 where
  pub few : length c.words ≤ 255
  pub words32 : Words32 c.words

unfoldable pub AllEncodable : List Packet → Type 0
AllEncodable [] = Unit {0}
AllEncodable (c ∷ cs) = Encodable c × AllEncodable cs
