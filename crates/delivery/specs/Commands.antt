-- 01, "From the packet up", 2: UMP Data FF, whose command bytes are the number. The data commands that reading bytes finds.
use Rattle.std.specs.Prelude.{ℕ, ◌+◌, ◌*◌, Bool, cond, List, [], ◌∷◌, eqb}
use Rattle.packet.specs.Layout.{Packet}
use Rattle.packet.specs.Read.{Item, whole, cut, items_of}

-- a data command
pub record Command : Type 0 where
  pub number : ℕ
  pub words : List ℕ

abbrev pub is_data : Packet → Bool
is_data c = eqb c.code 0xFF

abbrev pub command_of : Packet → Command
command_of c = record { number = c.csd1 * 256 + c.csd2; words = c.words }

unfoldable pub data_in : List Packet → List Command
data_in [] = []
data_in (c ∷ cs) = cond (is_data c) (command_of c ∷ data_in cs) (data_in cs)

-- the whole commands among the items of a payload
unfoldable pub wholes_in : List Item → List Packet
wholes_in [] = []
wholes_in (whole at c ∷ is) = c ∷ wholes_in is
wholes_in (cut h ∷ is) = wholes_in is

-- the data commands that reading these bytes finds, in order
unfoldable pub data_of : List ℕ → List Command
data_of bytes = data_in (wholes_in (items_of bytes))
