-- 01, "The runs of demand 3": the commands that a write adds to a payload, and the positions that they open, read off its bytes.
use Rattle.std.specs.Prelude.{ℕ, ◌+◌, ◌*◌, ◌%◌, Bool, cond, ◌&&◌, List, [], ◌∷◌, length, drop, eqb}
use Rattle.config.specs.Sequence.{turn}
use Rattle.packet.specs.Layout.{Packet}
use Rattle.packet.specs.Read.{Item, whole, cut, items_from}
use Rattle.packet.specs.Write.{start_of, bytes_in}
use Rattle.packet.specs.declared.writer.PayloadWriter.{PayloadWriter}

-- the items that reading finds behind what the payload held before the write
unfoldable pub items_added : PayloadWriter → PayloadWriter → List ℕ → List Item
items_added p p' by' = items_from (length by') (start_of p) (drop (start_of p) (bytes_in p' by'))

-- the whole commands among items
unfoldable pub wholes_in : List Item → List Packet
wholes_in [] = []
wholes_in (whole at c ∷ is) = c ∷ wholes_in is
wholes_in (cut h ∷ is) = wholes_in is

abbrev pub added_in : PayloadWriter → PayloadWriter → List ℕ → List Packet
added_in p p' by' = wholes_in (items_added p p' by')

-- a data command whose number is the count of positions so far, modulo 65,536, opens the next
abbrev pub opens_next : ℕ → Packet → Bool
opens_next count c = eqb c.code 0xFF && eqb (c.csd1 * 256 + c.csd2) (count % turn)

-- how many positions commands open
unfoldable pub opens_in : ℕ → List Packet → ℕ
opens_in count [] = 0
opens_in count (c ∷ cs) = cond (opens_next count c) (1 + opens_in (count + 1) cs) (opens_in count cs)
