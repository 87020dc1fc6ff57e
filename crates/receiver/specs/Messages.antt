-- 01, "The runs of demand 3", Handed on: the words of a heard command, when it is answered New or Late.
-- "Numbers of each operation", Read: data ending inside a message gives its whole messages and a cut mark.
use Rattle.std.specs.Prelude.{ℕ, ◌*◌, Bool, true, false, cond, ◌&&◌, List, [], length, take}
use Rattle.packet.specs.Bytes.{words_of}
use Rattle.command.specs.Messages.{messages_of, whole_words}
use Rattle.window.specs.declared.window.Class.{Class}
use Rattle.window.specs.declared.window.Class.TheVariants.{New, Late, Duplicate}

abbrev pub hands_on : Class → Bool
hands_on (New gap) = true
hands_on Late = true
hands_on Duplicate = false

-- of a command's words
unfoldable pub handed_words : Class → List ℕ → List ℕ
handed_words class ws = cond (hands_on class) (whole_words ws) []

-- of a command's bytes: four for each of those words
unfoldable pub handed_bytes : Class → List ℕ → List ℕ
handed_bytes class bytes = cond (hands_on class) (take (4 * length (whole_words (words_of bytes))) bytes) []

-- the cut mark of what is handed on
unfoldable pub handed_cut : Class → List ℕ → Bool
handed_cut class bytes = hands_on class && (messages_of (words_of bytes)).cut
