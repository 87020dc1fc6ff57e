-- 01, "Numbers of each operation", Read, as numbers: what stands at a place of a payload, with the command's words and the lengths of its messages.
use Rattle.std.specs.Prelude.{ℕ, cond, not, ◌||◌, List, length, eqb, ltb, Result, Ok, Err}
use Rattle.config.specs.declared.refusal.Refusal.{Refusal}
use Rattle.config.specs.Refusals.{number_of}
use Rattle.config.specs.declared.refusal.Refusal.TheVariants.{BadSignature, InvalidState}
use Rattle.packet.specs.Bytes.{words_of, spliced}
use Rattle.packet.specs.Read.{csd_of, signed, next_of, body_of}
use Rattle.packet.specs.declared.cursor.Header.{Header}
use Rattle.packet.specs.declared.cursor.PacketItem.{PacketItem}
use Rattle.packet.specs.declared.cursor.PacketItem.TheVariants.{Command as WholeCommand, Truncated, End}
use Rattle.command.specs.Parse.{parsed_of}
use Rattle.command.specs.declared.parse.Command.{Command}
use Rattle.command.specs.declared.parse.Command.TheVariants.{UmpData, RetransmitRequest, RetransmitError, Raw}
use Rattle.read_command.specs.Words.{whole_count, lengths_of}
use Rattle.read_command.specs.declared.next.Read.{Read}

abbrev pub read_of : ℕ → ℕ → ℕ → ℕ → ℕ → ℕ → Read
read_of next kind code len seq count = record { next = next; refusal = 0; kind = kind; code = code; len = len; seq = seq; count = count }

-- a refusal has 0 in every other field
abbrev pub refused_read : ℕ → Read
refused_read n = record { next = 0; refusal = n; kind = 0; code = 0; len = 0; seq = 0; count = 0 }

-- 0 stands for the first command
abbrev pub first_of : ℕ → ℕ
first_of at = cond (eqb at 0) 4 at

-- what a command of `len` words is, and of data how many words its whole messages have; 10 when a Request or Error has no word, and reading goes on
abbrev pub command_read : ℕ → ℕ → ℕ → Result Command Refusal → Read
command_read len next whole (Ok (UmpData d)) = read_of next 3 0 len d.seq whole
command_read len next whole (Ok (RetransmitRequest r)) = read_of next 4 0 len r.seq r.count
command_read len next whole (Ok (RetransmitError e)) = read_of next 5 e.reason len e.seq 0
command_read len next whole (Ok (Raw h)) = read_of next 2 h.code len (csd_of h) 0
command_read len next whole (Err why) = record { next = next; refusal = number_of why; kind = 0; code = 0; len = len; seq = 0; count = 0 }

-- a whole command with its words: these come to the front of `words`, and of UMP Data, FF, the lengths of its whole messages to the front of `lens`
unfoldable pub whole_read : Header → ℕ → List ℕ → List ℕ → List ℕ → Read × List ℕ × List ℕ
whole_read h next ws words lens =
    (command_read h.len next (whole_count ws) (parsed_of h ws), spliced words 0 ws, cond (eqb h.code 0xFF) (spliced lens 0 (lengths_of ws)) lens)

-- a cut command has its header alone
abbrev pub item_read : PacketItem → List ℕ → List ℕ → List ℕ → Read × List ℕ × List ℕ
item_read End b words lens = (refused_read 0, words, lens)
item_read (Truncated h) b words lens = (read_of 0 1 h.code h.len (csd_of h) 0, words, lens)
item_read (WholeCommand h place next) b words lens = whole_read h next.at (words_of (body_of b place h)) words lens

-- 13 when an array has no room for the longest command; 1 when the payload does not begin with the signature
unfoldable pub read_at : List ℕ → ℕ → List ℕ → List ℕ → Read × List ℕ × List ℕ
read_at b at words lens =
    cond (ltb (length words) 255 || ltb (length lens) 255) (refused_read (number_of InvalidState), words, lens)
    (cond (not (eqb at 0) || signed b) (item_read (next_of b (first_of at)) b words lens)
    (refused_read (number_of BadSignature), words, lens))
