-- 01, "From the packet up", 2: the layouts; "Write one command": 11, 5, then as any command.
use Rattle.std.specs.Prelude.{ℕ, ◌*◌, ◌/◌, ◌%◌, Bool, cond, not, ◌||◌, List, [], ◌∷◌, length, leb, ltb}
use Rattle.config.specs.declared.refusal.Refusal.TheVariants.{InvalidUmpData, ReasonNotAllowed, InvalidState}
use Rattle.packet.specs.Layout.{Packet, packet}
use Rattle.packet.specs.Write.{valid_of, refused_of, written_of}
use Rattle.packet.specs.declared.writer.PayloadWriter.{PayloadWriter}
use Rattle.packet.specs.declared.writer.Wrote.{Wrote}
use Rattle.command.specs.Messages.{whole_of}
use Rattle.command.specs.declared.retransmit.RetransmitRequest.{RetransmitRequest}
use Rattle.command.specs.declared.retransmit.RetransmitError.{RetransmitError}

-- UMP Data FF: the command bytes are the 16-bit number
abbrev pub data_packet : ℕ → List ℕ → Packet
data_packet seq ws = packet 0xFF (seq / 256) (seq % 256) ws

-- Retransmit Request 80: number, then a word with the count in its upper half
abbrev pub request_packet : RetransmitRequest → Packet
request_packet q = packet 0x80 (q.seq / 256) (q.seq % 256) (q.count * 65536 ∷ [])

-- Retransmit Error 81: reason, 0, then a word with a number in its upper half
abbrev pub error_packet : RetransmitError → Packet
error_packet e = packet 0x81 e.reason 0 (e.seq * 65536 ∷ [])

-- M2-124-UM defines the reasons 00 unknown, 01 NOT_IN_BUFFER
abbrev pub is_defined : RetransmitError → Bool
is_defined e = leb e.reason 1

-- 11 error reason that isn't defined
unfoldable pub error_written : RetransmitError → PayloadWriter → List ℕ → Wrote × List ℕ
error_written e p b =
    cond (not (valid_of p (length b))) (refused_of p InvalidState, b)
    (cond (not (is_defined e)) (refused_of p ReasonNotAllowed, b)
    (written_of p b (error_packet e)))

-- 5 data over 64 words or ending inside a message
unfoldable pub data_written : PayloadWriter → List ℕ → ℕ → List ℕ → Wrote × List ℕ
data_written p b seq ws =
    cond (not (valid_of p (length b))) (refused_of p InvalidState, b)
    (cond (ltb 64 (length ws) || not (whole_of ws)) (refused_of p InvalidUmpData, b)
    (written_of p b (data_packet seq ws)))
