-- Lists of write calls into one payload, and what reading it then finds.
use Rattle.std.specs.Prelude.{◌≡◌, List, [], ◌∷◌, ◌++◌, ℕ, ◌<◌, length, drop, Result, Ok, Err, ⊤}
use Rattle.config.specs.declared.refusal.Refusal.{Refusal}
use Rattle.packet.specs.Layout.{Packet, packet, Words32}
use Rattle.packet.specs.Read.{items_of, placed}
use Rattle.packet.specs.Write.{opened_of, written_of, bytes_in}
use Rattle.packet.specs.declared.writer.PayloadWriter.{PayloadWriter}
use Rattle.packet.specs.declared.writer.Wrote.{Wrote}
use Rattle.command.specs.Write.{data_packet, request_packet, error_packet, error_written, data_written}
use Rattle.command.specs.declared.retransmit.RetransmitRequest.{RetransmitRequest}
use Rattle.command.specs.declared.retransmit.RetransmitError.{RetransmitError}

-- a write call with its arguments
pub data Call : Type 0 where
  raw : ℕ → ℕ → ℕ → List ℕ → Call
  ump_data : ℕ → List ℕ → Call
  request : RetransmitRequest → Call
  error : RetransmitError → Call

-- the answer, the payload and the buffer after a call
abbrev pub call_of : Call → PayloadWriter → List ℕ → Wrote × List ℕ
call_of (raw code csd1 csd2 ws) p b = written_of p b (packet code csd1 csd2 ws)
call_of (ump_data seq ws) p b = data_written p b seq ws
call_of (request q) p b = written_of p b (request_packet q)
call_of (error e) p b = error_written e p b

-- the command that it writes where it is accepted
abbrev pub command_of : Call → Packet
command_of (raw code csd1 csd2 ws) = packet code csd1 csd2 ws
command_of (ump_data seq ws) = data_packet seq ws
command_of (request q) = request_packet q
command_of (error e) = error_packet e

-- the arguments lie in their types: 32-bit words, 16-bit counts and numbers
unfoldable pub Typed : Call → Type 0
Typed (raw code csd1 csd2 ws) = Words32 ws
Typed (ump_data seq ws) = Words32 ws
Typed (request q) = q.count < 65536
Typed (error e) = e.seq < 65536

unfoldable pub AllTyped : List Call → Type 0
AllTyped [] = Unit {0}
AllTyped (c ∷ cs) = Typed c × AllTyped cs

-- the payload, the buffer and the accepted commands, in order, after a list of calls; each takes the payload as the last left it
pub record Run : Type 0 where
  pub payload : PayloadWriter
  pub buffer : List ℕ
  pub accepted : List Packet

abbrev pub accepts : Result ⊤ Refusal → List Packet → Packet → List Packet
accepts (Ok _) cs c = cs ++ (c ∷ [])
accepts (Err r) cs c = cs

unfoldable pub run : List Call → PayloadWriter → List ℕ → List Packet → Run
run [] p b cs = record { payload = p; buffer = b; accepted = cs }
run (c ∷ calls) p b cs =
    run calls (call_of c p b).0.payload (call_of c p b).1 (accepts (call_of c p b).0.answer cs (command_of c))

-- For every list of calls into a payload that was opened empty, in any mix and with any refusals between: reading the payload's
-- bytes gives exactly the accepted commands, in order, each at its place and none cut; so as many as were accepted.
pub record RoundTrip (r : Run) : Type 0 where
  pub read_back : items_of (bytes_in r.payload r.buffer) ≡ placed 4 r.accepted
  pub counted : length (items_of (bytes_in r.payload r.buffer)) ≡ length r.accepted

abbrev pub RoundTrips : Type 0
RoundTrips =
    (max : ℕ) (p : PayloadWriter) (b : List ℕ) (calls : List Call)
    → opened_of max ≡ Ok p → AllTyped calls → RoundTrip (run calls p b [])

-- No call, refused or not, touches a byte at or past the new length, nor one below the old length.
-- (An empty payload's old length is 0: its signature is written with the first command.)
pub record Untouched : Type 0 where
  pub after : (c : Call) (p : PayloadWriter) (b : List ℕ)
      → drop (call_of c p b).0.payload.len (call_of c p b).1 ≡ drop (call_of c p b).0.payload.len b
  pub before : (c : Call) (p : PayloadWriter) (b : List ℕ) → bytes_in p (call_of c p b).1 ≡ bytes_in p b
  pub same_length : (c : Call) (p : PayloadWriter) (b : List ℕ) → length (call_of c p b).1 ≡ length b
