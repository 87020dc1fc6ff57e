-- The turns of both ends, the halves of a step and the state, as the code hands them on: a payload in its buffer, and the lent histories beside the streams.
use Rattle.std.specs.Prelude.{ℕ, ◌*◌, ◌≤◌, List, take, Option}
use Rattle.command.specs.declared.retransmit.RetransmitError.{RetransmitError}
use Rattle.config.specs.declared.settings.StreamConfig.{StreamConfig}
use Rattle.packet.specs.Read.{items_of}
use Rattle.packet.specs.declared.writer.PayloadWriter.{PayloadWriter}
use Rattle.stream.specs.Ends.{send_answer, poll_answer}
use Rattle.stream.specs.Writing.{write_answer}
use Rattle.stream.specs.declared.stream.DataStream.{DataStream}
use Rattle.load.specs.Load.{words_of}
use Rattle.link_rules.specs.Arriving.{arrived_of, event_loss}
use Rattle.link_rules.specs.Link.{Ends, empty, blank, opened_by, payload_of, carried}
use Rattle.link_tally.specs.Tally.{tallied, unread}
use Rattle.link.specs.declared.turns.Turn.{Turn as Turned}
use Rattle.link.specs.declared.halves.Gone.{Gone}
use Rattle.link.specs.declared.halves.Come.{Come}
use Rattle.link.specs.declared.link.State.{State}

-- ---- a turn

-- an end after its turn: its stream, its lent history and the bytes of its payload
pub record Turn : Type 0 where
  pub stream : DataStream
  pub ring : List ℕ
  pub bytes : List ℕ

-- a payload with its buffer: empty, or with the error that waits
abbrev pub begun : Option RetransmitError → PayloadWriter × List ℕ
begun w = let o = opened_by w in (o.0.payload, o.1)

-- the stream and its history with what the load's value asks to send
abbrev pub queued_at : DataStream → StreamConfig → List ℕ → ℕ → DataStream × List ℕ
queued_at s cfg ring x = let q = send_answer s cfg ring (words_of x) in (q.0.stream, q.1)

unfoldable pub wrote_into : DataStream → StreamConfig → ℕ → List ℕ → PayloadWriter × List ℕ → Turn
wrote_into s cfg time ring p =
    let w = write_answer s cfg time p.0 p.1 ring in
    record { stream = w.0.stream; ring = w.2; bytes = payload_of w }

unfoldable pub console_of : DataStream → StreamConfig → ℕ → List ℕ → ℕ → Option RetransmitError → Turn
console_of s cfg time ring x waiting =
    let q = queued_at s cfg ring x in
    wrote_into q.0 cfg time q.1 (begun waiting)

-- the chamber has read
unfoldable pub chamber_of : DataStream → StreamConfig → ℕ → List ℕ → Turn
chamber_of s cfg time ring = wrote_into (poll_answer s cfg time).stream cfg time ring (empty, blank)

abbrev pub poll_loss : DataStream → StreamConfig → ℕ → ℕ
poll_loss s cfg time = event_loss (poll_answer s cfg time).answer

-- the first bytes of a buffer
unfoldable pub part_of : ℕ → List ℕ → List ℕ
part_of n buf = take n buf

abbrev pub turn_of : Turned → List ℕ → List ℕ → Turn
turn_of r buf ring = record { stream = r.stream; ring = ring; bytes = part_of r.len buf }

-- ---- the halves of a step

-- the console's turn, and what of it arrives at the chamber
unfoldable pub there_of : DataStream → DataStream → StreamConfig → ℕ → ℕ → ℕ → ℕ → Option RetransmitError → List ℕ → List ℕ → Gone × List ℕ
there_of console chamber cfg time x y figure waiting ring other =
    let c = console_of console cfg time ring x waiting in
    (record { console = c.stream; chamber = tallied (unread chamber) (arrived_of chamber cfg time other (carried figure y c.bytes)) }, c.ring)

-- the chamber's turn, and what of it arrives at the console
unfoldable pub back_of : DataStream → DataStream → StreamConfig → ℕ → List ℕ → List ℕ → Come × List ℕ
back_of console chamber cfg time ring other =
    let d = chamber_of chamber cfg time other in (
      record { console = tallied (unread console) (arrived_of console cfg time ring (items_of d.bytes)); chamber = d.stream; losses = poll_loss chamber cfg time },
      d.ring,
    )

-- ---- the state

-- with the steps done and the lent histories
abbrev pub ends_of : State → ℕ → List ℕ → List ℕ → Ends
ends_of s steps ring other =
    record {
      console = s.console;
      console_ring = ring;
      chamber = s.chamber;
      chamber_ring = other;
      waiting = s.waiting;
      load = s.load.last;
      line = s.line.last;
      steps = steps;
      handed = s.handed;
      losses = s.losses;
    }

-- the counts after so many steps
pub record Fits (s : State) (steps : ℕ) : Type 0 where
  pub handed : s.handed ≤ 1401 * steps
  pub losses : s.losses ≤ 1401 * steps
