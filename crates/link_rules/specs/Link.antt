-- 02, 7/14, "Trying settings on a pretend link": a console, a line and a chamber in steps of 1 ms.
use Rattle.std.specs.Prelude.{ℕ, zero, suc, ◌+◌, ◌%◌, Bool, cond, ◌||◌, List, [], replicate, ltb, Option, Some, None, Result, Ok, Err, ⊤}
use Rattle.command.specs.declared.retransmit.RetransmitError.{RetransmitError}
use Rattle.link_rules.specs.declared.run.Report.{Report}
use Rattle.receiver.specs.declared.receiver.StreamEvent.{StreamEvent}
use Rattle.stream.specs.declared.stream.StreamAnswer.{StreamAnswer}
use Rattle.config.specs.Settings.{check_of, tested}
use Rattle.config.specs.declared.refusal.Refusal.{Refusal}
use Rattle.config.specs.declared.refusal.Refusal.TheVariants.{SizeNotAllowed}
use Rattle.config.specs.declared.settings.StreamConfig.{StreamConfig}
use Rattle.packet.specs.Read.{Item, items_of}
use Rattle.packet.specs.Write.{bytes_in}
use Rattle.packet.specs.declared.writer.PayloadWriter.{PayloadWriter}
use Rattle.packet.specs.declared.writer.Wrote.{Wrote as Opened}
use Rattle.command.specs.Write.{error_written}
use Rattle.stream.specs.State.{fresh}
use Rattle.stream.specs.Answers.{sizes_out}
use Rattle.stream.specs.Ends.{send_answer, poll_answer}
use Rattle.stream.specs.Writing.{write_answer}
use Rattle.stream.specs.declared.stream.DataStream.{DataStream}
use Rattle.stream.specs.declared.stream.Wrote.{Wrote}
use Rattle.load.specs.Load.{next, words_of}
use Rattle.link_rules.specs.Arriving.{Arrived, arrived_of, handed_in, losses_in, event_loss, error_in}

-- ---- what there is before a step

-- both ends, each a stream with its lent history
pub record Ends : Type 0 where
  pub console : DataStream
  pub console_ring : List ℕ
  pub chamber : DataStream
  pub chamber_ring : List ℕ
  -- the error that stands first in the console's next payload
  pub waiting : (Option RetransmitError)
  -- the last values drawn, at first the seeds
  pub load : ℕ
  pub line : ℕ
  -- what is reported
  pub steps : ℕ
  pub handed : ℕ
  pub losses : ℕ

-- both ends start fresh, and the first step is at time 0
abbrev pub start_of : ℕ → ℕ → ℕ → ℕ → ℕ → Ends
start_of window words places seed drop =
    record {
      console = fresh window words places;
      console_ring = replicate words 0;
      chamber = fresh window words places;
      chamber_ring = replicate words 0;
      waiting = None;
      load = seed;
      line = drop;
      steps = 0;
      handed = 0;
      losses = 0;
    }

-- ---- payloads

-- limits are 1,400 bytes
abbrev pub limit : ℕ
limit = 1400

abbrev pub empty : PayloadWriter
empty = record { len = 0; max = limit }

abbrev pub blank : List ℕ
blank = replicate limit 0

-- a payload with its buffer: empty, or with the error that waits
abbrev pub opened_by : Option RetransmitError → Opened × List ℕ
opened_by None = (record { payload = empty; answer = Ok tt }, blank)
opened_by (Some e) = error_written e empty blank

-- the bytes that a write leaves in its payload
abbrev pub payload_of : Wrote × List ℕ × List ℕ → List ℕ
payload_of w = bytes_in w.0.payload w.1

-- the line drops a payload when its draw modulo 256 is below the figure, and else carries it
abbrev pub carried : ℕ → ℕ → List ℕ → List Item
carried figure draw bytes = cond (ltb (draw % 256) figure) [] (items_of bytes)

-- ---- a step

-- The calls of a step, in order, each with what it answers and leaves. A refused call changes nothing, and so words that are refused with 6 are dropped (no call of a
-- run is refused: `NoneRefused`).
pub record Calls : Type 0 where
  -- the console queues the load's words,
  pub queued : StreamAnswer ⊤ × List ℕ
  -- opens a payload, in which an error that waits stands first,
  pub opened : Opened × List ℕ
  -- and writes
  pub wrote : Wrote × List ℕ × List ℕ
  -- the chamber reads what the line carries,
  pub heard : Arrived
  -- polls
  pub polled : (StreamAnswer (Option StreamEvent))
  -- and writes
  pub replied : Wrote × List ℕ × List ℕ
  -- and the console reads that
  pub read : Arrived

-- a step is at the time of the steps done before it, and draws from each seed once
unfoldable pub calls_of : StreamConfig → ℕ → Ends → Calls
calls_of cfg figure e =
    let time : ℕ = e.steps in
    let queued = send_answer e.console cfg e.console_ring (words_of (next e.load)) in
    let opened = opened_by e.waiting in
    let wrote = write_answer queued.0.stream cfg time opened.0.payload opened.1 queued.1 in
    let heard = arrived_of e.chamber cfg time e.chamber_ring (carried figure (next e.line) (payload_of wrote)) in
    let polled = poll_answer heard.stream cfg time in
    let replied = write_answer polled.stream cfg time empty blank e.chamber_ring in
    let read = arrived_of wrote.0.stream cfg time wrote.2 (items_of (payload_of replied)) in
    record { queued = queued; opened = opened; wrote = wrote; heard = heard; polled = polled; replied = replied; read = read }

-- an error the console answers waits for its next payload; commands handed on and losses are the chamber's
unfoldable pub step_of : StreamConfig → ℕ → Ends → Ends
step_of cfg figure e =
    let c = calls_of cfg figure e in
    record {
      console = c.read.stream;
      console_ring = c.wrote.2;
      chamber = c.replied.0.stream;
      chamber_ring = c.replied.2;
      waiting = error_in None c.read.answers;
      load = next e.load;
      line = next e.line;
      steps = e.steps + 1;
      handed = e.handed + handed_in c.heard.answers;
      losses = e.losses + losses_in c.heard.answers + event_loss c.polled.answer;
    }

-- ---- a run

-- after so many steps
unfoldable pub run_of : StreamConfig → ℕ → Ends → ℕ → Ends
run_of cfg figure e zero = e
run_of cfg figure e (suc n) = step_of cfg figure (run_of cfg figure e n)

-- the largest step budget
abbrev pub most_steps : ℕ
most_steps = 65536

-- sizes that a start does not take, with either lent history, or a budget above 65,536: 12
abbrev pub refuses_sizes : ℕ → ℕ → ℕ → ℕ → List ℕ → List ℕ → Bool
refuses_sizes window words places budget ring other =
    sizes_out window words places ring || (sizes_out window words places other || ltb most_steps budget)

-- steps done, commands handed on and losses reported, with both lent histories
abbrev pub report_of : Ends → Result Report Refusal × List ℕ × List ℕ
report_of e = (Ok record { steps = e.steps; handed = e.handed; losses = e.losses }, e.console_ring, e.chamber_ring)

-- 9, 7, 8, then 12; a run that is refused changes nothing
unfoldable pub run_answer : StreamConfig → ℕ → ℕ → ℕ → ℕ → ℕ → ℕ → ℕ → List ℕ → List ℕ → Result Report Refusal × List ℕ × List ℕ
run_answer cfg window words places seed drop figure budget ring other =
    tested (check_of cfg) (λ (why : Refusal). (Err why, ring, other))
    (cond (refuses_sizes window words places budget ring other) (Err SizeNotAllowed, ring, other)
    (report_of (run_of cfg figure (start_of window words places seed drop) budget)))
