-- 02, 7/14: an end reads a payload. Data is heard, a Retransmit Request is answered, a Retransmit Error is told; other commands pass.
use Rattle.std.specs.Prelude.{ℕ, ◌+◌, Bool, false, cond, ◌||◌, List, [], ◌∷◌, ◌++◌, length, Option, Some, None, Result, Ok, Err}
use Rattle.config.specs.declared.refusal.Refusal.{Refusal}
use Rattle.receiver.specs.declared.receiver.Delivery.{Delivery}
use Rattle.window.specs.declared.window.SeqRange.{SeqRange}
use Rattle.config.specs.declared.settings.StreamConfig.{StreamConfig}
use Rattle.packet.specs.Layout.{Packet}
use Rattle.packet.specs.Read.{header, Item, whole, cut}
use Rattle.command.specs.Parse.{parsed_of}
use Rattle.command.specs.declared.retransmit.RetransmitError.{RetransmitError as ErrorCommand}
use Rattle.command.specs.declared.parse.Command.{Command}
use Rattle.command.specs.declared.parse.Command.TheVariants.{UmpData, RetransmitRequest, RetransmitError, Raw}
use Rattle.receiver.specs.Receiver.{is_gap}
use Rattle.receiver.specs.Messages.{hands_on}
use Rattle.receiver.specs.declared.receiver.StreamEvent.{StreamEvent}
use Rattle.receiver.specs.declared.receiver.StreamEvent.TheVariants.{DataLoss, ErrorLoss, RetransmitError as ErrorOnly}
use Rattle.sender.specs.declared.sender.RequestOutcome.{RequestOutcome}
use Rattle.sender.specs.declared.sender.RequestOutcome.TheVariants.{Queued, Ignored, Error, NotSupported}
use Rattle.stream.specs.Ends.{data_answer, request_answer, error_answer}
use Rattle.stream.specs.declared.stream.DataStream.{DataStream}

-- ---- what a payload's commands do

-- what an end answers to a command
pub data Answer : Type 0 where
  heard : Result Delivery Refusal → Answer
  told : Result (Option StreamEvent) Refusal → Answer
  requested : Result RequestOutcome Refusal → Answer

-- the end's stream and what it answered, in order
pub record Arrived : Type 0 where
  pub stream : DataStream
  pub answers : List Answer

abbrev pub nothing : DataStream → Arrived
nothing s = record { stream = s; answers = [] }

abbrev pub command_of : Packet → Result Command Refusal
command_of c = parsed_of (header c.code (length c.words) c.csd1 c.csd2) c.words

abbrev pub arrived_by : DataStream → StreamConfig → ℕ → List ℕ → Result Command Refusal → Arrived
arrived_by s cfg time ring (Ok (UmpData d)) =
    let h = data_answer s cfg time d.seq in record { stream = h.stream; answers = heard h.answer ∷ [] }
arrived_by s cfg time ring (Ok (RetransmitRequest q)) =
    let h = request_answer s cfg ring q in record { stream = h.stream; answers = requested h.answer ∷ [] }
arrived_by s cfg time ring (Ok (RetransmitError e)) =
    let h = error_answer s e in record { stream = h.stream; answers = told h.answer ∷ [] }
arrived_by s cfg time ring (Ok (Raw h)) = nothing s
arrived_by s cfg time ring (Err why) = nothing s

abbrev pub item_by : DataStream → StreamConfig → ℕ → List ℕ → Item → Arrived
item_by s cfg time ring (whole at c) = arrived_by s cfg time ring (command_of c)
item_by s cfg time ring (cut h) = nothing s

abbrev pub behind : List Answer → Arrived → Arrived
behind before a = record { stream = a.stream; answers = before ++ a.answers }

-- a payload's items, one after the other, at `time`
unfoldable pub arrived_of : DataStream → StreamConfig → ℕ → List ℕ → List Item → Arrived
arrived_of s cfg time ring [] = nothing s
arrived_of s cfg time ring (i ∷ items) =
    let a = item_by s cfg time ring i in
    behind a.answers (arrived_of a.stream cfg time ring items)

-- ---- what is counted of the answers

-- commands handed on: those answered New or Late
abbrev pub handed_by : Answer → ℕ
handed_by (heard (Ok d)) = cond (hands_on d.class) 1 0
handed_by (heard (Err why)) = 0
handed_by (told e) = 0
handed_by (requested o) = 0

unfoldable pub handed_in : List Answer → ℕ
handed_in [] = 0
handed_in (a ∷ rest) = handed_by a + handed_in rest

-- losses reported, each once, however many numbers it has
abbrev pub span_loss : Option SeqRange → ℕ
span_loss None = 0
span_loss (Some range) = 1

abbrev pub event_loss : Result (Option StreamEvent) Refusal → ℕ
event_loss (Ok None) = 0
event_loss (Ok (Some (DataLoss range))) = 1
event_loss (Ok (Some (ErrorLoss range e))) = 1
event_loss (Ok (Some (ErrorOnly e))) = 0
event_loss (Err why) = 0

abbrev pub loss_by : Answer → ℕ
loss_by (heard (Ok d)) = span_loss d.lost
loss_by (heard (Err why)) = 0
loss_by (told e) = event_loss e
loss_by (requested o) = 0

unfoldable pub losses_in : List Answer → ℕ
losses_in [] = 0
losses_in (a ∷ rest) = loss_by a + losses_in rest

-- a new gap is among them
abbrev pub gap_by : Answer → Bool
gap_by (heard (Ok d)) = is_gap d.class
gap_by (heard (Err why)) = false
gap_by (told e) = false
gap_by (requested o) = false

unfoldable pub gap_in : List Answer → Bool
gap_in [] = false
gap_in (a ∷ rest) = gap_by a || gap_in rest

-- The error answered waits for the next payload, the last of several; but a stream writes at most one request into a payload. NotSupported sends nothing.
abbrev pub error_by : Option ErrorCommand → Answer → Option ErrorCommand
error_by w (heard h) = w
error_by w (told e) = w
error_by w (requested (Ok Queued)) = w
error_by w (requested (Ok (Ignored why))) = w
error_by w (requested (Ok (Error e))) = Some e
error_by w (requested (Ok NotSupported)) = w
error_by w (requested (Err why)) = w

unfoldable pub error_in : Option ErrorCommand → List Answer → Option ErrorCommand
error_in w [] = w
error_in w (a ∷ rest) = error_in (error_by w a) rest
