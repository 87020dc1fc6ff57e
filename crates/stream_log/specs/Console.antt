-- 01, "The runs of demand 3": a stream with its payloads, as an end of the line (crate delivery). A stream's write into a payload counts as the writing of a due request
-- into it, where one is taken, and then the sender's write.
use Rattle.std.specs.Prelude.{ℕ, ◌≡◌, Bool, cond, false, List, [], ◌∷◌, ◌++◌, ltb, length, get_or, set, Option, Some, None, Result, Ok, Err}
use Rattle.command.specs.declared.retransmit.RetransmitRequest.{RetransmitRequest}
use Rattle.config.specs.declared.refusal.Refusal.{Refusal}
use Rattle.config.specs.declared.settings.StreamConfig.{StreamConfig}
use Rattle.packet.specs.Write.{valid_of as payload_valid}
use Rattle.command.specs.Calls.{request, command_of, Typed as WriteTyped}
use Rattle.command.specs.Calls as Writes
use Rattle.receiver.specs.Answers as receiver
use Rattle.receiver.specs.declared.receiver.Request.{Request}
use Rattle.receiver.specs.declared.receiver.Request.TheVariants.{Nothing as NotDue, Written as Taken, More as NoSpace}
use Rattle.receiver.specs.declared.receiver.RequestWritten.{RequestWritten}
use Rattle.sender_log.specs.Calls.{TypedConfig}
use Rattle.delivery.specs.Commands.{is_data}
use Rattle.delivery.specs.Console.{Lent, no_payload, fresh_console, AllAllowed}
use Rattle.delivery.specs.Console as Delivery
use Rattle.stream.specs.Ends.{take_answer}
use Rattle.stream.specs.Answers.{new_answer}
use Rattle.stream.specs.Writing.{write_answer}
use Rattle.stream.specs.declared.stream.DataStream.{DataStream}
use Rattle.stream_log.specs.Calls.{send_ump, on_retransmit_request, on_ump_data, on_retransmit_error, on_retransmit_nak, poll, write_request, write_data, next_deadline, wants_write, reset, Typed, AllTyped}
use Rattle.stream_log.specs.Calls as Stream
use Rattle.stream_log.specs.Promise.{Started}

-- each argument is free; a payload's name is how many were opened before it
pub data Call : Type 0 where
  -- limit, lent buffer
  open_payload : ℕ → List ℕ → Call
  -- the caller does as it likes with the bytes past a payload's length, and with the buffer's length
  lend_again : ℕ → List ℕ → Call
  -- payload, and a call that writes one command into it: a request, an error, a raw command
  put_in : ℕ → Writes.Call → Call
  -- payload, settings: write_request
  request_into : ℕ → StreamConfig → Call
  -- payload, settings, time: write_data
  write_into : ℕ → StreamConfig → ℕ → Call
  -- any call of the stream that is given none of these payloads
  on_stream : Stream.Call → Call

pub record Console : Type 0 where
  pub stream : DataStream
  pub ring : List ℕ
  pub payloads : List Lent

abbrev pub is_open : Console → ℕ → Bool
is_open c k = ltb k (length c.payloads)

abbrev pub payload_at : Console → ℕ → Lent
payload_at c k = get_or c.payloads k no_payload

-- its sender with the payloads: a console of crate delivery
abbrev pub sending_end : Console → Delivery.Console
sending_end c = record { sender = c.stream.sender; ring = c.ring; payloads = c.payloads }

-- ---- what a call leaves

-- a call on the payloads alone is crate delivery's
abbrev pub on_payloads : Console → Delivery.Call → Console
on_payloads c call = record { stream = c.stream; ring = c.ring; payloads = (Delivery.step_of (sending_end c) call).console.payloads }

unfoldable pub step_of : Console → Call → Console
step_of c (open_payload limit buffer) = on_payloads c (Delivery.open_payload limit buffer)
step_of c (lend_again k rest) = on_payloads c (Delivery.lend_again k rest)
step_of c (put_in k call) = on_payloads c (Delivery.put_in k call)
step_of c (request_into k cfg) =
    let v = payload_at c k in
    let h = take_answer c.stream cfg v.payload v.buffer in
    cond (is_open c k) (record { stream = h.0.stream; ring = c.ring; payloads = set c.payloads k record { payload = h.0.payload; buffer = h.1 } }) c
step_of c (write_into k cfg time) =
    let v = payload_at c k in
    let h = write_answer c.stream cfg time v.payload v.buffer c.ring in
    cond (is_open c k) (record { stream = h.0.stream; ring = h.2; payloads = set c.payloads k record { payload = h.0.payload; buffer = h.1 } }) c
step_of c (on_stream call) =
    let x = Stream.step_of c.stream c.ring call in
    record { stream = x.stream; ring = x.ring; payloads = c.payloads }

-- ---- the stream's calls among them

abbrev pub of_stream : Console → Call → List Stream.Call
of_stream c (open_payload limit buffer) = []
of_stream c (lend_again k rest) = []
of_stream c (put_in k call) = []
of_stream c (request_into k cfg) = let v = payload_at c k in cond (is_open c k) (write_request cfg v.payload v.buffer ∷ []) []
of_stream c (write_into k cfg time) = let v = payload_at c k in cond (is_open c k) (write_data cfg time v.payload v.buffer ∷ []) []
of_stream c (on_stream call) = call ∷ []

-- ---- the calls of crate delivery's console that they count as

-- the request that was written
abbrev pub put_by : ℕ → Result Request Refusal → Option RetransmitRequest → List Delivery.Call
put_by k (Ok Taken) (Some q) = Delivery.put_in k (request q) ∷ []
put_by k (Ok Taken) None = []
put_by k (Ok NotDue) asked = []
put_by k (Ok NoSpace) asked = []
put_by k (Err why) asked = []

-- unless the request is refused or finds no space
abbrev pub unless_cut : Result Request Refusal → Delivery.Call → List Delivery.Call
unless_cut (Ok NotDue) call = call ∷ []
unless_cut (Ok Taken) call = call ∷ []
unless_cut (Ok NoSpace) call = []
unless_cut (Err why) call = []

-- taking a due request into payload k
abbrev pub taken_into : Console → ℕ → StreamConfig → RequestWritten × List ℕ
taken_into c k cfg = let v = payload_at c k in receiver.take_answer c.stream.receiver cfg v.payload v.buffer

-- a write into a payload that isn't valid is refused before its sender is called
abbrev pub of_sender : Stream.Call → List Delivery.Call
of_sender (send_ump cfg ws) = Delivery.queue_words cfg ws ∷ []
of_sender (on_retransmit_request cfg r) = Delivery.retransmit_request cfg r ∷ []
of_sender (on_ump_data cfg time seq ws) = []
of_sender (on_retransmit_error err) = []
of_sender on_retransmit_nak = []
of_sender (poll cfg time) = []
of_sender (write_request cfg p b) = []
of_sender (write_data cfg time p b) = []
of_sender next_deadline = []
of_sender (wants_write time) = []
of_sender reset = []

abbrev pub of_console : Console → Call → List Delivery.Call
of_console c (open_payload limit buffer) = Delivery.open_payload limit buffer ∷ []
of_console c (lend_again k rest) = Delivery.lend_again k rest ∷ []
of_console c (put_in k call) = Delivery.put_in k call ∷ []
of_console c (request_into k cfg) = let t = taken_into c k cfg in cond (is_open c k) (put_by k t.0.answer t.0.receiver.asked) []
of_console c (write_into k cfg time) =
    let t = taken_into c k cfg in
    cond (is_open c k) (put_by k t.0.answer t.0.receiver.asked ++ unless_cut t.0.answer (Delivery.write_into k cfg time)) []
of_console c (on_stream call) = of_sender call

-- ---- lists of calls

-- what is left, the stream's calls, and those of crate delivery's console, in order
pub record Run : Type 0 where
  pub console : Console
  pub called : List Stream.Call
  pub sent : List Delivery.Call

unfoldable pub run_from : Console → List Call → Run
run_from c [] = record { console = c; called = []; sent = [] }
run_from c (call ∷ calls) =
    let rest = run_from (step_of c call) calls in
    record { console = rest.console; called = of_stream c call ++ rest.called; sent = of_console c call ++ rest.sent }

-- a call of the stream that is given none of the payloads: a write's isn't valid, and nothing is reset
abbrev pub Aside : Stream.Call → Type 0
Aside (send_ump cfg ws) = Unit {0}
Aside (on_retransmit_request cfg r) = Unit {0}
Aside (on_ump_data cfg time seq ws) = Unit {0}
Aside (on_retransmit_error err) = Unit {0}
Aside on_retransmit_nak = Unit {0}
Aside (poll cfg time) = Unit {0}
Aside (write_request cfg p b) = Unit {0}
Aside (write_data cfg time p b) = payload_valid p (length b) ≡ false
Aside next_deadline = Unit {0}
Aside (wants_write time) = Unit {0}
Aside reset = ⊥

-- arguments lie in their types, and no other call writes a data command
abbrev pub Allowed : Call → Type 0
Allowed (open_payload limit buffer) = Unit {0}
Allowed (lend_again k rest) = Unit {0}
Allowed (put_in k call) = WriteTyped call × (is_data (command_of call) ≡ false)
Allowed (request_into k cfg) = Unit {0}
Allowed (write_into k cfg time) = TypedConfig cfg
Allowed (on_stream call) = Typed call × Aside call

abbrev pub EachAllowed : List Call → Type 0
EachAllowed [] = Unit {0}
EachAllowed (call ∷ calls) = Allowed call × EachAllowed calls

-- ---- an end of the line

-- any fresh stream, no payload open, with any list of calls; nothing is reset or started again
pub record End : Type 0 where
  pub settings : StreamConfig
  pub window : ℕ
  pub words : ℕ
  pub places : ℕ
  pub ring₀ : List ℕ
  pub started : Started settings window words places ring₀
  pub calls : List Call
  pub allowed : EachAllowed calls

unfoldable pub run_of : End → Run
run_of e =
    let x = new_answer e.settings e.window e.words e.places e.ring₀ in
    run_from record { stream = x.0.stream; ring = x.1; payloads = [] } e.calls

-- what crate delivery's console is left with
unfoldable pub end_from : Delivery.Console → List Delivery.Call → Delivery.Console
end_from d [] = d
end_from d (call ∷ calls) = end_from (Delivery.step_of d call).console calls

-- The stream is what its calls leave, and its sender with the payloads, every byte of them, is what crate delivery's calls leave.
pub record LineEnd (e : End) : Type 0 where
  pub stream : (let u = Stream.run e.settings e.window e.words e.places e.ring₀ (run_of e).called in
      ((run_of e).console.stream ≡ u.stream) × ((run_of e).console.ring ≡ u.ring))
  pub typed : AllTyped (run_of e).called
  pub sending : sending_end (run_of e).console ≡ end_from (fresh_console e.words e.places e.ring₀) (run_of e).sent
  pub allowed : AllAllowed (run_of e).sent

abbrev pub LineEnds : Type 0
LineEnds = (e : End) → LineEnd e
