-- 01, "Write the stream": the due request. Taking it is, for the payload, one call that writes a Retransmit Request, or none.
use Rattle.std.specs.Prelude.{ℕ, ◌≡◌, List, Option, Some, Result, Ok, Err}
use Rattle.config.specs.declared.refusal.Refusal.{Refusal}
use Rattle.config.specs.declared.settings.StreamConfig.{StreamConfig}
use Rattle.command.specs.Calls.{call_of, request}
use Rattle.command.specs.declared.retransmit.RetransmitRequest.{RetransmitRequest}
use Rattle.receiver.specs.Answers.{take_answer}
use Rattle.receiver.specs.declared.receiver.Receiver.{Receiver}
use Rattle.receiver.specs.declared.receiver.Request.{Request}
use Rattle.receiver.specs.declared.receiver.Request.TheVariants.{Nothing as NotDue, Written, More}
use Rattle.receiver.specs.declared.receiver.RequestWritten.{RequestWritten}
use Rattle.delivery.specs.Console.{Lent, put_into}

-- what taking leaves: the answer, the payload with its buffer, and what is then unanswered
pub data Taken (v : Lent) : Result Request Refusal → Lent → Option RetransmitRequest → Type 0 where
  -- exactly one Retransmit Request more, and that one is unanswered
  written : (q : RetransmitRequest) → (call_of (request q) v.payload v.buffer).0.answer ≡ Ok tt → Taken v (Ok Written) (put_into (request q) v) (Some q)
  -- payload and bytes as they were
  none_due : (a : Option RetransmitRequest) → Taken v (Ok NotDue) v a
  more : (a : Option RetransmitRequest) → Taken v (Ok More) v a
  refused : (a : Option RetransmitRequest) (why : Refusal) → Taken v (Err why) v a

abbrev pub TakenBy : Lent → RequestWritten × List ℕ → Type 0
TakenBy v t = Taken v t.0.answer record { payload = t.0.payload; buffer = t.1 } t.0.receiver.asked

-- by a receiver in whatever state, with whatever settings
abbrev pub Takes : Type 0
Takes = (r : Receiver) (cfg : StreamConfig) (v : Lent) → TakenBy v (take_answer r cfg v.payload v.buffer)
