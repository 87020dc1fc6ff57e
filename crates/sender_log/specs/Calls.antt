-- 01, "The runs of demand 3": lists of calls on a fresh sender, refused ones included, each taking what the last left.
use Rattle.std.specs.Prelude.{ℕ, ◌<◌, List, [], ◌∷◌, Result, ⊤}
use Rattle.config.specs.declared.refusal.Refusal.{Refusal}
use Rattle.writing.specs.declared.writing.Written.{Written}
use Rattle.config.specs.Sequence.{turn}
use Rattle.config.specs.declared.settings.StreamConfig.{StreamConfig}
use Rattle.packet.specs.Layout.{Words32}
use Rattle.packet.specs.declared.writer.PayloadWriter.{PayloadWriter}
use Rattle.command.specs.declared.retransmit.RetransmitRequest.{RetransmitRequest}
use Rattle.sender.specs.Answers.{new_answer, send_answer, request_answer}
use Rattle.writing.specs.Answers.{write_answer}
use Rattle.sender.specs.declared.sender.Sender.{Sender}
use Rattle.sender.specs.declared.sender.RequestOutcome.{RequestOutcome}

-- a call, each argument free
pub data Call : Type 0 where
  -- settings, words
  queue_words : StreamConfig → List ℕ → Call
  -- settings, request
  retransmit_request : StreamConfig → RetransmitRequest → Call
  -- settings, time, payload, buffer
  write : StreamConfig → ℕ → PayloadWriter → List ℕ → Call

-- a call with its answer; of a write also the payload and the buffer after it
pub data Entry : Type 0 where
  queue_entry : StreamConfig → List ℕ → Result ⊤ Refusal → Entry
  request_entry : StreamConfig → RetransmitRequest → Result RequestOutcome Refusal → Entry
  write_entry : StreamConfig → ℕ → PayloadWriter → List ℕ → Result Written Refusal → PayloadWriter → List ℕ → Entry

-- the state and the history's words that a call leaves, and what goes into the log
pub record Step : Type 0 where
  pub sender : Sender
  pub ring : List ℕ
  pub entry : Entry

unfoldable pub step_of : Sender → List ℕ → Call → Step
step_of s ring (queue_words cfg ws) =
    let h = send_answer s cfg ring ws in
    record { sender = h.0.sender; ring = h.1; entry = queue_entry cfg ws h.0.answer }
step_of s ring (retransmit_request cfg r) =
    let h = request_answer s cfg ring r in
    record { sender = h.sender; ring = ring; entry = request_entry cfg r h.answer }
step_of s ring (write cfg time p b) =
    let h = write_answer s cfg time p b ring in
    record { sender = h.0.sender; ring = h.2; entry = write_entry cfg time p b h.0.answer h.0.payload h.1 }

-- the state left, the history's words, and the log, newest first
pub record Run : Type 0 where
  pub sender : Sender
  pub ring : List ℕ
  pub log : List Entry

unfoldable pub run_from : Sender → List ℕ → List Entry → List Call → Run
run_from s ring t [] = record { sender = s; ring = ring; log = t }
run_from s ring t (c ∷ calls) = run_from (step_of s ring c).sender (step_of s ring c).ring ((step_of s ring c).entry ∷ t) calls

-- from a start over a lent history of c words, with q places for requests
unfoldable pub run : ℕ → ℕ → List ℕ → List Call → Run
unfolding run_from
run c q ring₀ calls = run_from (new_answer c q ring₀).0.sender (new_answer c q ring₀).1 [] calls

-- R and K have 8 bits
abbrev pub TypedConfig : StreamConfig → Type 0
TypedConfig cfg = (cfg.fec_repeats < 256) × (cfg.idle_further < 256)

-- words have 32 bits, numbers and counts 16
abbrev pub Typed : Call → Type 0
Typed (queue_words cfg ws) = TypedConfig cfg × Words32 ws
Typed (retransmit_request cfg r) = TypedConfig cfg × (r.seq < turn) × (r.count < turn)
Typed (write cfg time p b) = TypedConfig cfg

abbrev pub AllTyped : List Call → Type 0
AllTyped [] = Unit {0}
AllTyped (c ∷ calls) = Typed c × AllTyped calls
