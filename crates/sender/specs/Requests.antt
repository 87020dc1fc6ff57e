-- 01, "History, repeats, idle": a received Retransmit Request, and what a caller asks of a sender; over settings and a state that were tested.
use Rattle.std.specs.Prelude.{ℕ, ◌-◌, Bool, cond, not, ◌||◌, leb, ltb, eqb, Option, Some, None, Result, Ok, Err, ⊤}
use Rattle.config.specs.declared.refusal.Refusal.{Refusal}
use Rattle.idle.specs.declared.idle.Idle.{Idle}
use Rattle.sender.specs.declared.sender.SenderAnswer.{SenderAnswer}
use Rattle.config.specs.Sequence.{after, ahead}
use Rattle.config.specs.declared.settings.StreamConfig.{StreamConfig}
use Rattle.command.specs.declared.retransmit.RetransmitRequest.{RetransmitRequest}
use Rattle.command.specs.declared.retransmit.RetransmitError.{RetransmitError}
use Rattle.history.specs.Queue.{push_answer}
use Rattle.history.specs.declared.queue.RetransmitQueue.{RetransmitQueue}
use Rattle.history.specs.declared.queue.Ignored.{Ignored as WhyIgnored}
use Rattle.history.specs.declared.queue.Pushed.{Pushed}
use Rattle.idle.specs.Schedule.{is_due}
use Rattle.sender.specs.declared.sender.Sender.{Sender}
use Rattle.sender.specs.declared.sender.RequestOutcome.{RequestOutcome}
use Rattle.sender.specs.declared.sender.RequestOutcome.TheVariants.{Queued, Ignored, Error, NotSupported}

-- how many commands are written: the oldest of those held
abbrev pub written_count : Sender → ℕ
written_count s = s.history.count - s.unsent

-- how far a number is ahead of the oldest held
abbrev pub index_of : Sender → ℕ → ℕ
index_of s seq = ahead s.history.oldest seq

-- the number isn't that of a written command
abbrev pub not_written : Sender → ℕ → Bool
not_written s seq = leb (written_count s) (index_of s seq)

-- NOT_IN_BUFFER with the oldest number; the next number when none is held
abbrev pub not_in_buffer : Sender → RetransmitError
not_in_buffer s = record { reason = 1; seq = s.history.oldest }

abbrev pub with_queue : Sender → RetransmitQueue → Sender
with_queue s q = record { history = s.history; queue = q; unsent = s.unsent; unsent_words = s.unsent_words; idle = s.idle }

abbrev pub told : Sender → Result RequestOutcome Refusal → SenderAnswer RequestOutcome
told s o = record { sender = s; answer = o }

abbrev pub outcome_of : Result ⊤ WhyIgnored → Result RequestOutcome Refusal
outcome_of (Ok _) = Ok Queued
outcome_of (Err why) = Ok (Ignored why)

abbrev pub queued_by : Sender → Pushed → SenderAnswer RequestOutcome
queued_by s p = told (with_queue s p.queue) (outcome_of p.answer)

-- First NotSupported if retransmits are off; the error for a number outside the written history; then Pending before Full, or queued.
unfoldable pub requested_of : Sender → StreamConfig → RetransmitRequest → SenderAnswer RequestOutcome
requested_of s cfg r =
    cond (not cfg.retransmit) (told s (Ok NotSupported))
    (cond (not_written s r.seq) (told s (Ok (Error (not_in_buffer s))))
    (queued_by s (push_answer s.queue r)))

-- ---- questions
abbrev pub due_at : Option Idle → Result (Option ℕ) Refusal
due_at None = Ok None
due_at (Some i) = Ok (Some i.due)

-- no idle command is queued while a command is unwritten
unfoldable pub deadline_of : Sender → Result (Option ℕ) Refusal
deadline_of s = cond (eqb s.unsent 0) (due_at s.idle) (Ok None)

-- an unwritten command, a request that waits, or an idle command that is due
unfoldable pub wants_of : Sender → ℕ → Bool
wants_of s time = ltb 0 s.unsent || (ltb 0 s.queue.len || is_due s.idle time)

-- the number of the oldest unwritten command, or of the next one
unfoldable pub next_of : Sender → ℕ
next_of s = after s.history.oldest (written_count s)
