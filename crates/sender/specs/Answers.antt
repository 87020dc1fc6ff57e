-- 01, "Numbers of each operation": calls given settings test 9, 7, 8; each call given a state then tests 13. A refused call hands the state back as it was.
use Rattle.std.specs.Prelude.{ℕ, cond, not, ◌||◌, List, length, eqb, Bool, Option, Result, Ok, Err, ⊤}
use Rattle.sender.specs.declared.sender.RequestOutcome.{RequestOutcome}
use Rattle.sender.specs.declared.sender.SenderAnswer.{SenderAnswer}
use Rattle.config.specs.Range.{outside}
use Rattle.config.specs.Entry.{on_state, entry}
use Rattle.config.specs.Settings.{check_of}
use Rattle.config.specs.declared.refusal.Refusal.{Refusal}
use Rattle.config.specs.declared.refusal.Refusal.TheVariants.{SizeNotAllowed}
use Rattle.config.specs.declared.settings.StreamConfig.{StreamConfig}
use Rattle.command.specs.declared.retransmit.RetransmitRequest.{RetransmitRequest}
use Rattle.sender.specs.State.{valid_of, fresh, start_of, reset_of}
use Rattle.sender.specs.Queueing.{unsent, sent_of}
use Rattle.sender.specs.Requests.{told, requested_of, deadline_of, wants_of, next_of}
use Rattle.sender.specs.declared.sender.Sender.{Sender}

-- what stands in for a sender where the start is refused: one that every call refuses
abbrev pub unstarted : Sender
unstarted = fresh 0 0

abbrev pub not_started : SenderAnswer ⊤
not_started = record { sender = unstarted; answer = Err SizeNotAllowed }

-- 12 when the history isn't 65 to 32,768 words or not what is lent, or the ring isn't 1 to 16
unfoldable pub new_answer : ℕ → ℕ → List ℕ → SenderAnswer ⊤ × List ℕ
new_answer words places ring =
    cond (outside 65 32768 words || (not (eqb (length ring) words) || outside 1 16 places)) (not_started, ring)
    (record { sender = (start_of words places ring).0; answer = Ok tt }, (start_of words places ring).1)

abbrev pub reset_refused : Sender → List ℕ → Refusal → SenderAnswer ⊤ × List ℕ
reset_refused s ring why = (record { sender = s; answer = Err why }, ring)

unfoldable pub reset_answer : Sender → List ℕ → SenderAnswer ⊤ × List ℕ
reset_answer s ring = on_state (valid_of s ring) (reset_refused s ring) (record { sender = (reset_of s ring).0; answer = Ok tt }, (reset_of s ring).1)

unfoldable pub send_answer : Sender → StreamConfig → List ℕ → List ℕ → SenderAnswer ⊤ × List ℕ
send_answer s cfg ring ws = entry (check_of cfg) (valid_of s ring) (unsent s ring) (sent_of s ring cfg.max_command_words ws)

abbrev pub request_refused : Sender → Refusal → SenderAnswer RequestOutcome
request_refused s why = told s (Err why)

unfoldable pub request_answer : Sender → StreamConfig → List ℕ → RetransmitRequest → SenderAnswer RequestOutcome
request_answer s cfg ring r = entry (check_of cfg) (valid_of s ring) (request_refused s) (requested_of s cfg r)

unfoldable pub deadline_answer : Sender → List ℕ → Result (Option ℕ) Refusal
deadline_answer s ring = on_state (valid_of s ring) Err (deadline_of s)

unfoldable pub wants_answer : Sender → List ℕ → ℕ → Result Bool Refusal
wants_answer s ring time = on_state (valid_of s ring) Err (Ok (wants_of s time))

unfoldable pub next_answer : Sender → List ℕ → Result ℕ Refusal
next_answer s ring = on_state (valid_of s ring) Err (Ok (next_of s))
