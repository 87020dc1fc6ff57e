-- 01, "Numbers of each operation", of the calls that use both ends: settings (9, 7, 8), then the states (13). A refused call changes nothing.
use Rattle.std.specs.Prelude.{ℕ, min, Bool, cond, not, ◌||◌, List, length, replicate, eqb, Option, Some, None, Result, Ok, Err, ⊤}
use Rattle.stream.specs.declared.stream.StreamAnswer.{StreamAnswer}
use Rattle.config.specs.Range.{outside}
use Rattle.config.specs.Entry.{on_state}
use Rattle.config.specs.Settings.{check_of, tested}
use Rattle.config.specs.declared.refusal.Refusal.{Refusal}
use Rattle.config.specs.declared.refusal.Refusal.TheVariants.{SizeNotAllowed}
use Rattle.config.specs.declared.settings.StreamConfig.{StreamConfig}
use Rattle.window.specs.Set.{max_window}
use Rattle.receiver.specs.Receiver as receiver
use Rattle.sender.specs.Requests as sender
use Rattle.stream.specs.State.{valid_of, fresh, unstarted}
use Rattle.stream.specs.declared.stream.DataStream.{DataStream}

-- ---- start and reset
abbrev pub not_started : Refusal → StreamAnswer ⊤
not_started why = record { stream = unstarted; answer = Err why }

-- W isn't 1 to 128, the history isn't 65 to 32,768 words or not what is lent, or the ring isn't 1 to 16
abbrev pub sizes_out : ℕ → ℕ → ℕ → List ℕ → Bool
sizes_out window words places ring =
    outside 1 max_window window || (outside 65 32768 words || (not (eqb (length ring) words) || outside 1 16 places))

-- both ends fresh, or the number of what isn't taken
abbrev pub started_of : StreamConfig → ℕ → ℕ → ℕ → List ℕ → Result DataStream Refusal × List ℕ
started_of cfg window words places ring =
    tested (check_of cfg) (λ (why : Refusal). (Err why, ring))
    (cond (sizes_out window words places ring) (Err SizeNotAllowed, ring) (Ok (fresh window words places), replicate (length ring) 0))

-- 9, 7, 8, then 12; a start that isn't refused zeroes the lent history
unfoldable pub new_answer : StreamConfig → ℕ → ℕ → ℕ → List ℕ → StreamAnswer ⊤ × List ℕ
new_answer cfg window words places ring =
    tested (check_of cfg) (λ (why : Refusal). (not_started why, ring))
    (cond (sizes_out window words places ring) (not_started SizeNotAllowed, ring)
    (record { stream = fresh window words places; answer = Ok tt }, replicate (length ring) 0))

abbrev pub reset_refused : DataStream → List ℕ → Refusal → StreamAnswer ⊤ × List ℕ
reset_refused s ring why = (record { stream = s; answer = Err why }, ring)

-- back to a start with the same sizes
unfoldable pub reset_answer : DataStream → List ℕ → StreamAnswer ⊤ × List ℕ
reset_answer s ring =
    on_state (valid_of s ring) (reset_refused s ring)
    (record { stream = fresh s.receiver.window.size s.sender.history.size s.sender.queue.size; answer = Ok tt }, replicate (length ring) 0)

-- ---- questions
-- the earlier of the two ends' due times
abbrev pub earlier : Result (Option ℕ) Refusal → Result (Option ℕ) Refusal → Result (Option ℕ) Refusal
earlier (Err why) d = Err why
earlier (Ok None) (Ok None) = Ok None
earlier (Ok None) (Ok (Some b)) = Ok (Some b)
earlier (Ok None) (Err why) = Err why
earlier (Ok (Some a)) (Ok None) = Ok (Some a)
earlier (Ok (Some a)) (Ok (Some b)) = Ok (Some (min a b))
earlier (Ok (Some a)) (Err why) = Err why

unfoldable pub deadline_answer : DataStream → List ℕ → Result (Option ℕ) Refusal
deadline_answer d ring = on_state (valid_of d ring) Err (earlier (receiver.deadline_of d.receiver) (sender.deadline_of d.sender))

-- a request is due, or the sender has something to write
unfoldable pub wants_answer : DataStream → List ℕ → ℕ → Result Bool Refusal
wants_answer d ring time = on_state (valid_of d ring) Err (Ok (d.receiver.request_due || sender.wants_of d.sender time))
