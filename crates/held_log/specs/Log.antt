-- The calls of crate `held_notes` for a receiver's log: what the receiver answered is what they are given. Newest first.
use Rattle.std.specs.Prelude.{List, [], ◌∷◌, ◌++◌}
use Rattle.receiver_log.specs.Calls.{Entry, data_entry, poll_entry, error_entry, nak_entry, take_entry}
use Rattle.held_notes.specs.Calls.{Call, delivered, told, restarted}

-- taking a request tells nothing
abbrev pub calls_of : List Entry → List Call
calls_of [] = []
calls_of (data_entry s time seq ws a ∷ t) = delivered a ws ∷ calls_of t
calls_of (poll_entry s time e ∷ t) = told e ∷ calls_of t
calls_of (error_entry q e ∷ t) = told e ∷ calls_of t
calls_of (nak_entry e ∷ t) = told e ∷ calls_of t
calls_of (take_entry s p b a q c ∷ t) = calls_of t

-- a stretch: a receiver's log from its start or from a restart on, whatever was before
abbrev pub since : List Entry → List Call → List Call
since log before = calls_of log ++ (restarted ∷ before)
