-- 01, "History, repeats, idle" and "Write the stream": a write, over what is held as plain lists.
-- Waiting retransmits come first, then a due idle command is queued, then up to R of the last written commands, then new ones.
use Rattle.std.specs.Prelude.{ℕ, ◌+◌, ◌-◌, min, Bool, true, false, cond, not, ◌||◌, List, [], ◌∷◌, ◌++◌, length, take, drop, ltb, eqb, Option, Some, None, Result, Ok, Err}
use Rattle.idle.specs.declared.idle.Idle.{Idle}
use Rattle.writing.specs.declared.writing.Written.{Written}
use Rattle.config.specs.Entry.{entry}
use Rattle.config.specs.Sequence.{after}
use Rattle.config.specs.Settings.{check_of}
use Rattle.config.specs.declared.refusal.Refusal.{Refusal}
use Rattle.config.specs.declared.refusal.Refusal.TheVariants.{TooLarge}
use Rattle.config.specs.declared.settings.StreamConfig.{StreamConfig}
use Rattle.packet.specs.Layout.{Packet}
use Rattle.packet.specs.Write.{valid_of as payload_valid}
use Rattle.packet.specs.declared.writer.PayloadWriter.{PayloadWriter}
use Rattle.command.specs.Write.{error_packet}
use Rattle.command.specs.declared.retransmit.RetransmitRequest.{RetransmitRequest}
use Rattle.history.specs.Written.{data_packet}
use Rattle.idle.specs.Schedule.{idle_next}
use Rattle.rows.specs.Rows.{row_of, fit_all}
use Rattle.rows.specs.Choice.{repeats_of}
use Rattle.writing.specs.Writing.{idle_after}
use Rattle.sender_log.specs.Book.{Book, oldest_in, pushed_in, index_in, absent_in, error_in, with_waiting}

-- commands as data commands, numbered from n on
unfoldable pub data_from : ℕ → List (List ℕ) → List Packet
data_from n [] = []
data_from n (ws ∷ wss) = data_packet n ws ∷ data_from (after n 1) wss

-- the written commands from the j-th on, 0 the oldest
abbrev pub written_from : Book → ℕ → List Packet
written_from b j = data_from (after (oldest_in b) j) (drop j b.written)

-- the unwritten ones
abbrev pub new_in : Book → List Packet
new_in b = data_from (after (oldest_in b) (length b.written)) b.unwritten

-- ---- retransmits

-- how many commands a request is answered with: count 0 reaches the newest written command, and no count reaches past it
abbrev pub reach_in : Book → RetransmitRequest → ℕ
reach_in b r =
    let left : ℕ = length b.written - index_in b r.seq in
    cond (eqb r.count 0) left (min r.count left)

-- the error if the number left while the request waited
unfoldable pub answer_in : Book → RetransmitRequest → List Packet
answer_in b r =
    cond (absent_in b r.seq) (error_packet (error_in b) ∷ [])
    (take (reach_in b r) (written_from b (index_in b r.seq)))

-- what of a request is left after n of its commands
unfoldable pub rest_in : Book → RetransmitRequest → ℕ → RetransmitRequest
rest_in b r n = cond (absent_in b r.seq) r record { seq = after r.seq n; count = reach_in b r - n }

-- the requests that wait on, the payload and its bytes, the commands written, and whether one didn't fit
pub record ServedIn : Type 0 where
  pub waiting : List RetransmitRequest
  pub payload : PayloadWriter
  pub bytes : List ℕ
  pub commands : ℕ
  pub more : Bool

abbrev pub served_also : ℕ → ServedIn → ServedIn
served_also n s = record { waiting = s.waiting; payload = s.payload; bytes = s.bytes; commands = n + s.commands; more = s.more }

-- the oldest request first; one whose command or error is too large for an empty payload leaves whole
unfoldable pub served_in : Book → List RetransmitRequest → PayloadWriter → List ℕ → ServedIn
served_in b [] p by = record { waiting = []; payload = p; bytes = by; commands = 0; more = false }
served_in b (r ∷ rs) p by =
    let out = row_of p by (answer_in b r) in
    cond (out.whole || eqb out.payload.len 0) (served_also out.written (served_in b rs out.payload out.bytes))
    (record { waiting = rest_in b r out.written ∷ rs; payload = out.payload; bytes = out.bytes; commands = out.written; more = true })

-- ---- idle commands

abbrev pub is_empty : {A : Type 0} → List A → Bool
is_empty [] = true
is_empty (x ∷ xs) = false

abbrev pub with_idle : Book → Option Idle → Book
with_idle b i = record { first = b.first; written = b.written; unwritten = b.unwritten; waiting = b.waiting; idle = i }

-- none is queued while a command is unwritten
abbrev pub idled_by : ℕ → StreamConfig → ℕ → Book → Option Idle → Book
idled_by c cfg time b None = b
idled_by c cfg time b (Some i) =
    cond (not (is_empty b.unwritten) || ltb time i.due) b (with_idle (pushed_in c [] b) (idle_next cfg time i))

unfoldable pub idled_in : ℕ → StreamConfig → ℕ → Book → Book
idled_in c cfg time b = idled_by c cfg time b b.idle

-- ---- repeats and new commands

-- up to R of the last written commands; the oldest dropped first if they don't fit beside the first new one
abbrev pub again_in : Book → ℕ → PayloadWriter → List ℕ → Packet → List Packet
again_in b R p by first = repeats_of p by first (written_from b (length b.written - min R (length b.written)))

-- n unwritten commands are written; writing one with words starts the idle schedule
unfoldable pub written_on : StreamConfig → ℕ → ℕ → Book → Book
written_on cfg time n b =
    record {
      first = b.first;
      written = b.written ++ take n b.unwritten;
      unwritten = drop n b.unwritten;
      waiting = b.waiting;
      idle = idle_after cfg time (take n (new_in b)) b.idle;
    }

-- what is held, the answer, the payload and its bytes
pub record WriteIn : Type 0 where
  pub book : Book
  pub answer : (Result Written Refusal)
  pub payload : PayloadWriter
  pub bytes : List ℕ

abbrev pub wrote : Book → PayloadWriter → List ℕ → ℕ → Bool → WriteIn
wrote b p by n more = record { book = b; answer = Ok record { commands = n; more = more }; payload = p; bytes = by }

abbrev pub refused : Book → PayloadWriter → List ℕ → Refusal → WriteIn
refused b p by why = record { book = b; answer = Err why; payload = p; bytes = by }

-- n commands were written before
abbrev pub new_by : StreamConfig → ℕ → ℕ → Book → PayloadWriter → List ℕ → List Packet → WriteIn
new_by cfg time n b p by [] = wrote b p by n false
new_by cfg time n b p by (first ∷ others) =
    let again = again_in b cfg.fec_repeats p by first in
    let out = row_of p by (again ++ (first ∷ others)) in
    cond (not (fit_all p by (first ∷ []))) (cond (eqb p.len 0) (refused b p by TooLarge) (wrote b p by n true))
    (wrote (written_on cfg time (out.written - length again) b) out.payload out.bytes (n + out.written) (not out.whole))

unfoldable pub new_written : StreamConfig → ℕ → ℕ → Book → PayloadWriter → List ℕ → WriteIn
new_written cfg time n b p by = new_by cfg time n b p by (new_in b)

-- ---- the whole write, in a history of c words
unfoldable pub written_in : ℕ → StreamConfig → ℕ → Book → PayloadWriter → List ℕ → WriteIn
written_in c cfg time b p by =
    let served = served_in b b.waiting p by in
    let left : Book = with_waiting b served.waiting in
    cond served.more (wrote left served.payload served.bytes served.commands true)
    (new_written cfg time served.commands (idled_in c cfg time left) served.payload served.bytes)

-- settings, then the payload
unfoldable pub write_in : ℕ → StreamConfig → ℕ → Book → PayloadWriter → List ℕ → WriteIn
write_in c cfg time b p by =
    entry (check_of cfg) (payload_valid p (length by)) (refused b p by) (written_in c cfg time b p by)
