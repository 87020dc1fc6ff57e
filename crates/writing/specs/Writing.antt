-- 01, "History, repeats, idle" and "Write the stream": a write, over settings, a state and a payload that were tested.
-- Waiting retransmits come first, then a due idle command is queued, then up to R of the last written commands, then new ones.
use Rattle.std.specs.Prelude.{ℕ, zero, suc, ◌+◌, ◌-◌, ◌≤◌, ◌<◌, min, ◌≡◌, Bool, true, false, cond, not, ◌||◌, List, [], ◌∷◌, ◌++◌, length, ltb, eqb, Option, Some, None, Ok, Err}
use Rattle.idle.specs.declared.idle.Idle.{Idle}
use Rattle.config.specs.Sequence.{after}
use Rattle.config.specs.declared.refusal.Refusal.TheVariants.{TooLarge}
use Rattle.config.specs.declared.settings.StreamConfig.{StreamConfig}
use Rattle.packet.specs.Layout.{Packet}
use Rattle.packet.specs.Write.{free_of}
use Rattle.packet.specs.declared.writer.PayloadWriter.{PayloadWriter}
use Rattle.command.specs.Write.{error_packet}
use Rattle.command.specs.declared.retransmit.RetransmitRequest.{RetransmitRequest}
use Rattle.history.specs.Headers.{header_at, words_from}
use Rattle.history.specs.State.{oldest_mark}
use Rattle.history.specs.Push.{pushed}
use Rattle.history.specs.Queue.{request, popped, in_front}
use Rattle.history.specs.declared.history.Mark.{Mark}
use Rattle.history.specs.declared.history.SendHistory.{SendHistory}
use Rattle.idle.specs.Schedule.{idle_start, idle_next}
use Rattle.rows.specs.Rows.{Row, row_of, fit_all, any_words, packets_from}
use Rattle.rows.specs.Choice.{reached, repeats_of}
use Rattle.rows.specs.declared.rows.Repeated.{Repeated}
use Rattle.sender.specs.Queueing.{holding}
use Rattle.sender.specs.Requests.{written_count, index_of, not_written, not_in_buffer, with_queue}
use Rattle.sender.specs.declared.sender.Sender.{Sender}
use Rattle.writing.specs.declared.writing.Wrote.{Wrote}
use Rattle.writing.specs.declared.tested.Served.{Served as Handed}

-- ---- commands of the history
-- k entries from entry j on, 0 the oldest
abbrev pub commands_at : Sender → List ℕ → ℕ → ℕ → List Packet
commands_at s ring j k = packets_from k ring (header_at j ring s.history.head)

-- ---- retransmits
-- how many commands a request is answered with, of the written ones from its number on
abbrev pub reach_of : Sender → RetransmitRequest → ℕ
reach_of s r = reached r.count (written_count s - index_of s r.seq)

-- the error if the number left while the request waited, with the oldest number at the time of the write
abbrev pub answer_to : Sender → List ℕ → RetransmitRequest → List Packet
answer_to s ring r =
    cond (not_written s r.seq) (error_packet (not_in_buffer s) ∷ [])
    (commands_at s ring (index_of s r.seq) (reach_of s r))

-- what of a request is left after n of its commands
abbrev pub rest_of : Sender → RetransmitRequest → ℕ → Sender
rest_of s r n =
    cond (not_written s r.seq) s
    (with_queue s (in_front s.queue record { seq = after r.seq n; count = reach_of s r - n }))

pub record Served : Type 0 where
  pub sender : Sender
  pub payload : PayloadWriter
  pub bytes : List ℕ
  pub written : ℕ
  pub more : Bool

-- what the code hands back, which changes the request queue alone, and the bytes that it leaves
abbrev pub served_by : Sender → Handed → List ℕ → Served
served_by s r b = record { sender = with_queue s r.queue; payload = r.payload; bytes = b; written = r.written; more = r.more }

abbrev pub served_also : ℕ → Served → Served
served_also n s = record { sender = s.sender; payload = s.payload; bytes = s.bytes; written = n + s.written; more = s.more }

-- the oldest request first; one whose command or error is too large for an empty payload leaves the ring whole
unfoldable pub served_in : ℕ → Sender → List ℕ → PayloadWriter → List ℕ → Served
served_in zero s ring p b = record { sender = s; payload = p; bytes = b; written = 0; more = false }
served_in (suc f) s ring p b =
    let r = request s.queue 0 in
    let out = row_of p b (answer_to s ring r) in
    cond (out.whole || eqb out.payload.len 0)
    (served_also out.written (served_in f (with_queue s (popped s.queue)) ring out.payload out.bytes))
    (record { sender = rest_of s r out.written; payload = out.payload; bytes = out.bytes; written = out.written; more = true })

unfoldable pub served_of : Sender → List ℕ → PayloadWriter → List ℕ → Served
served_of s ring p b = served_in s.queue.len s ring p b

-- ---- idle commands
abbrev pub with_idle : Sender → Option Idle → Sender
with_idle s i = record { history = s.history; queue = s.queue; unsent = s.unsent; unsent_words = s.unsent_words; idle = i }

-- none is queued while a command is unwritten
abbrev pub idled_by : Sender → StreamConfig → ℕ → List ℕ → Option Idle → Sender × List ℕ
idled_by s cfg time ring None = (s, ring)
idled_by s cfg time ring (Some i) =
    let p = pushed s.history ring [] in
    cond (ltb 0 s.unsent || ltb time i.due) (s, ring)
    (with_idle (holding s p.0 1 1) (idle_next cfg time i), p.1)

unfoldable pub idled_of : Sender → StreamConfig → ℕ → List ℕ → Sender × List ℕ
idled_of s cfg time ring = idled_by s cfg time ring s.idle

-- ---- where new commands are walked from
abbrev pub mark_after : ℕ → SendHistory → Mark → Mark
mark_after unsent h m = cond (ltb 0 unsent) m (oldest_mark h)

-- ---- repeats and new commands
-- the last written commands that are repeated, their words counted, for which there is space
pub record Again (s : Sender) (ring : List ℕ) (p : PayloadWriter) (b : List ℕ) (r : Repeated) : Type 0 where
  pub few : r.count ≤ written_count s
  pub place : r.at ≡ header_at (written_count s - r.count) ring s.history.head
  pub words : r.words ≡ words_from r.count ring r.at
  pub room : r.words < free_of p (length b)

-- writing a new command with words starts the idle schedule
abbrev pub idle_after : StreamConfig → ℕ → List Packet → Option Idle → Option Idle
idle_after cfg time cs old =
    cond (any_words cs) (idle_start cfg time) old

-- n commands and their words are off the unwritten ones
abbrev pub taken_off : Sender → ℕ → ℕ → Option Idle → Sender
taken_off s n words idle = record { history = s.history; queue = s.queue; unsent = s.unsent - n; unsent_words = s.unsent_words - words; idle = idle }

-- the sender after n of its unwritten commands were written
unfoldable pub written_off : Sender → StreamConfig → ℕ → List ℕ → ℕ → Sender
written_off s cfg time ring n =
    let i : ℕ = header_at (written_count s) ring s.history.head in
    taken_off s n (words_from n ring i) (idle_after cfg time (packets_from n ring i) s.idle)

abbrev pub wrote : Sender → PayloadWriter → ℕ → Bool → Wrote
wrote s p n more = record { sender = s; payload = p; answer = Ok record { commands = n; more = more } }

abbrev pub refused : Sender → PayloadWriter → Wrote
refused s p = record { sender = s; payload = p; answer = Err TooLarge }

-- what a row leaves of which the first commands repeat `again` written ones
abbrev pub new_row : Sender → StreamConfig → ℕ → ℕ → List ℕ → ℕ → Row → Wrote × List ℕ
new_row s cfg time n ring again out =
    (wrote (written_off s cfg time ring (out.written - again)) out.payload (n + out.written) (not out.whole), out.bytes)

-- n commands were written before; up to R of the last written commands, and the new ones
abbrev pub new_by : Sender → StreamConfig → ℕ → ℕ → PayloadWriter → List ℕ → List ℕ → List Packet → Wrote × List ℕ
new_by s cfg time n p b ring [] = (wrote s p n false, b)
new_by s cfg time n p b ring (first ∷ others) =
    let r : ℕ = min cfg.fec_repeats (written_count s) in
    let again = repeats_of p b first (commands_at s ring (written_count s - r) r) in
    let out = row_of p b (again ++ (first ∷ others)) in
    cond (not (fit_all p b (first ∷ []))) (cond (eqb p.len 0) (refused s p) (wrote s p n true), b)
    (new_row s cfg time n ring (length again) out)

unfoldable pub new_of : Sender → StreamConfig → ℕ → ℕ → PayloadWriter → List ℕ → List ℕ → Wrote × List ℕ
new_of s cfg time n p b ring = new_by s cfg time n p b ring (commands_at s ring (written_count s) s.unsent)

-- ---- the whole write: the answer with sender and payload, the payload's bytes, and the lent history
unfoldable pub written_by : Sender → StreamConfig → ℕ → PayloadWriter → List ℕ → List ℕ → Wrote × List ℕ × List ℕ
written_by s cfg time p b ring =
    let served = served_of s ring p b in
    let idled = idled_of served.sender cfg time ring in
    let new = new_of idled.0 cfg time served.written served.payload served.bytes idled.1 in
    cond served.more (wrote served.sender served.payload served.written true, served.bytes, ring)
    (new.0, new.1, idled.1)
