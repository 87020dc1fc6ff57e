-- 01, "History, repeats, idle", over past calls and answers: what each call of the log adds, and what a sender holds after them.
use Rattle.std.specs.Prelude.{ℕ, ◌≤◌, ◌%◌, ◌≡◌, Bool, true, cond, ◌&&◌, List, [], ◌∷◌, ◌++◌, length, take, drop, ltb, eqb, Result, Ok, Err, ⊤}
use Rattle.config.specs.declared.refusal.Refusal.{Refusal}
use Rattle.writing.specs.declared.writing.Written.{Written}
use Rattle.config.specs.Refusals.{number_of}
use Rattle.config.specs.Sequence.{turn}
use Rattle.config.specs.declared.settings.StreamConfig.{StreamConfig}
use Rattle.packet.specs.declared.writer.PayloadWriter.{PayloadWriter}
use Rattle.command.specs.Messages.{words_in}
use Rattle.command.specs.declared.retransmit.RetransmitRequest.{RetransmitRequest}
use Rattle.history.specs.Entries.{size, entries_of}
use Rattle.history.specs.Queue.{waiting}
use Rattle.fronts.specs.Commands.{front, behind, commands_of}
use Rattle.sender.specs.declared.sender.RequestOutcome.{RequestOutcome}
use Rattle.sender.specs.declared.sender.RequestOutcome.TheVariants.{Queued, Ignored, Error, NotSupported}
use Rattle.sender.specs.declared.sender.Sender.{Sender}
use Rattle.sender_log.specs.Book.{joined_last, room_in}
use Rattle.sender_log.specs.Writes.{is_empty}
use Rattle.sender_log.specs.Calls.{Call, Entry, queue_entry, request_entry, write_entry, AllTyped, run}
use Rattle.sender_log.specs.Promise.{Started}
use Rattle.sender_log.specs.Added.{added_in, opens_in}
use Rattle.sender_log.specs.Schedule.{since, timer_of, is_due, one_more_at}
use Rattle.sender_log.specs.Opened.{Past, fresh, held, oldest_at}
use Rattle.sender_log.specs.Requests.{in_turn, left_after}

-- ---- queue words

-- Words join the newest unwritten command up to the set size, whole messages only, then open further commands.
abbrev pub queued_on : Past → ℕ → List ℕ → Result ⊤ Refusal → Past
queued_on x max ws (Err why) = x
queued_on x max ws (Ok tt) =
    let room : ℕ = room_in max x.unwritten in
    record {
      written = x.written;
      unwritten = joined_last x.unwritten (front room ws) ++ commands_of max (behind room ws);
      waiting = x.waiting;
      schedule = x.schedule;
    }

-- ---- a received Retransmit Request

abbrev pub with_requests : Past → List RetransmitRequest → Past
with_requests x rs = record { written = x.written; unwritten = x.unwritten; waiting = rs; schedule = x.schedule }

abbrev pub requested_on : Past → RetransmitRequest → Result RequestOutcome Refusal → Past
requested_on x r (Ok Queued) = with_requests x (x.waiting ++ (r ∷ []))
requested_on x r (Ok (Ignored why)) = x
requested_on x r (Ok (Error e)) = x
requested_on x r (Ok NotSupported) = x
requested_on x r (Err why) = x

-- ---- a write

-- the commands that it counts
abbrev pub count_of : Result Written Refusal → ℕ
count_of (Ok w) = w.commands
count_of (Err why) = 0

-- 3 is the one refusal that changes something
abbrev pub changes : Result Written Refusal → Bool
changes (Ok w) = true
changes (Err why) = eqb (number_of why) 3

-- a due idle command opens one, if none is unwritten
abbrev pub idled_on : Past → StreamConfig → ℕ → Past
idled_on x cfg time =
    cond (is_empty x.unwritten && is_due time (timer_of x.schedule))
    (record { written = x.written; unwritten = [] ∷ []; waiting = x.waiting; schedule = one_more_at cfg time x.schedule }) x

-- and so a write that leaves no request waiting
abbrev pub served_on : ℕ → Past → StreamConfig → ℕ → PayloadWriter → List ℕ → ℕ → Past
served_on c x cfg time p by n =
    let left : Past = with_requests x (left_after c x (in_turn c x p by x.waiting) n) in
    cond (is_empty left.waiting) (idled_on left cfg time) left

-- n new ones are written; one with words starts the schedule
abbrev pub wrote_on : Past → StreamConfig → ℕ → ℕ → Past
wrote_on x cfg time n =
    record {
      written = x.written ++ take n x.unwritten;
      unwritten = drop n x.unwritten;
      waiting = x.waiting;
      schedule = cond (ltb 0 (length (words_in (take n x.unwritten)))) (since time cfg.idle_interval_ms []) x.schedule;
    }

-- ---- the log, newest first

-- As many new ones are written as positions are opened, read off the bytes that the write added.
unfoldable pub past_after : ℕ → Past → Entry → Past
past_after c x (queue_entry cfg ws a) = queued_on x cfg.max_command_words ws a
past_after c x (request_entry cfg r a) = requested_on x r a
past_after c x (write_entry cfg time p by a p' by') =
    cond (changes a) (wrote_on (served_on c x cfg time p by (count_of a)) cfg time (opens_in (length x.written) (added_in p p' by'))) x

unfoldable pub past_in : ℕ → List Entry → Past
past_in c [] = fresh
past_in c (e ∷ t) = past_after c (past_in c t) e

abbrev pub past_of : ℕ → ℕ → List ℕ → List Call → Past
past_of c q ring₀ calls = past_in c (run c q ring₀ calls).log

-- ---- what a sender holds

pub record HeldIn (c : ℕ) (s : Sender) (ring : List ℕ) (x : Past) : Type 0 where
  -- Oldest written commands leave when words are needed, no sooner; unwritten ones never do.
  pub entries : entries_of s.history ring ≡ held c x
  pub oldest : s.history.oldest ≡ oldest_at c x % turn
  pub all_unwritten : length x.unwritten ≤ length (held c x)
  pub unsent : s.unsent ≡ length x.unwritten
  pub unsent_words : s.unsent_words ≡ size x.unwritten
  pub requests : waiting s.queue ≡ x.waiting
  pub idle : s.idle ≡ timer_of x.schedule

abbrev pub Held : Type 0
Held =
    (c q : ℕ) (ring₀ : List ℕ) → Started c q ring₀ → (calls : List Call) → AllTyped calls
    → HeldIn c (run c q ring₀ calls).sender (run c q ring₀ calls).ring (past_of c q ring₀ calls)
