-- What holds of every list of calls on a fresh sender with a history of c words and q places for requests.
use Rattle.std.specs.Prelude.{ℕ, ◌+◌, ◌<◌, ◌≡◌, true, false, List, [], ◌∷◌, ◌++◌, length, Ok, Err}
use Rattle.packet.specs.Layout.{Packet, size_of}
use Rattle.packet.specs.Write.{limit_of, start_of, valid_of as payload_valid}
use Rattle.packet.specs.declared.writer.PayloadWriter.{PayloadWriter}
use Rattle.command.specs.declared.retransmit.RetransmitRequest.{RetransmitRequest}
use Rattle.history.specs.Entries.{size, entries_of}
use Rattle.history.specs.Queue.{waiting}
use Rattle.config.specs.Entry.{entry}
use Rattle.config.specs.Settings.{check_of, tested}
use Rattle.config.specs.declared.refusal.Refusal.{Refusal}
use Rattle.config.specs.declared.refusal.Refusal.TheVariants.{InvalidState}
use Rattle.config.specs.declared.settings.StreamConfig.{StreamConfig}
use Rattle.sender.specs.State.{valid_of, reset_of}
use Rattle.sender.specs.Queueing.{unsent, sent_of}
use Rattle.sender.specs.Requests.{requested_of, deadline_of, wants_of, next_of}
use Rattle.writing.specs.Writing.{written_by}
use Rattle.sender.specs.Answers.{new_answer, reset_answer, send_answer, request_refused, request_answer, deadline_answer, wants_answer, next_answer}
use Rattle.writing.specs.Answers.{write_refused, write_answer}
use Rattle.sender.specs.declared.sender.Sender.{Sender}
use Rattle.sender_log.specs.Book.{Book, oldest_in, nothing}
use Rattle.sender_log.specs.Writes.{new_in, answer_in, write_in}
use Rattle.sender_log.specs.Calls.{Call, AllTyped, Typed, step_of, run}
use Rattle.sender_log.specs.Answers.{told_of, book_of, said_from}

-- ---- the state

-- the state that is left passes the state test, and is what the calls say
pub record Kept (c q : ℕ) (s : Sender) (ring : List ℕ) (b : Book) : Type 0 where
  pub valid : valid_of s ring ≡ true
  pub words : s.history.size ≡ c
  pub places : s.queue.size ≡ q
  pub oldest : s.history.oldest ≡ oldest_in b
  pub entries : entries_of s.history ring ≡ b.written ++ b.unwritten
  pub unsent : s.unsent ≡ length b.unwritten
  pub unsent_words : s.unsent_words ≡ size b.unwritten
  pub requests : waiting s.queue ≡ b.waiting
  pub idle : s.idle ≡ b.idle

-- no call is refused for the sender's state: what is left are its settings (9, 7, 8), its words and, for a write, the payload
pub record StateTaken (s : Sender) (ring : List ℕ) : Type 0 where
  pub queue_words : (cfg : StreamConfig) (ws : List ℕ) → send_answer s cfg ring ws ≡ tested (check_of cfg) (unsent s ring) (sent_of s ring cfg.max_command_words ws)
  pub retransmit_request : (cfg : StreamConfig) (r : RetransmitRequest) → request_answer s cfg ring r ≡ tested (check_of cfg) (request_refused s) (requested_of s cfg r)
  pub write : (cfg : StreamConfig) (time : ℕ) (p : PayloadWriter) (by : List ℕ)
      → write_answer s cfg time p by ring
      ≡ entry (check_of cfg) (payload_valid p (length by)) (write_refused s p by ring) (written_by s cfg time p by ring)
  pub deadline : deadline_answer s ring ≡ deadline_of s
  pub wants : (time : ℕ) → wants_answer s ring time ≡ Ok (wants_of s time)
  pub next : next_answer s ring ≡ Ok (next_of s)
  pub reset : reset_answer s ring ≡ (record { sender = (reset_of s ring).0; answer = Ok tt }, (reset_of s ring).1)

-- every call with settings that pass is refused with 13, and so is every call without
pub record StateRefused (s : Sender) (ring : List ℕ) : Type 0 where
  pub queue_words : (cfg : StreamConfig) (ws : List ℕ) → send_answer s cfg ring ws ≡ tested (check_of cfg) (unsent s ring) (unsent s ring InvalidState)
  pub retransmit_request : (cfg : StreamConfig) (r : RetransmitRequest) → request_answer s cfg ring r ≡ tested (check_of cfg) (request_refused s) (request_refused s InvalidState)
  pub write : (cfg : StreamConfig) (time : ℕ) (p : PayloadWriter) (by : List ℕ)
      → write_answer s cfg time p by ring ≡ tested (check_of cfg) (write_refused s p by ring) (write_refused s p by ring InvalidState)
  pub deadline : deadline_answer s ring ≡ Err InvalidState
  pub wants : (time : ℕ) → wants_answer s ring time ≡ Err InvalidState
  pub next : next_answer s ring ≡ Err InvalidState
  pub reset : reset_answer s ring ≡ (record { sender = s; answer = Err InvalidState }, ring)

-- ---- "more"

-- the next command in order: of the oldest request that waits, else the first unwritten one
abbrev pub next_by : Book → List RetransmitRequest → List Packet
next_by b [] = new_in b
next_by b (r ∷ rs) = answer_in b r

unfoldable pub next_in : Book → List Packet
next_in b = next_by b b.waiting

-- the first of the packets doesn't fit
abbrev pub NoRoom : PayloadWriter → List ℕ → List Packet → Type 0
NoRoom p by [] = ⊥
NoRoom p by (c ∷ cs) = limit_of p (length by) < start_of p + size_of c

-- A write answers "more" exactly when a command is left that doesn't fit; without it nothing is left.
pub record MoreRight (c : ℕ) (b : Book) : Type 0 where
  pub more : (cfg : StreamConfig) (time : ℕ) (p : PayloadWriter) (by : List ℕ) (n : ℕ)
      → (write_in c cfg time b p by).answer ≡ Ok record { commands = n; more = true }
      → NoRoom (write_in c cfg time b p by).payload (write_in c cfg time b p by).bytes (next_in (write_in c cfg time b p by).book)
  pub no_more : (cfg : StreamConfig) (time : ℕ) (p : PayloadWriter) (by : List ℕ) (n : ℕ)
      → (write_in c cfg time b p by).answer ≡ Ok record { commands = n; more = false }
      → ((write_in c cfg time b p by).book.waiting ≡ []) × ((write_in c cfg time b p by).book.unwritten ≡ [])

-- ---- the theorems

-- a start that isn't refused
abbrev pub Started : ℕ → ℕ → List ℕ → Type 0
Started c q ring₀ = (new_answer c q ring₀).0.answer ≡ Ok tt

abbrev pub Reached : Type 0
Reached =
    (c q : ℕ) (ring₀ : List ℕ) → Started c q ring₀ → (calls : List Call) → AllTyped calls
    → Kept c q (run c q ring₀ calls).sender (run c q ring₀ calls).ring (book_of c q calls)

abbrev pub NeverInvalid : Type 0
NeverInvalid =
    (c q : ℕ) (ring₀ : List ℕ) → Started c q ring₀ → (calls : List Call) → AllTyped calls
    → StateTaken (run c q ring₀ calls).sender (run c q ring₀ calls).ring

-- a start that is refused leaves a sender that every call refuses, whatever history is lent
abbrev pub NotStarted : Type 0
NotStarted = (c q : ℕ) (ring₀ : List ℕ) (why : Refusal) → (new_answer c q ring₀).0.answer ≡ Err why → (ring : List ℕ) → StateRefused (new_answer c q ring₀).0.sender ring

-- each answer, and with it the whole log, is settled by the past calls
pub record AnsweredIn (c q : ℕ) (ring₀ : List ℕ) (calls : List Call) : Type 0 where
  pub next : (call : Call) → Typed call → (step_of (run c q ring₀ calls).sender (run c q ring₀ calls).ring call).entry ≡ (told_of c q (book_of c q calls) call).entry
  pub whole : (run c q ring₀ calls).log ≡ said_from c q nothing [] calls

abbrev pub Answered : Type 0
Answered = (c q : ℕ) (ring₀ : List ℕ) → Started c q ring₀ → (calls : List Call) → AllTyped calls → AnsweredIn c q ring₀ calls

abbrev pub More : Type 0
More = (c q : ℕ) (ring₀ : List ℕ) → Started c q ring₀ → (calls : List Call) → AllTyped calls → MoreRight c (book_of c q calls)
