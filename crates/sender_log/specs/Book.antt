-- 01, "History, repeats, idle": what a sender holds, as plain lists, and what queueing and requests do to it. No ring, no numbers that wrap, no counters.
use Rattle.std.specs.Prelude.{ℕ, ◌+◌, ◌-◌, ◌%◌, Bool, cond, not, List, [], ◌∷◌, ◌++◌, length, ltb, leb, eqb, Option, None, Result, Ok, Err, ⊤}
use Rattle.config.specs.declared.refusal.Refusal.{Refusal}
use Rattle.idle.specs.declared.idle.Idle.{Idle}
use Rattle.config.specs.Sequence.{turn, ahead}
use Rattle.config.specs.Settings.{check_of, tested}
use Rattle.config.specs.declared.refusal.Refusal.TheVariants.{Full}
use Rattle.config.specs.declared.settings.StreamConfig.{StreamConfig}
use Rattle.command.specs.declared.retransmit.RetransmitRequest.{RetransmitRequest}
use Rattle.command.specs.declared.retransmit.RetransmitError.{RetransmitError}
use Rattle.history.specs.Entries.{size, kept}
use Rattle.history.specs.Queue.{asks}
use Rattle.history.specs.declared.queue.Ignored.TheVariants.{Pending, Full as NoPlace}
use Rattle.fronts.specs.Commands.{front, behind, commands_of}
use Rattle.sender.specs.Queueing.{words_check}
use Rattle.sender.specs.declared.sender.RequestOutcome.{RequestOutcome}
use Rattle.sender.specs.declared.sender.RequestOutcome.TheVariants.{Queued, Ignored, Error, NotSupported}

pub record Book : Type 0 where
  -- the position of the oldest command held
  pub first : ℕ
  -- the written commands held and the unwritten ones, each its words, oldest first
  pub written : List (List ℕ)
  pub unwritten : List (List ℕ)
  -- the requests that wait, oldest first
  pub waiting : List RetransmitRequest
  pub idle : Option Idle

-- a fresh sender
abbrev pub nothing : Book
nothing = record { first = 0; written = []; unwritten = []; waiting = []; idle = None }

-- the oldest number
abbrev pub oldest_in : Book → ℕ
oldest_in b = b.first % turn

-- ---- the history of c words

-- the written commands that stay when `need` words are to be free: oldest written ones leave, unwritten ones never do
abbrev pub staying : ℕ → ℕ → Book → List (List ℕ)
staying c need b = kept (c - size b.unwritten) need b.written

unfoldable pub freed : ℕ → ℕ → Book → Book
freed c need b =
    record {
      first = b.first + (length b.written - length (staying c need b));
      written = staying c need b;
      unwritten = b.unwritten;
      waiting = b.waiting;
      idle = b.idle;
    }

abbrev pub with_unwritten : Book → List (List ℕ) → Book
with_unwritten b us = record { first = b.first; written = b.written; unwritten = us; waiting = b.waiting; idle = b.idle }

-- a command comes in behind the newest: its header counts too
unfoldable pub pushed_in : ℕ → List ℕ → Book → Book
pushed_in c ws b = with_unwritten (freed c (1 + length ws) b) (b.unwritten ++ (ws ∷ []))

unfoldable pub pushed_all_in : ℕ → List (List ℕ) → Book → Book
pushed_all_in c [] b = b
pushed_all_in c (ws ∷ wss) b = pushed_all_in c wss (pushed_in c ws b)

-- words at the end of the newest command
unfoldable pub joined_last : List (List ℕ) → List ℕ → List (List ℕ)
joined_last [] xs = []
joined_last (ws ∷ []) xs = (ws ++ xs) ∷ []
joined_last (ws ∷ vs ∷ rest) xs = ws ∷ joined_last (vs ∷ rest) xs

unfoldable pub joined_in : ℕ → List ℕ → Book → Book
joined_in c xs b = with_unwritten (freed c (length xs) b) (joined_last b.unwritten xs)

-- ---- queue words

-- the words that the newest unwritten command still takes
unfoldable pub room_in : ℕ → List (List ℕ) → ℕ
room_in max [] = 0
room_in max (ws ∷ []) = max - length ws
room_in max (ws ∷ vs ∷ rest) = room_in max (vs ∷ rest)

abbrev pub joining_in : ℕ → List ℕ → Book → List ℕ
joining_in max ws b = front (room_in max b.unwritten) ws

abbrev pub further_in : ℕ → List ℕ → Book → List (List ℕ)
further_in max ws b = commands_of max (behind (room_in max b.unwritten) ws)

-- words and new headers
abbrev pub need_in : ℕ → List ℕ → Book → ℕ
need_in max ws b = length ws + length (further_in max ws b)

-- Words join the newest unwritten command up to the set size, whole messages only, then open further commands.
unfoldable pub queued_in : ℕ → ℕ → List ℕ → Book → Book
queued_in c max ws b = pushed_all_in c (further_in max ws b) (joined_in c (joining_in max ws b) b)

-- the answer, and what is held after it
pub record QueueIn : Type 0 where
  pub book : Book
  pub answer : Result ⊤ Refusal

-- 6 words and new headers exceed the history less unwritten words and their headers
unfoldable pub sent_in : ℕ → Book → StreamConfig → List ℕ → QueueIn
sent_in c b cfg ws =
    let max : ℕ = cfg.max_command_words in
    tested (check_of cfg) (λ why. record { book = b; answer = Err why })
    (cond (eqb (length ws) 0) (record { book = b; answer = Ok tt })
    (tested (words_check max ws) (λ why. record { book = b; answer = Err why })
    (cond (ltb (c - size b.unwritten) (need_in max ws b)) (record { book = b; answer = Err Full })
    (record { book = queued_in c max ws b; answer = Ok tt }))))

-- ---- a received Retransmit Request

-- how far a number is ahead of the oldest held
abbrev pub index_in : Book → ℕ → ℕ
index_in b seq = ahead (oldest_in b) seq

-- the number isn't that of a written command
abbrev pub absent_in : Book → ℕ → Bool
absent_in b seq = leb (length b.written) (index_in b seq)

-- NOT_IN_BUFFER with the oldest number
abbrev pub error_in : Book → RetransmitError
error_in b = record { reason = 1; seq = oldest_in b }

abbrev pub with_waiting : Book → List RetransmitRequest → Book
with_waiting b rs = record { first = b.first; written = b.written; unwritten = b.unwritten; waiting = rs; idle = b.idle }

pub record RequestIn : Type 0 where
  pub book : Book
  pub outcome : Result RequestOutcome Refusal

-- the ring has q places
unfoldable pub requested_in : ℕ → Book → StreamConfig → RetransmitRequest → RequestIn
requested_in q b cfg r =
    tested (check_of cfg) (λ why. record { book = b; outcome = Err why })
    (cond (not cfg.retransmit) (record { book = b; outcome = Ok NotSupported })
    (cond (absent_in b r.seq) (record { book = b; outcome = Ok (Error (error_in b)) })
    (cond (asks b.waiting r.seq) (record { book = b; outcome = Ok (Ignored Pending) })
    (cond (leb q (length b.waiting)) (record { book = b; outcome = Ok (Ignored NoPlace) })
    (record { book = with_waiting b (b.waiting ++ (r ∷ [])); outcome = Ok Queued })))))
