-- 01, "History, repeats, idle": writing a new command with words starts the idle schedule: 1 + R Zero Length Commands at steps of T1, then K more, each step G times
-- the one before (saturating), each due one step after the last was queued.
use Rattle.std.specs.Prelude.{ℕ, zero, suc, ◌+◌, ◌*◌, ◌≤◌, min, ◌≡◌, true, List, [], ◌∷◌, ◌++◌, length, replicate, Option, Some, None, Ok}
use Rattle.idle.specs.declared.idle.Idle.{Idle}
use Rattle.config.specs.Settings.{check_of}
use Rattle.config.specs.Time.{last_time, later}
use Rattle.config.specs.declared.settings.StreamConfig.{StreamConfig}
use Rattle.packet.specs.Write.{limit_of, start_of, valid_of as payload_valid}
use Rattle.packet.specs.declared.writer.PayloadWriter.{PayloadWriter}
use Rattle.history.specs.Entries.{Short}
use Rattle.sender_log.specs.Book.{Book}
use Rattle.sender_log.specs.Writes.{write_in}

-- k steps, each G times the one before
unfoldable pub growing : ℕ → ℕ → ℕ → List ℕ
growing G step zero = []
growing G step (suc k) = min (step * G) last_time ∷ growing G (min (step * G) last_time) k

-- all steps
unfoldable pub steps_of : ℕ → ℕ → ℕ → ℕ → List ℕ
steps_of T1 G K R = replicate (1 + R) T1 ++ growing G T1 K

-- the times of commands, each one step after the last
unfoldable pub times_at : ℕ → List ℕ → List ℕ
times_at time [] = []
times_at time (step ∷ steps) = later time step ∷ times_at (later time step) steps

-- the due times of a sender that is written at each of them, in at most so many writes
abbrev pub due_of : Option Idle → List ℕ
due_of None = []
due_of (Some i) = i.due ∷ []

abbrev pub at_due : List ℕ → (ℕ → List ℕ) → List ℕ
at_due [] go = []
at_due (due ∷ ds) go = due ∷ go due

unfoldable pub dues_in : ℕ → ℕ → StreamConfig → PayloadWriter → List ℕ → Book → List ℕ
dues_in zero c cfg p by b = []
dues_in (suc f) c cfg p by b = at_due (due_of b.idle) (λ due. dues_in f c cfg p by (write_in c cfg due b p by).book)

-- Data written at `time` and nothing after it; each payload has room for an idle command. No written command has more than 64 words.
abbrev pub IdleTimes : Type 0
IdleTimes =
    (c : ℕ) (cfg : StreamConfig) (p : PayloadWriter) (by : List ℕ) (b : Book) (time f : ℕ)
    → check_of cfg ≡ Ok tt → payload_valid p (length by) ≡ true → start_of p + 4 ≤ limit_of p (length by)
    → Short b.written → b.unwritten ≡ [] → b.waiting ≡ []
    → b.idle ≡ Some record { due = later time cfg.idle_interval_ms; step = 0; interval = cfg.idle_interval_ms }
    → 2 + cfg.fec_repeats + cfg.idle_further ≤ f
    → dues_in f c cfg p by b ≡ times_at time (steps_of cfg.idle_interval_ms cfg.idle_growth cfg.idle_further cfg.fec_repeats)
