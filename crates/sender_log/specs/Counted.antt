-- 01, "History, repeats, idle", "Write the stream", and "A paragraph to the testers": the commands that a write has to write, and that reading the payload finds them,
-- up to the first that doesn't fit, exactly as many as the answer says.
use Rattle.std.specs.Prelude.{ℕ, ◌-◌, min, ◌≡◌, Bool, true, false, List, [], ◌∷◌, ◌++◌, length, take, drop, Result, Ok, Err}
use Rattle.writing.specs.declared.writing.Written.{Written}
use Rattle.config.specs.declared.refusal.Refusal.{Refusal}
use Rattle.config.specs.declared.settings.StreamConfig.{StreamConfig}
use Rattle.packet.specs.Layout.{Packet, payload_of, AllEncodable}
use Rattle.packet.specs.Read.{items_of, placed}
use Rattle.packet.specs.Write.{start_of, bytes_in}
use Rattle.packet.specs.declared.writer.PayloadWriter.{PayloadWriter}
use Rattle.rows.specs.Rows.{fit_all}
use Rattle.writing.specs.Answers.{write_answer}
use Rattle.sender_log.specs.Calls.{Call, AllTyped, TypedConfig, run}
use Rattle.sender_log.specs.Promise.{NoRoom, Started}
use Rattle.sender_log.specs.Added.{items_added}
use Rattle.sender_log.specs.Opened.{Past, oldest_at, longest_end, copies, new_of}
use Rattle.sender_log.specs.Requests.{answers_to, in_turn}
use Rattle.sender_log.specs.Past.{idled_on, past_of}

-- up to R of the last written commands that are held
abbrev pub last_written : ℕ → Past → ℕ → List Packet
last_written c x R =
    let n : ℕ = length x.written in
    copies x (n - min R (n - oldest_at c x)) n

-- the oldest dropped first if they don't fit, behind the retransmits, beside the first new one; none without a new one
abbrev pub repeats_on : List Packet → PayloadWriter → List ℕ → List Packet → List Packet → List Packet
repeats_on retransmits p by last [] = []
repeats_on retransmits p by last (first ∷ others) = longest_end (λ again. fit_all p by (retransmits ++ (again ++ (first ∷ [])))) last

-- the answers to waiting requests; then, a due idle command being queued, repeats and new ones
unfoldable pub wanted_in : ℕ → StreamConfig → ℕ → Past → PayloadWriter → List ℕ → List Packet
wanted_in c cfg time x p by =
    let retransmits : List Packet = answers_to c x (in_turn c x p by x.waiting) in
    let y : Past = idled_on x cfg time in
    retransmits ++ (repeats_on retransmits p by (last_written c y cfg.fec_repeats) (new_of y) ++ new_of y)

-- what a write answers and leaves in the payload, of the commands that it has to write
pub record CountedIn (wanted : List Packet) (p : PayloadWriter) (by : List ℕ) (a : Result Written Refusal) (p' : PayloadWriter) (by' : List ℕ) : Type 0 where
  -- what the payload held stays, and reading on finds as many whole commands as the answer says and nothing else: the first of those wanted
  pub kept : bytes_in p by' ≡ bytes_in p by
  pub found : (n : ℕ) (more : Bool) → a ≡ Ok record { commands = n; more = more } → items_added p p' by' ≡ placed (start_of p) (take n wanted)
  pub counted : (n : ℕ) (more : Bool) → a ≡ Ok record { commands = n; more = more } → length (take n wanted) ≡ n
  -- so where the payload held commands, reading it finds those and then these
  pub reads : (held : List Packet) → AllEncodable held → bytes_in p by ≡ payload_of held → (n : ℕ) (more : Bool) → a ≡ Ok record { commands = n; more = more }
      → items_of (bytes_in p' by') ≡ placed 4 (held ++ take n wanted)
  -- cut at the first that doesn't fit
  pub more : (n : ℕ) → a ≡ Ok record { commands = n; more = true } → NoRoom p' by' (drop n wanted)
  pub no_more : (n : ℕ) → a ≡ Ok record { commands = n; more = false } → take n wanted ≡ wanted
  pub refused : (why : Refusal) → a ≡ Err why → (p' ≡ p) × (by' ≡ by)

-- every write after every list of calls, into any payload
abbrev pub Counted : Type 0
Counted =
    (c q : ℕ) (ring₀ : List ℕ) → Started c q ring₀ → (calls : List Call) → AllTyped calls
    → (cfg : StreamConfig) → TypedConfig cfg → (time : ℕ) (p : PayloadWriter) (by : List ℕ)
    → (let w = write_answer (run c q ring₀ calls).sender cfg time p by (run c q ring₀ calls).ring in
    CountedIn (wanted_in c cfg time (past_of c q ring₀ calls) p by) p by w.0.answer w.0.payload w.1)
