-- 02, 14/14: the calls of a console with which its sender brings what `Brings` asks. One command of at most s words for each write, no requests, and room for R + 1 such
-- commands in each payload and in the history. Without that room repeats are dropped or have left (proofs/PacedExample.antt).
use Rattle.std.specs.Prelude.{ℕ, suc, ◌+◌, ◌*◌, ◌≤◌, ◌≡◌, List, [], ◌∷◌, length, Ok}
use Rattle.config.specs.Settings.{check_of}
use Rattle.config.specs.declared.settings.StreamConfig.{StreamConfig}
use Rattle.delivery.specs.Console.{Lent, Call, open_payload, lend_again, queue_words, retransmit_request, write_into, put_in, write_astray, Console, payload_at, step_of, fresh_console, positions}
use Rattle.delivery.specs.Repeats.{Brings, Arrives, heard_commands, written_payloads, AllHandedOn}
use Rattle.delivery.specs.Sentence.{Run, sent_log, heard_log, heard_in}

-- bytes of a payload with R + 1 commands of s words: the signature, and a header with each
abbrev pub payload_need : ℕ → ℕ → ℕ
payload_need R s = 4 + (R + 1) * (4 + 4 * s)

-- words of a history with as many, a header with each
abbrev pub history_need : ℕ → ℕ → ℕ
history_need R s = (R + 1) * (1 + s)

-- a write with settings that pass and R repeats, into a payload that is empty and has the room
pub record Ready (R s : ℕ) (cfg : StreamConfig) (v : Lent) : Type 0 where
  pub passes : check_of cfg ≡ Ok tt
  pub repeats : cfg.fec_repeats ≡ R
  pub empty : v.payload.len ≡ 0
  pub limit : payload_need R s ≤ v.payload.max
  pub lent : payload_need R s ≤ length v.buffer

-- From a console's state on: between two writes at most s words are queued, and the set size is at least s; n were queued since the last. Other calls may stand
-- anywhere, but no request.
abbrev pub Paced : ℕ → ℕ → Console → ℕ → List Call → Type 0
Paced R s d n [] = Unit {0}
Paced R s d n (queue_words cfg ws ∷ calls) =
    (s ≤ cfg.max_command_words) × (n + length ws ≤ s) × Paced R s (step_of d (queue_words cfg ws)).console (n + length ws) calls
Paced R s d n (write_into k cfg time ∷ calls) = Ready R s cfg (payload_at d k) × Paced R s (step_of d (write_into k cfg time)).console 0 calls
Paced R s d n (retransmit_request cfg r ∷ calls) = ⊥
Paced R s d n (open_payload limit buffer ∷ calls) = Paced R s (step_of d (open_payload limit buffer)).console n calls
Paced R s d n (lend_again k rest ∷ calls) = Paced R s (step_of d (lend_again k rest)).console n calls
Paced R s d n (put_in k call ∷ calls) = Paced R s (step_of d (put_in k call)).console n calls
Paced R s d n (write_astray p b cfg time ∷ calls) = Paced R s (step_of d (write_astray p b cfg time)).console n calls

-- ---- the plainest such calls, round by round: open a payload, queue words, perhaps none, and write

pub record Round : Type 0 where
  pub limit : ℕ
  pub buffer : List ℕ
  pub settings : StreamConfig
  pub words : List ℕ
  pub time : ℕ

-- from payload k on
abbrev pub rounds_from : ℕ → List Round → List Call
rounds_from k [] = []
rounds_from k (r ∷ rs) =
    open_payload r.limit r.buffer ∷ queue_words r.settings r.words ∷ write_into k r.settings r.time ∷ rounds_from (suc k) rs

pub record Fits (R s : ℕ) (r : Round) : Type 0 where
  pub passes : check_of r.settings ≡ Ok tt
  pub repeats : r.settings.fec_repeats ≡ R
  pub size : s ≤ r.settings.max_command_words
  pub few : length r.words ≤ s
  pub limit : payload_need R s ≤ r.limit
  pub most : r.limit ≤ 1400
  pub lent : payload_need R s ≤ length r.buffer

abbrev pub AllFit : ℕ → ℕ → List Round → Type 0
AllFit R s [] = Unit {0}
AllFit R s (r ∷ rs) = Fits R s r × AllFit R s rs

-- ---- what follows

-- a console that keeps to it, with a history that has the room
pub record Keeps (R s : ℕ) (u : Run) : Type 0 where
  pub history : history_need R s ≤ u.words
  pub paced : Paced R s (fresh_console u.words u.places u.ring₀) 0 u.calls

pub record PacedSender : Type 0 where
  -- its written payloads are as the sentence asks
  pub brings : (u : Run) (R s : ℕ) → Keeps R s u → Brings R (sent_log u)
  -- so of its runs the sentence asks only what arrives
  pub alone : (u : Run) (R s : ℕ) → Keeps R s u → Arrives R (sent_log u) (length (written_payloads (sent_log u))) (heard_commands (heard_log u))
      → AllHandedOn (positions (sent_log u)) (heard_in u)
  -- rounds keep to it
  pub rounds : (R s words places : ℕ) (ring₀ : List ℕ) (rs : List Round) → AllFit R s rs → Paced R s (fresh_console words places ring₀) 0 (rounds_from 0 rs)
