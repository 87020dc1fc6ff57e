-- Runs computed from the definition, each with what it reports: steps done, commands handed on, losses.
use Rattle.std.specs.Prelude.{ℕ, ◌≡◌, Bool, true, false, replicate, Result, Ok}
use Rattle.config.specs.declared.refusal.Refusal.{Refusal}
use Rattle.link_rules.specs.declared.run.Report.{Report}
use Rattle.config.specs.declared.settings.StreamConfig.{StreamConfig}
use Rattle.link_rules.specs.Link.{start_of, run_answer}
use Rattle.link_rules.specs.Cleared.{new_gap, none_missing, bound_of}

-- T1, R, D, M and the size are given; G 1, K 255, X 1
abbrev pub settings : ℕ → ℕ → ℕ → ℕ → ℕ → StreamConfig
settings T1 R D M size =
    record { idle_interval_ms = T1; idle_growth = 1; idle_further = 255; fec_repeats = R; retransmit = true; request_delay_ms = D; max_requests = M; max_command_words = size }

-- settings, W, both seeds, figure and budget; C 65, Q 1
abbrev pub ran : StreamConfig → ℕ → ℕ → ℕ → ℕ → ℕ → Result Report Refusal
ran cfg window seed drop figure budget = (run_answer cfg window 65 1 seed drop figure budget (replicate 65 0) (replicate 65 0)).0

abbrev pub reported : ℕ → ℕ → ℕ → Result Report Refusal
reported steps handed losses = Ok record { steps = steps; handed = handed; losses = losses }

-- of the run `asks`: step k brings a new gap; nothing is missing once step k has polled
abbrev pub patient : StreamConfig
patient = settings 100 0 2 1 64

abbrev pub gap_at : ℕ → Bool
gap_at k = new_gap patient 128 (start_of 2 65 1 172 123) k

abbrev pub clear_at : ℕ → Bool
clear_at k = none_missing patient 128 (start_of 2 65 1 172 123) k

pub record Runs : Type 0 where
  -- no step
  pub none : ran patient 2 172 123 128 0 ≡ reported 0 0 0
  -- a repeat is a Duplicate; two payloads are dropped, and a poll reports both commands as one loss
  pub repeats : ran (settings 2 1 1 0 4) 6 1 48 100 10 ≡ reported 10 5 1
  -- a New reports a loss; a request brings one command back, which is Late, and one that is a Duplicate
  pub late : ran (settings 2 0 1 1 64) 2 44 16 128 12 ≡ reported 12 4 1
  -- what a request asks for has left the history: the console's error stands first in its next payload, and brings the loss
  pub error : ran (settings 100 0 2 1 64) 14 333 223 200 14 ≡ reported 14 2 1
  -- The command that a request brings is dropped, and a poll reports the loss: at the bound, and no step before.
  pub asks : ran patient 2 172 123 128 10 ≡ reported 10 1 1
  pub bound : bound_of patient ≡ 6
  pub gap : gap_at 2 ≡ true
  pub no_gaps : (gap_at 3 ≡ false) × (gap_at 4 ≡ false) × (gap_at 5 ≡ false) × (gap_at 6 ≡ false) × (gap_at 7 ≡ false) × (gap_at 8 ≡ false)
  pub before : clear_at 7 ≡ false
  pub then : clear_at 8 ≡ true
