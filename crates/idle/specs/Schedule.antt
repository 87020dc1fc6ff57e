-- 01, "History, repeats, idle": the idle schedule. Times add and grow with saturation.
use Rattle.std.specs.Prelude.{ℕ, ◌+◌, ◌*◌, min, Bool, true, false, cond, leb, ltb, Option, Some, None}
use Rattle.config.specs.Time.{last_time, later}
use Rattle.config.specs.declared.settings.StreamConfig.{StreamConfig}
use Rattle.idle.specs.declared.idle.Idle.{Idle}

-- the state test: the idle step doesn't exceed 510
abbrev pub idle_ok : Option Idle → Bool
idle_ok None = true
idle_ok (Some i) = leb i.step 510

abbrev pub is_due : Option Idle → ℕ → Bool
is_due None time = false
is_due (Some i) time = leb i.due time

-- a command with words is written: the first idle command is due T1 later
abbrev pub idle_start : StreamConfig → ℕ → Option Idle
idle_start cfg time = Some record { due = later time cfg.idle_interval_ms; step = 0; interval = cfg.idle_interval_ms }

-- a step that has grown
abbrev pub grown_by : ℕ → ℕ → ℕ
grown_by growth interval = min (interval * growth) last_time

-- 1 + R Zero Length Commands at steps of T1, then K more, each step G times the one before, each due one step after the last was queued
unfoldable pub idle_next : StreamConfig → ℕ → Idle → Option Idle
idle_next cfg time i =
    let step : ℕ = i.step + 1 in
    let grown : ℕ = grown_by cfg.idle_growth i.interval in
    cond (leb step cfg.fec_repeats) (Some record { due = later time i.interval; step = step; interval = i.interval })
    (cond (ltb step (1 + cfg.fec_repeats + cfg.idle_further)) (Some record { due = later time grown; step = step; interval = grown })
    None)
