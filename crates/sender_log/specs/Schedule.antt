-- 01, "History, repeats, idle": the idle schedule, from the last write of a command with words and the idle commands queued since, with the settings of each of those calls.
use Rattle.std.specs.Prelude.{ℕ, ◌+◌, ◌*◌, min, Bool, false, cond, List, [], ◌∷◌, length, ltb, leb, Option, Some, None}
use Rattle.idle.specs.declared.idle.Idle.{Idle}
use Rattle.config.specs.Time.{last_time, later}
use Rattle.config.specs.declared.settings.StreamConfig.{StreamConfig}

-- a write that queued an idle command
pub record Queued : Type 0 where
  pub time : ℕ
  pub settings : StreamConfig

pub data Schedule : Type 0 where
  -- no command with words was written
  none : Schedule
  -- time and T1 of the last write that wrote a new one, and the writes since then that queued an idle command, newest first
  since : ℕ → ℕ → List Queued → Schedule

-- The step after the i-th: T1, times G for each i over R (saturating). In the list of the first i the i-th stands first.
unfoldable pub step_after : ℕ → List Queued → ℕ
step_after T1 [] = T1
step_after T1 (k ∷ ks) =
    cond (ltb k.settings.fec_repeats (length (k ∷ ks))) (min (step_after T1 ks * k.settings.idle_growth) last_time) (step_after T1 ks)

-- when the last was queued, or else the data written
abbrev pub last_at : ℕ → List Queued → ℕ
last_at t0 [] = t0
last_at t0 (k ∷ ks) = k.time

-- 1 + R + K of them
abbrev pub all_queued : List Queued → Bool
all_queued [] = false
all_queued (k ∷ ks) = leb (1 + k.settings.fec_repeats + k.settings.idle_further) (length (k ∷ ks))

-- each due one step after the last was queued
unfoldable pub timer_of : Schedule → Option Idle
timer_of none = None
timer_of (since t0 T1 ks) =
    cond (all_queued ks) None (Some record { due = later (last_at t0 ks) (step_after T1 ks); step = length ks; interval = step_after T1 ks })

abbrev pub is_due : ℕ → Option Idle → Bool
is_due time None = false
is_due time (Some i) = leb i.due time

abbrev pub one_more_at : StreamConfig → ℕ → Schedule → Schedule
one_more_at cfg time none = none
one_more_at cfg time (since t0 T1 ks) = since t0 T1 (record { time = time; settings = cfg } ∷ ks)
