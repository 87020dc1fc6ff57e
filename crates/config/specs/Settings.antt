-- 01, "Numbers of each operation", Start: 9 command size not 1 to 64 words; 7 idle interval not 1 to 300 ms; 8 growth 0.
use Rattle.std.specs.Prelude.{true, cond, ◌==◌, Result, Ok, Err, ⊤}
use Rattle.config.specs.Range.{outside}
use Rattle.config.specs.declared.refusal.Refusal.{Refusal}
use Rattle.config.specs.declared.refusal.Refusal.TheVariants.{IdleInterval, IdleGrowth, CommandWords}
use Rattle.config.specs.declared.settings.StreamConfig.{StreamConfig}

-- 01, "History, repeats, idle", Defaults: T1 100, G 2, K 5, R 2, D 10, M 3, size 64 words, retransmits on
abbrev pub defaults : StreamConfig
defaults =
    record { idle_interval_ms = 100; idle_growth = 2; idle_further = 5; fec_repeats = 2; retransmit = true; request_delay_ms = 10; max_requests = 3; max_command_words = 64 }

unfoldable pub check_of : StreamConfig → Result ⊤ Refusal
check_of s =
    cond (outside 1 64 s.max_command_words) (Err CommandWords)
    (cond (outside 1 300 s.idle_interval_ms) (Err IdleInterval)
    (cond (s.idle_growth == 0) (Err IdleGrowth)
    (Ok tt)))

-- a test, and what is done when it is passed
abbrev pub tested : {A : Type 0} → Result ⊤ Refusal → (Refusal → A) → A → A
tested (Err why) refused go = refused why
tested (Ok _) refused go = go
