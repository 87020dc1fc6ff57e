-- 02, 7/14: where requests are enabled and D is at least 1, nothing is missing D × (2^(M+1) - 1) steps after the last new gap, once that step has polled,
-- if the run lasts so long.
use Rattle.std.specs.Prelude.{ℕ, ◌+◌, ◌-◌, ◌*◌, ◌^◌, ◌≤◌, ◌<◌, ◌≡◌, Bool, true, false, Ok}
use Rattle.config.specs.Range.{within}
use Rattle.config.specs.Settings.{check_of}
use Rattle.config.specs.declared.settings.StreamConfig.{StreamConfig}
use Rattle.window.specs.Set.{max_window}
use Rattle.receiver.specs.Receiver.{nothing_missing}
use Rattle.link_rules.specs.Arriving.{gap_in}
use Rattle.link_rules.specs.Link.{Ends, calls_of, start_of, run_of, most_steps}

-- step k of a run brings the chamber a new gap
abbrev pub new_gap : StreamConfig → ℕ → Ends → ℕ → Bool
new_gap cfg figure e k = gap_in (calls_of cfg figure (run_of cfg figure e k)).heard.answers

-- nothing is missing at the chamber once step k has polled
abbrev pub none_missing : StreamConfig → ℕ → Ends → ℕ → Bool
none_missing cfg figure e k = nothing_missing (calls_of cfg figure (run_of cfg figure e k)).polled.stream.receiver.window

abbrev pub bound_of : StreamConfig → ℕ
bound_of cfg = cfg.request_delay_ms * (2 ^ (cfg.max_requests + 1) - 1)

-- Of each step k that is so many steps, or more, after a step g with no new gap since. A bound on M is not needed: one that a run lasts for is small.
abbrev pub Cleared : Type 0
Cleared =
    (cfg : StreamConfig) (window words places seed drop figure : ℕ)
    → check_of cfg ≡ Ok tt
    → within 1 max_window window ≡ true
    → cfg.retransmit ≡ true
    → 1 ≤ cfg.request_delay_ms
    → (g k : ℕ)
    → g + bound_of cfg ≤ k
    → k < most_steps
    → ((j : ℕ) → g < j → j ≤ k → new_gap cfg figure (start_of window words places seed drop) j ≡ false)
    → none_missing cfg figure (start_of window words places seed drop) k ≡ true
