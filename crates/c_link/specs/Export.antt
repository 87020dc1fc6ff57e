-- 02, 7/14: a run's report in one record, by the number of its refusal; a call is refused by its settings' number first, and changes nothing then.
use Rattle.std.specs.Prelude.{ℕ, true, List, length, Result, Ok, Err}
use Rattle.config.specs.declared.refusal.Refusal.{Refusal}
use Rattle.link_rules.specs.declared.run.Report.{Report}
use Rattle.config.specs.Refusals.{number_of}
use Rattle.c_words.specs.Entry.{words_entry}
use Rattle.c_words.specs.Settings.{settings_check, settings_of}
use Rattle.link_rules.specs.Link.{run_answer}
use Rattle.c_link.specs.declared.CReport.{CReport}

abbrev pub refused_by : ℕ → CReport
refused_by n = record { steps = 0; handed = 0; losses = 0; refusal = n }

abbrev pub report_of : Result Report Refusal → CReport
report_of (Ok r) = record { steps = r.steps; handed = r.handed; losses = r.losses; refusal = 0 }
report_of (Err why) = refused_by (number_of why)

-- the report and both histories
abbrev pub reported : Result Report Refusal × List ℕ × List ℕ → CReport × List ℕ × List ℕ
reported e = (report_of e.0, e.1, e.2)

-- each history is the whole of its slice; no words of a state are lent
unfoldable pub run_export : List ℕ → ℕ → ℕ → ℕ → ℕ → ℕ → ℕ → List ℕ → List ℕ → CReport × List ℕ × List ℕ
run_export cfg window places seed drop figure budget ring other =
    words_entry (settings_check cfg) true (λ n. (refused_by n, ring, other))
    (reported (run_answer (settings_of cfg) window (length ring) places seed drop figure budget ring other))
