-- A command as it was read, and what a call answered, in words of 64 bits. Figures of 16 bits are packed, four to a word, the first lowest; two of 8 bits stand in one of them.
use Rattle.std.specs.Prelude.{ℕ}
use Rattle.read_command.specs.declared.next.Read.{Read}
use Rattle.c_answers.specs.declared.answers.CDelivery.{CDelivery}
use Rattle.c_answers.specs.declared.answers.COutcome.{COutcome}
use Rattle.c_answers.specs.declared.answers.CEvent.{CEvent}
use Rattle.c_state.specs.Pack.{word, pair}
use Rattle.c_hearing.specs.declared.figures.Figures.{Figures}

-- kind, code | words | number | count
abbrev pub read_word : Read → ℕ
read_word r = word (pair r.kind r.code) r.len r.seq r.count

abbrev figures : ℕ → ℕ → Figures
figures first second = record { first = first; second = second }

-- a refusal's number, or 0, alone
abbrev pub number_figures : ℕ → Figures
number_figures n = figures n 0

-- refusal, class | skipped | first and count of the gap, then those of the loss
abbrev pub delivery_figures : CDelivery → Figures
delivery_figures d =
    figures
    (word (pair d.refusal d.class) d.skipped d.gap_first d.gap_count)
    (word d.lost_first d.lost_count 0 0)

-- refusal, kind | reason | number
abbrev pub outcome_figures : COutcome → Figures
outcome_figures o = figures (word (pair o.refusal o.kind) o.reason o.seq 0) 0

-- refusal, kind | reason | number, then first and count of the loss
abbrev pub event_figures : CEvent → Figures
event_figures e = figures (word (pair e.refusal e.kind) e.reason e.seq 0) (word e.first e.count 0 0)
