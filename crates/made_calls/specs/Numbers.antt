-- Which entry of the table of answers (crate `script`, `answers`) the numbers of a C function are, and its figures: entries of one kind of call stand in the order of their numbers.
use Rattle.std.specs.Prelude.{◌+◌}
use Rattle.text.specs.declared.forms.Answer.{Answer}
use Rattle.script.specs.Answers.{entry_of, unless_refused}
use Rattle.c_answers.specs.declared.answers.CDeadline.{CDeadline}
use Rattle.c_answers.specs.declared.answers.CDelivery.{CDelivery}
use Rattle.c_answers.specs.declared.answers.CEvent.{CEvent}
use Rattle.c_answers.specs.declared.answers.COutcome.{COutcome}
use Rattle.c_answers.specs.declared.answers.CWants.{CWants}

-- queued, pending, full, an error, not supported
abbrev pub outcome_entry : COutcome → Answer
outcome_entry o = unless_refused o.refusal (entry_of (6 + o.kind) o.reason o.seq 0)

-- none, or the time
abbrev pub deadline_entry : CDeadline → Answer
deadline_entry d = unless_refused d.refusal (entry_of (14 + d.kind) d.time 0 0)

-- new, late, a duplicate; the numbers skipped, and how many are lost from which on
abbrev pub delivery_entry : CDelivery → Answer
delivery_entry d = unless_refused d.refusal (entry_of (16 + d.class) d.skipped d.lost_count d.lost_first)

-- none, a loss, a loss by an error, an error
abbrev pub event_entry : CEvent → Answer
event_entry e = unless_refused e.refusal (entry_of (19 + e.kind) e.first e.count 0)

-- 1 or 0
abbrev pub wants_entry : CWants → Answer
wants_entry w = unless_refused w.refusal (entry_of 4 w.wants 0 0)
