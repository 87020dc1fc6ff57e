-- By cases.
use mathlib.Core.Path.{sym, ap, ◌∙◌}
use Rattle.c_link.specs.Export.{report_of, refused_by}
use Rattle.c_link.proofs.report.Goals as goal

pub returns-in-Ok : goal.returns-in-Ok
returns-in-Ok c = sym (ap report_of c.in-Ok.is)

pub returns-in-Err : goal.returns-in-Err
returns-in-Err c = c.refused.ensures ∙ ap refused_by c.number.ensures ∙ sym (ap report_of c.in-Err.is)
