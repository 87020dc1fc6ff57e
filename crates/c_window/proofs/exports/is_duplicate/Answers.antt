-- By cases.
use mathlib.Core.Path.{sym, ap}
use Rattle.c_window.specs.Window.{is_duplicate}
use Rattle.c_window.proofs.exports.is_duplicate.Goals as goal

pub returns-in-Duplicate : goal.returns-in-Duplicate
returns-in-Duplicate c = sym (ap is_duplicate c.in-Duplicate.is)

pub returns-in-Late : goal.returns-in-Late
returns-in-Late c = sym (ap is_duplicate c.in-Late.is)

pub returns-in-New : goal.returns-in-New
returns-in-New c = sym (ap is_duplicate c.in-New.is)
