-- The three answers are those to the number.
use mathlib.Core.Path.{ap, ◌∙◌}
use Rattle.window.proofs.Accepts.{taken_is}
use Rattle.c_window.specs.Window.{taken_into}
use Rattle.c_window.proofs.exports.take_ahead.Goals as goal

pub lost_to-lost-requires : goal.lost_to-lost-requires
lost_to-lost-requires c = (c.requires.1, c.requires.2)

pub moved_to-window-requires : goal.moved_to-window-requires
moved_to-window-requires c = (c.requires.1, c.requires.2)

pub returns : goal.returns
returns c = c.take.ensures ∙ ap taken_into (taken_is _ c.moved_to-window.ensures c.class_ahead-class.ensures c.lost_to-lost.ensures)
