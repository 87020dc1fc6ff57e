-- One class after the other.
use Rattle.c_held_notes.proofs.Numbers.{class_new, class_late, class_other}
use Rattle.c_held_notes.proofs.exports.class_of.Goals as goal

pub returns-then-class-eq0 : goal.returns-then-class-eq0
returns-then-class-eq0 c = class_new _ c.if-class-eq0.true

pub returns-then-class-eq1 : goal.returns-then-class-eq1
returns-then-class-eq1 c = class_late _ c.if-class-eq0.false c.if-class-eq1.true

pub returns : goal.returns
returns c = class_other _ c.if-class-eq0.false c.if-class-eq1.false
