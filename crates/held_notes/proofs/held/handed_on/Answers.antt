-- By the class.
use Rattle.held_notes.proofs.Calls.{by_class, plays_none}
use Rattle.held_notes.proofs.held.handed_on.Goals as goal

pub returns-in-New : goal.returns-in-New
returns-in-New c = by_class _ _ _ c.in-New.is c.played.ensures

pub returns-in-Late : goal.returns-in-Late
returns-in-Late c = by_class _ _ _ c.in-Late.is c.played-in-Late.ensures

pub returns-in-Duplicate : goal.returns-in-Duplicate
returns-in-Duplicate c = by_class _ _ _ c.in-Duplicate.is (plays_none _)
