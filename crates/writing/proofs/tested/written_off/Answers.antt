-- There are more words than headers exactly where one command has words.
use Rattle.writing.proofs.Repeating.{off_starts, off_stays}
use Rattle.writing.proofs.tested.written_off.Goals as goal

pub returns-then-n-words : goal.returns-then-n-words
returns-then-n-words c = off_starts c.args.s c.args.cfg c.args.time _ _ _ c.if-n-words.true c.start.ensures

pub returns : goal.returns
returns c = off_stays c.args.s c.args.cfg c.args.time _ _ c.if-n-words.false
