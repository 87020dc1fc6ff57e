-- Both ends are counted.
use borrow.Author.Rules.{rules}
use Rattle.window.proofs.span.range_to.Goals as goal

pub returns : goal.returns
returns c = (c.number_at.ensures, search rules)
