use Rattle.command.proofs.RoundTrip.{untouched}
use Rattle.command.proofs.theorems.untouched.Goals as goal

pub returns : goal.returns
returns c = untouched
