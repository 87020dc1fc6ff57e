use Rattle.command.proofs.RoundTrip.{round_trips}
use Rattle.command.proofs.theorems.round_trips.Goals as goal

pub returns : goal.returns
returns c = round_trips
