use Rattle.packet.proofs.RoundTrip.{walked_items, items_enough}
use Rattle.packet.proofs.theorems.cursor_walks.Goals as goal

pub returns : goal.returns
returns c = record { same = walked_items; ends = items_enough }
