use Rattle.packet.proofs.RoundTrip.{items_payload, payload_injective}
use Rattle.packet.proofs.theorems.reads_back.Goals as goal

pub returns : goal.returns
returns c = record { items = items_payload; different = payload_injective }
