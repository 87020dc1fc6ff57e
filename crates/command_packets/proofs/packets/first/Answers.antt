-- A step's item is the last part of what the step is.
use Rattle.std.proofs.Common.{ℕ, List, ap}
use Rattle.command_packets.specs.Held.{step_of}
use Rattle.packet.specs.declared.cursor.PacketItem.{PacketItem}
use Rattle.command_packets.proofs.packets.first.Goals as goal

pub returns : goal.returns
unfolding step_of
returns c = ap (λ (p : List ℕ × (List ℕ × PacketItem)). p.1.1) c.next-step.ensures
