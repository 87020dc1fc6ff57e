-- One law for each sentence.
use Rattle.command_packets.proofs.Agree.{step_item, step_payload, collected_walked, all_items, all_payload}
use Rattle.command_packets.proofs.Steps.{opened_of_answer}
use Rattle.command_packets.proofs.theorems.readers_agree.Goals as goal

pub returns : goal.returns
returns c =
    record { opens = opened_of_answer; item = step_item; payload = step_payload; steps = collected_walked; items = all_items; back = all_payload }
