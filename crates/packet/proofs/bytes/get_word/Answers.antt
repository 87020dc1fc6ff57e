use Rattle.packet.proofs.bytes.get_word.Goals as goal

pub returns : goal.returns
returns c = c.from_be_bytes.ensures
