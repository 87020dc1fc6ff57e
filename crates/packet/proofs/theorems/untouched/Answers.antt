use Rattle.packet.proofs.Outcomes.{outcome, written_after, written_before}
use Rattle.packet.proofs.theorems.untouched.Goals as goal

pub returns : goal.returns
returns c =
    record { after = λ p b c'. written_after p b c' _ (outcome p b c'); before = λ p b c'. written_before p b c' _ (outcome p b c') }
