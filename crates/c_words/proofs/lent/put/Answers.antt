use Rattle.std.proofs.Common.{sym, refl, ap, ◌∙◌, length-set, arith}
use Rattle.std.proofs.Math.Seq.{take_all}
use Rattle.packet.specs.Bytes.{spliced}
use Rattle.packet.proofs.Splice.{spliced_nil}
use Rattle.read_command.proofs.Stores.{put_turn}
use Rattle.c_words.proofs.lent.put.Goals as goal

pub loop-k-init : goal.loop-k-init
loop-k-init c = (refl, sym (spliced_nil _ _ (omega arith)))

pub loop-k-preserved : goal.loop-k-preserved
loop-k-preserved c = (
  simp length-set (omega arith),
  rw c.loop-k.invariant.1 (put_turn c.args.to.now c.args.from.now c.args.at c.loop-k.k c.requires (omega arith)),
)

pub returns : goal.returns
returns c =
    c.loop-k.invariant.1 ∙ ap (spliced c.args.to.now c.args.at) (take_all c.loop-k.k c.args.from.now (omega arith))
