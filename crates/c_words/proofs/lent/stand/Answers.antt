use Rattle.std.proofs.Common.{◌≡◌, ℕ, List, Bool, true, false, ◌+◌, sym, ap, ◌∙◌, get_or, set, arith}
use Rattle.std.proofs.Math.Seq.{take_all, set-get_or}
use borrow.Author.Tests.{eqb-true}
use Rattle.packet.specs.Bytes.{spliced}
use Rattle.packet.proofs.Splice.{spliced_nil}
use Rattle.read_command.proofs.Stores.{put_turn}
use Rattle.c_words.proofs.lent.stand.Goals as goal

pub loop-k-init : goal.loop-k-init
loop-k-init c = sym (spliced_nil _ _ (omega arith))

pub loop-k-preserved : goal.loop-k-preserved
loop-k-preserved c =
    sym (set-get_or c.args.to.now (c.args.at + c.loop-k.k) 0)
    ∙ ap (set c.args.to.now (c.args.at + c.loop-k.k)) c.if-to-at.false
    ∙ ap (λ (x : List ℕ). set x (c.args.at + c.loop-k.k) (get_or c.args.from.now c.loop-k.k 0)) c.loop-k.invariant
    ∙ put_turn c.args.to.now c.args.from.now c.args.at c.loop-k.k c.requires (omega arith)

pub returns : goal.returns
returns c = λ _.
    c.loop-k.invariant ∙ ap (spliced c.args.to.now c.args.at) (take_all c.loop-k.k c.args.from.now (omega arith))
