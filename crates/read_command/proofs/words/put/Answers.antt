use mathlib.Core.Path.{◌≡◌, sym, ap, ◌∙◌}
use Prim.Native.Nat.{◌+◌}
use native.Mathlib.Omega.{arith}
use lib.Seq.{take_all}
use Rattle.packet.specs.Bytes.{words_of, spliced}
use Rattle.packet.proofs.Reading.{length_words_of}
use Rattle.packet.proofs.Splice.{spliced_nil}
use Rattle.read_command.proofs.Stores.{put_turn}
use Rattle.read_command.proofs.words.put.Goals as goal

pub loop-j-init : goal.loop-j-init
loop-j-init c = sym (spliced_nil _ _ (omega arith))

pub bounds-out-j : goal.bounds-out-j
bounds-out-j c = omega (arith, length_words_of c.args.body.now)

pub loop-j-preserved : goal.loop-j-preserved
loop-j-preserved c =
    let n = length_words_of c.args.body.now in
    let z : 0 + c.loop-j.j ≡ c.loop-j.j = omega arith in
    rw (c.loop-j.invariant, c.word_at.ensures) (rw z at (put_turn c.args.out.now (words_of c.args.body.now) 0 c.loop-j.j (omega arith) (omega arith)))

pub returns : goal.returns
returns c =
    let n = length_words_of c.args.body.now in
    (sym n, c.loop-j.invariant ∙ ap (spliced c.args.out.now 0) (take_all _ (words_of c.args.body.now) (omega arith)))
