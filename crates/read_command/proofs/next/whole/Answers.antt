-- The words that were stored are those of the command.
use native.Mathlib.Omega.{arith}
use mathlib.Core.Path.{◌≡◌, sym, ap, ◌∙◌}
use Prim.Native.Nat.{◌≤◌}
use lib.ListN.{length}
use lib.Seq.{length-take-le}
use Rattle.packet.specs.Bytes.{words_of}
use Rattle.packet.proofs.Reading.{length_words_of}
use Rattle.packet.proofs.Splice.{length_spliced}
use Rattle.read_command.proofs.Found.{whole_data, whole_other}
use Rattle.read_command.proofs.next.whole.Goals as goal
use Rattle.read_command.proofs.next.whole.Goals.{After-put-n}

pub put-n-requires : goal.put-n-requires
put-n-requires c = omega (arith, length_words_of c.args.body.now)

-- as many words as the command has are stored
words_stored :
    (c : After-put-n)
    → (c.put-n.result ≤ 255)
    × (length (words_of c.args.body.now) ≤ length c.args.words.now)
    × (length c.put-n.new.out ≡ length c.args.words.now)
words_stored c =
    let n = length_words_of c.args.body.now in
    (omega arith, omega arith, ap length c.put-n.ensures.1 ∙ length_spliced c.args.words.now 0 _ (omega arith))

pub slice_bounds-data-end : goal.slice_bounds-data-end
slice_bounds-data-end c = let w = words_stored (goal.at.slice_bounds-data-end c).After-put-n in omega arith

pub slice_bounds-data-end-then-header-eq255 : goal.slice_bounds-data-end-then-header-eq255
slice_bounds-data-end-then-header-eq255 c =
    let w = words_stored (goal.at.slice_bounds-data-end-then-header-eq255 c).After-put-n in
    sym (length-take-le _ _ (omega arith))

pub data-requires : goal.data-requires
data-requires c =
    let w = words_stored (goal.at.data-requires c).After-put-n in
    (omega (arith, length-take-le c.put-n.result c.put-n.new.out (omega arith)), omega arith)

pub returns-then-header-eq255 : goal.returns-then-header-eq255
returns-then-header-eq255 c =
    whole_data _ _ _ _ _ _ c.put-n.ensures.1 c.if-header-eq255.true _ c.put-n.ensures.0 (words_stored (goal.at.returns-then-header-eq255 c).After-put-n).1 _ _ c.«data».ensures.0 c.«data».ensures.1

pub returns : goal.returns
returns c =
    whole_other _ _ _ _ _ _ c.put-n.ensures.1 c.if-header-eq255.false _ c.other.ensures
