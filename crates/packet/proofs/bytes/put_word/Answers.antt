-- The part of four bytes is the word's.
use Rattle.std.proofs.Common.{◌∙◌, ap, arith, ◌≡◌, ◌/◌, ◌%◌, ◌∷◌, [], ℕ}
use Rattle.packet.proofs.Splice.{part_spliced}
use Rattle.packet.proofs.bytes.put_word.Goals as goal

pub returns : goal.returns
returns c =
    let high : c.args.w / 16777216 % 256 ≡ c.args.w / 16777216 = omega arith in
    part_spliced _ _ _ _ _
    (c.copy_from_slice.ensures.after ∙ c.to_be_bytes.ensures
    ∙ ap (λ (x : ℕ). x ∷ c.args.w / 65536 % 256 ∷ c.args.w / 256 % 256 ∷ c.args.w % 256 ∷ []) high)
    (omega arith)
