-- The word's four bytes, the highest first, in the place of four.
use Rattle.std.proofs.Common.{◌≡◌, ℕ, ◌/◌, ◌%◌, refl, ap, ◌∙◌, ◌∷◌, [], arith}
use Rattle.std.proofs.lemmas.Slice.{put_mid-paste}
use Rattle.sheet_blocks.specs.Bytes.{word_bytes, spliced}
use Rattle.sheet_blocks.proofs.bytes.put_word.Goals as goal

pub returns : goal.returns
unfolding spliced
returns c =
    let e : c.args.w / 16777216 % 256 ≡ c.args.w / 16777216 = omega arith in
    put_mid-paste c.args.at _ c.args.buf.now _ (word_bytes c.args.w []) 4 (c.copy_from_slice.ensures.after ∙ c.to_be_bytes.ensures ∙ ap (λ (x : ℕ). x ∷ c.args.w / 65536 % 256 ∷ c.args.w / 256 % 256 ∷ c.args.w % 256 ∷ []) e) (omega arith) refl
