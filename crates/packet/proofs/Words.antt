-- Laws of words as bytes.
use mathlib.Core.Path.{◌≡◌, refl, sym}
use mathlib.Core.List.{List, [], ◌∷◌, ◌++◌}
use Prim.Native.Nat.{ℕ, ◌+◌, ◌*◌, ◌≤◌, ◌<◌}
use native.Mathlib.Omega.{arith}
use lib.ListN.{length, take, get_or}
use lib.Seq.{length-take-le}
use Rattle.std.proofs.lemmas.List.{take_more}
use Rattle.packet.specs.Bytes.{word_bytes, bytes_of, spliced}
use Rattle.packet.proofs.Splice.{spliced_append, spliced_nil}

pub length_bytes_of : (ws : List ℕ) → length (bytes_of ws) ≡ 4 * length ws
unfolding bytes_of
length_bytes_of [] = refl
length_bytes_of (w ∷ ws) = omega (arith, length_bytes_of ws)

pub bytes_of_append : (xs ys : List ℕ) → bytes_of (xs ++ ys) ≡ bytes_of xs ++ bytes_of ys
unfolding bytes_of
bytes_of_append [] ys = refl
bytes_of_append (x ∷ xs) ys = rw (bytes_of_append xs ys)

-- nothing is stored yet
pub words_none : (b : List ℕ) (at : ℕ) → at ≤ length b → b ≡ spliced b at (bytes_of [])
unfolding bytes_of
words_none b at h = sym (spliced_nil b at h)

-- one word more is stored
pub words_more : (b b₁ b₂ ws : List ℕ) (at j o : ℕ) → o ≡ at + 4 * j → j < length ws → at + 4 * length ws ≤ length b
    → b₁ ≡ spliced b at (bytes_of (take j ws))
    → b₂ ≡ spliced b₁ o (word_bytes (get_or ws j 0) [])
    → b₂ ≡ spliced b at (bytes_of (take (j + 1) ws))
unfolding bytes_of
words_more b b₁ b₂ ws at j o oe h fits e₁ e₂ =
    let l = length_bytes_of (take j ws) in
    let n = length-take-le j ws (omega arith) in
    rw (e₂, e₁, take_more ws j 0 h, bytes_of_append (take j ws) (get_or ws j 0 ∷ []))
    (spliced_append b at o (bytes_of (take j ws)) (word_bytes (get_or ws j 0) []) (omega arith) (omega arith))
