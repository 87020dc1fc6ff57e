-- The state test of a payload, and the answers of `written_of`, each from the facts that lead to it.
use mathlib.Core.Path.{◌≡◌, refl, ap, ◌∙◌}
use Rattle.std.proofs.Common.{Ok}
use mathlib.Core.Bool.{true, false}
use mathlib.Core.List.{List, [], ◌∷◌, ◌++◌}
use mathlib.Core.Logic.{inl, inr}
use Prim.Native.Nat.{ℕ, ◌+◌, ◌*◌, ◌%◌, ◌≤◌, ◌<◌}
use native.Mathlib.Omega.{arith}
use lib.Dec.{eqb}
use lib.ListN.{length, length-append}
use borrow.Author.Tests.{le-ltb, lt-ltb, eq-eqb, ne_eqb, not-true, not-false}
use Rattle.config.specs.Range.{within, outside}
use Rattle.config.specs.declared.refusal.Refusal.TheVariants.{InvalidValue, InvalidState}
use Rattle.config.specs.inner.Tests.{split}
use Rattle.packet.specs.Bytes.{bytes_of, spliced}
use Rattle.packet.specs.Layout.{Packet, packet, signature, encoded, size_of}
use Rattle.packet.specs.Write.{limit_of, valid_of, start_of, begun_of, no_fit, refused_of, placed_of, written_of}
use Rattle.packet.specs.declared.writer.PayloadWriter.{PayloadWriter}
use Rattle.packet.specs.declared.writer.Wrote.{Wrote}
use Rattle.packet.proofs.Splice.{length_spliced, spliced_append}
use Rattle.packet.proofs.Words.{length_bytes_of, bytes_of_append}

-- ---- the state test
module _ (p : PayloadWriter) (room : ℕ) where
  pub valid_limit_not : outside 8 1400 p.max ≡ true → false ≡ valid_of p room
  unfolding valid_of
  valid_limit_not o = rw (not-true (within 8 1400 p.max) o)

  module _ (o : outside 8 1400 p.max ≡ false) where
    pub valid_empty : p.len ≡ 0 → true ≡ valid_of p room
    unfolding valid_of
    valid_empty z = rw (not-false (within 8 1400 p.max) o, eq-eqb _ _ z)

    module _ (z : p.len ≡ 0 → ⊥) (most : ℕ) (e : most ≡ limit_of p room) where
      pub valid_length_not : outside 8 most p.len ≡ true → false ≡ valid_of p room
      unfolding valid_of
      valid_length_not l = rw (not-false (within 8 1400 p.max) o, ne_eqb _ _ z, ← e, not-true (within 8 most p.len) l)

      pub valid_length : outside 8 most p.len ≡ false → eqb (p.len % 4) 0 ≡ valid_of p room
      unfolding valid_of
      valid_length l = rw (not-false (within 8 1400 p.max) o, ne_eqb _ _ z, ← e, not-false (within 8 most p.len) l)

-- ---- the answers
module _ (p : PayloadWriter) (b : List ℕ) (c : Packet) where
  pub written_invalid : valid_of p (length b) ≡ false → (refused_of p InvalidState, b) ≡ written_of p b c
  unfolding written_of
  written_invalid v = rw v

  module _ (v : valid_of p (length b) ≡ true) where
    pub written_no_fit : (r : Wrote) → r ≡ refused_of p (no_fit p) → limit_of p (length b) < start_of p + size_of c → (r, b) ≡ written_of p b c
    unfolding written_of
    written_no_fit r e f = rw (v, lt-ltb _ _ f, e)

    module _ (f : start_of p + size_of c ≤ limit_of p (length b)) where
      pub written_long : 255 < length c.words → (refused_of p InvalidValue, b) ≡ written_of p b c
      unfolding written_of
      written_long l = rw (v, le-ltb _ _ f, lt-ltb _ _ l)

      pub written_done : (n : ℕ) (e : List ℕ) → length c.words ≤ 255 → n ≡ start_of p + size_of c → e ≡ placed_of p b c
          → (record { payload = record { len = n; max = p.max }; answer = Ok tt }, e) ≡ written_of p b c
      unfolding written_of
      written_done n e l ne ee = rw (v, le-ltb _ _ f, le-ltb _ _ l, ne, ee)

-- ---- the bytes of a command, as the code stores them: what it begins with, the header, the words in one run or two
header_words : (b : List ℕ) (at code n csd1 csd2 : ℕ) (xs : List ℕ) → at + 4 + 4 * length xs ≤ length b
    → spliced (spliced b at (code ∷ n ∷ csd1 ∷ csd2 ∷ [])) (at + 4) (bytes_of xs) ≡ spliced b at (code ∷ n ∷ csd1 ∷ csd2 ∷ bytes_of xs)
header_words b at code n csd1 csd2 xs fits =
    spliced_append b at (at + 4) (code ∷ n ∷ csd1 ∷ csd2 ∷ []) (bytes_of xs) (omega arith) (omega (arith, length_bytes_of xs))

header_runs : (b : List ℕ) (at code n csd1 csd2 : ℕ) (xs ys : List ℕ) → at + 4 + 4 * (length xs + length ys) ≤ length b
    → spliced (spliced (spliced b at (code ∷ n ∷ csd1 ∷ csd2 ∷ [])) (at + 4) (bytes_of xs)) (at + 4 + 4 * length xs) (bytes_of ys)
    ≡ spliced b at (code ∷ n ∷ csd1 ∷ csd2 ∷ bytes_of (xs ++ ys))
header_runs b at code n csd1 csd2 xs ys fits =
    let lx = length_bytes_of xs in
    let ly = length_bytes_of ys in
    ap (λ (l : List ℕ). spliced l (at + 4 + 4 * length xs) (bytes_of ys)) (header_words b at code n csd1 csd2 xs (omega arith))
    ∙ spliced_append b at (at + 4 + 4 * length xs) (code ∷ n ∷ csd1 ∷ csd2 ∷ bytes_of xs) (bytes_of ys) (omega arith) (omega arith)
    ∙ rw (bytes_of_append xs ys)

begun_length : (p : PayloadWriter) (b : List ℕ) → start_of p ≤ length b → length (begun_of p b) ≡ length b
begun_length p b f = elim (split (eqb p.len 0)) [
  | inl z ↦ rw z (length_spliced b 0 signature (rw z at f))
  | inr z ↦ rw z
]

begun_encoded : (p : PayloadWriter) (b : List ℕ) (c : Packet) → start_of p + size_of c ≤ length b
    → spliced (begun_of p b) (start_of p) (encoded c) ≡ placed_of p b c
begun_encoded p b c fits = elim (split (eqb p.len 0)) [
  | inl z ↦
      let f : 4 + size_of c ≤ length b = rw z at fits in
      let lw = length_bytes_of c.words in
      rw z (spliced_append b 0 4 signature (encoded c) refl (omega arith))
  | inr z ↦ rw z
]

module _ (p : PayloadWriter) (b : List ℕ) (code csd1 csd2 at : ℕ) where
  pub placed_runs : (xs ys b₁ b₂ b₃ b₄ : List ℕ) → at ≡ start_of p → b₁ ≡ begun_of p b
      → b₂ ≡ spliced b₁ at (code ∷ (length xs + length ys) ∷ csd1 ∷ csd2 ∷ [])
      → b₃ ≡ spliced b₂ (at + 4) (bytes_of xs)
      → b₄ ≡ spliced b₃ (at + 4 + 4 * length xs) (bytes_of ys)
      → start_of p + (4 + 4 * (length xs + length ys)) ≤ length b
      → b₄ ≡ placed_of p b (packet code csd1 csd2 (xs ++ ys))
  placed_runs xs ys b₁ b₂ b₃ b₄ e₀ e₁ e₂ e₃ e₄ fits =
      let long = length-append xs ys in
      let same = begun_length p b (omega arith) in
      rw (e₄, e₃, e₂, e₁, e₀, ← long)
      (header_runs (begun_of p b) (start_of p) code (length (xs ++ ys)) csd1 csd2 xs ys (omega arith)
      ∙ begun_encoded p b (packet code csd1 csd2 (xs ++ ys)) (omega arith))
