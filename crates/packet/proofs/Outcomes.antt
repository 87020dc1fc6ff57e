-- What a write leaves: its outcomes, a valid payload, untouched bytes, and a payload that has grown by one command.
use mathlib.Core.Path.{◌≡◌, refl, sym, ap, ◌∙◌}
use mathlib.Core.Bool.{true, false, ◌&&◌}
use mathlib.Core.Logic.{inl, inr}
use mathlib.Core.List.{List, [], ◌∷◌, ◌++◌, append_assoc, append-nil}
use Prim.Native.Nat.{ℕ, ◌+◌, ◌%◌, ◌≤◌, min}
use native.Mathlib.Omega.{arith}
use lib.Dec.{eqb, leb, ltb}
use lib.ListN.{length, take, drop}
use lib.Seq.{length-take-le}
use borrow.Author.Tests.{leb-true, eqb-true}
use Rattle.config.specs.Range.{within}
use Rattle.config.specs.declared.refusal.Refusal.TheVariants.{InvalidValue, InvalidState}
use Rattle.config.specs.inner.Tests.{split, tests, lifts, and_left, and_right}
use Rattle.packet.specs.Layout.{Packet, signature, encoded, size_of, encoded_all, payload_of}
use Rattle.packet.specs.Write.{limit_of, valid_of, start_of, no_fit, placed_of, written_of, bytes_in, WriteEnds, refused, done}
use Rattle.packet.specs.declared.writer.PayloadWriter.{PayloadWriter}
use Rattle.packet.specs.declared.writer.Wrote.{Wrote}
use Rattle.packet.proofs.Splice.{length_spliced, take_spliced, drop_spliced, take_before_spliced}
use Rattle.packet.proofs.RoundTrip.{length_encoded, encoded_all_append}

pub outcome : (p : PayloadWriter) (b : List ℕ) (c : Packet) → WriteEnds p b c (written_of p b c)
unfolding written_of
outcome p b c = elim (split (valid_of p (length b))) [
  | inr v ↦ rw v (refused InvalidState)
  | inl v ↦ elim (split (ltb (limit_of p (length b)) (start_of p + size_of c))) [
    | inl f ↦ rw (v, f) (refused (no_fit p))
    | inr f ↦ elim (split (ltb 255 (length c.words))) [
      | inl l ↦ rw (v, f, l) (refused InvalidValue)
      | inr l ↦ rw (v, f, l) (done (omega (arith, tests)) (omega (arith, tests)))
    ]
  ]
]

-- ---- the state test, as facts
pub valid_max : (p : PayloadWriter) (room : ℕ) → valid_of p room ≡ true → (8 ≤ p.max) × (p.max ≤ 1400)
unfolding valid_of
valid_max p room v =
    let w = and_left (within 8 1400 p.max) _ v in
    (leb-true _ _ (and_left (leb 8 p.max) _ w), leb-true _ _ (and_right (leb 8 p.max) _ w))

pub valid_four : (p : PayloadWriter) (room : ℕ) → valid_of p room ≡ true → p.len % 4 ≡ 0
unfolding valid_of
valid_four p room v = elim (split (eqb p.len 0)) [
  | inl z ↦ omega (arith, tests)
  | inr z ↦
      let r : (within 8 (limit_of p room) p.len && eqb (p.len % 4) 0) ≡ true = rw z at (and_right (within 8 1400 p.max) _ v) in
      eqb-true _ _ (and_right (within 8 (limit_of p room) p.len) _ r)
]

start_four : (p : PayloadWriter) (room : ℕ) → valid_of p room ≡ true → (start_of p % 4 ≡ 0) × (4 ≤ start_of p)
unfolding valid_of
start_four p room v = elim (split (eqb p.len 0)) [
  | inl z ↦ rw z (refl, omega arith)
  | inr z ↦
      let r : (within 8 (limit_of p room) p.len && eqb (p.len % 4) 0) ≡ true = rw z at (and_right (within 8 1400 p.max) _ v) in
      let l = and_left (leb 8 p.len) _ (and_left (within 8 (limit_of p room) p.len) _ r) in
      rw z (valid_four p room v, omega (arith, leb-true 8 p.len l))
]

-- a payload with a length in range passes the state test
pub valid_by : (n max room : ℕ) → 8 ≤ max → max ≤ 1400 → 8 ≤ n → n ≤ min max room → n % 4 ≡ 0
    → valid_of record { len = n; max = max } room ≡ true
unfolding valid_of
valid_by n max room a b c d e =
    let t₁ : leb 8 max ≡ true = omega (arith, lifts) in
    let t₂ : leb max 1400 ≡ true = omega (arith, lifts) in
    let t₃ : eqb n 0 ≡ false = omega (arith, lifts) in
    let t₄ : leb 8 n ≡ true = omega (arith, lifts) in
    let t₅ : leb n (min max room) ≡ true = omega (arith, lifts) in
    let t₆ : eqb (n % 4) 0 ≡ true = omega (arith, lifts) in
    rw (t₁, t₂, t₃, t₄, t₅, t₆)

-- a write leaves a payload that passes it
pub written_valid : (p : PayloadWriter) (b : List ℕ) (c : Packet) (w : Wrote × List ℕ) → WriteEnds p b c w → valid_of p (length b) ≡ true
    → valid_of w.0.payload (length b) ≡ true
written_valid p b c w (refused r) v = v
written_valid p b c w (done f l) v =
    let m = valid_max p (length b) v in
    let s = start_four p (length b) v in
    valid_by (start_of p + size_of c) p.max (length b) m.0 m.1 (omega arith) f (omega arith)

-- ---- the buffer
placed_fits : (p : PayloadWriter) (b : List ℕ) (c : Packet) → start_of p + size_of c ≤ limit_of p (length b)
    → (length (placed_of p b c) ≡ length b)
    × (drop (start_of p + size_of c) (placed_of p b c) ≡ drop (start_of p + size_of c) b)
placed_fits p b c f =
    let n = length_encoded c in
    elim (split (eqb p.len 0)) [
      | inl z ↦
          let g : 4 + size_of c ≤ limit_of p (length b) = rw z at f in
          let i : 0 + length (signature ++ encoded c) ≡ 4 + size_of c = omega arith in
          rw z (length_spliced b 0 (signature ++ encoded c) (omega arith), rw (← i) (drop_spliced b 0 (signature ++ encoded c) (omega arith)))
      | inr z ↦
          let g : p.len + size_of c ≤ limit_of p (length b) = rw z at f in
          rw (z, ← n) (length_spliced b p.len (encoded c) (omega arith), drop_spliced b p.len (encoded c) (omega arith))
    ]

pub written_length : (p : PayloadWriter) (b : List ℕ) (c : Packet) (w : Wrote × List ℕ) → WriteEnds p b c w → length w.1 ≡ length b
written_length p b c w (refused r) = refl
written_length p b c w (done f l) = (placed_fits p b c f).0

-- no byte at or past the new length is touched
pub written_after : (p : PayloadWriter) (b : List ℕ) (c : Packet) (w : Wrote × List ℕ) → WriteEnds p b c w
    → drop w.0.payload.len w.1 ≡ drop w.0.payload.len b
written_after p b c w (refused r) = refl
written_after p b c w (done f l) = (placed_fits p b c f).1

-- nor one below the old length, but for the signature of an empty payload
pub written_before : (p : PayloadWriter) (b : List ℕ) (c : Packet) (w : Wrote × List ℕ) → WriteEnds p b c w → bytes_in p w.1 ≡ bytes_in p b
written_before p b c w (refused r) = refl
written_before p b c w (done f l) = elim (split (eqb p.len 0)) [
  | inl z ↦ let e : p.len ≡ 0 = eqb-true _ _ z in rw e
  | inr z ↦
      let g : p.len + size_of c ≤ limit_of p (length b) = rw z at f in
      rw z (take_before_spliced b p.len (encoded c) (omega (arith, length_encoded c)))
]

-- ---- the bytes that the payload holds
grows_empty : (p : PayloadWriter) (b : List ℕ) (c : Packet) (cs : List Packet) → eqb p.len 0 ≡ true
    → start_of p + size_of c ≤ limit_of p (length b) → bytes_in p b ≡ payload_of cs
    → take (start_of p + size_of c) (placed_of p b c) ≡ payload_of (cs ++ (c ∷ []))
unfolding payload_of encoded_all
grows_empty p b c [] z f e =
    let g : 4 + size_of c ≤ limit_of p (length b) = rw z at f in
    let n : 4 + size_of c ≡ 0 + length (signature ++ encoded c) = omega (arith, length_encoded c) in
    rw (z, n, append-nil (encoded c)) (take_spliced b 0 (signature ++ encoded c) (omega arith))
grows_empty p b c (d ∷ ds) z f e =
    let none : p.len ≡ 0 = eqb-true _ _ z in
    let e₀ : take 0 b ≡ payload_of (d ∷ ds) = rw none at e in
    absurd (let y : ◌≡◌ {A = ℕ} 0 1 = cc in let x : ⊥ = omega arith in x)

grows_after : (p : PayloadWriter) (b : List ℕ) (c : Packet) (cs : List Packet) → eqb p.len 0 ≡ false → p.len ≤ length b
    → start_of p + size_of c ≤ limit_of p (length b) → bytes_in p b ≡ payload_of cs
    → take (start_of p + size_of c) (placed_of p b c) ≡ payload_of (cs ++ (c ∷ []))
unfolding payload_of encoded_all
grows_after p b c [] z h f e =
    let n = length-take-le p.len b h in
    let m : length (take p.len b) ≡ 0 = ap length e in
    absurd (let x : ⊥ = omega (arith, tests) in x)
grows_after p b c (d ∷ ds) z h f e =
    let g : p.len + size_of c ≤ limit_of p (length b) = rw z at f in
    let n = length_encoded c in
    rw (z, ← n, take_spliced b p.len (encoded c) (omega arith), e)
    (append_assoc (signature ++ encoded d) (encoded_all ds) (encoded c)
    ∙ ap (λ (xs : List ℕ). signature ++ (encoded d ++ xs)) (ap (λ (xs : List ℕ). encoded_all ds ++ xs) (sym (append-nil (encoded c))) ∙ sym (encoded_all_append ds (c ∷ []))))

-- with the commands cs so far, the payload holds these and c afterwards
pub written_grows : (p : PayloadWriter) (b : List ℕ) (c : Packet) (cs : List Packet) → p.len ≤ length b
    → start_of p + size_of c ≤ limit_of p (length b) → bytes_in p b ≡ payload_of cs
    → take (start_of p + size_of c) (placed_of p b c) ≡ payload_of (cs ++ (c ∷ []))
written_grows p b c cs h f e = elim (split (eqb p.len 0)) [
  | inl z ↦ grows_empty p b c cs z f e
  | inr z ↦ grows_after p b c cs z h f e
]

-- a payload lies in its buffer
pub valid_length : (p : PayloadWriter) (room : ℕ) → valid_of p room ≡ true → p.len ≤ room
unfolding valid_of
valid_length p room v = elim (split (eqb p.len 0)) [
  | inl z ↦ omega (arith, tests)
  | inr z ↦
      let r : (within 8 (limit_of p room) p.len && eqb (p.len % 4) 0) ≡ true = rw z at (and_right (within 8 1400 p.max) _ v) in
      let l = and_right (leb 8 p.len) _ (and_left (within 8 (limit_of p room) p.len) _ r) in
      omega (arith, leb-true p.len (limit_of p room) l)
]
