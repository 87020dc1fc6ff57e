-- A write adds commands behind what the payload holds: reading from there on finds them.
use mathlib.Core.Path.{◌≡◌, refl, sym, ap, ◌∙◌}
use mathlib.Core.Logic.{inl, inr}
use mathlib.Core.Bool.{false, cond}
use mathlib.Core.List.{List, [], ◌∷◌, ◌++◌, append-nil, append_assoc}
use Prim.Native.Nat.{ℕ, suc, ◌+◌, ◌≤◌}
use native.Mathlib.Omega.{arith}
use lib.Dec.{eqb}
use lib.ListN.{length, take, drop, length-append, length-drop, drop_of_length-le, length-take}
use lib.Seq.{take_at, drop_at, length-take-le, take-take}
use Rattle.config.specs.inner.Tests.{split, tests, lifts}
use Rattle.packet.specs.Layout.{Packet, signature, encoded, size_of, encoded_all, payload_of, AllEncodable}
use Rattle.packet.specs.Read.{items_from, items_of, placed}
use Rattle.packet.specs.Write.{limit_of, start_of, bytes_in, done_of, placed_of, written_of, WriteEnds, refused, done}
use Rattle.packet.specs.declared.writer.PayloadWriter.{PayloadWriter}
use Rattle.packet.specs.declared.writer.Wrote.{Wrote}
use Rattle.packet.proofs.Splice.{take_spliced}
use Rattle.packet.proofs.Outcomes.{outcome, written_length}
use Rattle.packet.proofs.RoundTrip.{length_encoded, encoded_all_append, all_encodable_append, items_encoded, items_payload}
use Rattle.rows.specs.Rows.{one_more, row_of}
use Rattle.sender_log.specs.Added.{items_added, wholes_in, added_in}

-- what stands before the first command added
abbrev begun : PayloadWriter → List ℕ → List ℕ
begun p by = cond (eqb p.len 0) signature (bytes_in p by)

-- commands are added behind what the payload holds
pub data Appends (p : PayloadWriter) (by : List ℕ) : List Packet → PayloadWriter → List ℕ → Type 0 where
  none : Appends p by [] p by
  some : (c : Packet) (cs : List Packet) (q : PayloadWriter) (by' : List ℕ) → (q.len ≡ 0 → ⊥) → q.len ≤ length by' → length by' ≡ length by
      → bytes_in q by' ≡ begun p by ++ encoded_all (c ∷ cs) → Appends p by (c ∷ cs) q by'

pub appends_more : (p q r : PayloadWriter) (by by' by'' : List ℕ) (cs ds : List Packet) → Appends p by cs q by' → Appends q by' ds r by'' → Appends p by (cs ++ ds) r by''
unfolding encoded_all
appends_more p q r by by' by'' cs ds none k = k
appends_more p q r by by' by'' cs ds (some c es _ _ l m n e) none = rw append-nil (some c es q by' l m n e)
appends_more p q r by by' by'' cs ds (some c es _ _ l m n e) (some d fs _ _ l' m' n' e') =
    let z : eqb q.len 0 ≡ false = omega (arith, lifts) in
    let e₁ : bytes_in r by'' ≡ bytes_in q by' ++ encoded_all (d ∷ fs) = rw z at e' in
    some c (es ++ (d ∷ fs)) r by'' l' m' (n' ∙ n)
    (e₁ ∙ ap (λ (xs : List ℕ). xs ++ encoded_all (d ∷ fs)) e ∙ append_assoc (begun p by) (encoded_all (c ∷ es)) (encoded_all (d ∷ fs))
    ∙ ap (λ (xs : List ℕ). begun p by ++ xs) (sym (encoded_all_append (c ∷ es) (d ∷ fs))))

-- one command
pub one_appended : (p : PayloadWriter) (by : List ℕ) (c : Packet) → start_of p + size_of c ≤ limit_of p (length by) → length c.words ≤ 255
    → Appends p by (c ∷ []) (done_of p c).payload (placed_of p by c)
unfolding encoded_all
one_appended p by c f l =
    let n = length_encoded c in
    let long = written_length p by c (done_of p c, placed_of p by c) (done f l) in
    some c [] (done_of p c).payload (placed_of p by c) (λ e. omega arith) (omega arith) long (rw append-nil (elim (split (eqb p.len 0)) [
      | inl z ↦
          let g : 4 + size_of c ≤ limit_of p (length by) = rw z at f in
          let m : 4 + size_of c ≡ 0 + length (signature ++ encoded c) = omega arith in
          rw (z, m) (take_spliced by 0 (signature ++ encoded c) (omega arith))
      | inr z ↦
          let g : p.len + size_of c ≤ limit_of p (length by) = rw z at f in
          rw (z, ← n) (take_spliced by p.len (encoded c) (omega arith))
    ]))

-- a row, up to the first that doesn't fit
pub row_appended : (cs : List Packet) (p : PayloadWriter) (by : List ℕ) → Appends p by (take (row_of p by cs).written cs) (row_of p by cs).payload (row_of p by cs).bytes
unfolding row_of
row_appended [] p by = none
row_appended (c ∷ cs) p by = go (written_of p by c) (outcome p by c) (λ q bytes. row_appended cs q bytes)
  where
    go : (w : Wrote × List ℕ) → WriteEnds p by c w
        → ((q : PayloadWriter) (bytes : List ℕ) → Appends q bytes (take (row_of q bytes cs).written cs) (row_of q bytes cs).payload (row_of q bytes cs).bytes)
        → (let r = one_more w.0.answer w.0.payload w.1 (row_of w.0.payload w.1 cs) in Appends p by (take r.written (c ∷ cs)) r.payload r.bytes)
    go w (refused r) rest = none
    go w (done f l) rest =
        let q : PayloadWriter = (done_of p c).payload in
        let n : 1 + (row_of q (placed_of p by c) cs).written ≡ suc (row_of q (placed_of p by c) cs).written = omega arith in
        rw n (appends_more p q (row_of q (placed_of p by c) cs).payload by (placed_of p by c) (row_of q (placed_of p by c) cs).bytes (c ∷ [])
        (take (row_of q (placed_of p by c) cs).written cs) (one_appended p by c f l) (rest q (placed_of p by c)))

-- ---- reading

wholes_placed : (cs : List Packet) (at : ℕ) → wholes_in (placed at cs) ≡ cs
unfolding wholes_in placed
wholes_placed [] at = refl
wholes_placed (c ∷ cs) at = ap (λ (ds : List Packet). c ∷ ds) (wholes_placed cs _)

begun_length : (p : PayloadWriter) (by : List ℕ) → p.len ≤ length by → length (begun p by) ≡ start_of p
begun_length p by l = elim (split (eqb p.len 0)) [ inl z ↦ rw z | inr z ↦ rw z (length-take-le p.len by l) ]

module _ (p : PayloadWriter) (by : List ℕ) (l : p.len ≤ length by) where
  -- from where the first header went on
  behind_before : (q : PayloadWriter) (by' : List ℕ) (cs : List Packet) → Appends p by cs q by' → drop (start_of p) (bytes_in q by') ≡ encoded_all cs
  unfolding encoded_all
  behind_before q by' cs none = drop_of_length-le (bytes_in p by) {i = start_of p} (elim (split (eqb p.len 0)) [
    | inl z ↦ rw z (omega (arith, tests, length-take p.len by))
    | inr z ↦ rw z (omega (arith, length-take p.len by))
  ])
  behind_before q by' cs (some c es _ _ _ m n e) = ap (drop (start_of p)) e ∙ drop_at (begun p by) (encoded_all (c ∷ es)) (start_of p) (begun_length p by l)

  pub appends_items : (q : PayloadWriter) (by' : List ℕ) (cs : List Packet) → AllEncodable cs → Appends p by cs q by' → items_added p q by' ≡ placed (start_of p) cs
  unfolding items_added
  appends_items q by' cs h a =
      let e = behind_before q by' cs a in
      let k : length (encoded_all cs) ≤ length by' = omega (arith, ap length e, length-drop (start_of p) (bytes_in q by'), length-take q.len by') in
      ap (items_from (length by') (start_of p)) e ∙ items_encoded cs (length by') (start_of p) k h

  pub appends_added : (q : PayloadWriter) (by' : List ℕ) (cs : List Packet) → AllEncodable cs → Appends p by cs q by' → added_in p q by' ≡ cs
  appends_added q by' cs h a = ap wholes_in (appends_items q by' cs h a) ∙ wholes_placed cs (start_of p)

  -- what stood there stays
  pub appends_kept : (q : PayloadWriter) (by' : List ℕ) (cs : List Packet) → Appends p by cs q by' → bytes_in p by' ≡ bytes_in p by
  appends_kept q by' cs none = refl
  appends_kept q by' cs (some c es _ _ _ m n e) = elim (split (eqb p.len 0)) [
    | inl z ↦ let o : p.len ≡ 0 = omega (arith, tests) in rw o
    | inr z ↦
        let b = begun_length p by l in
        let f : bytes_in q by' ≡ bytes_in p by ++ encoded_all (c ∷ es) = rw z at e in
        let k : p.len ≤ q.len = omega (arith, ap length f, length-append (bytes_in p by) (encoded_all (c ∷ es)), length-take q.len by', length-take p.len by) in
        sym (take-take p.len q.len by' k) ∙ ap (take p.len) f ∙ take_at (bytes_in p by) (encoded_all (c ∷ es)) p.len (length-take-le p.len by l)
  ]

-- ---- a payload that held commands

payload_more : (held cs : List Packet) (c : Packet) → (length (payload_of held) ≡ 0 → ⊥) → payload_of held ++ encoded_all (c ∷ cs) ≡ payload_of (held ++ (c ∷ cs))
unfolding payload_of
payload_more [] cs c l = absurd (l refl)
payload_more (d ∷ ds) cs c l = append_assoc signature (encoded_all (d ∷ ds)) (encoded_all (c ∷ cs)) ∙ ap (λ (xs : List ℕ). signature ++ xs) (sym (encoded_all_append (d ∷ ds) (c ∷ cs)))

payload_none : (held : List Packet) → payload_of held ≡ [] → held ≡ []
unfolding payload_of
payload_none [] e = refl
payload_none (d ∷ ds) e = absurd (let z : ◌≡◌ {A = ℕ} 0 1 = cc in omega arith)

appends_payload : (p q : PayloadWriter) (by by' : List ℕ) (cs held : List Packet) → p.len ≤ length by → Appends p by cs q by' → bytes_in p by ≡ payload_of held
    → bytes_in q by' ≡ payload_of (held ++ cs)
unfolding payload_of
appends_payload p q by by' cs held l none h = rw append-nil h
appends_payload p q by by' cs held l (some c es _ _ o m n e) h = elim (split (eqb p.len 0)) [
  | inl z ↦
      let f : bytes_in q by' ≡ signature ++ encoded_all (c ∷ es) = rw z at e in
      let y : p.len ≡ 0 = omega (arith, tests) in
      let g : take 0 by ≡ payload_of held = rw y at h in
      let k : held ≡ [] = payload_none held (sym g) in
      rw k f
  | inr z ↦
      let f : bytes_in q by' ≡ bytes_in p by ++ encoded_all (c ∷ es) = rw z at e in
      f ∙ ap (λ (xs : List ℕ). xs ++ encoded_all (c ∷ es)) h
      ∙ payload_more held es c (λ y. let w : ⊥ = omega (arith, tests, ap length h, length-take-le p.len by l) in w)
]

pub appends_reads : (p q : PayloadWriter) (by by' : List ℕ) (cs held : List Packet) → p.len ≤ length by → Appends p by cs q by' → AllEncodable cs → AllEncodable held → bytes_in p by ≡ payload_of held
    → items_of (bytes_in q by') ≡ placed 4 (held ++ cs)
appends_reads p q by by' cs held l a k j h =
    ap items_of (appends_payload p q by by' cs held l a h) ∙ items_payload (held ++ cs) (all_encodable_append held cs j k)
