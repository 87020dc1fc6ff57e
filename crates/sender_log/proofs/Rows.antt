-- Commands written in a row: one that doesn't fit ends it, and those that fit together are all written.
use mathlib.Core.Path.{◌≡◌, refl, ap, ◌∙◌}
use mathlib.Core.Bool.{Bool, true, false, cond}
use mathlib.Core.Logic.{inl, inr}
use mathlib.Core.List.{List, [], ◌∷◌, ◌++◌, append-nil}
use Prim.Native.Nat.{ℕ, zero, suc, ◌+◌, ◌≤◌, ◌<◌, min}
use native.Mathlib.Omega.{arith}
use borrow.Author.Tests.{ltb-true, ltb-false, lt-ltb, le-ltb, ne_eqb}
use lib.Dec.{ltb}
use lib.ListN.{length, take, drop}
use Rattle.config.specs.inner.Tests.{split}
use Rattle.packet.specs.Layout.{Packet, size_of}
use Rattle.packet.specs.Write.{limit_of, start_of, no_fit, valid_of, refused_of, done_of, placed_of, written_of, done}
use Rattle.packet.specs.declared.writer.PayloadWriter.{PayloadWriter}
use Rattle.packet.proofs.Outcomes.{written_valid, written_length}
use Rattle.rows.specs.Rows.{Row, row_of, sizes_of, fit_all}
use Rattle.rows.specs.Choice.{repeats_of}
use Rattle.sender_log.specs.Promise.{NoRoom}

-- each has at most 255 words
unfoldable pub Few : List Packet → Type 0
Few [] = Unit {0}
Few (c ∷ cs) = (length c.words ≤ 255) × Few cs

pub few_append : (xs ys : List Packet) → Few xs → Few ys → Few (xs ++ ys)
unfolding Few
few_append [] ys f g = g
few_append (x ∷ xs) ys f g = (f.0, few_append xs ys f.1 g)

pub few_take : (k : ℕ) (cs : List Packet) → Few cs → Few (take k cs)
unfolding Few
few_take zero cs f = tt
few_take (suc k) [] f = tt
few_take (suc k) (c ∷ cs) f = (f.0, few_take k cs f.1)

-- ---- the first of a row

module _ (p : PayloadWriter) (by : List ℕ) (c : Packet) (v : valid_of p (length by) ≡ true) where
  one_left : limit_of p (length by) < start_of p + size_of c → written_of p by c ≡ (refused_of p (no_fit p), by)
  unfolding written_of
  one_left l = rw (v, lt-ltb (limit_of p (length by)) (start_of p + size_of c) l)

  one_written : start_of p + size_of c ≤ limit_of p (length by) → length c.words ≤ 255 → written_of p by c ≡ (done_of p c, placed_of p by c)
  unfolding written_of
  one_written l k = rw (v, le-ltb (limit_of p (length by)) (start_of p + size_of c) l, le-ltb 255 (length c.words) k)

  pub row_left : (cs : List Packet) → limit_of p (length by) < start_of p + size_of c → row_of p by (c ∷ cs) ≡ record { payload = p; bytes = by; written = 0; whole = false }
  unfolding row_of
  row_left cs l = rw (one_left l)

  module _ (l : start_of p + size_of c ≤ limit_of p (length by)) (k : length c.words ≤ 255) where
    -- the rest of the row
    abbrev after_one : List Packet → Row
    after_one cs = row_of (done_of p c).payload (placed_of p by c) cs

    row_one : (cs : List Packet) → row_of p by (c ∷ cs) ≡ record { payload = (after_one cs).payload; bytes = (after_one cs).bytes; written = 1 + (after_one cs).written; whole = (after_one cs).whole }
    unfolding row_of
    row_one cs = rw (one_written l k)

    placed_length : length (placed_of p by c) ≡ length by
    placed_length = written_length p by c (done_of p c, placed_of p by c) (done l k)

    after_valid : valid_of (done_of p c).payload (length (placed_of p by c)) ≡ true
    after_valid = rw placed_length (written_valid p by c (done_of p c, placed_of p by c) (done l k) v)

  start_after : start_of (done_of p c).payload ≡ start_of p + size_of c
  start_after = rw (ne_eqb (start_of p + size_of c) 0 (λ e. omega arith))

-- ---- the whole row

-- its payload passes the state test; either all are written, or the first that isn't doesn't fit
pub record RowRight (cs : List Packet) (out : Row) : Type 0 where
  pub valid : valid_of out.payload (length out.bytes) ≡ true
  pub all : out.whole ≡ true → out.written ≡ length cs
  pub left : out.whole ≡ false → (out.written < length cs) × NoRoom out.payload out.bytes (drop out.written cs)

one_more : (c : Packet) (cs : List Packet) (r : Row) → RowRight cs r → RowRight (c ∷ cs) record { payload = r.payload; bytes = r.bytes; written = 1 + r.written; whole = r.whole }
one_more c cs r i =
    let e : 1 + r.written ≡ suc r.written = omega arith in
    record {
      valid = i.valid;
      all = λ w. omega (arith, i.all w);
      left = λ w. (omega (arith, (i.left w).0), rw e (i.left w).1);
    }

pub row_right : (cs : List Packet) (p : PayloadWriter) (by : List ℕ) → Few cs → valid_of p (length by) ≡ true → RowRight cs (row_of p by cs)
unfolding row_of Few
row_right [] p by f v = record { valid = v; all = λ w. refl; left = λ w. absurd (let z : ◌≡◌ {A = ℕ} 0 1 = cc in omega arith) }
row_right (c ∷ cs) p by f v = elim (split (ltb (limit_of p (length by)) (start_of p + size_of c))) [
  | inl t ↦
      let l = ltb-true (limit_of p (length by)) (start_of p + size_of c) t in
      rw (row_left p by c v cs l) (record { valid = v; all = λ w. absurd (let z : ◌≡◌ {A = ℕ} 0 1 = cc in omega arith); left = λ w. (omega arith, l) })
  | inr t ↦
      let l = ltb-false (limit_of p (length by)) (start_of p + size_of c) t in
      rw (row_one p by c v l f.0 cs) (one_more c cs _ (row_right cs (done_of p c).payload (placed_of p by c) f.1 (after_valid p by c v l f.0)))
]

-- commands that fit together are written, whatever comes behind them
pub row_enough : (xs ys : List Packet) (p : PayloadWriter) (by : List ℕ) → Few xs → valid_of p (length by) ≡ true → start_of p + sizes_of xs ≤ limit_of p (length by)
    → length xs ≤ (row_of p by (xs ++ ys)).written
unfolding Few sizes_of
row_enough [] ys p by f v l = omega arith
row_enough (x ∷ xs) ys p by f v l =
    let k : start_of p + size_of x ≤ limit_of p (length by) = omega arith in
    let n = placed_length p by x v k f.0 in
    let i = row_enough xs ys (done_of p x).payload (placed_of p by x) f.1 (after_valid p by x v k f.0) (omega (arith, start_after p by x v)) in
    rw (row_one p by x v k f.0 (xs ++ ys)) (omega arith)

pub row_all : (cs : List Packet) (p : PayloadWriter) (by : List ℕ) → Few cs → valid_of p (length by) ≡ true → start_of p + sizes_of cs ≤ limit_of p (length by)
    → ((row_of p by cs).whole ≡ true) × ((row_of p by cs).written ≡ length cs)
row_all cs p by f v l =
    let r = row_right cs p by f v in
    let n : length cs ≤ (row_of p by cs).written = rw (append-nil cs) at (row_enough cs [] p by f v l) in
    elim (split (row_of p by cs).whole) [
      | inl t ↦ (t, r.all t)
      | inr t ↦ absurd (let z : ⊥ = omega (arith, (r.left t).0) in z)
    ]

-- ---- sizes

pub sizes_append : (xs ys : List Packet) → sizes_of (xs ++ ys) ≡ sizes_of xs + sizes_of ys
unfolding sizes_of
sizes_append [] ys = omega arith
sizes_append (x ∷ xs) ys = omega (arith, sizes_append xs ys)

-- where the next header goes after a row
pub row_start : (cs : List Packet) (p : PayloadWriter) (by : List ℕ) → Few cs → valid_of p (length by) ≡ true
    → (start_of (row_of p by cs).payload ≡ start_of p + sizes_of (take (row_of p by cs).written cs)) × (limit_of (row_of p by cs).payload (length (row_of p by cs).bytes) ≡ limit_of p (length by))
unfolding row_of Few sizes_of
row_start [] p by f v = (omega arith, refl)
row_start (c ∷ cs) p by f v = elim (split (ltb (limit_of p (length by)) (start_of p + size_of c))) [
  | inl t ↦ rw (row_left p by c v cs (ltb-true (limit_of p (length by)) (start_of p + size_of c) t)) (omega arith, refl)
  | inr t ↦
      let l = ltb-false (limit_of p (length by)) (start_of p + size_of c) t in
      let n = placed_length p by c v l f.0 in
      let i = row_start cs (done_of p c).payload (placed_of p by c) f.1 (after_valid p by c v l f.0) in
      let w : ℕ = (row_of (done_of p c).payload (placed_of p by c) cs).written in
      let m : 1 + w ≡ suc w = omega arith in
      rw (row_one p by c v l f.0 cs, m) (omega (arith, i.0, start_after p by c v), i.1 ∙ ap (λ (k : ℕ). min p.max k) n)
]

-- ---- repeats

-- repeats fit beside the first new command
pub repeats_fit : (p : PayloadWriter) (by : List ℕ) (first : Packet) (cs : List Packet) → fit_all p by (first ∷ []) ≡ true → fit_all p by (first ∷ repeats_of p by first cs) ≡ true
unfolding repeats_of
repeats_fit p by first [] e = e
repeats_fit p by first (c ∷ cs) e = on (fit_all p by (first ∷ c ∷ cs)) refl (repeats_fit p by first cs e)
  where
    on : (t : Bool) → fit_all p by (first ∷ c ∷ cs) ≡ t → fit_all p by (first ∷ repeats_of p by first cs) ≡ true → fit_all p by (first ∷ cond t (c ∷ cs) (repeats_of p by first cs)) ≡ true
    on true f i = f
    on false f i = i

pub repeats_few : (p : PayloadWriter) (by : List ℕ) (first : Packet) (cs : List Packet) → Few cs → Few (repeats_of p by first cs)
unfolding repeats_of Few
repeats_few p by first [] f = tt
repeats_few p by first (c ∷ cs) f = on (fit_all p by (first ∷ c ∷ cs)) (repeats_few p by first cs f.1)
  where
    on : (t : Bool) → Few (repeats_of p by first cs) → Few (cond t (c ∷ cs) (repeats_of p by first cs))
    on true i = f
    on false i = i
