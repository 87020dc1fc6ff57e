-- Commands written one after the other: a turn of the loop that writes them, and what a row leaves of the payload.
use mathlib.Core.Path.{◌≡◌, refl, sym, ap, ◌∙◌}
use Rattle.std.proofs.Common.{Result, Ok, Err}
use Rattle.std.specs.Bool.{⊤}
use Rattle.std.specs.Int.{from_bool}
use Rattle.std.specs.Result.{is_ok}
use mathlib.Core.Bool.{Bool, true, false, ◌&&◌}
use mathlib.Core.Logic.{inl, inr}
use mathlib.Core.List.{List, [], ◌∷◌}
use Prim.Native.Nat.{ℕ, suc, ◌+◌, ◌-◌, ◌*◌, ◌%◌, ◌≤◌, ◌<◌}
use native.Mathlib.Omega.{arith}
use lib.ListN.{length, take, length-take}
use lib.Dec.{eqb, leb}
use borrow.Author.Tests.{ne_eqb, le-leb, leb-true}
use Rattle.config.specs.Range.{within}
use Rattle.config.specs.inner.Tests.{split, and_left, and_right}
use Rattle.config.specs.declared.refusal.Refusal.{Refusal}
use Rattle.packet.specs.Layout.{Packet, size_of}
use Rattle.packet.specs.Write.{valid_of as payload_valid, limit_of, start_of, done_of, placed_of, written_of, WriteEnds, refused, done}
use Rattle.packet.specs.declared.writer.PayloadWriter.{PayloadWriter}
use Rattle.packet.specs.declared.writer.Wrote.{Wrote}
use Rattle.packet.proofs.Outcomes.{outcome, valid_max, written_valid, written_length}
use Rattle.command.specs.Write.{error_packet, error_written}
use Rattle.command.specs.declared.retransmit.RetransmitError.{RetransmitError}
use Rattle.history.specs.Headers.{next_at, entries_from}
use Rattle.history.specs.Entries.{Short}
use Rattle.history.specs.Written.{entry_packet}
use Rattle.rows.specs.Rows.{Row, one_more, row_of, packets_from, sizes_of}
use Rattle.rows.proofs.Packets.{packets_first, short_first, packets_none}

-- ---- a row and the commands before it
-- the row after n commands that were written before it
abbrev pub also : ℕ → Row → Row
also n r = record { payload = r.payload; bytes = r.bytes; written = n + r.written; whole = r.whole }

abbrev pub row_with : PayloadWriter → List ℕ → ℕ → Bool → Row
row_with p b n whole = record { payload = p; bytes = b; written = n; whole = whole }

pub also_none : (r : Row) → also 0 r ≡ r
also_none r = let e : 0 + r.written ≡ r.written = omega arith in ap (λ (m : ℕ). row_with r.payload r.bytes m r.whole) e

module _ (p : PayloadWriter) (b bytes : List ℕ) (c : Packet) (w : Wrote) (put : (w, bytes) ≡ written_of p b c) where
  first : (cs : List Packet) → row_of p b (c ∷ cs) ≡ one_more w.answer w.payload bytes (row_of w.payload bytes cs)
  unfolding row_of
  first cs = rw (← put)

  pub row_done : (n : ℕ) (cs : List Packet) → w.answer ≡ Ok tt → also n (row_of p b (c ∷ cs)) ≡ also (n + 1) (row_of w.payload bytes cs)
  row_done n cs e =
      let r = row_of w.payload bytes cs in
      let s : n + (1 + r.written) ≡ n + 1 + r.written = omega arith in
      ap (also n) (first cs) ∙ ap (λ (a : Result ⊤ Refusal). also n (one_more a w.payload bytes r)) e ∙ ap (λ (m : ℕ). row_with r.payload r.bytes m r.whole) s

  pub row_stop : (n : ℕ) (cs : List Packet) (why : Refusal) → w.answer ≡ Err why → also n (row_of p b (c ∷ cs)) ≡ row_with w.payload bytes n false
  row_stop n cs why e =
      let s : n + 0 ≡ n = omega arith in
      ap (also n) (first cs) ∙ ap (λ (a : Result ⊤ Refusal). also n (one_more a w.payload bytes (row_of w.payload bytes cs))) e ∙ ap (λ (m : ℕ). row_with w.payload bytes m false) s

  -- what one command leaves
  pub one_valid : payload_valid p (length b) ≡ true → payload_valid w.payload (length bytes) ≡ true
  one_valid v = let o = outcome p b c in let l = written_length p b c _ o in let t = written_valid p b c _ o v in rw (← l, ← put) at t

  pub one_length : length bytes ≡ length b
  one_length = rw (← put) at (written_length p b c _ (outcome p b c))

pub row_end : (p : PayloadWriter) (b : List ℕ) (n : ℕ) → also n (row_of p b []) ≡ row_with p b n true
unfolding row_of
row_end p b n = let s : n + 0 ≡ n = omega arith in rw s

-- ---- one command as a row
module _ (p : PayloadWriter) (b bytes : List ℕ) (c : Packet) (w : Wrote) (put : (w, bytes) ≡ written_of p b c) where
  pub row_one : w.answer ≡ Ok tt → row_of p b (c ∷ []) ≡ row_with w.payload bytes 1 true
  row_one e = sym (also_none (row_of p b (c ∷ []))) ∙ row_done p b bytes c w put 0 [] e ∙ row_end w.payload bytes 1

  pub row_none : (why : Refusal) → w.answer ≡ Err why → row_of p b (c ∷ []) ≡ row_with w.payload bytes 0 false
  row_none why e = sym (also_none (row_of p b (c ∷ []))) ∙ row_stop p b bytes c w put 0 [] why e

  pub row_answered : (a : Result ⊤ Refusal) (whole : Bool) (n : ℕ) → w.answer ≡ a → whole ≡ is_ok a → n ≡ from_bool whole → row_of p b (c ∷ []) ≡ row_with w.payload bytes n whole
  row_answered (Ok v) whole n e t f = rw (f, t) (row_one e)
  row_answered (Err why) whole n e t f = rw (f, t) (row_none why e)

-- an error whose reason is a defined one
pub error_written_lem : (e : RetransmitError) (p : PayloadWriter) (b : List ℕ) → payload_valid p (length b) ≡ true → e.reason ≤ 1 → error_written e p b ≡ written_of p b (error_packet e)
unfolding error_written
error_written_lem e p b v l = rw (v, le-leb _ _ l)

-- ---- a turn of `write_entries`
module _ (p : PayloadWriter) (b bytes ring : List ℕ) (i k n : ℕ) (w : Wrote) (put : (w, bytes) ≡ written_of p b (entry_packet ring i)) (more : n < k) where
  here : packets_from (k - n) ring i ≡ entry_packet ring i ∷ packets_from (k - (n + 1)) ring (next_at ring i)
  here = let e : k - n - 1 ≡ k - (n + 1) = omega arith in rw e at (packets_first (k - n) ring i (omega arith))

  pub entries_done : (at : ℕ) (z : Row) → w.answer ≡ Ok tt → at ≡ next_at ring i → also n (row_of p b (packets_from (k - n) ring i)) ≡ z
      → also (n + 1) (row_of w.payload bytes (packets_from (k - (n + 1)) ring at)) ≡ z
  entries_done at z a e inv = rw e (sym (row_done p b bytes (entry_packet ring i) w put n _ a) ∙ rw here at inv)

  pub entries_stop : (z : Row) (why : Refusal) → w.answer ≡ Err why → also n (row_of p b (packets_from (k - n) ring i)) ≡ z → z ≡ row_with w.payload bytes n false
  entries_stop z why a inv = sym (rw here at inv) ∙ row_stop p b bytes (entry_packet ring i) w put n _ why a

  pub entries_short : (at : ℕ) → at ≡ next_at ring i → Short (entries_from (k - n) ring i) → Short (entries_from (k - (n + 1)) ring at)
  entries_short at e s = let f : k - n - 1 ≡ k - (n + 1) = omega arith in rw (e, ← f) (short_first (k - n) ring i (omega arith) s).1

pub entries_end : (p : PayloadWriter) (b ring : List ℕ) (i k n : ℕ) (z : Row) → k ≤ n → also n (row_of p b (packets_from (k - n) ring i)) ≡ z → z ≡ row_with p b n true
entries_end p b ring i k n z l inv =
    let e : k - n ≡ 0 = omega arith in
    sym (rw (e, packets_none) at inv) ∙ row_end p b n

-- ---- what a row leaves
-- the first command is not written, or it is, and the rest comes behind it
by_outcome : (P : Row → Type 0) (p : PayloadWriter) (b : List ℕ) (c : Packet) (cs : List Packet)
    → P (row_with p b 0 false)
    → (start_of p + size_of c ≤ limit_of p (length b) → WriteEnds p b c (done_of p c, placed_of p b c) → P (also 1 (row_of (done_of p c).payload (placed_of p b c) cs)))
    → P (row_of p b (c ∷ cs))
unfolding row_of
by_outcome P p b c cs stop go = by (written_of p b c) (outcome p b c)
  where
    by : (w : Wrote × List ℕ) → WriteEnds p b c w → P (one_more w.0.answer w.0.payload w.1 (row_of w.0.payload w.1 cs))
    by w (refused r) = stop
    by w (done f l) = go f (done f l)

-- where the next header goes after one command
pub start_done : (p : PayloadWriter) (c : Packet) → start_of (done_of p c).payload ≡ start_of p + size_of c
start_done p c = let e : start_of p + size_of c ≡ 0 → ⊥ = λ z. omega arith in rw (ne_eqb _ _ e)

-- the buffer keeps its length, and the payload passes the state test
pub row_length : (cs : List Packet) (p : PayloadWriter) (b : List ℕ) → length (row_of p b cs).bytes ≡ length b
unfolding row_of
row_length [] p b = refl
row_length (c ∷ cs) p b =
    by_outcome (λ r. length r.bytes ≡ length b) p b c cs refl (λ f o. row_length cs (done_of p c).payload (placed_of p b c) ∙ written_length p b c _ o)

pub row_valid : (cs : List Packet) (p : PayloadWriter) (b : List ℕ) → payload_valid p (length b) ≡ true → payload_valid (row_of p b cs).payload (length (row_of p b cs).bytes) ≡ true
unfolding row_of
row_valid [] p b v = v
row_valid (c ∷ cs) p b v =
    by_outcome (λ r. payload_valid r.payload (length r.bytes) ≡ true) p b c cs v
    (λ f o. row_valid cs (done_of p c).payload (placed_of p b c) (rw (written_length p b c _ o) (written_valid p b c _ o v)))

-- no more commands than there are
pub row_few : (cs : List Packet) (p : PayloadWriter) (b : List ℕ) → (row_of p b cs).written ≤ length cs
unfolding row_of
row_few [] p b = omega arith
row_few (c ∷ cs) p b =
    by_outcome (λ r. r.written ≤ length (c ∷ cs)) p b c cs (omega arith) (λ f o. omega (arith, row_few cs (done_of p c).payload (placed_of p b c)))

-- the payload grows by the commands that are written
pub row_size : (cs : List Packet) (p : PayloadWriter) (b : List ℕ) → start_of (row_of p b cs).payload ≡ start_of p + sizes_of (take (row_of p b cs).written cs)
unfolding row_of sizes_of
row_size [] p b = omega arith
row_size (c ∷ cs) p b =
    by_outcome (λ r. start_of r.payload ≡ start_of p + sizes_of (take r.written (c ∷ cs))) p b c cs (omega arith)
    (λ f o. by (row_size cs (done_of p c).payload (placed_of p b c)))
  where
    r : Row
    r = row_of (done_of p c).payload (placed_of p b c) cs

    by : start_of r.payload ≡ start_of (done_of p c).payload + sizes_of (take r.written cs) → start_of r.payload ≡ start_of p + sizes_of (take (1 + r.written) (c ∷ cs))
    by e = let o : 1 + r.written ≡ suc r.written = omega arith in rw o (omega (arith, start_done p c))

sizes_least : (cs : List Packet) → 4 * length cs ≤ sizes_of cs
unfolding sizes_of
sizes_least [] = omega arith
sizes_least (c ∷ cs) = omega (arith, sizes_least cs)

-- each command takes four bytes at least
pub row_grows : (cs : List Packet) (p : PayloadWriter) (b : List ℕ) → start_of p + 4 * (row_of p b cs).written ≤ start_of (row_of p b cs).payload
row_grows cs p b =
    let l : length (take (row_of p b cs).written cs) ≡ (row_of p b cs).written = simp length-take (omega (arith, row_few cs p b)) in
    omega (arith, row_size cs p b, sizes_least (take (row_of p b cs).written cs))

-- up to the limit
pub row_fits : (cs : List Packet) (p : PayloadWriter) (b : List ℕ)
    → ((row_of p b cs).payload.max ≡ p.max) × (start_of p ≤ limit_of p (length b) → start_of (row_of p b cs).payload ≤ limit_of p (length b))
unfolding row_of
row_fits [] p b = (refl, λ h. h)
row_fits (c ∷ cs) p b =
    by_outcome (λ r. (r.payload.max ≡ p.max) × (start_of p ≤ limit_of p (length b) → start_of r.payload ≤ limit_of p (length b))) p b c cs (refl, λ h. h)
    (λ f o.
    let l = written_length p b c _ o in
    let r = row_fits cs (done_of p c).payload (placed_of p b c) in
    (r.0, λ h. rw l at (r.1 (rw l (omega (arith, start_done p c))))))

-- a payload that passes the state test ends at 1,400 or before
pub start_most : (p : PayloadWriter) (room : ℕ) → payload_valid p room ≡ true → start_of p ≤ 1400
unfolding payload_valid
start_most p room v = elim (split (eqb p.len 0)) [
  | inl z ↦ rw z (omega arith)
  | inr z ↦
      let r : (within 8 (limit_of p room) p.len && eqb (p.len % 4) 0) ≡ true = rw z at (and_right (within 8 1400 p.max) _ v) in
      let l = leb-true p.len (limit_of p room) (and_right (leb 8 p.len) _ (and_left (within 8 (limit_of p room) p.len) _ r)) in
      let m : p.len ≤ 1400 = omega (arith, valid_max p room v) in
      rw z m
]

-- what holds of every row, of one whose outcome is known
module _ (cs : List Packet) (p : PayloadWriter) (b : List ℕ) (q : PayloadWriter) (bytes : List ℕ) (n : ℕ) (whole : Bool) (out : row_of p b cs ≡ row_with q bytes n whole) where
  pub out_valid : payload_valid p (length b) ≡ true → payload_valid q (length bytes) ≡ true
  out_valid v = rw out at (row_valid cs p b v)

  pub out_length : length bytes ≡ length b
  out_length = rw out at (row_length cs p b)

  pub out_grows : start_of p + 4 * n ≤ start_of q
  out_grows = rw out at (row_grows cs p b)

  pub out_few : n ≤ length cs
  out_few = rw out at (row_few cs p b)
