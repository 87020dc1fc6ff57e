-- What the theorem on the end is said of: every ring of 65 to 32,768 words, every place in it, every command of 0 to 64 words, and payloads that refuse it.
use Rattle.std.proofs.Common.{◌≡◌, ℕ, suc, ◌+◌, ◌*◌, ◌%◌, ◌<◌, ◌≤◌, true, false, ltb, List, ◌∷◌, ◌++◌, length, get_or, drop, sym, refl, ap, ◌∙◌, arith, take_at}
use Rattle.config.specs.Sequence.{turn}
use Rattle.config.specs.declared.refusal.Refusal.{Refusal}
use Rattle.config.specs.declared.refusal.Refusal.TheVariants.{InvalidState}
use Rattle.packet.specs.Layout.{size_of}
use Rattle.packet.specs.Write.{valid_of, limit_of, start_of, no_fit, refused_of, written_of}
use Rattle.packet.specs.declared.writer.PayloadWriter.{PayloadWriter}
use Rattle.packet.specs.declared.writer.Wrote.{Wrote}
use Rattle.history.specs.Ring.{ring_stored, view}
use Rattle.history.specs.Headers.{length_at}
use Rattle.history.specs.Written.{entry_packet}
use Rattle.history.specs.Turned.{Stands, command_at, PastTheEnd}
use Rattle.history.proofs.Slots.{slot_zero}
use Rattle.history.proofs.Runs.{length_ring_stored}
use Rattle.history.proofs.View.{view_stored}
use Rattle.history.proofs.Turned.{header_turned}

-- ---- calls of `write_entry`

-- what it asks of its arguments
abbrev Asked : PayloadWriter → List ℕ → List ℕ → ℕ → Type 0
Asked p b ring i = (valid_of p (length b) ≡ true) × (i < length ring) × (65 ≤ length ring) × (length ring ≤ 32768) × (length_at ring i ≤ 64)

asked_stands : (p : PayloadWriter) (b ring : List ℕ) (i : ℕ) → Asked p b ring i → Stands ring i
asked_stands p b ring i a = record { inside = a.1; least = a.2; short = a.4 }

-- a call on the turned ring may be made where one on the ring may,
pub turned_may : PastTheEnd → (p : PayloadWriter) (b ring : List ℕ) (i : ℕ) → Asked p b ring i → Asked p b (view ring i) 0
turned_may t p b ring i a =
    let s : Stands ring i = asked_stands p b ring i a in
    let u : Stands (view ring i) 0 = t.stands ring i s in
    (a.0, u.inside, u.least, rw (t.length_turned ring i s) a.3, u.short)

-- and what the two answer and leave is the same
pub calls_agree : PastTheEnd → (p : PayloadWriter) (b ring : List ℕ) (i : ℕ) → Asked p b ring i
    → (u v : Wrote × List ℕ) → u ≡ written_of p b (entry_packet ring i) → v ≡ written_of p b (entry_packet (view ring i) 0) → u ≡ v
calls_agree t p b ring i a u v e f = e ∙ t.same p b ring i (asked_stands p b ring i a) ∙ sym f

-- ---- every ring, place, number and words

-- the ring after a command with number n is put at place i
abbrev put : List ℕ → ℕ → ℕ → List ℕ → List ℕ
put b i n ws = ring_stored b i ((n * turn + length ws) ∷ ws)

module _ (b : List ℕ) (i n : ℕ) (ws : List ℕ) (inside : i < length b) (least : 65 ≤ length b) (short : length ws ≤ 64) where
  length_put : length (put b i n ws) ≡ length b
  length_put = length_ring_stored ((n * turn + length ws) ∷ ws) b i

  view_put : view (put b i n ws) i ≡ (n * turn + length ws) ∷ (ws ++ drop (0 + suc (length ws)) (view b i))
  view_put =
      ap (λ (k : ℕ). view (ring_stored b k ((n * turn + length ws) ∷ ws)) i) (sym (slot_zero (length b) i inside))
      ∙ view_stored ((n * turn + length ws) ∷ ws) b i 0 inside (omega arith)

  header_put : get_or (put b i n ws) i 0 ≡ n * turn + length ws
  header_put = sym (header_turned (put b i n ws) i (rw length_put inside)) ∙ ap (λ (l : List ℕ). get_or l 0 0) view_put

  stands_put : Stands (put b i n ws) i
  stands_put = record { inside = rw length_put inside; least = rw length_put least; short = rw header_put (omega arith) }

  command_put : command_at (put b i n ws) i ≡ (n * turn + length ws) ∷ ws
  command_put =
      let e : 1 + (n * turn + length ws) % 256 ≡ suc (length ws) = omega arith in
      rw (header_put, view_put, e) (ap (λ (l : List ℕ). (n * turn + length ws) ∷ l) (take_at ws _ (length ws) refl))

-- a command of any number and any words, put anywhere into any ring, gives the same as anywhere else in any other
pub every_command : PastTheEnd → (p : PayloadWriter) (x b other : List ℕ) (i j n : ℕ) (ws : List ℕ)
    → i < length b → 65 ≤ length b → j < length other → 65 ≤ length other → length ws ≤ 64
    → written_of p x (entry_packet (put b i n ws) i) ≡ written_of p x (entry_packet (put other j n ws) j)
every_command t p x b other i j n ws inside least inside' least' short =
    t.anywhere p x (put b i n ws) (put other j n ws) i j (stands_put b i n ws inside least short) (stands_put other j n ws inside' least' short)
    (command_put b i n ws inside least short ∙ sym (command_put other j n ws inside' least' short))

-- ---- payloads that refuse

-- one that fails the state test refuses with 13, one without room with 3 or 2
pub refused_state : (p : PayloadWriter) (b ring : List ℕ) (i : ℕ) → valid_of p (length b) ≡ false
    → written_of p b (entry_packet ring i) ≡ (refused_of p InvalidState, b)
unfolding written_of
refused_state p b ring i e = simp e

pub refused_fit : (p : PayloadWriter) (b ring : List ℕ) (i : ℕ) → valid_of p (length b) ≡ true
    → ltb (limit_of p (length b)) (start_of p + size_of (entry_packet ring i)) ≡ true
    → written_of p b (entry_packet ring i) ≡ (refused_of p (no_fit p), b)
unfolding written_of
refused_fit p b ring i e f = simp (e, f)

-- whatever the refusal, the command in the turned ring is refused so too, and the buffer is as it was
pub refused_turned : PastTheEnd → (p : PayloadWriter) (b ring : List ℕ) (i : ℕ) → Stands ring i
    → (r : Refusal) → written_of p b (entry_packet ring i) ≡ (refused_of p r, b)
    → written_of p b (entry_packet (view ring i) 0) ≡ (refused_of p r, b)
refused_turned t p b ring i s r e = sym (t.same p b ring i s) ∙ e
