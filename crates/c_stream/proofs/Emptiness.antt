-- The sender's part of a write is refused only where the payload is empty still, and then it is as it was.
use mathlib.Core.Path.{◌≡◌}
use Rattle.std.proofs.Common.{Result, Ok, Err}
use Rattle.config.specs.declared.refusal.Refusal.{Refusal}
use Rattle.writing.specs.declared.writing.Written.{Written}
use mathlib.Core.Bool.{not, ◌||◌}
use mathlib.Core.List.{List, [], ◌∷◌}
use Prim.Native.Nat.{ℕ, zero, suc, ◌+◌, ◌*◌}
use native.Mathlib.Omega.{arith}
use lib.Dec.{eqb}
use lib.ListN.{length}
use borrow.Author.Tests.{eqb-true}
use Rattle.config.specs.inner.Choices.{by_cond}
use Rattle.config.specs.declared.settings.StreamConfig.{StreamConfig}
use Rattle.config.specs.declared.refusal.Refusal.TheVariants.{TooLarge}
use Rattle.packet.specs.Layout.{Packet, size_of}
use Rattle.packet.specs.Write.{WriteEnds, refused, done, start_of, written_of}
use Rattle.packet.specs.declared.writer.PayloadWriter.{PayloadWriter}
use Rattle.packet.specs.declared.writer.Wrote.{Wrote as CommandWrote}
use Rattle.packet.proofs.Outcomes.{outcome}
use Rattle.history.specs.Queue.{request, popped}
use Rattle.rows.specs.Rows.{one_more, row_of, fit_all}
use Rattle.sender.specs.Requests.{written_count, with_queue}
use Rattle.writing.specs.Writing.{Served, commands_at, answer_to, served_in, served_of, idled_of, new_by, new_of, written_by}
use Rattle.sender.specs.declared.sender.Sender.{Sender}
use Rattle.writing.specs.declared.writing.Written.{Written as Count}
use Rattle.writing.specs.declared.writing.Wrote.{Wrote}

-- ---- a payload and its bytes since p and b: the same, or no longer empty
pub data Since (p : PayloadWriter) (b : List ℕ) : PayloadWriter → List ℕ → Type 0 where
  as_before : Since p b p b
  not_empty : {q : PayloadWriter} {bytes : List ℕ} → (q.len ≡ 0 → ⊥) → Since p b q bytes

then : {p q r : PayloadWriter} {b c d : List ℕ} → Since p b q c → Since q c r d → Since p b r d
then as_before t = t
then (not_empty h) as_before = not_empty h
then (not_empty h) (not_empty g) = not_empty g

-- a payload with a command is not empty
pub some_after : (p : PayloadWriter) (c : Packet) → start_of p + size_of c ≡ 0 → ⊥
some_after p c z = four (start_of p) (length c.words) z
  where
    four : (a n : ℕ) → a + (4 + 4 * n) ≡ 0 → ⊥
    four a n e = omega arith

row_one : (p : PayloadWriter) (b : List ℕ) (c : Packet) (cs : List Packet) (w : CommandWrote × List ℕ) → WriteEnds p b c w
    → Since w.0.payload w.1 (row_of w.0.payload w.1 cs).payload (row_of w.0.payload w.1 cs).bytes
    → let r = one_more w.0.answer w.0.payload w.1 (row_of w.0.payload w.1 cs) in Since p b r.payload r.bytes
row_one p b c cs w (refused why) t = as_before
row_one p b c cs w (done f l) t = then (not_empty (some_after p c)) t

row_since : (p : PayloadWriter) (b : List ℕ) (cs : List Packet) → Since p b (row_of p b cs).payload (row_of p b cs).bytes
unfolding row_of
row_since p b [] = as_before
row_since p b (c ∷ cs) = let w = written_of p b c in row_one p b c cs w (outcome p b c) (row_since w.0.payload w.1 cs)

served_since : (n : ℕ) (s : Sender) (ring : List ℕ) (p : PayloadWriter) (b : List ℕ) → Since p b (served_in n s ring p b).payload (served_in n s ring p b).bytes
unfolding served_in
served_since zero s ring p b = as_before
served_since (suc n) s ring p b =
    let r = request s.queue 0 in
    let out = row_of p b (answer_to s ring r) in
    let row = row_since p b (answer_to s ring r) in
    by_cond (λ (v : Served). Since p b v.payload v.bytes) (out.whole || eqb out.payload.len 0) _ _
    (λ _. then row (served_since n (with_queue s (popped s.queue)) ring out.payload out.bytes))
    (λ _. row)

-- ---- the sender's part: it is done, or too large for a payload that is empty
pub data Tried (p : PayloadWriter) (b : List ℕ) : Result Written Refusal → PayloadWriter → List ℕ → Type 0 where
  wrote : (w : Count) {q : PayloadWriter} {bytes : List ℕ} → Tried p b (Ok w) q bytes
  large : p.len ≡ 0 → Tried p b (Err TooLarge) p b

pub tried_since : {p q : PayloadWriter} {b c : List ℕ} {a : Result Written Refusal} {r : PayloadWriter} {d : List ℕ} → Since p b q c → Tried q c a r d → Tried p b a r d
tried_since s (wrote w) = wrote w
tried_since as_before (large z) = large z
tried_since (not_empty h) (large z) = absurd (h z)

new_tried : (s : Sender) (cfg : StreamConfig) (time n : ℕ) (p : PayloadWriter) (b ring : List ℕ) (cs : List Packet)
    → let e = new_by s cfg time n p b ring cs in Tried p b e.0.answer e.0.payload e.1
new_tried s cfg time n p b ring [] = wrote _
new_tried s cfg time n p b ring (first ∷ others) =
    by_cond (λ (e : Wrote × List ℕ). Tried p b e.0.answer e.0.payload e.1) (not (fit_all p b (first ∷ []))) _ _
    (λ _. by_cond (λ (e : Wrote). Tried p b e.answer e.payload b) (eqb p.len 0) _ _ (λ z. large (eqb-true _ _ z)) (λ _. wrote _))
    (λ _. wrote _)

pub written_tried : (s : Sender) (cfg : StreamConfig) (time : ℕ) (p : PayloadWriter) (b ring : List ℕ)
    → let e = written_by s cfg time p b ring in Tried p b e.0.answer e.0.payload e.1
unfolding written_by served_of new_of
written_tried s cfg time p b ring =
    let served = served_in s.queue.len s ring p b in
    let idled = idled_of served.sender cfg time ring in
    let unwritten = commands_at idled.0 idled.1 (written_count idled.0) idled.0.unsent in
    by_cond (λ (e : Wrote × List ℕ × List ℕ). Tried p b e.0.answer e.0.payload e.1) served.more _ _ (λ _. wrote _)
    (λ _. tried_since (served_since s.queue.len s ring p b)
    (new_tried idled.0 cfg time served.written served.payload served.bytes idled.1 unwritten))
