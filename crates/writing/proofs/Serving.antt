-- Serving requests: the answer to one, what of it is left, and a turn of the loop over those that wait.
use mathlib.Core.Path.{◌≡◌, refl, sym, ap, ◌∙◌}
use mathlib.Core.Bool.{Bool, true, false, cond, ◌||◌}
use mathlib.Core.List.{List, [], ◌∷◌}
use Prim.Native.Nat.{ℕ, zero, suc, ◌+◌, ◌-◌, ◌*◌, ◌≤◌, ◌<◌}
use native.Mathlib.Omega.{arith}
use lib.ListN.{length, get_or}
use lib.Dec.{eqb}
use borrow.Author.Tests.{le-leb, lt-leb, ne_eqb}
use Rattle.config.specs.Sequence.{after}
use Rattle.config.specs.declared.settings.StreamConfig.{StreamConfig}
use Rattle.packet.specs.Write.{valid_of as payload_valid, start_of}
use Rattle.packet.specs.declared.writer.PayloadWriter.{PayloadWriter}
use Rattle.command.specs.Write.{error_packet}
use Rattle.command.specs.declared.retransmit.RetransmitRequest.{RetransmitRequest}
use Rattle.history.specs.Headers.{header_at}
use Rattle.history.specs.Queue.{Fit, queue_ok, blank, request, popped, in_front, pop_of, set_front_of}
use Rattle.history.specs.declared.queue.RetransmitQueue.{RetransmitQueue}
use Rattle.history.specs.declared.queue.Popped.{Popped}
use Rattle.history.proofs.Queues.{fit_queue}
use Rattle.history.proofs.Slots.{slot_zero, slot_in}
use Rattle.rows.specs.Rows.{Row, row_of, packets_from, Standing}
use Rattle.rows.specs.Choice.{reached}
use Rattle.rows.proofs.Packets.{length_packets, good_standing}
use Rattle.rows.proofs.Filling.{row_with, row_length, row_valid, row_grows, out_few}
use Rattle.rows.proofs.Choice.{reach_most}
use Rattle.sender.specs.State.{valid_of}
use Rattle.sender.specs.Requests.{written_count, index_of, not_written, not_in_buffer, with_queue}
use Rattle.writing.specs.Writing.{reach_of, answer_to, rest_of, Served, served_also, served_in, served_of, idled_of, wrote, new_of, written_by}
use Rattle.sender.specs.declared.sender.Sender.{Sender}
use Rattle.writing.specs.declared.writing.Wrote.{Wrote}
use Rattle.sender.proofs.Validity.{passes, valid_history, valid_queue, valid_idle, valid_good, valid_fit}

pub or_right : (a b : Bool) → a ≡ false → b ≡ (a || b)
or_right a b e = rw e

-- ---- the answer to a request
module _ (s : Sender) (r : RetransmitRequest) (k : ℕ) (e : k ≡ index_of s r.seq) where
  module _ (gone : written_count s ≤ k) where
    pub answer_error : (ring : List ℕ) → answer_to s ring r ≡ error_packet (not_in_buffer s) ∷ []
    answer_error ring = rw (← e, le-leb _ _ gone)

    pub rest_error : (n : ℕ) → s ≡ rest_of s r n
    rest_error n = rw (← e, le-leb _ _ gone)

  module _ (held : k < written_count s) (left : ℕ) (f : left ≡ reached r.count (written_count s - k)) where
    pub answer_entries : (ring : List ℕ) (at : ℕ) → at ≡ header_at k ring s.history.head → answer_to s ring r ≡ packets_from left ring at
    answer_entries ring at g = rw (← e, lt-leb _ _ held, ← f, g)

    -- its entries stand in the history
    pub answer_standing : (ring : List ℕ) (at : ℕ) → valid_of s ring ≡ true → at ≡ header_at k ring s.history.head → Standing left ring at
    answer_standing ring at v g =
        rw g (good_standing s.history ring (valid_good s ring v) k left (omega (arith, reach_most r.count (written_count s - k))))

    pub rest_left : (n seq : ℕ) (q : RetransmitQueue) → 0 < s.queue.len → seq ≡ after r.seq n → q ≡ set_front_of s.queue record { seq = seq; count = left - n }
        → with_queue s q ≡ rest_of s r n
    unfolding set_front_of
    rest_left n seq q some g h =
        let z : s.queue.len ≡ 0 → ⊥ = λ x. omega arith in
        rw (← e, lt-leb _ _ held, ← f, h, ne_eqb _ _ z, g)

    -- its number and count stay in 16 bits
    pub rest_fits : (n : ℕ) → s.history.count ≤ 32768 → (not_written s r.seq ≡ false → n ≤ reach_of s r) → (n ≤ left) × (left ≤ 32768)
    rest_fits n c few =
        let m : n ≤ reach_of s r = few (rw (← e, lt-leb _ _ held)) in
        (rw (← e, ← f) at m, omega (arith, reach_most r.count (written_count s - k)))

-- ---- the requests that wait
pub front_request : (q : RetransmitQueue) (r : RetransmitRequest) → Fit q → r ≡ get_or q.items q.head blank → r ≡ request q 0
unfolding request
front_request q r f e = rw (slot_zero q.size q.head f.inside) e

-- ---- a turn of the loop
pub pop_made : (q : RetransmitQueue) (out : Popped) → 0 < q.len → out ≡ pop_of q → out.queue ≡ popped q
unfolding pop_of
pop_made q out some e = let z : q.len ≡ 0 → ⊥ = λ x. omega arith in rw (e, ne_eqb _ _ z)

pub popped_fit : (q : RetransmitQueue) → Fit q → Fit (popped q)
popped_fit q f =
    record { least = f.least; most = f.most; inside = slot_in q.size q.head 1 f.inside f.least; held = omega (arith, f.held) }

popped_kept : (s : Sender) (ring : List ℕ) → valid_of s ring ≡ true → valid_of (with_queue s (popped s.queue)) ring ≡ true
popped_kept s ring v =
    let q = fit_queue _ (popped_fit s.queue (valid_fit s ring v)) in
    passes (with_queue s (popped s.queue)) ring (valid_history s ring v) q (valid_idle s ring v)

-- ---- a turn of the loop
abbrev pub served_with : Sender → PayloadWriter → List ℕ → ℕ → Bool → Served
served_with s p b n more = record { sender = s; payload = p; bytes = b; written = n; more = more }

module _ (s : Sender) (ring : List ℕ) (p : PayloadWriter) (b : List ℕ) (r : RetransmitRequest) (q : PayloadWriter) (bytes : List ℕ) (n : ℕ) (whole : Bool)
    (out : row_of p b (answer_to s ring r) ≡ row_with q bytes n whole) where
  pub served_few : not_written s r.seq ≡ false → n ≤ reach_of s r
  served_few w =
      let a : answer_to s ring r ≡ packets_from (reach_of s r) ring (header_at (index_of s r.seq) ring s.history.head) = rw w in
      let l : length (answer_to s ring r) ≡ reach_of s r = ap length a ∙ length_packets (reach_of s r) ring _ in
      let m : n ≤ length (answer_to s ring r) = out_few (answer_to s ring r) p b q bytes n whole out in
      rw l at m

  module _ (front : r ≡ request s.queue 0) (left before : ℕ) (some : 0 < left) (z : Served) (inv : served_also before (served_in left s ring p b) ≡ z) where
    one : left ≡ suc (left - 1)
    one = omega arith

    turn : served_in left s ring p b ≡ cond (whole || eqb q.len 0) (served_also n (served_in (left - 1) (with_queue s (popped s.queue)) ring q bytes)) (served_with (rest_of s r n) q bytes n true)
    unfolding served_in
    turn = ap (λ (m : ℕ). served_in m s ring p b) one ∙ rw (← front, out)

    pub served_popped : (gone : Bool) (next : RetransmitQueue) → gone ≡ (whole || eqb q.len 0) → gone ≡ true → next ≡ popped s.queue
        → served_also (before + n) (served_in (left - 1) (with_queue s next) ring q bytes) ≡ z
    served_popped gone next g t e =
        let u : (whole || eqb q.len 0) ≡ true = sym g ∙ t in
        let o = served_in (left - 1) (with_queue s (popped s.queue)) ring q bytes in
        let a : before + n + o.written ≡ before + (n + o.written) = omega arith in
        rw (e, a) (sym (ap (served_also before) (rw u at turn)) ∙ inv)

    pub served_stays : (gone : Bool) (next : Sender) → gone ≡ (whole || eqb q.len 0) → gone ≡ false → next ≡ rest_of s r n
        → z ≡ served_with next q bytes (before + n) true
    served_stays gone next g t e =
        let u : (whole || eqb q.len 0) ≡ false = sym g ∙ t in
        sym inv ∙ ap (served_also before) (rw u at turn) ∙ rw e

pub served_end : (s : Sender) (ring : List ℕ) (p : PayloadWriter) (b : List ℕ) (left before : ℕ) (z : Served) → left ≤ 0 → served_also before (served_in left s ring p b) ≡ z
    → z ≡ served_with s p b before false
unfolding served_in
served_end s ring p b left before z l inv =
    let e : left ≡ 0 = omega arith in
    let a : before + 0 ≡ before = omega arith in
    sym (rw (e, a) at inv)

pub served_start : (s : Sender) (ring : List ℕ) (p : PayloadWriter) (b : List ℕ) → served_also 0 (served_in s.queue.len s ring p b) ≡ served_of s ring p b
unfolding served_of
served_start s ring p b =
    let o = served_in s.queue.len s ring p b in
    let e : 0 + o.written ≡ o.written = omega arith in
    ap (λ (n : ℕ). served_with o.sender o.payload o.bytes n o.more) e

-- ---- what serving leaves: a state and a payload that pass their tests, and the buffer's length
rest_kept : (s : Sender) (ring : List ℕ) (r : RetransmitRequest) (n : ℕ) → valid_of s ring ≡ true → (valid_of (rest_of s r n) ring ≡ true) × ((rest_of s r n).history ≡ s.history)
rest_kept s ring r n v = by (not_written s r.seq) (in_front s.queue record { seq = after r.seq n; count = reach_of s r - n }) (valid_queue s ring v)
  where
    by : (t : Bool) (q : RetransmitQueue) → queue_ok q ≡ true → (valid_of (cond t s (with_queue s q)) ring ≡ true) × ((cond t s (with_queue s q)).history ≡ s.history)
    by true q k = (v, refl)
    by false q k = (passes (with_queue s q) ring (valid_history s ring v) k (valid_idle s ring v), refl)

-- a state and a payload that pass their tests, the same history, the buffer's length, and four bytes at least for each command
pub record Sound (s : Sender) (ring : List ℕ) (p : PayloadWriter) (b : List ℕ) (z : Served) : Type 0 where
  pub state : valid_of z.sender ring ≡ true
  pub history : z.sender.history ≡ s.history
  pub payload : payload_valid z.payload (length z.bytes) ≡ true
  pub same : length z.bytes ≡ length b
  pub grows : start_of p + 4 * z.written ≤ start_of z.payload

sound_turn : (s : Sender) (ring : List ℕ) (p : PayloadWriter) (b : List ℕ) (out : Row) (rest : Served) (next : Sender) (t : Bool) → Sound s ring p b (served_with next out.payload out.bytes out.written true)
    → Sound s ring out.payload out.bytes rest
    → Sound s ring p b (cond t (served_also out.written rest) (served_with next out.payload out.bytes out.written true))
sound_turn s ring p b out rest next true h i = record { state = i.state; history = i.history; payload = i.payload; same = i.same ∙ h.same; grows = omega (arith, h.grows, i.grows) }
sound_turn s ring p b out rest next false h i = h

sound_in : (f : ℕ) (s g : Sender) (ring : List ℕ) (p : PayloadWriter) (b : List ℕ) → g.history ≡ s.history → valid_of g ring ≡ true → payload_valid p (length b) ≡ true
    → Sound s ring p b (served_in f g ring p b)
unfolding served_in
sound_in zero s g ring p b e v k = record { state = v; history = e; payload = k; same = refl; grows = omega arith }
sound_in (suc f) s g ring p b e v k =
    let r = request g.queue 0 in
    let cs = answer_to g ring r in
    let out = row_of p b cs in
    let w = row_valid cs p b k in
    let l = rest_kept g ring r out.written v in
    sound_turn s ring p b out _ (rest_of g r out.written) (out.whole || eqb out.payload.len 0)
    (record { state = l.0; history = l.1 ∙ e; payload = w; same = row_length cs p b; grows = row_grows cs p b })
    (sound_in f s (with_queue g (popped g.queue)) ring out.payload out.bytes e (popped_kept g ring v) w)

pub served_sound : (s : Sender) (ring : List ℕ) (p : PayloadWriter) (b : List ℕ) → valid_of s ring ≡ true → payload_valid p (length b) ≡ true → Sound s ring p b (served_of s ring p b)
unfolding served_of
served_sound s ring p b = sound_in s.queue.len s s ring p b refl

-- ---- the ways out of `write`
module _ (s : Sender) (cfg : StreamConfig) (time : ℕ) (p : PayloadWriter) (b ring : List ℕ) (t : Sender) (q : PayloadWriter) (bytes : List ℕ) (n : ℕ) (more : Bool)
    (out : served_of s ring p b ≡ served_with t q bytes n more) where
  pub out_sound : valid_of s ring ≡ true → payload_valid p (length b) ≡ true → Sound s ring p b (served_with t q bytes n more)
  out_sound v k = rw out at (served_sound s ring p b v k)

  pub written_more : more ≡ true → (wrote t q n true, bytes, ring) ≡ written_by s cfg time p b ring
  unfolding written_by
  written_more e = rw (out, e)

  pub written_new : more ≡ false → (next : Sender) (words : List ℕ) (r : Wrote) (last : List ℕ) → (next, words) ≡ idled_of t cfg time ring → (r, last) ≡ new_of next cfg time n q bytes words
      → (r, last, words) ≡ written_by s cfg time p b ring
  unfolding written_by
  written_new e next words r last i w = rw (out, e, ← i, ← w)
