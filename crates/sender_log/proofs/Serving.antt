-- Retransmits follow the book: the same commands answer a request, and the same requests wait on.
use mathlib.Core.Path.{◌≡◌, refl, sym, ap, ◌∙◌}
use mathlib.Core.Bool.{Bool, true, false, cond, ◌||◌}
use mathlib.Core.List.{List, [], ◌∷◌, ◌++◌}
use Prim.Native.Nat.{ℕ, suc, ◌+◌, ◌-◌, ◌≤◌, ◌<◌, min}
use native.Mathlib.Omega.{arith}
use borrow.Author.Tests.{leb-false}
use lib.Dec.{eqb}
use lib.ListN.{length, take, drop, length-set, length-append}
use Rattle.config.specs.Sequence.{after, ahead}
use Rattle.packet.specs.declared.writer.PayloadWriter.{PayloadWriter}
use Rattle.command.specs.Write.{error_packet}
use Rattle.command.specs.declared.retransmit.RetransmitError.{RetransmitError}
use Rattle.command.specs.declared.retransmit.RetransmitRequest.{RetransmitRequest}
use Rattle.history.specs.Queue.{request, waiting, popped, in_front}
use Rattle.history.proofs.Slots.{slot_in}
use Rattle.history.proofs.Queues.{waiting_popped, waiting_fronted}
use Rattle.rows.specs.Rows.{Row, row_of}
use Rattle.sender.specs.Requests.{written_count, index_of, not_in_buffer, with_queue}
use Rattle.writing.specs.Writing.{commands_at, reach_of, answer_to, rest_of, Served, served_also, served_in}
use Rattle.sender.specs.declared.sender.Sender.{Sender}
use Rattle.sender_log.specs.Book.{Book, oldest_in, index_in, absent_in, error_in, with_waiting}
use Rattle.sender_log.specs.Writes.{data_from, written_from, reach_in, answer_in, rest_in, ServedIn, served_in as served_by, served_also as served_by_also}
use Rattle.sender_log.proofs.Packets.{take_data, part_append, packets_data}
use Rattle.sender_log.proofs.Ties.{Follows, written_count_lem, absent_same, error_same, with_queue_lem, waiting_count}

-- no answer reaches past the newest written command
pub reach_few : (b : Book) (r : RetransmitRequest) → reach_in b r ≤ length b.written - index_in b r.seq
reach_few b r = on (eqb r.count 0) (length b.written - index_in b r.seq)
  where
    on : (t : Bool) (left : ℕ) → cond t left (min r.count left) ≤ left
    on true left = omega arith
    on false left = omega arith

module _ (c q : ℕ) (s : Sender) (ring : List ℕ) (b : Book) (f : Follows c q s ring b) where
  -- k written commands from the j-th on
  pub commands_written : (j k : ℕ) → j + k ≤ length b.written → commands_at s ring j k ≡ take k (written_from b j)
  commands_written j k l =
      let m = length-append b.written b.unwritten in
      packets_data s.history ring (b.written ++ b.unwritten) f.holds k j (omega (arith, f.holds.many))
      ∙ ap (data_from (after s.history.oldest j)) (part_append j k b.written b.unwritten l)
      ∙ ap (λ (n : ℕ). data_from (after n j) (take k (drop j b.written))) f.oldest
      ∙ sym (take_data k (after (oldest_in b) j) (drop j b.written))

  -- ---- the answer to a request

  reach_same : (r : RetransmitRequest) → reach_of s r ≡ reach_in b r
  reach_same r =
      let l : written_count s - index_of s r.seq ≡ length b.written - index_in b r.seq = cc (written_count_lem c q s ring b f, f.oldest) in
      ap (λ (left : ℕ). cond (eqb r.count 0) left (min r.count left)) l

  index_same : (seq : ℕ) → index_of s seq ≡ index_in b seq
  index_same seq = ap (λ (n : ℕ). ahead n seq) f.oldest

  pub answer_same : (r : RetransmitRequest) → answer_to s ring r ≡ answer_in b r
  unfolding answer_in
  answer_same r = rw (absent_same c q s ring b f r.seq) (by (absent_in b r.seq) refl)
    where
      by : (t : Bool) → absent_in b r.seq ≡ t
          → cond t (error_packet (not_in_buffer s) ∷ []) (commands_at s ring (index_of s r.seq) (reach_of s r)) ≡ cond t (error_packet (error_in b) ∷ []) (take (reach_in b r) (written_from b (index_in b r.seq)))
      by true e = ap (λ (x : RetransmitError). error_packet x ∷ []) (error_same c q s ring b f)
      by false e =
          ap (λ (j : ℕ). commands_at s ring j (reach_of s r)) (index_same r.seq)
          ∙ ap (commands_at s ring (index_in b r.seq)) (reach_same r)
          ∙ commands_written (index_in b r.seq) (reach_in b r) (omega (arith, leb-false (length b.written) (index_in b r.seq) e, reach_few b r))

-- ---- what is left of a request

module _ (c q : ℕ) (ring : List ℕ) (b : Book) (r : RetransmitRequest) (rs : List RetransmitRequest) (s : Sender) (f : Follows c q s ring (with_waiting b (r ∷ rs))) where
  some_wait : 0 < s.queue.len
  some_wait = omega (arith, waiting_count c q s ring (with_waiting b (r ∷ rs)) f)

  waiting_parts : r ∷ rs ≡ request s.queue 0 ∷ waiting (popped s.queue)
  waiting_parts = sym f.requests ∙ waiting_popped s.queue f.fit some_wait

  oldest_request : request s.queue 0 ≡ r
  oldest_request = cc waiting_parts

  others_wait : waiting (popped s.queue) ≡ rs
  others_wait = cc waiting_parts

  -- the oldest leaves
  popped_follows : Follows c q (with_queue s (popped s.queue)) ring (with_waiting b rs)
  popped_follows =
      let t = f.fit in
      with_queue_lem c q s ring (with_waiting b (r ∷ rs)) f (popped s.queue) rs f.places
      record { least = t.least; most = t.most; inside = slot_in s.queue.size s.queue.head 1 t.inside t.least; held = omega (arith, t.held) }
      f.items others_wait

  -- or is replaced
  fronted_follows : (x : RetransmitRequest) → Follows c q (with_queue s (in_front s.queue x)) ring (with_waiting b (x ∷ rs))
  fronted_follows x =
      let t = f.fit in
      with_queue_lem c q s ring (with_waiting b (r ∷ rs)) f (in_front s.queue x) (x ∷ rs) f.places
      record { least = t.least; most = t.most; inside = t.inside; held = t.held }
      (length-set s.queue.items s.queue.head x ∙ f.items)
      (waiting_fronted s.queue x t some_wait f.items ∙ ap (λ (l : List RetransmitRequest). x ∷ l) others_wait)

  rest_follows : (n : ℕ) → Follows c q (rest_of s r n) ring (with_waiting b (rest_in b r n ∷ rs))
  unfolding rest_in
  rest_follows n = rw (absent_same c q s ring (with_waiting b (r ∷ rs)) f r.seq, reach_same c q s ring (with_waiting b (r ∷ rs)) f r) (by (absent_in b r.seq))
    where
      by : (t : Bool) → Follows c q (cond t s (with_queue s (in_front s.queue record { seq = after r.seq n; count = reach_in b r - n }))) ring
          (with_waiting b (cond t r record { seq = after r.seq n; count = reach_in b r - n } ∷ rs))
      by true = f
      by false = fronted_follows record { seq = after r.seq n; count = reach_in b r - n }

  -- its answer
  answer_here : answer_to s ring (request s.queue 0) ≡ answer_in b r
  unfolding answer_in
  answer_here = rw oldest_request (answer_same c q s ring (with_waiting b (r ∷ rs)) f r)

-- ---- all requests

-- the sender holds what the book says, the rest is the same
pub record Serves (c q : ℕ) (ring : List ℕ) (b : Book) (x : Served) (y : ServedIn) : Type 0 where
  pub left : List RetransmitRequest
  pub follows : Follows c q x.sender ring (with_waiting b left)
  pub same : y ≡ record { waiting = left; payload = x.payload; bytes = x.bytes; commands = x.written; more = x.more }

served_none : (c q : ℕ) (ring : List ℕ) (b : Book) (s : Sender) (p : PayloadWriter) (by : List ℕ) → Follows c q s ring (with_waiting b []) → Serves c q ring b (served_in 0 s ring p by) (served_by b [] p by)
unfolding served_in served_by
served_none c q ring b s p by f = record { left = []; follows = f; same = refl }

module _ (c q : ℕ) (ring : List ℕ) (b : Book) (r : RetransmitRequest) (rs : List RetransmitRequest) (s : Sender) (f : Follows c q s ring (with_waiting b (r ∷ rs))) where
  -- the oldest leaves, or is replaced by what is left of it
  served_one : (out : Row) (t : Bool) (x : Served) (y : ServedIn) → Serves c q ring b x y
      → Serves c q ring b
      (cond t (served_also out.written x) (record { sender = rest_of s r out.written; payload = out.payload; bytes = out.bytes; written = out.written; more = true }))
      (cond t (served_by_also out.written y) (record { waiting = rest_in b r out.written ∷ rs; payload = out.payload; bytes = out.bytes; commands = out.written; more = true }))
  served_one out true x y i = record { left = i.left; follows = i.follows; same = ap (served_by_also out.written) i.same }
  served_one out false x y i = record { left = rest_in b r out.written ∷ rs; follows = rest_follows c q ring b r rs s f out.written; same = refl }

  served_step : (p : PayloadWriter) (by : List ℕ)
      → Serves c q ring b (served_in (length rs) (with_queue s (popped s.queue)) ring (row_of p by (answer_in b r)).payload (row_of p by (answer_in b r)).bytes)
      (served_by b rs (row_of p by (answer_in b r)).payload (row_of p by (answer_in b r)).bytes)
      → Serves c q ring b (served_in (suc (length rs)) s ring p by) (served_by b (r ∷ rs) p by)
  unfolding served_in served_by
  served_step p by i =
      rw (answer_here c q ring b r rs s f, oldest_request c q ring b r rs s f)
      (served_one (row_of p by (answer_in b r)) ((row_of p by (answer_in b r)).whole || eqb (row_of p by (answer_in b r)).payload.len 0) _ _ i)

pub served_follows : (rs : List RetransmitRequest) (c q : ℕ) (ring : List ℕ) (b : Book) (s : Sender) (p : PayloadWriter) (by : List ℕ) → Follows c q s ring (with_waiting b rs)
    → Serves c q ring b (served_in (length rs) s ring p by) (served_by b rs p by)
served_follows [] c q ring b s p by f = served_none c q ring b s p by f
served_follows (r ∷ rs) c q ring b s p by f =
    served_step c q ring b r rs s f p by
    (served_follows rs c q ring b (with_queue s (popped s.queue)) (row_of p by (answer_in b r)).payload (row_of p by (answer_in b r)).bytes (popped_follows c q ring b r rs s f))
