-- What a request and queued words leave passes the state test.
use mathlib.Core.Path.{◌≡◌, refl}
use Rattle.std.proofs.Common.{Result, Ok, Err}
use Rattle.config.specs.declared.refusal.Refusal.{Refusal}
use Rattle.std.specs.Bool.{⊤}
use mathlib.Core.Bool.{Bool, true, false, cond, not}
use mathlib.Core.List.{List, [], ◌∷◌}
use Prim.Native.Nat.{ℕ, suc, ◌+◌, ◌-◌, ◌≤◌, ◌<◌}
use native.Mathlib.Omega.{arith}
use lib.ListN.{length, take, length-drop}
use lib.Dec.{ltb, leb, eqb}
use borrow.Author.Tests.{leb-false, ltb-false}
use Rattle.config.specs.Settings.{tested}
use Rattle.config.specs.Sequence.{turn}
use Rattle.config.specs.declared.refusal.Refusal.TheVariants.{Full}
use Rattle.config.specs.declared.settings.StreamConfig.{StreamConfig}
use Rattle.command.specs.declared.retransmit.RetransmitRequest.{RetransmitRequest}
use Rattle.history.specs.State.{state_ok}
use Rattle.history.specs.Queue.{queue_ok, behind as behind_all_lem, asks, waiting, answered, push_answer}
use Rattle.history.specs.Push.{grown, pushed, longer, appended}
use Rattle.history.specs.Headers.{length_at}
use Rattle.history.specs.Entries.{size, Short}
use Rattle.history.specs.declared.history.SendHistory.{SendHistory}
use Rattle.history.specs.declared.queue.RetransmitQueue.{RetransmitQueue}
use Rattle.history.specs.declared.queue.Ignored.TheVariants.{Pending, Full as NoPlace}
use Rattle.history.proofs.Effects.{popped_size}
use Rattle.history.proofs.Queues.{queue_fit, fit_queue}
use Rattle.history.proofs.Reached.{pushed_state}
use Rattle.history.proofs.States.{state_good}
use Rattle.sender.specs.State.{valid_of}
use Rattle.sender.specs.Requests.{not_written, with_queue, told, not_in_buffer, queued_by, requested_of}
use Rattle.fronts.specs.Commands.{front, behind}
use Rattle.sender.specs.Queueing.{room_of, joining, further, need_of, joined_to, pushed_all, queued_to, sent, unsent, queued_of, words_check, placed_of, sent_of}
use Rattle.sender.specs.declared.sender.Sender.{Sender}
use Rattle.sender.specs.declared.sender.RequestOutcome.TheVariants.{Error, NotSupported}
use Rattle.sender.proofs.Validity.{passes, valid_history, valid_queue, valid_idle, valid_words}
use Rattle.sender.proofs.Queued.{pushed_good, check_divides, join_some, joined_state, joined_number}
use Rattle.fronts.proofs.Fronts.{Divides, part_of, divides_behind}
use Rattle.sender.proofs.Parts.{commands_parts}

-- ---- a request
pushed_queue : (q : RetransmitQueue) (r : RetransmitRequest) → queue_ok q ≡ true → queue_ok (push_answer q r).queue ≡ true
unfolding push_answer
pushed_queue q r ok = by (asks (waiting q) r.seq) (leb q.size q.len) refl
  where
    by : (a b : Bool) → leb q.size q.len ≡ b
        → queue_ok (cond a (answered q (Err Pending)) (cond b (answered q (Err NoPlace)) (answered (behind_all_lem q r) (Ok tt)))).queue ≡ true
    by true b e = ok
    by false true e = ok
    by false false e =
        let f = queue_fit q ok in
        let l : q.len < q.size = leb-false _ _ e in
        fit_queue (behind_all_lem q r) record { least = f.least; most = f.most; inside = f.inside; held = omega arith }

pub request_kept : (s : Sender) (cfg : StreamConfig) (ring : List ℕ) (r : RetransmitRequest) → valid_of s ring ≡ true → valid_of (requested_of s cfg r).sender ring ≡ true
unfolding requested_of
request_kept s cfg ring r v = by cfg.retransmit (not_written s r.seq)
  where
    pushed : valid_of (with_queue s (push_answer s.queue r).queue) ring ≡ true
    pushed = passes (with_queue s (push_answer s.queue r).queue) ring (valid_history s ring v) (pushed_queue s.queue r (valid_queue s ring v)) (valid_idle s ring v)

    by : (a b : Bool) → valid_of (cond (not a) (told s (Ok NotSupported)) (cond b (told s (Ok (Error (not_in_buffer s)))) (queued_by s (push_answer s.queue r)))).sender ring ≡ true
    by false b = v
    by true true = v
    by true false = pushed

-- ---- queued words
-- the further commands, one after the other
pub pushed_size : (h : SendHistory) (ring ws : List ℕ) → (pushed h ring ws).0.size ≡ h.size
unfolding pushed grown
pushed_size h ring ws = popped_size h.count (1 + length ws) ring h

pub pushed_all_state : (cs : List (List ℕ)) (h : SendHistory) (ring : List ℕ) (unsent words : ℕ) → state_ok h ring unsent words ≡ true → h.oldest < turn → Short cs → size cs + words ≤ h.size
    → state_ok (pushed_all h ring cs).0 (pushed_all h ring cs).1 (unsent + length cs) (words + size cs) ≡ true
unfolding pushed_all Short size
pushed_all_state [] h ring unsent words ok o k l =
    let a : unsent + 0 ≡ unsent = omega arith in
    let b : words + 0 ≡ words = omega arith in
    rw (a, b) ok
pushed_all_state (c ∷ cs) h ring unsent words ok o k l =
    let a : unsent + suc (length cs) ≡ unsent + 1 + length cs = omega arith in
    let b : words + (1 + length c + size cs) ≡ words + (1 + length c) + size cs = omega arith in
    let s = pushed_size h ring c in
    rw (a, b)
    (pushed_all_state cs (pushed h ring c).0 (pushed h ring c).1 (unsent + 1) (words + (1 + length c))
    (pushed_state h ring unsent words ok o c k.0 (omega arith))
    (pushed_good h ring c (state_good h ring unsent words ok) o k.0).1
    k.1
    (omega arith))

pub joined_size : (h : SendHistory) (ring xs : List ℕ) → (joined_to h ring xs).0.size ≡ h.size
unfolding joined_to appended longer
joined_size h ring [] = refl
joined_size h ring (x ∷ xs) = popped_size (h.count - 1) (length (x ∷ xs)) ring h

module _ (s : Sender) (ring : List ℕ) (max : ℕ) (ws : List ℕ) (v : valid_of s ring ≡ true) (few : max ≤ 64) (o : s.history.oldest < turn) where
  module _ (d : Divides max ws) where
    room : ℕ
    room = room_of s ring max

    split : ℕ
    split = length (front room ws)

    part : front room ws ≡ take split ws
    unfolding split
    part = (part_of room ws d.whole).part

    pub ready : 0 < length (joining s ring max ws) → (0 < s.unsent) × (length_at ring s.history.last + length (joining s ring max ws) ≤ 64)
    unfolding room split
    ready = rw part (join_some s ring max v few (room_of s ring max) (length (front (room_of s ring max) ws)) refl (part_of (room_of s ring max) ws d.whole).few ws)

    -- words and new headers are what joins and what the further commands take
    pub need_parts : length (joining s ring max ws) + size (further s ring max ws) ≡ need_of s ring max ws
    unfolding need_of behind
    need_parts =
        let c = commands_parts max (behind (room_of s ring max) ws) (divides_behind max (room_of s ring max) ws d) few in
        let l = length-drop (length (front (room_of s ring max) ws)) ws in
        omega (arith, c.0, (part_of (room_of s ring max) ws d.whole).fits)

    queued_kept : need_of s ring max ws ≤ s.history.size - s.unsent_words → valid_of (queued_of s ring max ws).0.sender (queued_of s ring max ws).1 ≡ true
    unfolding queued_of queued_to
    queued_kept fits =
        let h = s.history in
        let xs = joining s ring max ws in
        let cs = further s ring max ws in
        let n = need_parts in
        let w = valid_words s ring v in
        let one = joined_state h ring s.unsent s.unsent_words (valid_history s ring v) o xs ready (omega arith) in
        let z = joined_size h ring xs in
        let c = commands_parts max (behind (room_of s ring max) ws) (divides_behind max (room_of s ring max) ws d) few in
        let two = pushed_all_state cs (joined_to h ring xs).0 (joined_to h ring xs).1 s.unsent (s.unsent_words + length xs) one (joined_number h ring s.unsent s.unsent_words (valid_history s ring v) o xs) c.1 (omega arith) in
        let e : s.unsent_words + length xs + size cs ≡ s.unsent_words + need_of s ring max ws = omega arith in
        passes _ _ (rw e at two) (valid_queue s ring v) (valid_idle s ring v)

    placed_kept : valid_of (placed_of s ring max ws).0.sender (placed_of s ring max ws).1 ≡ true
    unfolding placed_of
    placed_kept = by (ltb (s.history.size - s.unsent_words) (need_of s ring max ws)) refl
      where
        by : (t : Bool) → ltb (s.history.size - s.unsent_words) (need_of s ring max ws) ≡ t
            → valid_of (cond t (unsent s ring Full) (queued_of s ring max ws)).0.sender (cond t (unsent s ring Full) (queued_of s ring max ws)).1 ≡ true
        by true e = v
        by false e = queued_kept (ltb-false _ _ e)

  pub sent_kept : valid_of (sent_of s ring max ws).0.sender (sent_of s ring max ws).1 ≡ true
  unfolding sent_of
  sent_kept = by (eqb (length ws) 0) (words_check max ws) refl
    where
      by : (t : Bool) (k : Result ⊤ Refusal) → words_check max ws ≡ k
          → valid_of (cond t (sent s (Ok tt), ring) (tested k (unsent s ring) (placed_of s ring max ws))).0.sender (cond t (sent s (Ok tt), ring) (tested k (unsent s ring) (placed_of s ring max ws))).1 ≡ true
      by true k e = v
      by false (Err why) e = v
      by false (Ok _) e = placed_kept (check_divides max ws e)
