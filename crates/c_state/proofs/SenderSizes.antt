-- The figures of a sender that passes the state test are within its history's size and its request queue's; the place of the newest header is within the history where a
-- command is held, and stays where none is.
use mathlib.Core.Path.{◌≡◌, refl, ◌∙◌}
use Rattle.std.proofs.Common.{Option, Some, None}
use Rattle.idle.specs.declared.idle.Idle.{Idle}
use Rattle.sender.specs.declared.sender.RequestOutcome.{RequestOutcome}
use Rattle.sender.specs.declared.sender.SenderAnswer.{SenderAnswer}
use Rattle.std.specs.Bool.{⊤}
use mathlib.Core.Bool.{true, not, ◌||◌}
use mathlib.Core.List.{List, [], ◌∷◌}
use mathlib.Core.Logic.{◌⊎◌, inl, inr}
use Prim.Native.Nat.{ℕ, zero, suc, ◌+◌, ◌-◌, ◌≤◌, ◌<◌}
use native.Mathlib.Omega.{arith}
use lib.ListN.{length}
use lib.Dec.{ltb, eqb}
use Rattle.config.specs.Sequence.{turn}
use Rattle.config.specs.Settings.{check_of}
use Rattle.config.specs.declared.settings.StreamConfig.{StreamConfig}
use Rattle.packet.specs.Layout.{Packet}
use Rattle.packet.specs.declared.writer.PayloadWriter.{PayloadWriter}
use Rattle.command.specs.declared.retransmit.RetransmitRequest.{RetransmitRequest}
use Rattle.history.specs.State.{Good}
use Rattle.history.specs.Push.{grown, pushed, longer, appended}
use Rattle.history.specs.Queue.{Fit, popped, in_front, request}
use Rattle.history.specs.declared.history.SendHistory.{SendHistory}
use Rattle.history.specs.declared.queue.RetransmitQueue.{RetransmitQueue}
use Rattle.history.proofs.Room.{good_few, good_last}
use Rattle.history.proofs.Effects.{popped_last}
use Rattle.sender.specs.State.{valid_of}
use Rattle.sender.specs.Queueing.{joining, further, joined_to, pushed_all, queued_to, queued_of, words_check, placed_of, sent_of, need_of}
use Rattle.sender.specs.Requests.{not_written, with_queue, requested_of, written_count}
use Rattle.rows.specs.Rows.{row_of, fit_all}
use Rattle.writing.specs.Writing.{answer_to, rest_of, Served, served_in, served_of, idled_by, idled_of, commands_at, written_off, new_by, new_of, written_by}
use Rattle.sender.specs.Answers.{send_answer, request_answer}
use Rattle.sender.specs.declared.sender.Sender.{Sender}
use Rattle.writing.specs.declared.writing.Wrote.{Wrote}
use Rattle.sender.proofs.Validity.{valid_good, valid_fit, valid_unsent, valid_words, valid_few}
use Rattle.sender.proofs.Queued.{popped_number, pushed_good, settings_few}
use Rattle.writing.proofs.Serving.{popped_fit}
use Rattle.sender.proofs.Kept.{request_kept, sent_kept}
use Rattle.c_state.specs.Sender.{NarrowSender}
use Rattle.config.specs.inner.Choices.{by_check}
use Rattle.c_state.proofs.Choices.{by_test, by_entry}

-- ---- a sender's figures, within u
pub record Within (u : ℕ) (s : Sender) (ring : List ℕ) : Type 0 where
  pub good : Good s.history ring
  pub number : s.history.oldest < turn
  pub last : s.history.last < 65536
  pub unsent : s.unsent ≤ u
  pub words : s.unsent_words ≤ u
  pub queue : Fit s.queue

narrow : (s : Sender) (ring : List ℕ) → Good s.history ring → s.history.last < 65536 → s.unsent < 65536 → s.unsent_words < 65536 → Fit s.queue → NarrowSender s
narrow s ring g l u w f =
    let c = good_few s.history ring g in
    record {
      size = omega (arith, g.most);
      head = omega (arith, g.inside, g.most);
      used = omega (arith, g.room, g.most);
      count = omega (arith, g.room, g.most);
      last = l;
      unsent = u;
      words = w;
      front = omega (arith, f.inside, f.most);
      waiting = omega (arith, f.held, f.most);
      places = omega (arith, f.most);
    }

pub within_narrow : (u : ℕ) (s : Sender) (ring : List ℕ) → u < 65536 → Within u s ring → NarrowSender s
within_narrow u s ring h w = narrow s ring w.good w.last (omega (arith, w.unsent)) (omega (arith, w.words)) w.queue

module _ (s : Sender) (ring : List ℕ) (v : valid_of s ring ≡ true) where
  pub valid_within : s.history.oldest < turn → s.history.last < 65536 → Within 32768 s ring
  valid_within o l =
      let g = valid_good s ring v in
      record {
        good = g;
        number = o;
        last = l;
        unsent = omega (arith, valid_unsent s ring v, valid_few s ring v);
        words = omega (arith, valid_words s ring v, g.most);
        queue = valid_fit s ring v;
      }

  valid_narrow : s.history.last < 65536 → NarrowSender s
  valid_narrow l =
      let g = valid_good s ring v in
      narrow s ring g l (omega (arith, valid_unsent s ring v, valid_few s ring v)) (omega (arith, valid_words s ring v, g.most)) (valid_fit s ring v)

-- ---- the place of the newest header
-- a command is held, or it stayed
abbrev Placed : SendHistory → SendHistory → Type 0
Placed h g = (0 < g.count) ⊎ (g.last ≡ h.last)

placed_last : (h g : SendHistory) (ring : List ℕ) → Good g ring → h.last < 65536 → Placed h g → g.last < 65536
placed_last h g ring a l (inl some) = omega (arith, good_last g ring a some, a.ring, a.most)
placed_last h g ring a l (inr e) = omega arith

pushed_some : (h : SendHistory) (ring ws : List ℕ) → 0 < (pushed h ring ws).0.count
unfolding pushed grown
pushed_some h ring ws = omega arith

all_some : (c : List ℕ) (cs : List (List ℕ)) (h : SendHistory) (ring : List ℕ) → 0 < (pushed_all h ring (c ∷ cs)).0.count
unfolding pushed_all
all_some c [] h ring = pushed_some h ring c
all_some c (d ∷ cs) h ring = all_some d cs (pushed h ring c).0 (pushed h ring c).1

all_placed : (cs : List (List ℕ)) (h : SendHistory) (ring : List ℕ) → Placed h (pushed_all h ring cs).0
unfolding pushed_all
all_placed [] h ring = inr refl
all_placed (c ∷ cs) h ring = inl (all_some c cs h ring)

joined_last_lem : (h : SendHistory) (ring xs : List ℕ) → (joined_to h ring xs).0.last ≡ h.last
unfolding joined_to appended longer
joined_last_lem h ring [] = refl
joined_last_lem h ring (x ∷ xs) = popped_last (h.count - 1) (length (x ∷ xs)) ring h

from_joined : (h j g : SendHistory) → j.last ≡ h.last → Placed j g → Placed h g
from_joined h j g e (inl some) = inl some
from_joined h j g e (inr f) = inr (f ∙ e)

-- ---- the oldest number
pushed_number : (h : SendHistory) (ring ws : List ℕ) → h.oldest < turn → (pushed h ring ws).0.oldest < turn
unfolding pushed grown
pushed_number h ring ws o = popped_number h.count (1 + length ws) ring h o

all_number : (cs : List (List ℕ)) (h : SendHistory) (ring : List ℕ) → h.oldest < turn → (pushed_all h ring cs).0.oldest < turn
unfolding pushed_all
all_number [] h ring o = o
all_number (c ∷ cs) h ring o = all_number cs (pushed h ring c).0 (pushed h ring c).1 (pushed_number h ring c o)

joined_number : (h : SendHistory) (ring xs : List ℕ) → h.oldest < turn → (joined_to h ring xs).0.oldest < turn
unfolding joined_to appended longer
joined_number h ring [] o = o
joined_number h ring (x ∷ xs) o = popped_number (h.count - 1) (length (x ∷ xs)) ring h o

-- ---- queued words
abbrev NarrowSent : SenderAnswer ⊤ × List ℕ → Type 0
NarrowSent x = NarrowSender x.0.sender

module _ (s : Sender) (ring : List ℕ) where
  abbrev SentPlaced : SenderAnswer ⊤ × List ℕ → Type 0
  SentPlaced x = Placed s.history x.0.sender.history

  queued_placed : (max : ℕ) (ws : List ℕ) → SentPlaced (queued_of s ring max ws)
  unfolding queued_of queued_to
  queued_placed max ws =
      let j = joined_to s.history ring (joining s ring max ws) in
      from_joined s.history j.0 (pushed_all j.0 j.1 (further s ring max ws)).0 (joined_last_lem s.history ring (joining s ring max ws)) (all_placed (further s ring max ws) j.0 j.1)

  sent_placed : (max : ℕ) (ws : List ℕ) → SentPlaced (sent_of s ring max ws)
  unfolding sent_of placed_of
  sent_placed max ws =
      by_test SentPlaced (eqb (length ws) 0) _ _ (inr refl)
      (λ _. by_check SentPlaced (words_check max ws) _ _ (λ _. inr refl)
      (λ _. by_test SentPlaced (ltb (s.history.size - s.unsent_words) (need_of s ring max ws)) _ _ (inr refl)
      (λ _. queued_placed max ws)))

  module _ (o : s.history.oldest < turn) where
    abbrev SentNumber : SenderAnswer ⊤ × List ℕ → Type 0
    SentNumber x = x.0.sender.history.oldest < turn

    queued_number : (max : ℕ) (ws : List ℕ) → SentNumber (queued_of s ring max ws)
    unfolding queued_of queued_to
    queued_number max ws =
        let j = joined_to s.history ring (joining s ring max ws) in
        all_number (further s ring max ws) j.0 j.1 (joined_number s.history ring (joining s ring max ws) o)

    sent_number : (max : ℕ) (ws : List ℕ) → SentNumber (sent_of s ring max ws)
    unfolding sent_of placed_of
    sent_number max ws =
        by_test SentNumber (eqb (length ws) 0) _ _ o
        (λ _. by_check SentNumber (words_check max ws) _ _ (λ _. o)
        (λ _. by_test SentNumber (ltb (s.history.size - s.unsent_words) (need_of s ring max ws)) _ _ o
        (λ _. queued_number max ws)))

    pub send_number : (cfg : StreamConfig) (ws : List ℕ) → SentNumber (send_answer s cfg ring ws)
    unfolding send_answer
    send_number cfg ws = by_entry SentNumber (check_of cfg) (valid_of s ring) _ _ (λ _. o) (λ _ _. sent_number cfg.max_command_words ws)

  module _ (n : NarrowSender s) (o : s.history.oldest < turn) where
    pub send_narrow : (cfg : StreamConfig) (ws : List ℕ) → NarrowSender (send_answer s cfg ring ws).0.sender
    unfolding send_answer
    send_narrow cfg ws =
        let max = cfg.max_command_words in
        by_entry NarrowSent (check_of cfg) (valid_of s ring) _ _ (λ _. n)
        (λ passed v.
        let k = sent_kept s ring max ws v (settings_few cfg passed) o in
        valid_narrow _ _ k (placed_last s.history _ _ (valid_good _ _ k) n.last (sent_placed max ws)))

-- ---- a request
abbrev SameHistory : Sender → SenderAnswer RequestOutcome → Type 0
SameHistory s x = x.sender.history ≡ s.history

abbrev NarrowRequested : SenderAnswer RequestOutcome → Type 0
NarrowRequested x = NarrowSender x.sender

requested_history : (s : Sender) (cfg : StreamConfig) (r : RetransmitRequest) → (requested_of s cfg r).sender.history ≡ s.history
unfolding requested_of
requested_history s cfg r =
    by_test (SameHistory s) (not cfg.retransmit) _ _ refl (λ _. by_test (SameHistory s) (not_written s r.seq) _ _ refl (λ _. refl))

pub request_narrow : (s : Sender) (ring : List ℕ) → NarrowSender s → (cfg : StreamConfig) (r : RetransmitRequest) → NarrowSender (request_answer s cfg ring r).sender
unfolding request_answer
request_narrow s ring n cfg r =
    by_entry NarrowRequested (check_of cfg) (valid_of s ring) _ _ (λ _. n)
    (λ _ v.
    let l : (requested_of s cfg r).sender.history.last < 65536 = rw (requested_history s cfg r) n.last in
    valid_narrow _ ring (request_kept s cfg ring r v) l)

-- ---- a write
module _ (u : ℕ) (ring : List ℕ) where
  with_queue_lem : (s : Sender) (q : RetransmitQueue) → Within u s ring → Fit q → Within u (with_queue s q) ring
  with_queue_lem s q w f = record { good = w.good; number = w.number; last = w.last; unsent = w.unsent; words = w.words; queue = f }

  front_fit : (q : RetransmitQueue) (r : RetransmitRequest) → Fit q → Fit (in_front q r)
  front_fit q r f = record { least = f.least; most = f.most; inside = f.inside; held = f.held }

  rest_within : (s : Sender) (r : RetransmitRequest) (n : ℕ) → Within u s ring → Within u (rest_of s r n) ring
  rest_within s r n w =
      by_test (λ (x : Sender). Within u x ring) (not_written s r.seq) _ _ w (λ _. with_queue_lem s _ w (front_fit s.queue _ w.queue))

  served_within : (f : ℕ) (s : Sender) (p : PayloadWriter) (b : List ℕ) → Within u s ring → Within u (served_in f s ring p b).sender ring
  unfolding served_in
  served_within zero s p b w = w
  served_within (suc f) s p b w =
      let r = request s.queue 0 in
      let out = row_of p b (answer_to s ring r) in
      by_test (λ (x : Served). Within u x.sender ring) (out.whole || eqb out.payload.len 0) _ _
      (served_within f (with_queue s (popped s.queue)) out.payload out.bytes (with_queue_lem s (popped s.queue) w (popped_fit s.queue w.queue)))
      (λ _. rest_within s r out.written w)

  off_within : (s : Sender) (cfg : StreamConfig) (time k : ℕ) → Within u s ring → Within u (written_off s cfg time ring k) ring
  unfolding written_off
  off_within s cfg time k w = record { good = w.good; number = w.number; last = w.last; unsent = omega (arith, w.unsent); words = omega (arith, w.words); queue = w.queue }

  new_within : (s : Sender) (cfg : StreamConfig) (time n : ℕ) (p : PayloadWriter) (b : List ℕ) → Within u s ring → Within u (new_of s cfg time n p b ring).0.sender ring
  unfolding new_of
  new_within s cfg time n p b w = by (commands_at s ring (written_count s) s.unsent)
    where
      by : (cs : List Packet) → Within u (new_by s cfg time n p b ring cs).0.sender ring
      by [] = w
      by (c ∷ cs) =
          by_test (λ (x : Wrote × List ℕ). Within u x.0.sender ring) (not (fit_all p b (c ∷ []))) _ _
          (by_test (λ (x : Wrote). Within u x.sender ring) (eqb p.len 0) _ _ w (λ _. w))
          (λ _. off_within s cfg time _ w)

more_within : (u : ℕ) (s : Sender) (ring : List ℕ) → Within u s ring → Within (u + 1) s ring
more_within u s ring w = record { good = w.good; number = w.number; last = w.last; unsent = omega (arith, w.unsent); words = omega (arith, w.words); queue = w.queue }

idled_within : (u : ℕ) (s : Sender) (cfg : StreamConfig) (time : ℕ) (ring : List ℕ) → Within u s ring → Within (u + 1) (idled_of s cfg time ring).0 (idled_of s cfg time ring).1
unfolding idled_of
idled_within u s cfg time ring w = by s.idle
  where
    by : (t : Option Idle) → Within (u + 1) (idled_by s cfg time ring t).0 (idled_by s cfg time ring t).1
    by None = more_within u s ring w
    by (Some i) =
        let g = pushed_good s.history ring [] w.good w.number (omega arith) in
        by_test (λ (x : Sender × List ℕ). Within (u + 1) x.0 x.1) (ltb 0 s.unsent || ltb time i.due) _ _ (more_within u s ring w)
        (λ _. record {
          good = g.0;
          number = g.1;
          last = placed_last s.history _ _ g.0 w.last (inl (pushed_some s.history ring []));
          unsent = omega (arith, w.unsent);
          words = omega (arith, w.words);
          queue = w.queue;
        })

pub written_narrow : (s : Sender) (cfg : StreamConfig) (time : ℕ) (p : PayloadWriter) (b ring : List ℕ) → Within 32768 s ring → NarrowSender (written_by s cfg time p b ring).0.sender
unfolding written_by served_of
written_narrow s cfg time p b ring w =
    let served = served_in s.queue.len s ring p b in
    let one = served_within 32768 ring s.queue.len s p b w in
    let idled = idled_of served.sender cfg time ring in
    let two = idled_within 32768 served.sender cfg time ring one in
    by_test (λ (x : Wrote × List ℕ × List ℕ). NarrowSender x.0.sender) served.more _ _ (within_narrow 32768 _ ring (omega arith) one)
    (λ _. within_narrow 32769 _ idled.1 (omega arith) (new_within 32769 idled.1 idled.0 cfg time served.written served.payload served.bytes two))
