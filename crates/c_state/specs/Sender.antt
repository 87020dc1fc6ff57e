-- 01, "History, repeats, idle": a sender as thirteen words. Figures of 16 bits are packed, four to a word, and requests two to a word; the figures of an idle timer that is not
-- there are 0.
use Rattle.std.specs.Prelude.{ℕ, zero, suc, ◌<◌, Bool, true, false, cond, ◌&&◌, List, [], ◌∷◌, ◌++◌, get_or, drop, eqb, leb, Option, Some, None}
use Rattle.idle.specs.declared.idle.Idle.{Idle}
use Rattle.command.specs.declared.retransmit.RetransmitRequest.{RetransmitRequest}
use Rattle.history.specs.Queue.{blank}
use Rattle.history.specs.declared.history.SendHistory.{SendHistory}
use Rattle.history.specs.declared.queue.RetransmitQueue.{RetransmitQueue}
use Rattle.sender.specs.declared.sender.Sender.{Sender}
use Rattle.c_answers.specs.Answers.{bit}
use Rattle.c_state.specs.Pack.{four_in, word, two_in, pair, held}
use Rattle.c_state.specs.Receiver.{at}
use Rattle.c_state.specs.declared.sender_part.IdleWords.{IdleWords}

-- ---- into the words
abbrev pub idle_words : Option Idle → IdleWords
idle_words None = record { on = false; due = 0; step = 0; interval = 0 }
idle_words (Some i) = record { on = true; due = i.due; step = i.step; interval = i.interval }

unfoldable pub figure_words : Sender → List ℕ
figure_words s =
    let h = s.history in
    let q = s.queue in
    let i = idle_words s.idle in
    word h.head h.used h.count h.oldest
    ∷ word h.last h.size s.unsent s.unsent_words
    ∷ word q.head q.len i.step (pair q.size (bit i.on))
    ∷ i.due ∷ i.interval
    ∷ []

-- the word of two requests
abbrev pub both_in : RetransmitRequest → RetransmitRequest → ℕ
both_in r s = word r.seq r.count s.seq s.count

-- n words of requests
unfoldable pub request_words : ℕ → List RetransmitRequest → List ℕ
request_words zero rs = []
request_words (suc n) rs = both_in (get_or rs 0 blank) (get_or rs 1 blank) ∷ request_words n (drop 2 rs)

unfoldable pub sender_words : Sender → List ℕ
sender_words s = figure_words s ++ request_words 8 s.queue.items

-- the figures whose types are wider than their places
pub record NarrowSender (s : Sender) : Type 0 where
  pub size : s.history.size < 65536
  pub head : s.history.head < 65536
  pub used : s.history.used < 65536
  pub count : s.history.count < 65536
  pub last : s.history.last < 65536
  pub unsent : s.unsent < 65536
  pub words : s.unsent_words < 65536
  pub front : s.queue.head < 65536
  pub waiting : s.queue.len < 65536
  pub places : s.queue.size < 256

-- ---- from the words
abbrev pub history_in : List ℕ → SendHistory
history_in ws =
    let r = four_in (at ws 0) in
    let n = four_in (at ws 1) in
    record { size = n.b; head = r.a; used = r.b; count = r.c; oldest = r.d; last = n.a }

-- the two requests of a word
unfoldable pub first_in : ℕ → RetransmitRequest
first_in w = let q = four_in w in record { seq = q.a; count = q.b }

unfoldable pub second_in : ℕ → RetransmitRequest
second_in w = let q = four_in w in record { seq = q.c; count = q.d }

unfoldable pub requests_in : List ℕ → List RetransmitRequest
requests_in [] = []
requests_in (w ∷ ws) = first_in w ∷ second_in w ∷ requests_in ws

abbrev pub queue_in : List ℕ → RetransmitQueue
queue_in ws = let q = four_in (at ws 2) in record { items = requests_in (drop 5 ws); head = q.a; len = q.b; size = (two_in q.d).low }

abbrev pub idle_in : Bool → ℕ → ℕ → ℕ → Option Idle
idle_in on due step interval = cond on (Some record { due = due; step = step; interval = interval }) None

unfoldable pub sender_of : List ℕ → Sender
sender_of ws =
    let n = four_in (at ws 1) in
    let q = four_in (at ws 2) in
    record {
      history = history_in ws;
      queue = queue_in ws;
      unsent = n.c;
      unsent_words = n.d;
      idle = idle_in (eqb (two_in q.d).high 1) (at ws 3) q.c (at ws 4);
    }

-- ---- which words are a sender's
-- there is one flag, and figures stand beside it where it is set
unfoldable pub sender_holds : List ℕ → Bool
sender_holds ws =
    let q = four_in (at ws 2) in
    let on = (two_in q.d).high in
    leb on 1 && held (eqb on 1) (at ws 3) (at ws 4) q.c
