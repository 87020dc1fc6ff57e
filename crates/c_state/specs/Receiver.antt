-- 01, "Position, window, loss": a receiver as seven words. Figures of 16 bits are packed, four to a word; the figures of a timer or a request that is not there are 0.
use Rattle.std.specs.Prelude.{ℕ, ◌<◌, Bool, true, false, cond, ◌&&◌, List, [], ◌∷◌, get_or, eqb, leb, Option, Some, None}
use Rattle.command.specs.declared.retransmit.RetransmitRequest.{RetransmitRequest}
use Rattle.receiver.specs.declared.receiver.RequestTimer.{RequestTimer}
use Rattle.window.specs.declared.window.ReceiveWindow.{ReceiveWindow}
use Rattle.receiver.specs.declared.receiver.Receiver.{Receiver}
use Rattle.c_state.specs.Pack.{four_in, word, two_in, pair, flags_in, flags_number, held}
use Rattle.c_state.specs.declared.receiver_part.TimerWords.{TimerWords}
use Rattle.c_state.specs.declared.receiver_part.AskedWords.{AskedWords}

abbrev pub at : List ℕ → ℕ → ℕ
at ws k = get_or ws k 0

-- ---- into the words
abbrev pub timer_words : Option RequestTimer → TimerWords
timer_words None = record { on = false; due = 0; sent = 0 }
timer_words (Some t) = record { on = true; due = t.due; sent = t.sent }

abbrev pub asked_words : Option RetransmitRequest → AskedWords
asked_words None = record { on = false; seq = 0; count = 0 }
asked_words (Some r) = record { on = true; seq = r.seq; count = r.count }

-- the set has two words, and room for two more
unfoldable pub receiver_words : Receiver → List ℕ
receiver_words r =
    let w = r.window in
    let t = timer_words r.timer in
    let a = asked_words r.asked in
    w.bits.low ∷ w.bits.high ∷ 0 ∷ 0
    ∷ t.due
    ∷ word w.highest w.size a.seq a.count
    ∷ pair t.sent (flags_number record { timer = t.on; request_due = r.request_due; refused = r.refused; asked = a.on })
    ∷ []

-- a receiver whose window alone is new
abbrev pub with_window : Receiver → ReceiveWindow → Receiver
with_window r w = record { window = w; timer = r.timer; request_due = r.request_due; refused = r.refused; asked = r.asked }

-- the one figure whose type is wider than its place
abbrev pub NarrowReceiver : Receiver → Type 0
NarrowReceiver r = r.window.size < 65536

-- ---- from the words
abbrev pub timer_in : Bool → ℕ → ℕ → Option RequestTimer
timer_in on due sent = cond on (Some record { due = due; sent = sent }) None

abbrev pub asked_in : Bool → ℕ → ℕ → Option RetransmitRequest
asked_in on seq count = cond on (Some record { seq = seq; count = count }) None

unfoldable pub receiver_of : List ℕ → Receiver
receiver_of ws =
    let q = four_in (at ws 5) in
    let s = two_in (at ws 6) in
    let f = flags_in s.high in
    record {
      window = record { size = q.b; highest = q.a; bits = record { low = at ws 0; high = at ws 1 } };
      timer = timer_in f.timer (at ws 4) s.low;
      request_due = f.request_due;
      refused = f.refused;
      asked = asked_in f.asked q.c q.d;
    }

-- ---- which words are a receiver's
-- the set's upper words are 0, there are four flags, and figures stand beside a flag that is set: the request's,
unfoldable pub holds_but_timer : List ℕ → Bool
holds_but_timer ws =
    let q = four_in (at ws 5) in
    let f = flags_in (two_in (at ws 6)).high in
    eqb (at ws 2) 0
    && (eqb (at ws 3) 0
    && (leb (at ws 6) 4095
    && held f.asked q.c q.d 0))

-- and the timer's
unfoldable pub receiver_holds : List ℕ → Bool
receiver_holds ws = let s = two_in (at ws 6) in holds_but_timer ws && held (flags_in s.high).timer (at ws 4) s.low 0
