-- An end at rest: queueing no words, writing with nothing to write and polling with nothing to do leave stream, history and payload as they are, whatever the tests say.
use Prim.Native.Nat.{ℕ, ◌%◌}
use Rattle.std.proofs.Common.{is_some, Option, Some, None, Ok}
use Rattle.receiver.specs.declared.receiver.ReceiverAnswer.{ReceiverAnswer}
use Rattle.receiver.specs.declared.receiver.StreamEvent.{StreamEvent}
use Rattle.sender.specs.declared.sender.SenderAnswer.{SenderAnswer}
use Rattle.std.specs.Bool.{⊤}
use mathlib.Core.Path.{◌≡◌, refl, sym, ap, ap₂, ◌∙◌}
use mathlib.Core.Bool.{Bool, true, false, cond, not, ◌&&◌, ◌||◌}
use mathlib.Core.List.{List, []}
use lib.ListN.{length, replicate}
use lib.Dec.{eqb, ltb}
use native.Mathlib.Omega.{arith}
use borrow.Author.Tests.{eqb-true}
use Rattle.config.specs.inner.Tests.{and_left, and_right}
use Rattle.config.specs.Settings.{check_of}
use Rattle.config.specs.declared.settings.StreamConfig.{StreamConfig}
use Rattle.config.specs.inner.Entries.{entry_any}
use Rattle.config.specs.inner.Choices.{by_cond}
use Rattle.packet.specs.Write.{bytes_in, valid_of as payload_valid}
use Rattle.packet.specs.declared.writer.PayloadWriter.{PayloadWriter}
use Rattle.receiver.specs.Answers as receiver
use Rattle.receiver.specs.Receiver.{not_due, taken_of, polled_of, polled_at, valid_of as receiver_valid}
use Rattle.receiver.specs.declared.receiver.RequestTimer.{RequestTimer}
use Rattle.receiver.specs.declared.receiver.Receiver.{Receiver}
use Rattle.receiver.specs.declared.receiver.RequestWritten.{RequestWritten}
use Rattle.command.specs.declared.retransmit.RetransmitError.{RetransmitError}
use Rattle.sender.specs.Answers as sender
use Rattle.sender.specs.Queueing.{unsent, sent_of}
use Rattle.sender.specs.State.{valid_of as sender_valid}
use Rattle.writing.specs.Writing.{Served, served_in, served_of, idled_by, idled_of, new_by, new_of, wrote, written_by, commands_at}
use Rattle.sender.specs.Requests.{written_count}
use Rattle.sender.specs.declared.sender.Sender.{Sender}
use Rattle.writing.specs.declared.writing.Wrote.{Wrote as SenderWrote}
use Rattle.stream.specs.Ends.{send_answer, poll_answer, told_by}
use Rattle.stream.specs.State.{valid_of, with_sender, with_receiver}
use Rattle.stream.specs.Writing.{after_request, sent_after, data_written, write_answer, write_refused, counted_also}
use Rattle.stream.specs.declared.stream.DataStream.{DataStream}
use Rattle.stream.specs.declared.stream.Wrote.{Wrote}
use Rattle.load.specs.Load.{count_of, word}
use Rattle.packet.specs.Read.{Item, items_of, signed}
use Rattle.idle.specs.declared.idle.Idle.{Idle}
use Rattle.rows.specs.Rows.{packets_from}
use Rattle.link_rules.specs.Arriving.{arrived_of, event_loss}
use Rattle.link_rules.specs.Link.{empty, blank, carried}
use Rattle.link_tally.specs.Tally.{tallied, unread}
use Rattle.link.specs.Turns.{Turn, wrote_into, queued_at, chamber_of, poll_loss, there_of, back_of}
use Rattle.link.specs.Rests.{idle_rests, timer_rests, quiet_of, no_error, console_rests, chamber_rests}
use Rattle.link_tally.specs.declared.arriving.Tally.{Tally}
use Rattle.link.specs.declared.halves.Gone.{Gone}
use Rattle.link.specs.declared.halves.Come.{Come}
use Rattle.link_tally.proofs.Walking.{tallied_none}
use Rattle.link.proofs.Turning.{console_is, begin_none}

-- ---- the test, by its ways out
false_true : ◌≡◌ {A = Bool} false true → ⊥
false_true e = let z : eqb 1 0 ≡ true = e in let y : ◌≡◌ {A = ℕ} 1 0 = eqb-true 1 0 z in let x : ⊥ = omega arith in x

module _ (t : Option Idle) (time : ℕ) where
  pub rests_off : t ≡ None → true ≡ idle_rests t time
  unfolding idle_rests
  rests_off e = sym (ap (λ (x : Option Idle). idle_rests x time) e)

  pub rests_until : (i : Idle) → t ≡ Some i → ltb time i.due ≡ idle_rests t time
  unfolding idle_rests
  rests_until i e = sym (ap (λ (x : Option Idle). idle_rests x time) e)

module _ (t : Option RequestTimer) (time : ℕ) where
  pub timer_off : t ≡ None → true ≡ timer_rests t time
  unfolding timer_rests
  timer_off e = sym (ap (λ (x : Option RequestTimer). timer_rests x time) e)

  pub timer_until : (i : RequestTimer) → t ≡ Some i → ltb time i.due ≡ timer_rests t time
  unfolding timer_rests
  timer_until i e = sym (ap (λ (x : Option RequestTimer). timer_rests x time) e)

pub none_is : (w : Option RetransmitError) (b : Bool) → is_some w ≡ not b → b ≡ no_error w
unfolding no_error
none_is None true e = refl
none_is None false e = absurd (let z : ◌≡◌ {A = ℕ} 0 1 = cc in let y : ⊥ = omega arith in y)
none_is (Some x) true e = absurd (let z : ◌≡◌ {A = ℕ} 0 1 = cc in let y : ⊥ = omega arith in y)
none_is (Some x) false e = refl

module _ (w : Option RetransmitError) where
  none_waits : no_error w ≡ true → w ≡ None
  unfolding no_error
  none_waits e = none_by w e
    where
      none_by : (v : Option RetransmitError) → no_error v ≡ true → v ≡ None
      none_by None e = refl
      none_by (Some x) e = absurd (false_true e)

chosen : {A : Type 0} (t : Bool) (x y : A) → t ≡ true → cond t x y ≡ x
chosen t x y e = rw e

or_right : (a b : Bool) → b ≡ true → (a || b) ≡ true
or_right true b e = refl
or_right false b e = e

-- ---- a sender with nothing to write
module _ (x : Sender) (cfg : StreamConfig) (time : ℕ) (p : PayloadWriter) (b ring : List ℕ) where
  abbrev nothing_served : Served
  nothing_served = record { sender = x; payload = p; bytes = b; written = 0; more = false }

  served_by_lem : (n : ℕ) → n ≡ 0 → served_in n x ring p b ≡ nothing_served
  unfolding served_in
  served_by_lem n e = rw e

  served_none : x.queue.len ≡ 0 → served_of x ring p b ≡ nothing_served
  unfolding served_of
  served_none e = served_by_lem x.queue.len e

  idled_by_lem : (t : Option Idle) → idle_rests t time ≡ true → idled_by x cfg time ring t ≡ (x, ring)
  unfolding idle_rests
  idled_by_lem None e = refl
  idled_by_lem (Some i) e = chosen (ltb 0 x.unsent || ltb time i.due) _ _ (or_right (ltb 0 x.unsent) (ltb time i.due) e)

  idled_none : idle_rests x.idle time ≡ true → idled_of x cfg time ring ≡ (x, ring)
  unfolding idled_of
  idled_none e = idled_by_lem x.idle e

  abbrev nothing_new : SenderWrote × List ℕ
  nothing_new = (wrote x p 0 false, b)

  new_by_lem : (n : ℕ) → n ≡ 0 → new_by x cfg time 0 p b ring (commands_at x ring (written_count x) n) ≡ nothing_new
  unfolding packets_from
  new_by_lem n e = rw e

  new_none : x.unsent ≡ 0 → new_of x cfg time 0 p b ring ≡ nothing_new
  unfolding new_of
  new_none e = new_by_lem x.unsent e

  writes_nothing : x.unsent ≡ 0 → x.queue.len ≡ 0 → idle_rests x.idle time ≡ true → written_by x cfg time p b ring ≡ (wrote x p 0 false, b, ring)
  unfolding written_by
  writes_nothing u q i = ap after_served (served_none q) ∙ ap after_idle (idled_none i) ∙ ap (λ (n : SenderWrote × List ℕ). (n.0, n.1, ring)) (new_none u)
    where
      after_served : Served → SenderWrote × List ℕ × List ℕ
      after_served s =
          let idled = idled_of s.sender cfg time ring in
          let new = new_of idled.0 cfg time s.written s.payload s.bytes idled.1 in
          cond s.more (wrote s.sender s.payload s.written true, s.bytes, ring) (new.0, new.1, idled.1)

      after_idle : Sender × List ℕ → SenderWrote × List ℕ × List ℕ
      after_idle y = let new = new_of y.0 cfg time 0 p b y.1 in (new.0, new.1, y.1)

-- ---- a stream with nothing to write
taken_none : (r : Receiver) (cfg : StreamConfig) (p : PayloadWriter) (b : List ℕ) → not r.request_due ≡ true → taken_of r cfg p b ≡ (not_due r p, b)
unfolding taken_of
taken_none r cfg p b e = chosen (not r.request_due) _ _ e

module _ (s : DataStream) (cfg : StreamConfig) (time : ℕ) (p : PayloadWriter) (b ring : List ℕ) where
  left_as_is : quiet_of s time ≡ true → data_written s cfg time p b ring ≡ (record { stream = s; payload = p; answer = counted_also 0 (wrote s.sender p 0 false).answer }, b, ring)
  unfolding quiet_of data_written sent_after
  left_as_is e =
      ap (λ (t : RequestWritten × List ℕ). after_request t.0.answer (with_receiver s t.0.receiver) cfg time t.0.payload t.1 ring) (taken_none s.receiver cfg p b (and_left d rest e))
      ∙ ap (λ (w : SenderWrote × List ℕ × List ℕ). (record { stream = with_sender s w.0.sender; payload = w.0.payload; answer = counted_also 0 w.0.answer }, w.1, w.2))
      (writes_nothing s.sender cfg time p b ring (eqb-true s.sender.unsent 0 (and_left u more r)) (eqb-true s.sender.queue.len 0 (and_left q i m)) (and_right q i m))
    where
      d : Bool
      d = not s.receiver.request_due

      u : Bool
      u = eqb s.sender.unsent 0

      q : Bool
      q = eqb s.sender.queue.len 0

      i : Bool
      i = idle_rests s.sender.idle time

      more : Bool
      more = q && i

      rest : Bool
      rest = u && more

      r : rest ≡ true
      r = and_right d rest e

      m : more ≡ true
      m = and_right u more r

  abbrev turned : Wrote × List ℕ × List ℕ → Turn
  turned w = record { stream = w.0.stream; ring = w.2; bytes = bytes_in w.0.payload w.1 }

  quiet_turn : quiet_of s time ≡ true → ◌≡◌ {A = Turn} (record { stream = s; ring = ring; bytes = bytes_in p b }) (wrote_into s cfg time ring (p, b))
  unfolding wrote_into write_answer
  quiet_turn e =
      entry_any (λ (w : Wrote × List ℕ × List ℕ). left ≡ turned w) (write_refused s p b ring) (data_written s cfg time p b ring) (λ why. refl)
      (check_of cfg) (valid_of s ring && payload_valid p (length b)) (λ _ _. sym (ap turned (left_as_is e)))
    where
      left : Turn
      left = record { stream = s; ring = ring; bytes = bytes_in p b }

-- ---- no words
module _ (s : DataStream) (cfg : StreamConfig) (ring : List ℕ) where
  abbrev sent_to : SenderAnswer ⊤ × List ℕ → DataStream × List ℕ
  sent_to e = (with_sender s e.0.sender, e.1)

  no_words : (s, ring) ≡ sent_to (sender.send_answer s.sender cfg ring [])
  unfolding sender.send_answer sent_of
  no_words =
      entry_any (λ (e : SenderAnswer ⊤ × List ℕ). (s, ring) ≡ sent_to e) (unsent s.sender ring) (sent_of s.sender ring cfg.max_command_words []) (λ why. refl)
      (check_of cfg) (sender_valid s.sender ring) (λ _ _. refl)

  queued_by_lem : (n : ℕ) → n ≡ 0 → (s, ring) ≡ sent_to (sender.send_answer s.sender cfg ring (replicate n word))
  queued_by_lem n e = rw e no_words

  queued_none : (x : ℕ) → count_of x ≡ 0 → (s, ring) ≡ queued_at s cfg ring x
  unfolding send_answer
  queued_none x e = queued_by_lem (count_of x) e

-- ---- no poll
module _ (s : DataStream) (cfg : StreamConfig) (time : ℕ) (e : timer_rests s.receiver.timer time ≡ true) where
  abbrev counted : ReceiverAnswer (Option StreamEvent) → DataStream × ℕ
  counted t = ((told_by s.sender t).stream, event_loss (told_by s.sender t).answer)

  at_rest : (t : Option RequestTimer) → timer_rests t time ≡ true → polled_at s.receiver cfg time t ≡ record { receiver = s.receiver; answer = Ok None }
  unfolding timer_rests
  at_rest None f = refl
  at_rest (Some t) f = chosen (ltb time t.due) _ _ f

  polled_none : (s, 0) ≡ counted (receiver.poll_answer s.receiver cfg time)
  unfolding receiver.poll_answer polled_of
  polled_none =
      entry_any (λ (t : ReceiverAnswer (Option StreamEvent)). (s, 0) ≡ counted t) (receiver.event_refused s.receiver) (polled_at s.receiver cfg time s.receiver.timer) (λ why. refl)
      (check_of cfg) (receiver_valid s.receiver) (λ _ _. sym (ap counted (at_rest s.receiver.timer e)))

  stays : s ≡ (poll_answer s cfg time).stream
  unfolding poll_answer
  stays = ap (λ (x : DataStream × ℕ). x.0) polled_none

  no_loss : ◌≡◌ {A = ℕ} 0 (poll_loss s cfg time)
  unfolding poll_answer
  no_loss = ap (λ (x : DataStream × ℕ). x.1) polled_none

-- ---- the halves of a step
items_none : items_of [] ≡ []
unfolding items_of signed
items_none = refl

carried_none : (figure y : ℕ) → carried figure y [] ≡ []
carried_none figure y = sym (by_cond (λ (x : List Item). [] ≡ x) (ltb (y % 256) figure) [] (items_of []) (λ _. refl) (λ _. sym items_none))

reads_none : (s : DataStream) (cfg : StreamConfig) (time : ℕ) (ring : List ℕ) (items : List Item) → items ≡ [] → unread s ≡ tallied (unread s) (arrived_of s cfg time ring items)
unfolding arrived_of
reads_none s cfg time ring items e = rw e (sym (tallied_none (unread s)))

module _ (console chamber : DataStream) (cfg : StreamConfig) (time : ℕ) where
  pub there_rests : (x y figure : ℕ) (w : Option RetransmitError) (ring other : List ℕ) → console_rests console time x w ≡ true
      → ◌≡◌ {A = Gone × List ℕ} (record { console = console; chamber = unread chamber }, ring) (there_of console chamber cfg time x y figure w ring other)
  unfolding console_rests there_of
  there_rests x y figure w ring other e =
      ap (λ (r : Tally). (record { console = console; chamber = r }, ring)) (reads_none chamber cfg time other (carried figure y []) (carried_none figure y))
      ∙ ap (λ (c : Turn). (record { console = c.stream; chamber = tallied (unread chamber) (arrived_of chamber cfg time other (carried figure y c.bytes)) }, c.ring))
      (console_is console cfg time ring x w console ring (queued_none console cfg ring x none) empty blank (begin_none w blank refl (none_waits w (and_left (no_error w) rest e)))
      (record { stream = console; ring = ring; bytes = [] }) (quiet_turn console cfg time empty blank ring quiet))
    where
      rest : Bool
      rest = eqb (count_of x) 0 && quiet_of console time

      both : rest ≡ true
      both = and_right (no_error w) rest e

      none : count_of x ≡ 0
      none = eqb-true (count_of x) 0 (and_left (eqb (count_of x) 0) (quiet_of console time) both)

      quiet : quiet_of console time ≡ true
      quiet = and_right (eqb (count_of x) 0) (quiet_of console time) both

  pub back_rests : (ring other : List ℕ) → chamber_rests chamber time ≡ true
      → ◌≡◌ {A = Come × List ℕ} (record { console = unread console; chamber = chamber; losses = 0 }, other) (back_of console chamber cfg time ring other)
  unfolding chamber_rests back_of chamber_of
  back_rests ring other e =
      ap₂ (λ (r : Tally) (n : ℕ). (record { console = r; chamber = chamber; losses = n }, other)) (reads_none console cfg time ring (items_of []) items_none) (no_loss chamber cfg time rests)
      ∙ ap (λ (d : Turn). (record { console = tallied (unread console) (arrived_of console cfg time ring (items_of d.bytes)); chamber = d.stream; losses = poll_loss chamber cfg time }, d.ring))
      (quiet_turn chamber cfg time empty blank other quiet ∙ ap (λ (s : DataStream). wrote_into s cfg time other (empty, blank)) (stays chamber cfg time rests))
    where
      rests : timer_rests chamber.receiver.timer time ≡ true
      rests = and_left (timer_rests chamber.receiver.timer time) (quiet_of chamber time) e

      quiet : quiet_of chamber time ≡ true
      quiet = and_right (timer_rests chamber.receiver.timer time) (quiet_of chamber time) e
