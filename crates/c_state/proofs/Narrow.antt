-- No call leaves a stream with a figure that is wider than its place.
use mathlib.Core.Path.{◌≡◌}
use Rattle.std.proofs.Common.{Result, Ok, Err}
use Rattle.config.specs.declared.refusal.Refusal.{Refusal}
use Rattle.stream.specs.declared.stream.StreamAnswer.{StreamAnswer}
use Rattle.std.specs.Bool.{⊤}
use mathlib.Core.Bool.{true, false, not, ◌&&◌}
use mathlib.Core.List.{List}
use Prim.Native.Nat.{ℕ, ◌≤◌, ◌<◌}
use native.Mathlib.Omega.{arith}
use lib.ListN.{length, get_or, take, drop}
use lib.Seq.{get_or-drop}
use lib.Dec.{eqb, leb}
use borrow.Author.Tests.{leb-true, not-false}
use Rattle.config.specs.Range.{within, outside}
use Rattle.config.specs.Settings.{check_of}
use Rattle.config.specs.inner.Tests.{and_left, and_right}
use Rattle.config.specs.declared.settings.StreamConfig.{StreamConfig}
use Rattle.packet.specs.Write.{valid_of as payload_valid}
use Rattle.packet.specs.declared.writer.PayloadWriter.{PayloadWriter}
use Rattle.window.specs.Set.{max_window}
use Rattle.receiver.specs.Receiver.{taken_of}
use Rattle.receiver.specs.declared.receiver.Receiver.{Receiver}
use Rattle.receiver.specs.declared.receiver.Request.{Request}
use Rattle.receiver.specs.declared.receiver.Request.TheVariants.{Nothing as NotDue, Written as Taken, More as NoSpace}
use Rattle.sender.specs.State.{valid_of as sender_valid}
use Rattle.stream.specs.State.{valid_of, fresh, with_receiver}
use Rattle.stream.specs.Answers.{sizes_out, new_answer, reset_refused, reset_answer}
use Rattle.stream.specs.Ends.{send_answer, request_answer, data_answer, error_answer, nak_answer, poll_answer, take_answer}
use Rattle.stream.specs.Writing.{sent_after, after_request, data_written, write_answer}
use Rattle.stream.specs.Sending.{after_send, send_and_write_answer}
use Rattle.stream.specs.declared.stream.DataStream.{DataStream}
use Rattle.stream.specs.declared.stream.Wrote.{Wrote}
use Rattle.stream.proofs.Validity.{valid_sender}
use Rattle.c_state.specs.Pack.{four_in, two_in}
use Rattle.c_state.specs.Receiver.{NarrowReceiver, receiver_of}
use Rattle.c_state.specs.Sender.{sender_of}
use Rattle.c_state.specs.Stream.{loaded}
use Rattle.c_state.specs.Theorems.{NarrowStream, StaysNarrow, Wide}
use Rattle.config.specs.inner.Choices.{or_left, or_right, by_check}
use Rattle.c_state.proofs.Choices.{by_test, by_state, by_entry}
use Rattle.c_state.proofs.ReceiverSizes.{data_size, poll_size, error_size, nak_size, take_size, taken_kept}
use Rattle.c_state.proofs.SenderSizes.{valid_within, send_narrow, send_number, request_narrow, written_narrow}

-- ---- a start
fresh_narrow : (window words places : ℕ) → window < 65536 → words < 65536 → places < 256 → NarrowStream (fresh window words places)
fresh_narrow window words places w h q = (
  w,
  record {
    size = h;
    head = omega arith;
    used = omega arith;
    count = omega arith;
    last = omega arith;
    unsent = omega arith;
    words = omega arith;
    front = omega arith;
    waiting = omega arith;
    places = q;
  },
)

inside : (low high n : ℕ) → outside low high n ≡ false → n ≤ high
inside low high n e = leb-true n high (and_right (leb low n) _ (not-false (within low high n) e))

abbrev NarrowStarted : StreamAnswer ⊤ × List ℕ → Type 0
NarrowStarted x = NarrowStream x.0.stream

pub start_narrow : (cfg : StreamConfig) (window words places : ℕ) (ring : List ℕ) → NarrowStream (new_answer cfg window words places ring).0.stream
unfolding new_answer
start_narrow cfg window words places ring =
    let none = fresh_narrow 0 0 0 (omega arith) (omega arith) (omega arith) in
    by_check NarrowStarted (check_of cfg) _ _ (λ _. none)
    (λ _. by_test NarrowStarted (sizes_out window words places ring) _ _ none
    (λ e.
    let a = or_right (outside 1 max_window window) _ e in
    let b = or_right (outside 65 32768 words) _ a in
    let w = inside 1 max_window window (or_left (outside 1 max_window window) _ e) in
    let h = inside 65 32768 words (or_left (outside 65 32768 words) _ a) in
    let q = inside 1 16 places (or_right (not (eqb (length ring) words)) _ b) in
    fresh_narrow window words places (omega arith) (omega arith) (omega arith)))

-- ---- words that are loaded
module _ (w : ℕ) where
  four_narrow : ((four_in w).a < 65536) × ((four_in w).b < 65536) × ((four_in w).c < 65536)
  unfolding four_in
  four_narrow = (omega arith, omega arith, omega arith)

  last_narrow : w < 18446744073709551616 → (four_in w).d < 65536
  unfolding four_in
  last_narrow h = omega arith

  low_narrow : (two_in w).low < 256
  unfolding two_in
  low_narrow = omega arith

pub words_narrow : (ws : List ℕ) → Wide ws → NarrowStream (loaded ws) × ((loaded ws).sender.history.oldest < 65536)
unfolding loaded receiver_of sender_of
words_narrow ws wide =
    let part = drop 7 ws in
    let none = four_narrow (get_or part 0 0) in
    let one = four_narrow (get_or part 1 0) in
    let two = four_narrow (get_or part 2 0) in
    let at_none : get_or part 0 0 < 18446744073709551616 = rw (get_or-drop 7 ws 0 0) (wide 7) in
    let at_one : get_or part 1 0 < 18446744073709551616 = rw (get_or-drop 7 ws 1 0) (wide 8) in (
      (
        (four_narrow (get_or (take 7 ws) 5 0)).1,
        record {
          size = one.1;
          head = none.0;
          used = none.1;
          count = none.2;
          last = one.0;
          unsent = one.2;
          words = last_narrow (get_or part 1 0) at_one;
          front = two.0;
          waiting = two.1;
          places = low_narrow (four_in (get_or part 2 0)).d;
        },
      ),
      last_narrow (get_or part 0 0) at_none,
    )

-- ---- calls
abbrev NarrowWrote : Wrote × List ℕ × List ℕ → Type 0
NarrowWrote x = NarrowStream x.0.stream

module _ (d : DataStream) (n : NarrowStream d) (o : d.sender.history.oldest < 65536) where
  -- a window of the same size
  same_size : (m : ℕ) → m ≡ d.receiver.window.size → m < 65536
  same_size m e = omega (arith, n.0)

  reset_narrow : (ring : List ℕ) → NarrowStream (reset_answer d ring).0.stream
  unfolding reset_answer
  reset_narrow ring =
      by_state (λ (x : StreamAnswer ⊤ × List ℕ). NarrowStream x.0.stream) (valid_of d ring) (reset_refused d ring) _ n
      (λ _. fresh_narrow d.receiver.window.size d.sender.history.size d.sender.queue.size n.0 n.1.size n.1.places)

  -- a write, after the request
  module _ (cfg : StreamConfig) (time : ℕ) (ring : List ℕ) (v : sender_valid d.sender ring ≡ true) where
    sent_narrow : (k : ℕ) (r : Receiver) → NarrowReceiver r → (p : PayloadWriter) (b : List ℕ) → NarrowStream (sent_after k (with_receiver d r) cfg time p b ring).0.stream
    unfolding sent_after
    sent_narrow k r m p b = (m, written_narrow d.sender cfg time p b ring (valid_within d.sender ring v o n.1.last))

    after_narrow : (q : Result Request Refusal) (r : Receiver) → NarrowReceiver r → (p : PayloadWriter) (b : List ℕ) → NarrowStream (after_request q (with_receiver d r) cfg time p b ring).0.stream
    after_narrow (Err why) r m p b = (m, n.1)
    after_narrow (Ok NoSpace) r m p b = (m, n.1)
    after_narrow (Ok NotDue) r m p b = sent_narrow 0 r m p b
    after_narrow (Ok Taken) r m p b = sent_narrow 1 r m p b

  write_narrow : (cfg : StreamConfig) (time : ℕ) (p : PayloadWriter) (b ring : List ℕ) → NarrowStream (write_answer d cfg time p b ring).0.stream
  unfolding write_answer data_written
  write_narrow cfg time p b ring =
      let t = taken_of d.receiver cfg p b in
      by_entry NarrowWrote (check_of cfg) (valid_of d ring && payload_valid p (length b)) _ _ (λ _. n)
      (λ _ e.
      let v = valid_sender d ring (and_left (valid_of d ring) _ e) in
      after_narrow cfg time ring v t.0.answer t.0.receiver (same_size _ (taken_kept d.receiver cfg p b)) t.0.payload t.1)

  sent_stream : (cfg : StreamConfig) (ring ws : List ℕ) → NarrowStream (send_answer d cfg ring ws).0.stream × ((send_answer d cfg ring ws).0.stream.sender.history.oldest < 65536)
  unfolding send_answer
  sent_stream cfg ring ws = ((n.0, send_narrow d.sender ring n.1 o cfg ws), send_number d.sender ring o cfg ws)

-- queueing and a write
both_narrow : (d : DataStream) → NarrowStream d → d.sender.history.oldest < 65536
    → (cfg : StreamConfig) (time : ℕ) (ws : List ℕ) (p : PayloadWriter) (b ring : List ℕ) → NarrowStream (send_and_write_answer d cfg time ws p b ring).0.stream
unfolding send_and_write_answer
both_narrow d n o cfg time ws p b ring = by (send_answer d cfg ring ws).0.answer
  where
    by : (a : Result ⊤ Refusal) → let e = send_answer d cfg ring ws in NarrowStream (after_send a e.0.stream cfg time p b e.1).0.stream
    by (Err why) = (sent_stream d n o cfg ring ws).0
    by (Ok _) = let k = sent_stream d n o cfg ring ws in write_narrow _ k.0 k.1 cfg time p b _

pub stays_narrow : (d : DataStream) → NarrowStream d → d.sender.history.oldest < 65536 → StaysNarrow d
unfolding request_answer data_answer error_answer nak_answer poll_answer take_answer
stays_narrow d n o = record {
  reset = reset_narrow d n o;
  send = λ cfg ring ws. (sent_stream d n o cfg ring ws).0;
  request = λ cfg ring r. (n.0, request_narrow d.sender ring n.1 cfg r);
  hear = λ cfg time seq. (same_size d n o _ (data_size d.receiver cfg time seq), n.1);
  error = λ e. (same_size d n o _ (error_size d.receiver e), n.1);
  nak = (same_size d n o _ (nak_size d.receiver), n.1);
  poll = λ cfg time. (same_size d n o _ (poll_size d.receiver cfg time), n.1);
  take = λ cfg p b. (same_size d n o _ (take_size d.receiver cfg p b), n.1);
  write = write_narrow d n o;
  both = both_narrow d n o;
}
