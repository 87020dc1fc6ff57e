-- What a data command or an error leaves of a receiver that was loaded has words that fit.
use mathlib.Core.Path.{◌≡◌, sym, ap, subst, ◌∙◌}
use Rattle.std.proofs.Common.{Option, Some, None}
use Rattle.receiver.specs.declared.receiver.Delivery.{Delivery}
use Rattle.receiver.specs.declared.receiver.ReceiverAnswer.{ReceiverAnswer}
use Rattle.receiver.specs.declared.receiver.StreamEvent.{StreamEvent}
use mathlib.Core.Bool.{Bool, true, false, ◌&&◌}
use mathlib.Core.List.{List}
use Prim.Native.Nat.{ℕ, ◌<◌}
use native.Mathlib.Omega.{arith}
use lib.ListN.{take, get_or}
use lib.Seq.{get_or-take}
use Rattle.config.specs.Settings.{check_of}
use Rattle.config.specs.declared.settings.StreamConfig.{StreamConfig}
use Rattle.command.specs.declared.retransmit.RetransmitRequest.{RetransmitRequest}
use Rattle.command.specs.declared.retransmit.RetransmitError.{RetransmitError}
use Rattle.window.specs.Arrival.{class_of, new_of, taken_of, accept_of}
use Rattle.window.specs.Marking.{mark_of}
use Rattle.window.specs.declared.window.ReceiveWindow.{ReceiveWindow}
use Rattle.window.specs.declared.window.Class.{Class}
use Rattle.window.specs.declared.window.Class.TheVariants.{New, Late, Duplicate}
use Rattle.receiver.specs.Receiver.{valid_of, enabled_of, nothing_missing, is_gap, restarts, settled_of, heard_of, error_to, error_of}
use Rattle.receiver.specs.Answers.{event_refused, data_answer, error_answer}
use Rattle.receiver.specs.declared.receiver.Receiver.{Receiver}
use Rattle.receiver.specs.declared.receiver.RequestTimer.{RequestTimer}
use Rattle.c_state.specs.Pack.{four_in, two_in, flags_in}
use Rattle.c_state.specs.Receiver.{NarrowReceiver, timer_in, asked_in, timer_words, asked_words, receiver_of}
use Rattle.c_state.specs.Sender.{sender_holds}
use Rattle.c_state.specs.Stream.{fits, receiver_in, with_receiver}
use Rattle.c_state.specs.Theorems.{Wide, ReceiverSmall}
use Rattle.c_state.proofs.Choices.{by_test, by_state, by_entry}
use Rattle.c_state.proofs.Ends.{both_sender, both_whole, sender_stays}
use Rattle.c_state.proofs.Streams.{sender_long, receiver_length, receiver_taken, fits_sender}

-- ---- figures as wide as their types
pub record Typed (r : Receiver) : Type 0 where
  pub highest : r.window.highest < 65536
  pub sent : (timer_words r.timer).sent < 256
  pub seq : (asked_words r.asked).seq < 65536
  pub count : (asked_words r.asked).count < 65536

small_of : (r : Receiver) → NarrowReceiver r → Typed r → ReceiverSmall r
small_of r n t = (
  record {
    highest = t.highest;
    timer = λ (x : RequestTimer) (e : r.timer ≡ _). subst (λ (y : Option RequestTimer). (timer_words y).sent < 256) e t.sent;
    asked = λ (x : RetransmitRequest) (e : r.asked ≡ _). (
      subst (λ (y : Option RetransmitRequest). (asked_words y).seq < 65536) e t.seq,
      subst (λ (y : Option RetransmitRequest). (asked_words y).count < 65536) e t.count,
    );
  },
  n,
)

-- ---- a receiver that was loaded
timer_in_lem : (on : Bool) (due sent : ℕ) → sent < 256 → (timer_words (timer_in on due sent)).sent < 256
timer_in_lem true due sent h = h
timer_in_lem false due sent h = omega arith

asked_in_lem : (on : Bool) (seq count : ℕ) → seq < 65536 → count < 65536 → ((asked_words (asked_in on seq count)).seq < 65536) × ((asked_words (asked_in on seq count)).count < 65536)
asked_in_lem true seq count h g = (h, g)
asked_in_lem false seq count h g = (omega arith, omega arith)

module _ (w : ℕ) where
  first_narrow : (four_in w).a < 65536
  unfolding four_in
  first_narrow = omega arith

  third_narrow : (four_in w).c < 65536
  unfolding four_in
  third_narrow = omega arith

  last_narrow : w < 18446744073709551616 → (four_in w).d < 65536
  unfolding four_in
  last_narrow h = omega arith

  low_narrow : (two_in w).low < 256
  unfolding two_in
  low_narrow = omega arith

loaded_typed : (ws : List ℕ) → get_or ws 5 0 < 18446744073709551616 → Typed (receiver_of ws)
unfolding receiver_of
loaded_typed ws wide =
    let f = flags_in (two_in (get_or ws 6 0)).high in
    let a = asked_in_lem f.asked (four_in (get_or ws 5 0)).c (four_in (get_or ws 5 0)).d (third_narrow (get_or ws 5 0)) (last_narrow (get_or ws 5 0) wide) in
    record {
      highest = first_narrow (get_or ws 5 0);
      sent = timer_in_lem f.timer (get_or ws 4 0) (two_in (get_or ws 6 0)).low (low_narrow (get_or ws 6 0));
      seq = a.0;
      count = a.1;
    }

-- ---- a window
taken_highest : (w : ReceiveWindow) (seq : ℕ) (c : Class) → w.highest < 65536 → seq < 65536 → (taken_of w seq c).window.highest < 65536
unfolding new_of
taken_highest w seq (New gap) h g = g
taken_highest w seq Late h g = h
taken_highest w seq Duplicate h g = h

accept_highest : (w : ReceiveWindow) (seq : ℕ) → w.highest < 65536 → seq < 65536 → (accept_of w seq).window.highest < 65536
unfolding accept_of
accept_highest w seq = taken_highest w seq (class_of w seq)

-- ---- a receiver
none : 0 < 65536
none = omega arith

few : 0 < 256
few = omega arith

module _ (r : Receiver) (t : Typed r) where
  settled_typed : (cfg : StreamConfig) (time : ℕ) (w : ReceiveWindow) (c : Class) → w.highest < 65536 → Typed (settled_of r cfg time w c)
  unfolding settled_of
  settled_typed cfg time w c h =
      by_test Typed (nothing_missing w) _ _ record { highest = h; sent = few; seq = none; count = none }
      (λ _. by_test Typed (is_gap c && (enabled_of r cfg && restarts r.timer)) _ _ record { highest = h; sent = few; seq = t.seq; count = t.count }
      (λ _. record { highest = h; sent = t.sent; seq = t.seq; count = t.count }))

  data_typed : (cfg : StreamConfig) (time seq : ℕ) → seq < 65536 → Typed (data_answer r cfg time seq).receiver
  unfolding data_answer heard_of
  data_typed cfg time seq g =
      by_entry (λ (x : ReceiverAnswer Delivery). Typed x.receiver) (check_of cfg) (valid_of r) _ _ (λ _. t)
      (λ _ _. settled_typed cfg time _ _ (accept_highest r.window seq t.highest g))

  error_by_lem : (e : RetransmitError) (a : Option RetransmitRequest) → Typed (error_to r e a).receiver
  unfolding mark_of
  error_by_lem e None = t
  error_by_lem e (Some q) =
      by_test Typed (nothing_missing (mark_of r.window record { first = q.seq; count = q.count }).window) _ _ record { highest = t.highest; sent = few; seq = none; count = none }
      (λ _. record { highest = t.highest; sent = t.sent; seq = none; count = none })

  error_typed : (e : RetransmitError) → Typed (error_answer r e).receiver
  unfolding error_answer error_of
  error_typed e = by_state (λ (x : ReceiverAnswer (Option StreamEvent)). Typed x.receiver) (valid_of r) (event_refused r) _ t (λ _. error_by_lem e r.asked)

-- ---- the words
module _ (st : List ℕ) (all : fits st ≡ true) (wide : Wide st) where
  part_wide : get_or (take 7 st) 5 0 < 18446744073709551616
  part_wide = rw (get_or-take 7 st 5 0 (omega arith)) (wide 5)

  in_typed : Typed (receiver_in st)
  in_typed = loaded_typed (take 7 st) part_wide

  with_fits : (r : Receiver) → NarrowReceiver r → Typed r → fits (with_receiver st r) ≡ true
  with_fits r n t =
      let l = both_whole st all in
      let m = receiver_length st r l in
      sym (fits_sender (with_receiver st r) (receiver_taken st l r (small_of r n t)))
      ∙ sym (sender_long (with_receiver st r) m)
      ∙ ap sender_holds (sender_stays st l r)
      ∙ sender_long st l
      ∙ both_sender st all

  pub data_fits : (cfg : StreamConfig) (time seq : ℕ) → seq < 65536 → let r = (data_answer (receiver_in st) cfg time seq).receiver in NarrowReceiver r → fits (with_receiver st r) ≡ true
  data_fits cfg time seq g n = with_fits _ n (data_typed (receiver_in st) in_typed cfg time seq g)

  pub error_fits : (e : RetransmitError) → let r = (error_answer (receiver_in st) e).receiver in NarrowReceiver r → fits (with_receiver st r) ≡ true
  error_fits e n = with_fits _ n (error_typed (receiver_in st) in_typed e)
