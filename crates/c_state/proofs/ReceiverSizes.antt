-- A receiver's calls keep the window's size.
use mathlib.Core.Path.{◌≡◌, refl}
use Rattle.std.proofs.Common.{Option, Some, None, Result, Ok, Err}
use Rattle.config.specs.declared.refusal.Refusal.{Refusal}
use Rattle.receiver.specs.declared.receiver.Delivery.{Delivery}
use Rattle.receiver.specs.declared.receiver.ReceiverAnswer.{ReceiverAnswer}
use Rattle.receiver.specs.declared.receiver.RequestTimer.{RequestTimer}
use Rattle.receiver.specs.declared.receiver.StreamEvent.{StreamEvent}
use Rattle.window.specs.declared.window.SeqRange.{SeqRange}
use Rattle.std.specs.Bool.{⊤}
use mathlib.Core.Bool.{Bool, not, ◌&&◌}
use mathlib.Core.List.{List}
use Prim.Native.Nat.{ℕ}
use lib.ListN.{length}
use lib.Dec.{ltb}
use Rattle.config.specs.Settings.{check_of}
use Rattle.config.specs.declared.settings.StreamConfig.{StreamConfig}
use Rattle.packet.specs.Write.{valid_of as payload_valid, written_of}
use Rattle.packet.specs.declared.writer.PayloadWriter.{PayloadWriter}
use Rattle.command.specs.Write.{request_packet}
use Rattle.command.specs.declared.retransmit.RetransmitRequest.{RetransmitRequest}
use Rattle.command.specs.declared.retransmit.RetransmitError.{RetransmitError}
use Rattle.window.specs.Window.{request_of}
use Rattle.window.specs.Arrival.{class_of, new_of, taken_of as taken_by, accept_of}
use Rattle.window.specs.Marking.{mark_of}
use Rattle.window.specs.declared.window.ReceiveWindow.{ReceiveWindow}
use Rattle.window.specs.declared.window.Class.{Class}
use Rattle.window.specs.declared.window.Class.TheVariants.{New, Late, Duplicate}
use Rattle.receiver.specs.Receiver as receiver
use Rattle.receiver.specs.Receiver.{valid_of, enabled_of, nothing_missing, is_gap, restarts, settled_of, heard_of, gave_up, polled_at, polled_of, error_to, error_of, nak_by, nak_of, taken_span, taken_of, offered_of}
use Rattle.receiver.specs.Answers.{event_refused, data_answer, poll_answer, error_answer, nak_answer, take_answer}
use Rattle.receiver.specs.declared.receiver.Receiver.{Receiver}
use Rattle.receiver.specs.declared.receiver.RequestWritten.{RequestWritten}
use Rattle.c_state.proofs.Choices.{by_test, by_state, by_entry}

-- ---- a window
taken_size : (w : ReceiveWindow) (seq : ℕ) (c : Class) → (taken_by w seq c).window.size ≡ w.size
unfolding new_of
taken_size w seq (New gap) = refl
taken_size w seq Late = refl
taken_size w seq Duplicate = refl

accept_size : (w : ReceiveWindow) (seq : ℕ) → (accept_of w seq).window.size ≡ w.size
unfolding accept_of
accept_size w seq = taken_size w seq (class_of w seq)

-- ---- a receiver
module _ (r : Receiver) where
  abbrev Same : Receiver → Type 0
  Same x = x.window.size ≡ r.window.size

  abbrev SameHeard : ReceiverAnswer Delivery → Type 0
  SameHeard x = Same x.receiver

  abbrev SameTold : ReceiverAnswer (Option StreamEvent) → Type 0
  SameTold x = Same x.receiver

  abbrev SameIn : RequestWritten × List ℕ → Type 0
  SameIn x = Same x.0.receiver

  settled_size : (cfg : StreamConfig) (time : ℕ) (w : ReceiveWindow) (c : Class) → w.size ≡ r.window.size → Same (settled_of r cfg time w c)
  unfolding settled_of
  settled_size cfg time w c e =
      by_test Same (nothing_missing w) _ _ e
      (λ _. by_test Same (is_gap c && (enabled_of r cfg && restarts r.timer)) _ _ e (λ _. e))

  heard_size : (cfg : StreamConfig) (time seq : ℕ) → Same (heard_of r cfg time seq).receiver
  unfolding heard_of
  heard_size cfg time seq = settled_size cfg time _ _ (accept_size r.window seq)

  gave_up_size : (refused : Bool) → Same (gave_up refused r.window).receiver
  unfolding gave_up
  gave_up_size refused = refl

  polled_at_lem : (cfg : StreamConfig) (time : ℕ) (t : Option RequestTimer) → Same (polled_at r cfg time t).receiver
  polled_at_lem cfg time None = refl
  polled_at_lem cfg time (Some t) =
      by_test SameTold (ltb time t.due) _ _ refl
      (λ _. by_test SameTold (nothing_missing r.window) _ _ refl
      (λ _. by_test SameTold (ltb t.sent cfg.max_requests && enabled_of r cfg) _ _ refl
      (λ _. gave_up_size r.refused)))

  pub polled_size : (cfg : StreamConfig) (time : ℕ) → Same (polled_of r cfg time).receiver
  unfolding polled_of
  polled_size cfg time = polled_at_lem cfg time r.timer

  error_by_lem : (e : RetransmitError) (a : Option RetransmitRequest) → Same (error_to r e a).receiver
  unfolding mark_of
  error_by_lem e None = refl
  error_by_lem e (Some q) = by_test Same (nothing_missing (mark_of r.window record { first = q.seq; count = q.count }).window) _ _ refl (λ _. refl)

  nak_by_lem : (a : Option RetransmitRequest) → Same (nak_by r a).receiver
  nak_by_lem None = refl
  nak_by_lem (Some q) = gave_up_size _

  offered_size : (q : RetransmitRequest) (p : PayloadWriter) (b : List ℕ) → SameIn (offered_of r q p b)
  unfolding offered_of
  offered_size q p b = by (written_of p b (request_packet q)).0.answer
    where
      by : (a : Result ⊤ Refusal) → Same (receiver.taken_by r q (written_of p b (request_packet q)).0.payload a).receiver
      by (Ok _) = refl
      by (Err why) = refl

  span_size : (p : PayloadWriter) (b : List ℕ) (s : Option SeqRange) → SameIn (taken_span r p b s)
  span_size p b None = refl
  span_size p b (Some range) = offered_size record { seq = range.first; count = range.count } p b

  pub taken_kept : (cfg : StreamConfig) (p : PayloadWriter) (b : List ℕ) → SameIn (taken_of r cfg p b)
  unfolding taken_of
  taken_kept cfg p b =
      by_test SameIn (not r.request_due) _ _ refl
      (λ _. by_test SameIn (not (enabled_of r cfg)) _ _ refl
      (λ _. span_size p b (request_of r.window)))

  -- ---- its calls, refused or not
  pub data_size : (cfg : StreamConfig) (time seq : ℕ) → Same (data_answer r cfg time seq).receiver
  unfolding data_answer
  data_size cfg time seq =
      by_entry SameHeard (check_of cfg) (valid_of r) _ _ (λ _. refl) (λ _ _. heard_size cfg time seq)

  pub poll_size : (cfg : StreamConfig) (time : ℕ) → Same (poll_answer r cfg time).receiver
  unfolding poll_answer
  poll_size cfg time =
      by_entry SameTold (check_of cfg) (valid_of r) _ _ (λ _. refl) (λ _ _. polled_size cfg time)

  pub error_size : (e : RetransmitError) → Same (error_answer r e).receiver
  unfolding error_answer error_of
  error_size e = by_state SameTold (valid_of r) (event_refused r) _ refl (λ _. error_by_lem e r.asked)

  pub nak_size : Same (nak_answer r).receiver
  unfolding nak_answer nak_of
  nak_size = by_state SameTold (valid_of r) (event_refused r) _ refl (λ _. nak_by_lem r.asked)

  pub take_size : (cfg : StreamConfig) (p : PayloadWriter) (b : List ℕ) → SameIn (take_answer r cfg p b)
  unfolding take_answer
  take_size cfg p b =
      by_entry SameIn (check_of cfg) (valid_of r && payload_valid p (length b)) _ _ (λ _. refl) (λ _ _. taken_kept cfg p b)
