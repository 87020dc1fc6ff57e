-- The ways out of a write.
use mathlib.Core.Path.{◌≡◌, refl, sym, ap, ◌∙◌}
use Rattle.std.proofs.Common.{Result, Ok, Err}
use Rattle.writing.specs.declared.writing.Written.{Written}
use mathlib.Core.Bool.{true, false}
use mathlib.Core.List.{List}
use Prim.Native.Nat.{ℕ}
use lib.ListN.{length}
use Rattle.config.specs.inner.Choices.{and_both, and_not_left, and_not_right}
use Rattle.config.specs.inner.Entries.{entry_made, entry_refused}
use Rattle.config.specs.declared.settings.StreamConfig.{StreamConfig}
use Rattle.packet.specs.Write.{valid_of as payload_valid}
use Rattle.packet.specs.declared.writer.PayloadWriter.{PayloadWriter}
use Rattle.receiver.specs.Receiver.{not_due, taken_of}
use Rattle.receiver.specs.declared.receiver.Request.{Request}
use Rattle.receiver.specs.declared.receiver.Receiver.{Receiver}
use Rattle.receiver.specs.declared.receiver.Request.TheVariants.{Nothing as NotDue, Written as Taken}
use Rattle.sender.specs.declared.sender.Sender.{Sender}
use Rattle.receiver.proofs.Taken.{taken_not_due}
use Rattle.receiver.specs.declared.receiver.RequestWritten.{RequestWritten}
use Rattle.writing.specs.Writing.{written_by}
use Rattle.writing.specs.declared.writing.Wrote.{Wrote as SenderWrote}
use Rattle.stream.specs.State.{valid_of, with_sender, with_receiver}
use Rattle.stream.specs.Writing.{counted_also, sent_after, after_request, data_written, write_refused, write_answer}
use Rattle.stream.specs.declared.stream.DataStream.{DataStream}
use Rattle.config.specs.Settings.{check_of}
use Rattle.config.specs.declared.refusal.Refusal.{Refusal}
use Rattle.config.specs.declared.refusal.Refusal.TheVariants.{InvalidState}

-- where the sender writes on, under other names
pub after_same : (s : Sender) (cfg : StreamConfig) (time : ℕ) (ring : List ℕ)
    → {b bytes : List ℕ} {r receiver : Receiver} {p payload : PayloadWriter} {m n : ℕ} → b ≡ bytes → r ≡ receiver → p ≡ payload → m ≡ n
    → sent_after m (record { sender = s; receiver = r }) cfg time p b ring ≡ sent_after n (record { sender = s; receiver = receiver }) cfg time payload bytes ring
after_same s cfg time ring e f g h = rw (e, f, g, h)

module _ (s : DataStream) (cfg : StreamConfig) (time : ℕ) (p : PayloadWriter) (b ring : List ℕ) where
  -- ---- after the due request
  pub after_taken : (t : RequestWritten) (bytes : List ℕ) → (t, bytes) ≡ taken_of s.receiver cfg p b → (a : Result Request Refusal) → t.answer ≡ a
      → after_request a (with_receiver s t.receiver) cfg time t.payload bytes ring ≡ data_written s cfg time p b ring
  unfolding data_written
  after_taken t bytes e a f = rw (← e) (ap (λ (x : Result Request Refusal). after_request x (with_receiver s t.receiver) cfg time t.payload bytes ring) (sym f))

  pub after_not_due : s.receiver.request_due ≡ false → sent_after 0 s cfg time p b ring ≡ data_written s cfg time p b ring
  after_not_due d = after_taken (not_due s.receiver p) b (taken_not_due s.receiver cfg p b _ refl d) (Ok NotDue) refl

  -- the sender writes on
  module _ {bytes : List ℕ} {receiver : Receiver} {payload : PayloadWriter} {n : ℕ} where
    module _ (t : RequestWritten) (after : List ℕ) (e : (t, after) ≡ taken_of s.receiver cfg p b) (f : bytes ≡ after) (g : receiver ≡ t.receiver) (h : payload ≡ t.payload) where
      pub after_none : n ≡ 0 → t.answer ≡ Ok NotDue → sent_after n (with_receiver s receiver) cfg time payload bytes ring ≡ data_written s cfg time p b ring
      after_none k a = after_same s.sender cfg time ring f g h k ∙ after_taken t after e (Ok NotDue) a

      pub after_one : n ≡ 1 → t.answer ≡ Ok Taken → sent_after n (with_receiver s receiver) cfg time payload bytes ring ≡ data_written s cfg time p b ring
      after_one k a = after_same s.sender cfg time ring f g h k ∙ after_taken t after e (Ok Taken) a

    pub after_kept : s.receiver.request_due ≡ false → bytes ≡ b → receiver ≡ s.receiver → payload ≡ p → n ≡ 0
        → sent_after n (with_receiver s receiver) cfg time payload bytes ring ≡ data_written s cfg time p b ring
    after_kept d f g h k = after_same s.sender cfg time ring f g h k ∙ after_not_due d

  -- ---- after n commands
  pub sent_after_lem : (n : ℕ) (w : SenderWrote) (bytes next : List ℕ) → (w, bytes, next) ≡ written_by s.sender cfg time p b ring → (a : Result Written Refusal) → w.answer ≡ a
      → (record { stream = with_sender s w.sender; payload = w.payload; answer = counted_also n a }, bytes, next) ≡ sent_after n s cfg time p b ring
  unfolding sent_after
  sent_after_lem n w bytes next e a f =
      rw (← e) (ap (λ (x : Result Written Refusal). (record { stream = with_sender s w.sender; payload = w.payload; answer = counted_also n x }, bytes, next)) (sym f))

  -- ---- the entry point
  pub write_settings : (why : Refusal) → check_of cfg ≡ Err why → write_refused s p b ring why ≡ write_answer s cfg time p b ring
  unfolding write_answer
  write_settings why e = rw e

  module _ (e : check_of cfg ≡ Ok tt) where
    pub write_state : valid_of s ring ≡ false → write_refused s p b ring InvalidState ≡ write_answer s cfg time p b ring
    unfolding write_answer
    write_state v = entry_refused (write_refused s p b ring) _ e (and_not_left _ v)

    module _ (v : valid_of s ring ≡ true) where
      pub write_payload : payload_valid p (length b) ≡ false → write_refused s p b ring InvalidState ≡ write_answer s cfg time p b ring
      unfolding write_answer
      write_payload w = entry_refused (write_refused s p b ring) _ e (and_not_right v w)

      pub write_made : payload_valid p (length b) ≡ true → data_written s cfg time p b ring ≡ write_answer s cfg time p b ring
      unfolding write_answer
      write_made w = entry_made (write_refused s p b ring) _ e (and_both v w)
