-- Queueing and writing in one call: its ways out, and that the tests of the second call are idle.
use mathlib.Core.Path.{◌≡◌, refl}
use Rattle.sender.specs.declared.sender.SenderAnswer.{SenderAnswer}
use Rattle.std.specs.Bool.{⊤}
use mathlib.Core.Bool.{Bool, true, false, cond, ◌&&◌}
use mathlib.Core.List.{List}
use Prim.Native.Nat.{ℕ, ◌-◌, ◌<◌}
use native.Mathlib.Omega.{arith}
use lib.ListN.{length}
use lib.Dec.{ltb, eqb}
use Rattle.config.specs.Sequence.{turn}
use Rattle.config.specs.Entry.{entry}
use Rattle.config.specs.Settings.{check_of, tested}
use Rattle.config.specs.declared.refusal.Refusal.{Refusal}
use Rattle.config.specs.declared.refusal.Refusal.TheVariants.{InvalidState, Full}
use Rattle.config.specs.declared.settings.StreamConfig.{StreamConfig}
use Rattle.history.specs.State.{Answers}
use Rattle.history.specs.declared.history.Mark.{Mark}
use Rattle.std.proofs.Common.{Option, Some, Result, Ok, Err}
use Rattle.packet.specs.declared.writer.PayloadWriter.{PayloadWriter}
use Rattle.receiver.specs.Receiver.{valid_of as receiver_valid}
use Rattle.sender.specs.Answers as sender
use Rattle.sender.specs.State.{valid_of as sender_valid}
use Rattle.sender.specs.Queueing.{need_of, unsent, sent, words_check, placed_of, queued_of, sent_of}
use Rattle.sender.specs.declared.sender.Sender.{Sender}
use Rattle.sender.proofs.Queued.{settings_few}
use Rattle.sender.proofs.Kept.{sent_kept}
use Rattle.writing.proofs.Places.{Follows, sent_follows}
use Rattle.stream.specs.State.{valid_of, with_sender}
use Rattle.stream.specs.Ends.{send_answer}
use Rattle.stream.specs.Writing.{write_answer}
use Rattle.stream.specs.Sending.{not_queued, queued_and, send_and_write_answer, TestsIdle, SendAndWriteCallsBoth}
use Rattle.stream.specs.declared.stream.DataStream.{DataStream}
use Rattle.stream.specs.declared.stream.Wrote.{Wrote}
use Rattle.stream.specs.declared.sending.SendAndWrite.TheVariants.{Queued}
use Rattle.stream.specs.declared.sending.SentAndWrote.{SentAndWrote}

-- ---- what queueing leaves to a write
module _ (s : Sender) (cfg : StreamConfig) (ring ws : List ℕ) (e : check_of cfg ≡ Ok tt) (v : sender_valid s ring ≡ true) (o : s.history.oldest < turn)
    (t : SenderAnswer ⊤) (next : List ℕ) (q : (t, next) ≡ sent_of s ring cfg.max_command_words ws) where
  pub queued_valid : sender_valid t.sender next ≡ true
  queued_valid = rw (← q) at (sent_kept s ring cfg.max_command_words ws v (settings_few cfg e) o)

  -- from the mark that a test has set
  pub queued_follows : (back : ℕ) (r : Option Mark) → Answers (sender_valid s ring) s.history ring s.unsent back r → (m : Mark) → r ≡ Some m → Follows s m t.sender next
  queued_follows back r a m found =
      rw (← q) at (sent_follows s ring cfg.max_command_words ws v (settings_few cfg e) o m (a.place m found) (omega (arith, a.entry m found)))

-- ---- the ways out
module _ (s : DataStream) (cfg : StreamConfig) (time : ℕ) (ws : List ℕ) (p : PayloadWriter) (b ring : List ℕ) where
  pub both_settings : (why : Refusal) → check_of cfg ≡ Err why → not_queued s p b ring why ≡ send_and_write_answer s cfg time ws p b ring
  unfolding send_and_write_answer send_answer sender.send_answer
  both_settings why e = rw e

  module _ (e : check_of cfg ≡ Ok tt) where
    pub both_state : sender_valid s.sender ring ≡ false → not_queued s p b ring InvalidState ≡ send_and_write_answer s cfg time ws p b ring
    unfolding send_and_write_answer send_answer sender.send_answer
    both_state v = rw (e, v)

    module _ (v : sender_valid s.sender ring ≡ true) (t : SenderAnswer ⊤) (next : List ℕ) (q : (t, next) ≡ sent_of s.sender ring cfg.max_command_words ws) where
      pub both_words : (why : Refusal) → t.answer ≡ Err why → not_queued (with_sender s t.sender) p b next why ≡ send_and_write_answer s cfg time ws p b ring
      unfolding send_and_write_answer send_answer sender.send_answer
      both_words why a = rw (e, v, ← q, a)

      pub both_written : t.answer ≡ Ok tt → (w : Wrote) (bytes last : List ℕ) → (w, bytes, last) ≡ write_answer (with_sender s t.sender) cfg time p b next
          → ◌≡◌ {A = SentAndWrote × List ℕ × List ℕ} (record { stream = w.stream; payload = w.payload; answer = Queued w.answer }, bytes, last) (send_and_write_answer s cfg time ws p b ring)
      unfolding send_and_write_answer send_answer sender.send_answer
      both_written a w bytes last f = rw (e, v, ← q, a, ← f)

-- ---- the two calls
-- words that are refused leave the sender and its history
module _ (s : Sender) (ring : List ℕ) (why : Refusal) where
  refused_by_lem : (k : Result ⊤ Refusal) (v z : Bool) (w : Result ⊤ Refusal) (f : Bool) (go : SenderAnswer ⊤ × List ℕ) → go.0.answer ≡ Ok tt
      → let e = entry k v (unsent s ring) (cond z (sent s (Ok tt), ring) (tested w (unsent s ring) (cond f (unsent s ring Full) go))) in
      e.0.answer ≡ Err why → e ≡ unsent s ring why
  refused_by_lem (Err y) v z w f go a h = cc
  refused_by_lem (Ok _) false z w f go a h = cc
  refused_by_lem (Ok _) true true w f go a h = absurd (let x : ◌≡◌ {A = ℕ} 0 1 = cc in omega arith)
  refused_by_lem (Ok _) true false (Err y) f go a h = cc
  refused_by_lem (Ok _) true false (Ok _) true go a h = cc
  refused_by_lem (Ok _) true false (Ok _) false go a h = absurd (let x : ◌≡◌ {A = ℕ} 0 1 = cc in omega arith)

  refused_same : (cfg : StreamConfig) (ws : List ℕ) → (sender.send_answer s cfg ring ws).0.answer ≡ Err why → sender.send_answer s cfg ring ws ≡ unsent s ring why
  unfolding sender.send_answer sent_of placed_of queued_of
  refused_same cfg ws =
      let max : ℕ = cfg.max_command_words in
      refused_by_lem (check_of cfg) (sender_valid s ring) (eqb (length ws) 0) (words_check max ws) (ltb (s.history.size - s.unsent_words) (need_of s ring max ws)) (queued_of s ring max ws) refl

accepted_by : (s : Sender) (ring : List ℕ) (k : Result ⊤ Refusal) (v : Bool) (go : SenderAnswer ⊤ × List ℕ)
    → (entry k v (unsent s ring) go).0.answer ≡ Ok tt → (k ≡ Ok tt) × (v ≡ true)
accepted_by s ring (Err y) v go h = absurd (let x : ◌≡◌ {A = ℕ} 0 1 = cc in omega arith)
accepted_by s ring (Ok _) false go h = absurd (let x : ◌≡◌ {A = ℕ} 0 1 = cc in omega arith)
accepted_by s ring (Ok _) true go h = (refl, refl)

and_true : (a b : Bool) → b ≡ true → (a && b) ≡ a
and_true true b e = e
and_true false b e = refl

module _ (s : DataStream) (cfg : StreamConfig) (ring ws : List ℕ) where
  pub both_refused : (why : Refusal) → (send_answer s cfg ring ws).0.answer ≡ Err why
      → (time : ℕ) (p : PayloadWriter) (b : List ℕ) → send_and_write_answer s cfg time ws p b ring ≡ not_queued s p b ring why
  unfolding send_and_write_answer send_answer
  both_refused why h time p b = rw (refused_same s.sender ring why cfg ws h)

  pub both_accepted : (send_answer s cfg ring ws).0.answer ≡ Ok tt → (time : ℕ) (p : PayloadWriter) (b : List ℕ) → let e = send_answer s cfg ring ws in
      send_and_write_answer s cfg time ws p b ring ≡ queued_and (write_answer e.0.stream cfg time p b e.1)
  unfolding send_and_write_answer
  both_accepted h time p b = rw h

  tests_idle : s.sender.history.oldest < turn → (send_answer s cfg ring ws).0.answer ≡ Ok tt → TestsIdle s cfg ring ws
  unfolding send_answer sender.send_answer valid_of
  tests_idle o h =
      let a = accepted_by s.sender ring (check_of cfg) (sender_valid s.sender ring) (sent_of s.sender ring cfg.max_command_words ws) h in
      let k : let e = sender.send_answer s.sender cfg ring ws in sender_valid e.0.sender e.1 ≡ true =
      rw (a.0, a.1) (sent_kept s.sender ring cfg.max_command_words ws a.1 (settings_few cfg a.0) o) in
      record { settings = a.0; sender = k; both = and_true (receiver_valid s.receiver) _ k }

pub send_and_write_calls_both : SendAndWriteCallsBoth
send_and_write_calls_both s cfg ring ws o =
    record { refused = both_refused s cfg ring ws; accepted = both_accepted s cfg ring ws; idle = tests_idle s cfg ring ws o }
