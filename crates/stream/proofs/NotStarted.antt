-- A refused start hands back a stream that every call refuses with 13.
use mathlib.Core.Path.{◌≡◌, refl}
use Rattle.std.proofs.Common.{Result, Ok, Err}
use Rattle.stream.specs.declared.stream.StreamAnswer.{StreamAnswer}
use Rattle.std.specs.Bool.{⊤}
use mathlib.Core.Bool.{Bool, true, false, cond}
use mathlib.Core.List.{List}
use Prim.Native.Nat.{ℕ}
use native.Mathlib.Omega.{arith}
use lib.ListN.{length, replicate}
use Rattle.config.specs.Settings.{check_of, tested}
use Rattle.config.specs.declared.refusal.Refusal.{Refusal}
use Rattle.config.specs.declared.refusal.Refusal.TheVariants.{SizeNotAllowed, InvalidState}
use Rattle.config.specs.declared.settings.StreamConfig.{StreamConfig}
use Rattle.packet.specs.declared.writer.PayloadWriter.{PayloadWriter}
use Rattle.command.specs.declared.retransmit.RetransmitRequest.{RetransmitRequest}
use Rattle.command.specs.declared.retransmit.RetransmitError.{RetransmitError}
use Rattle.window.specs.Window.{valid_of as window_valid}
use Rattle.history.specs.State.{state_ok}
use Rattle.receiver.specs.Receiver.{valid_of as receiver_valid}
use Rattle.receiver.specs.Answers as receiver
use Rattle.sender.specs.State.{valid_of as sender_valid}
use Rattle.sender.specs.Answers as sender
use Rattle.stream.specs.State.{valid_of, fresh, unstarted}
use Rattle.stream.specs.Ends.{send_answer, request_answer, data_answer, error_answer, nak_answer, poll_answer, take_answer}
use Rattle.stream.specs.Answers.{not_started, sizes_out, new_answer, reset_refused, reset_answer, deadline_answer, wants_answer}
use Rattle.stream.specs.Writing.{write_refused, write_answer}
use Rattle.stream.specs.declared.stream.DataStream.{DataStream}

-- each call answers 13, where it is given settings that pass, and changes nothing
pub record Refuses (s : DataStream) : Type 0 where
  pub reset : (ring : List ℕ) → reset_answer s ring ≡ reset_refused s ring InvalidState
  pub send : (cfg : StreamConfig) (ring ws : List ℕ) → check_of cfg ≡ Ok tt → send_answer s cfg ring ws ≡ (record { stream = s; answer = Err InvalidState }, ring)
  pub request : (cfg : StreamConfig) (ring : List ℕ) (r : RetransmitRequest) → check_of cfg ≡ Ok tt → request_answer s cfg ring r ≡ record { stream = s; answer = Err InvalidState }
  pub hear : (cfg : StreamConfig) (time seq : ℕ) → check_of cfg ≡ Ok tt → data_answer s cfg time seq ≡ record { stream = s; answer = Err InvalidState }
  pub error : (err : RetransmitError) → error_answer s err ≡ record { stream = s; answer = Err InvalidState }
  pub nak : nak_answer s ≡ record { stream = s; answer = Err InvalidState }
  pub poll : (cfg : StreamConfig) (time : ℕ) → check_of cfg ≡ Ok tt → poll_answer s cfg time ≡ record { stream = s; answer = Err InvalidState }
  pub take : (cfg : StreamConfig) (p : PayloadWriter) (b : List ℕ) → check_of cfg ≡ Ok tt → take_answer s cfg p b ≡ (record { stream = s; payload = p; answer = Err InvalidState }, b)
  pub deadline : (ring : List ℕ) → deadline_answer s ring ≡ Err InvalidState
  pub wants : (ring : List ℕ) (time : ℕ) → wants_answer s ring time ≡ Err InvalidState
  pub write : (cfg : StreamConfig) (time : ℕ) (p : PayloadWriter) (b ring : List ℕ) → check_of cfg ≡ Ok tt → write_answer s cfg time p b ring ≡ write_refused s p b ring InvalidState

-- so does a stream both of whose ends the state test refuses
module _ (s : DataStream) (r : receiver_valid s.receiver ≡ false) (e : (ring : List ℕ) → sender_valid s.sender ring ≡ false) where
  pub refuses : Refuses s
  unfolding valid_of send_answer request_answer data_answer error_answer nak_answer poll_answer take_answer reset_answer deadline_answer wants_answer write_answer receiver.data_answer receiver.error_answer receiver.nak_answer receiver.poll_answer receiver.take_answer sender.send_answer sender.request_answer
  refuses =
      record {
        reset = λ ring. rw r;
        send = λ cfg ring ws p. rw (p, e ring);
        request = λ cfg ring q p. rw (p, e ring);
        hear = λ cfg time seq p. rw (p, r);
        error = λ err. rw r;
        nak = rw r;
        poll = λ cfg time p. rw (p, r);
        take = λ cfg q b p. rw (p, r);
        deadline = λ ring. rw r;
        wants = λ ring time. rw r;
        write = λ cfg time q b ring p. rw (p, r);
      }

-- as both ends of sizes 0 are
pub unstarted_refuses : Refuses unstarted
unfolding receiver_valid window_valid sender_valid state_ok
unstarted_refuses = refuses unstarted refl (λ ring. refl)

-- a start that is refused, by the settings or by a size, hands back that stream
abbrev started_or : Result ⊤ Refusal → Bool → List ℕ → StreamAnswer ⊤ × List ℕ → StreamAnswer ⊤ × List ℕ
started_or k out ring done = tested k (λ (why : Refusal). (not_started why, ring)) (cond out (not_started SizeNotAllowed, ring) done)

not_started_lem : (k : Result ⊤ Refusal) (out : Bool) (ring zeroed : List ℕ) (s : DataStream) (why : Refusal)
    → (started_or k out ring (record { stream = s; answer = Ok tt }, zeroed)).0.answer ≡ Err why
    → Refuses (started_or k out ring (record { stream = s; answer = Ok tt }, zeroed)).0.stream
not_started_lem (Err w) out ring zeroed s why e = unstarted_refuses
not_started_lem (Ok _) true ring zeroed s why e = unstarted_refuses
not_started_lem (Ok _) false ring zeroed s why e = absurd (let z : ◌≡◌ {A = ℕ} 0 1 = cc in omega arith)

pub start_refused : (cfg : StreamConfig) (window words places : ℕ) (ring : List ℕ) (why : Refusal)
    → (new_answer cfg window words places ring).0.answer ≡ Err why → Refuses (new_answer cfg window words places ring).0.stream
unfolding new_answer
start_refused cfg window words places ring why e =
    not_started_lem (check_of cfg) (sizes_out window words places ring) ring (replicate (length ring) 0) (fresh window words places) why e
