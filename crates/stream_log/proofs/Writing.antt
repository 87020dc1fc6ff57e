-- A stream's write is made of its ends' calls, refused ones too.
use Prim.Native.Nat.{ℕ}
use Rattle.std.proofs.Common.{Result, Ok, Err}
use Rattle.config.specs.declared.refusal.Refusal.{Refusal}
use Rattle.std.specs.Bool.{⊤}
use mathlib.Core.Path.{◌≡◌, refl, ap, ◌∙◌}
use mathlib.Core.Bool.{Bool, true, false}
use mathlib.Core.List.{List}
use lib.ListN.{length}
use Rattle.config.specs.Settings.{check_of}
use Rattle.config.specs.declared.settings.StreamConfig.{StreamConfig}
use Rattle.packet.specs.Write.{valid_of as payload_valid}
use Rattle.packet.specs.declared.writer.PayloadWriter.{PayloadWriter}
use Rattle.receiver.specs.Answers as receiver
use Rattle.receiver.specs.declared.receiver.Receiver.{Receiver}
use Rattle.receiver.specs.declared.receiver.Request.{Request}
use Rattle.receiver.specs.declared.receiver.Request.TheVariants.{Nothing as NotDue, Written as Taken, More as NoSpace}
use Rattle.receiver.specs.declared.receiver.RequestWritten.{RequestWritten}
use Rattle.writing.specs.Writing.{written_by}
use Rattle.writing.specs.Answers as writing
use Rattle.stream.specs.State.{valid_of, with_sender, with_receiver}
use Rattle.stream.specs.Writing.{write_refused, counted_also, sent_after, after_request, data_written, write_answer}
use Rattle.stream.specs.declared.stream.DataStream.{DataStream}
use Rattle.stream.specs.declared.stream.Wrote.{Wrote}
use Rattle.stream.proofs.Validity.{valid_receiver}
use Rattle.stream.proofs.Calls.{write_calls_ends}

-- ---- a write, from the answers of its ends' calls

-- the sender's write, behind n commands
abbrev pub sent_behind : ℕ → DataStream → StreamConfig → ℕ → PayloadWriter → List ℕ → List ℕ → Wrote × List ℕ × List ℕ
sent_behind n s cfg time p b ring =
    let w = writing.write_answer s.sender cfg time p b ring in
    (record { stream = with_sender s w.0.sender; payload = w.0.payload; answer = counted_also n w.0.answer }, w.1, w.2)

abbrev pub behind_take : Result Request Refusal → DataStream → StreamConfig → ℕ → PayloadWriter → List ℕ → List ℕ → Wrote × List ℕ × List ℕ
behind_take (Err why) s cfg time p b ring = write_refused s p b ring why
behind_take (Ok NoSpace) s cfg time p b ring = (record { stream = s; payload = p; answer = Ok record { commands = 0; more = true } }, b, ring)
behind_take (Ok NotDue) s cfg time p b ring = sent_behind 0 s cfg time p b ring
behind_take (Ok Taken) s cfg time p b ring = sent_behind 1 s cfg time p b ring

abbrev pub Joined : DataStream → List ℕ → Type 0
Joined s ring =
    (cfg : StreamConfig) (time : ℕ) (p : PayloadWriter) (b : List ℕ)
    → write_answer s cfg time p b ring ≡ (let t = receiver.take_answer s.receiver cfg p b in behind_take t.0.answer (with_receiver s t.0.receiver) cfg time t.0.payload t.1 ring)

-- ---- of a stream that passes the state test

module _ (s : DataStream) (ring : List ℕ) (cfg : StreamConfig) (time : ℕ) where
  same_behind : (p : PayloadWriter) (b : List ℕ) → written_by s.sender cfg time p b ring ≡ writing.write_answer s.sender cfg time p b ring
      → (r : Receiver) (a : Result Request Refusal) → after_request a (with_receiver s r) cfg time p b ring ≡ behind_take a (with_receiver s r) cfg time p b ring
  unfolding sent_after
  same_behind p b e r (Err why) = refl
  same_behind p b e r (Ok NoSpace) = refl
  same_behind p b e r (Ok NotDue) = rw e
  same_behind p b e r (Ok Taken) = rw e

  taken_joined : (p : PayloadWriter) (b : List ℕ) → check_of cfg ≡ Ok tt → valid_of s ring ≡ true → payload_valid p (length b) ≡ true
      → data_written s cfg time p b ring ≡ (let t = receiver.take_answer s.receiver cfg p b in behind_take t.0.answer (with_receiver s t.0.receiver) cfg time t.0.payload t.1 ring)
  unfolding data_written
  taken_joined p b k v w =
      let e = write_calls_ends s cfg p b ring k v w in
      let t = receiver.take_answer s.receiver cfg p b in
      ap (λ (t : RequestWritten × List ℕ). after_request t.0.answer (with_receiver s t.0.receiver) cfg time t.0.payload t.1 ring) e.take_request
      ∙ same_behind t.0.payload t.1 (e.write time) t.0.receiver t.0.answer

write_passed : (s : DataStream) (ring : List ℕ) (cfg : StreamConfig) (time : ℕ) (p : PayloadWriter) (b : List ℕ) → check_of cfg ≡ Ok tt → valid_of s ring ≡ true → payload_valid p (length b) ≡ true
    → write_answer s cfg time p b ring ≡ data_written s cfg time p b ring
unfolding write_answer
write_passed s ring cfg time p b e v f = rw (e, v, f)

pub write_joined : (s : DataStream) (ring : List ℕ) → valid_of s ring ≡ true → Joined s ring
unfolding write_answer receiver.take_answer
write_joined s ring v cfg time p b = by (check_of cfg) refl (payload_valid p (length b)) refl
  where
    by : (k : Result ⊤ Refusal) → check_of cfg ≡ k → (w : Bool) → payload_valid p (length b) ≡ w
        → write_answer s cfg time p b ring ≡ (let t = receiver.take_answer s.receiver cfg p b in behind_take t.0.answer (with_receiver s t.0.receiver) cfg time t.0.payload t.1 ring)
    by (Err why) e w f = rw e
    by (Ok _) e false f = rw (e, v, valid_receiver s ring v, f)
    by (Ok _) e true f = write_passed s ring cfg time p b e v f ∙ taken_joined s ring cfg time p b e v f
