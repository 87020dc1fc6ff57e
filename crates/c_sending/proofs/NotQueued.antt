-- Words that were not queued: all that was lent is as it was.
use mathlib.Core.Path.{◌≡◌, refl}
use Rattle.std.proofs.Common.{Result, Ok, Err}
use Rattle.config.specs.declared.refusal.Refusal.{Refusal}
use Rattle.std.specs.Bool.{⊤}
use mathlib.Core.List.{List}
use Prim.Native.Nat.{ℕ}
use native.Mathlib.Omega.{arith}
use Rattle.config.specs.inner.Tests.{and_left, and_right}
use Rattle.config.specs.declared.settings.StreamConfig.{StreamConfig}
use Rattle.packet.specs.declared.writer.PayloadWriter.{PayloadWriter}
use Rattle.stream.specs.Ends.{send_answer}
use Rattle.stream.specs.Sending.{send_and_write_answer}
use Rattle.stream.specs.declared.sending.SentAndWrote.{SentAndWrote}
use Rattle.stream.specs.declared.stream.DataStream.{DataStream}
use Rattle.stream.proofs.Both.{both_refused, both_accepted}
use Rattle.c_state.specs.Stream.{fits, loaded, stored}
use Rattle.c_state.proofs.Streams.{stream_same}
use Rattle.c_words.specs.Settings.{settings_of}
use Rattle.c_words.specs.Payload.{payload_fits, payload_in, payload_words}
use Rattle.c_words.proofs.Entries.{call_any}
use Rattle.c_words.proofs.Kept.{payload_same}
use Rattle.c_answers.specs.Sending.{sent_written_of}
use Rattle.c_answers.specs.declared.sending.CSentWritten.{CSentWritten}
use Rattle.c_sending.specs.Exports.{send_and_write_export, NotQueuedKeeps}

module _ (st ws p b ring : List ℕ) where
  abbrev SentSame : SentAndWrote × List ℕ × List ℕ → Type 0
  SentSame e = (sent_written_of e.0.answer).queued ≡ 0 → (stored e.0.stream ≡ st) × (payload_words e.0.payload ≡ p) × (e.1 ≡ b) × (e.2 ≡ ring)

  abbrev Same : CSentWritten × List ℕ × List ℕ × List ℕ × List ℕ → Type 0
  Same e = e.0.queued ≡ 0 → (e.1 ≡ st) × (e.2 ≡ p) × (e.3 ≡ b) × (e.4 ≡ ring)

  sent_same : (x : PayloadWriter) → payload_words x ≡ p → (d : DataStream) (cfg : StreamConfig) (time : ℕ) → stored d ≡ st → SentSame (send_and_write_answer d cfg time ws x b ring)
  sent_same x whole d cfg time same = by (send_answer d cfg ring ws).0.answer refl
    where
      by : (a : Result ⊤ Refusal) → (send_answer d cfg ring ws).0.answer ≡ a → SentSame (send_and_write_answer d cfg time ws x b ring)
      by (Err why) e = rw (both_refused d cfg ring ws why e time x b) (λ _. (same, whole, refl, refl))
      by (Ok _) e = rw (both_accepted d cfg ring ws e time x b) (λ (k : ◌≡◌ {A = ℕ} 1 0). absurd (let z : ⊥ = omega arith in z))

  kept : (cfg : List ℕ) (time : ℕ) → Same (send_and_write_export st cfg time ws p b ring)
  unfolding send_and_write_export
  kept cfg time =
      call_any Same _ _ (λ n _. (refl, refl, refl, refl))
      (λ _ f. sent_same (payload_in p) (payload_same p (and_right (fits st) (payload_fits p) f)) (loaded st) (settings_of cfg) time (stream_same st (and_left (fits st) (payload_fits p) f)))

pub not_queued_keeps : NotQueuedKeeps
not_queued_keeps = record { kept = λ st cfg time ws p b ring. kept st ws p b ring cfg time }
