-- Queueing and writing in one call, on words: refused as every call is by its settings' number first, then by 13 for words that are no stream's or no payload's. Else the
-- words after it are those of the stream and the payload that the library's own definition gives.
use Rattle.std.specs.Prelude.{ℕ, ◌≡◌, ◌&&◌, List}
use Rattle.stream.specs.Sending.{send_and_write_answer}
use Rattle.stream.specs.declared.sending.SentAndWrote.{SentAndWrote}
use Rattle.c_state.specs.Stream.{fits, loaded, stored}
use Rattle.c_words.specs.Entry.{words_entry}
use Rattle.c_words.specs.Settings.{settings_check, settings_of}
use Rattle.c_words.specs.Payload.{payload_fits, payload_in, payload_words}
use Rattle.c_answers.specs.Sending.{sent_written_of, sent_written_refused}
use Rattle.c_answers.specs.declared.sending.CSentWritten.{CSentWritten}

-- the answer, the stream's words, the payload's words, its bytes and the lent history
abbrev pub sent_wrote_into : SentAndWrote × List ℕ × List ℕ → CSentWritten × List ℕ × List ℕ × List ℕ × List ℕ
sent_wrote_into e = (sent_written_of e.0.answer, stored e.0.stream, payload_words e.0.payload, e.1, e.2)

unfoldable pub send_and_write_export : List ℕ → List ℕ → ℕ → List ℕ → List ℕ → List ℕ → List ℕ → CSentWritten × List ℕ × List ℕ × List ℕ × List ℕ
send_and_write_export st cfg time ws p b ring =
    words_entry (settings_check cfg) (fits st && payload_fits p) (λ n. (sent_written_refused n, st, p, b, ring))
    (sent_wrote_into (send_and_write_answer (loaded st) (settings_of cfg) time ws (payload_in p) b ring))

-- Where no words were queued, all that was lent is as it was: the call was refused by its tests or by those of the queueing.
pub record NotQueuedKeeps : Type 0 where
  pub kept : (st cfg : List ℕ) (time : ℕ) (ws p b ring : List ℕ) → let e = send_and_write_export st cfg time ws p b ring in
      e.0.queued ≡ 0 → (e.1 ≡ st) × (e.2 ≡ p) × (e.3 ≡ b) × (e.4 ≡ ring)
