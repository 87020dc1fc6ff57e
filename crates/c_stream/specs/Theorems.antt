-- Beyond the contracts of single calls: a call of one end is the library's call on the whole stream, and leaves the words of the other end; and a refused call changes
-- nothing that was lent.
use Rattle.std.specs.Prelude.{◌≡◌, ℕ, true, List, Ok}
use Rattle.config.specs.Refusals.{outcome_number}
use Rattle.stream.specs.Ends.{send_answer, request_answer, data_answer, error_answer, nak_answer, poll_answer, take_answer}
use Rattle.c_answers.specs.Answers.{outcome_of, delivery_of, event_of, request_of}
use Rattle.c_words.specs.Payload.{payload_fits, payload_in, payload_words}
use Rattle.c_words.specs.Settings.{settings_check, settings_of}
use Rattle.c_stream.specs.Exports.{new_export, reset_export, send_export, request_export, data_export, error_export, nak_export, poll_export, take_export, write_export}
use Rattle.c_state.specs.Stream.{fits, loaded, receiver_part, sender_part, stored}

-- a call of one end, refused or not, leaves the words of the other
pub record OtherEnd (st : List ℕ) : Type 0 where
  pub send : (cfg ring ws : List ℕ) → receiver_part (send_export st cfg ring ws).1 ≡ receiver_part st
  pub request : (cfg ring : List ℕ) (seq count : ℕ) → receiver_part (request_export st cfg ring seq count).1 ≡ receiver_part st
  pub hear : (cfg : List ℕ) (time seq : ℕ) → sender_part (data_export st cfg time seq).1 ≡ sender_part st
  pub error : (reason seq : ℕ) → sender_part (error_export st reason seq).1 ≡ sender_part st
  pub nak : sender_part (nak_export st).1 ≡ sender_part st
  pub poll : (cfg : List ℕ) (time : ℕ) → sender_part (poll_export st cfg time).1 ≡ sender_part st
  pub take : (cfg p b : List ℕ) → sender_part (take_export st cfg p b).1 ≡ sender_part st

-- and answers as the library's call on the whole stream does, whose stream is what it stores
pub record WholeStream (st : List ℕ) : Type 0 where
  pub send : (cfg ring ws : List ℕ) → settings_check cfg ≡ Ok tt → let e = send_answer (loaded st) (settings_of cfg) ring ws in
      send_export st cfg ring ws ≡ (outcome_number e.0.answer, stored e.0.stream, e.1)
  pub request : (cfg ring : List ℕ) (seq count : ℕ) → settings_check cfg ≡ Ok tt → let e = request_answer (loaded st) (settings_of cfg) ring record { seq = seq; count = count } in
      request_export st cfg ring seq count ≡ (outcome_of e.answer, stored e.stream)
  pub hear : (cfg : List ℕ) (time seq : ℕ) → settings_check cfg ≡ Ok tt → let e = data_answer (loaded st) (settings_of cfg) time seq in
      data_export st cfg time seq ≡ (delivery_of e.answer, stored e.stream)
  pub error : (reason seq : ℕ) → let e = error_answer (loaded st) record { reason = reason; seq = seq } in
      error_export st reason seq ≡ (event_of e.answer, stored e.stream)
  pub nak : let e = nak_answer (loaded st) in nak_export st ≡ (event_of e.answer, stored e.stream)
  pub poll : (cfg : List ℕ) (time : ℕ) → settings_check cfg ≡ Ok tt → let e = poll_answer (loaded st) (settings_of cfg) time in
      poll_export st cfg time ≡ (event_of e.answer, stored e.stream)
  pub take : (cfg p b : List ℕ) → settings_check cfg ≡ Ok tt → payload_fits p ≡ true → let e = take_answer (loaded st) (settings_of cfg) (payload_in p) b in
      take_export st cfg p b ≡ (request_of e.0.answer, stored e.0.stream, payload_words e.0.payload, e.1)

pub record OneEnd : Type 0 where
  pub other : (st : List ℕ) → OtherEnd st
  pub whole : (st : List ℕ) → fits st ≡ true → WholeStream st

-- A call whose number is not 0 leaves all that was lent to it as it was. There is a field for each C function of this crate that changes what is lent. Of a write by number 3 there is less
-- to say, 01's one refusal that changes something: the payload's words and bytes are as they were; and so is all that was lent where the due request is what does not fit.
pub record RefusedKeeps : Type 0 where
  -- a stream's words, and the history
  pub start : (st cfg : List ℕ) (window places : ℕ) (ring : List ℕ) → let e = new_export st cfg window places ring in (e.0 ≡ 0 → ⊥) → (e.1 ≡ st) × (e.2 ≡ ring)
  pub reset : (st ring : List ℕ) → let e = reset_export st ring in (e.0 ≡ 0 → ⊥) → (e.1 ≡ st) × (e.2 ≡ ring)
  pub send : (st cfg ring ws : List ℕ) → let e = send_export st cfg ring ws in (e.0 ≡ 0 → ⊥) → (e.1 ≡ st) × (e.2 ≡ ring)
  pub request : (st cfg ring : List ℕ) (seq count : ℕ) → let e = request_export st cfg ring seq count in (e.0.refusal ≡ 0 → ⊥) → e.1 ≡ st
  pub hear : (st cfg : List ℕ) (time seq : ℕ) → let e = data_export st cfg time seq in (e.0.refusal ≡ 0 → ⊥) → e.1 ≡ st
  pub error : (st : List ℕ) (reason seq : ℕ) → let e = error_export st reason seq in (e.0.refusal ≡ 0 → ⊥) → e.1 ≡ st
  pub nak : (st : List ℕ) → let e = nak_export st in (e.0.refusal ≡ 0 → ⊥) → e.1 ≡ st
  pub poll : (st cfg : List ℕ) (time : ℕ) → let e = poll_export st cfg time in (e.0.refusal ≡ 0 → ⊥) → e.1 ≡ st
  -- and a payload's words and bytes
  pub take : (st cfg p b : List ℕ) → let e = take_export st cfg p b in (e.0.refusal ≡ 0 → ⊥) → (e.1 ≡ st) × (e.2 ≡ p) × (e.3 ≡ b)
  pub write : (st cfg : List ℕ) (time : ℕ) (p b ring : List ℕ) → let e = write_export st cfg time p b ring in
      (e.0.refusal ≡ 0 → ⊥) → (e.0.refusal ≡ 3 → ⊥) → (e.1 ≡ st) × (e.2 ≡ p) × (e.3 ≡ b) × (e.4 ≡ ring)
  pub write_payload : (st cfg : List ℕ) (time : ℕ) (p b ring : List ℕ) → let e = write_export st cfg time p b ring in
      (e.0.refusal ≡ 0 → ⊥) → (e.2 ≡ p) × (e.3 ≡ b)
  pub write_request : (st cfg : List ℕ) (time : ℕ) (p b ring : List ℕ) → let e = write_export st cfg time p b ring in
      ((take_export st cfg p b).0.refusal ≡ 0 → ⊥) → (e.1 ≡ st) × (e.2 ≡ p) × (e.3 ≡ b) × (e.4 ≡ ring)
