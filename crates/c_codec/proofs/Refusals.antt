-- A refused call hands back what it was given.
use mathlib.Core.Path.{◌≡◌, refl}
use Rattle.std.proofs.Common.{Result, Ok}
use Rattle.config.specs.declared.refusal.Refusal.{Refusal}
use mathlib.Core.Bool.{Bool, true, false, cond, not, ◌||◌}
use mathlib.Core.List.{List, [], ◌∷◌}
use Prim.Native.Nat.{ℕ}
use native.Mathlib.Omega.{arith}
use lib.ListN.{length}
use lib.Dec.{eqb, ltb}
use Rattle.config.specs.Range.{outside}
use Rattle.config.specs.Refusals.{outcome_number}
use Rattle.packet.specs.Bytes.{words_of, spliced}
use Rattle.packet.specs.Layout.{Packet}
use Rattle.packet.specs.Read.{csd_of, signed, next_of, body_of}
use Rattle.packet.specs.Write.{WriteEnds, refused as not_put, done as put, valid_of as payload_valid, opened_of, written_of as packet_written}
use Rattle.packet.specs.declared.cursor.Header.{Header}
use Rattle.packet.specs.declared.cursor.PacketItem.{PacketItem}
use Rattle.packet.specs.declared.cursor.PacketItem.TheVariants.{Command as WholeCommand, Truncated, End}
use Rattle.packet.specs.declared.writer.PayloadWriter.{PayloadWriter}
use Rattle.packet.specs.declared.writer.Wrote.{Wrote}
use Rattle.packet.proofs.Outcomes.{outcome}
use Rattle.packet.proofs.Splice.{spliced_nil}
use Rattle.command.specs.Messages.{whole_of}
use Rattle.command.specs.Parse.{request_in, error_in, parsed_of}
use Rattle.command.specs.Write.{data_packet, error_packet, is_defined, data_written, error_written}
use Rattle.command.specs.declared.parse.Command.TheVariants.{UmpData, Raw}
use Rattle.command.specs.declared.retransmit.RetransmitError.{RetransmitError}
use Rattle.read_command.specs.Words.{whole_count, lengths_of}
use Rattle.read_command.specs.Next.{first_of, command_read, whole_read, item_read, read_at}
use Rattle.read_command.specs.declared.next.Read.{Read}
use Rattle.c_words.specs.Payload.{payload_in, payload_words}
use Rattle.c_words.proofs.Kept.{Kept, KeptOne, KeptTwo, itself, as_was, done, by_test, call_keeps, payload_same}
use Rattle.c_codec.specs.Exports.{opened_into, open_export, command_export}

-- ---- a payload
module _ (p : List ℕ) where
  pub open_keeps : (max : ℕ) → KeptOne itself p (open_export p max)
  unfolding open_export opened_of
  open_keeps max =
      call_keeps _ _ (λ (e : Result PayloadWriter Refusal). opened_into e p) _ (opened_of max) (λ n. refl) (λ _ _. by_test (outside 8 1400 max) _ _ (λ _. as_was refl) (done refl))

module _ (p b : List ℕ) where
  abbrev PutKept : Wrote × List ℕ → Type 0
  PutKept = Kept (λ (e : Wrote × List ℕ). outcome_number e.0.answer) (λ (e : Wrote × List ℕ). (payload_words e.0.payload ≡ p) × (e.1 ≡ b))

  module _ (x : PayloadWriter) (same : payload_words x ≡ p) where
    outcome_kept : (c : Packet) (e : Wrote × List ℕ) → WriteEnds x b c e → PutKept e
    outcome_kept c e (not_put why) = as_was (same, refl)
    outcome_kept c e (put f l) = done refl

    packet_kept : (c : Packet) → PutKept (packet_written x b c)
    packet_kept c = outcome_kept c _ (outcome x b c)

    data_kept : (seq : ℕ) (ws : List ℕ) → PutKept (data_written x b seq ws)
    unfolding data_written
    data_kept seq ws =
        by_test (not (payload_valid x (length b))) _ _ (λ _. as_was (same, refl))
        (by_test (ltb 64 (length ws) || not (whole_of ws)) _ _ (λ _. as_was (same, refl))
        (packet_kept (data_packet seq ws)))

    error_kept : (e : RetransmitError) → PutKept (error_written e x b)
    unfolding error_written
    error_kept e =
        by_test (not (payload_valid x (length b))) _ _ (λ _. as_was (same, refl))
        (by_test (not (is_defined e)) _ _ (λ _. as_was (same, refl))
        (packet_kept (error_packet e)))

  command_keeps : (write : PayloadWriter → Wrote × List ℕ) → (payload_words (payload_in p) ≡ p → PutKept (write (payload_in p))) → KeptTwo itself p b (command_export write p b)
  unfolding command_export
  command_keeps write f =
      call_keeps _ _ (λ (e : Wrote × List ℕ). (outcome_number e.0.answer, payload_words e.0.payload, e.1)) _ (write (payload_in p)) (λ n. (refl, refl))
      (λ _ two. f (payload_same p two))

  pub packet_keeps : (c : Packet) → KeptTwo itself p b (command_export (λ w. packet_written w b c) p b)
  packet_keeps c = command_keeps (λ w. packet_written w b c) (λ same. packet_kept (payload_in p) same c)

  pub data_keeps : (seq : ℕ) (ws : List ℕ) → KeptTwo itself p b (command_export (λ w. data_written w b seq ws) p b)
  data_keeps seq ws = command_keeps (λ w. data_written w b seq ws) (λ same. data_kept (payload_in p) same seq ws)

  pub error_write_keeps : (e : RetransmitError) → KeptTwo itself p b (command_export (λ w. error_written e w b) p b)
  error_write_keeps e = command_keeps (λ w. error_written e w b) (λ same. error_kept (payload_in p) same e)

-- ---- the read of a command: the number is 10 where a Request or Error has no word
module _ (words lens : List ℕ) where
  parsed_kept : (h : Header) (next : ℕ) (ws : List ℕ) → KeptTwo (λ (a : Read). a.refusal) words lens (whole_read h next ws words lens)
  unfolding whole_read parsed_of
  parsed_kept h next ws = by_code (eqb h.code 0xFF) (eqb h.code 0x80) (eqb h.code 0x81) ws
    where
      by_code : (ump request error : Bool) (ws : List ℕ)
          → KeptTwo (λ (a : Read). a.refusal) words lens (command_read h.len next (whole_count ws) (cond ump (Ok (UmpData record { seq = csd_of h })) (cond request (request_in h ws) (cond error (error_in h ws) (Ok (Raw h))))), spliced words 0 ws, cond ump (spliced lens 0 (lengths_of ws)) lens)
      by_code true request error ws = done refl
      by_code false true error [] = as_was (spliced_nil words 0 (omega arith), refl)
      by_code false true error (w ∷ ws) = done refl
      by_code false false true [] = as_was (spliced_nil words 0 (omega arith), refl)
      by_code false false true (w ∷ ws) = done refl
      by_code false false false ws = done refl

  item_kept : (i : PacketItem) (b : List ℕ) → KeptTwo (λ (a : Read). a.refusal) words lens (item_read i b words lens)
  item_kept End b = done refl
  item_kept (Truncated h) b = done refl
  item_kept (WholeCommand h place next) b = parsed_kept h next.at (words_of (body_of b place h))

  pub read_keeps : (b : List ℕ) (at : ℕ) → KeptTwo (λ (a : Read). a.refusal) words lens (read_at b at words lens)
  unfolding read_at
  read_keeps b at =
      by_test (ltb (length words) 255 || ltb (length lens) 255) _ _ (λ _. as_was (refl, refl))
      (by_test (not (eqb at 0) || signed b) _ _ (λ _. item_kept (next_of b (first_of at)) b)
      (as_was (refl, refl)))
