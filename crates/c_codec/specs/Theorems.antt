-- A call whose number is not 0 leaves all that was lent to it as it was. There is a field for each C function of this crate.
use Rattle.std.specs.Prelude.{◌≡◌, ℕ, List}
use Rattle.packet.specs.Layout.{packet}
use Rattle.packet.specs.Write.{written_of}
use Rattle.command.specs.Write.{data_written, request_packet, error_written}
use Rattle.read_command.specs.Next.{read_at}
use Rattle.c_codec.specs.Exports.{open_export, command_export}

pub record RefusedKeeps : Type 0 where
  -- a payload's words and bytes
  pub payload_new : (p : List ℕ) (max : ℕ) → let e = open_export p max in (e.0 ≡ 0 → ⊥) → e.1 ≡ p
  pub raw_write : (p b : List ℕ) (code csd1 csd2 : ℕ) (ws : List ℕ) → let e = command_export (λ w. written_of w b (packet code csd1 csd2 ws)) p b in
      (e.0 ≡ 0 → ⊥) → (e.1 ≡ p) × (e.2 ≡ b)
  pub data_write : (p b : List ℕ) (seq : ℕ) (ws : List ℕ) → let e = command_export (λ w. data_written w b seq ws) p b in
      (e.0 ≡ 0 → ⊥) → (e.1 ≡ p) × (e.2 ≡ b)
  pub request_write : (p b : List ℕ) (seq count : ℕ) → let e = command_export (λ w. written_of w b (request_packet record { seq = seq; count = count })) p b in
      (e.0 ≡ 0 → ⊥) → (e.1 ≡ p) × (e.2 ≡ b)
  pub error_write : (p b : List ℕ) (reason seq : ℕ) → let e = command_export (λ w. error_written record { reason = reason; seq = seq } w b) p b in
      (e.0 ≡ 0 → ⊥) → (e.1 ≡ p) × (e.2 ≡ b)
  -- the arrays of a read
  pub command_next : (b : List ℕ) (at : ℕ) (words lens : List ℕ) → let e = read_at b at words lens in
      (e.0.refusal ≡ 0 → ⊥) → (e.1 ≡ words) × (e.2 ≡ lens)
