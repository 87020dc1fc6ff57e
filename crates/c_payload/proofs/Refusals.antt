-- A refused call hands back what it was given.
use mathlib.Core.Path.{◌≡◌, refl}
use Rattle.std.proofs.Common.{Result, Ok, Err}
use Rattle.config.specs.declared.refusal.Refusal.{Refusal}
use mathlib.Core.Bool.{not, ◌||◌}
use mathlib.Core.List.{List}
use Prim.Native.Nat.{ℕ}
use lib.ListN.{length}
use lib.Dec.{ltb}
use Rattle.packet.specs.Layout.{Packet}
use Rattle.packet.specs.Write.{WriteEnds, refused as not_put, done as put, valid_of as payload_valid, opened_of, written_of}
use Rattle.packet.specs.declared.writer.PayloadWriter.{PayloadWriter}
use Rattle.packet.specs.declared.writer.Wrote.{Wrote}
use Rattle.packet.proofs.Outcomes.{outcome}
use Rattle.command.specs.Messages.{whole_of}
use Rattle.command.specs.Write.{data_packet, data_written}
use Rattle.c_words.proofs.Kept.{Kept, as_was, done, by_test}
use Rattle.c_payload.specs.Export.{made_of, payload_by, payload_export}
use Rattle.c_payload.specs.declared.CMade.{CMade}

module _ (b : List ℕ) where
  abbrev MadeKept : CMade × List ℕ → Type 0
  MadeKept = Kept (λ (e : CMade × List ℕ). e.0.refusal) (λ (e : CMade × List ℕ). (e.0.len ≡ 0) × (e.1 ≡ b))

  abbrev PutKept : Wrote × List ℕ → Type 0
  PutKept = Kept (λ (e : Wrote × List ℕ). (made_of e.0).refusal) (λ (e : Wrote × List ℕ). ((made_of e.0).len ≡ 0) × (e.1 ≡ b))

  module _ (x : PayloadWriter) where
    outcome_kept : (c : Packet) (e : Wrote × List ℕ) → WriteEnds x b c e → PutKept e
    outcome_kept c e (not_put why) = as_was (refl, refl)
    outcome_kept c e (put f l) = done refl

    packet_kept : (c : Packet) → PutKept (written_of x b c)
    packet_kept c = outcome_kept c _ (outcome x b c)

    data_kept : (seq : ℕ) (ws : List ℕ) → PutKept (data_written x b seq ws)
    unfolding data_written
    data_kept seq ws =
        by_test (not (payload_valid x (length b))) _ _ (λ _. as_was (refl, refl))
        (by_test (ltb 64 (length ws) || not (whole_of ws)) _ _ (λ _. as_was (refl, refl))
        (packet_kept (data_packet seq ws)))

  opened_kept : (o : Result PayloadWriter Refusal) (seq : ℕ) (ws : List ℕ) → MadeKept (payload_by o b seq ws)
  opened_kept (Ok x) seq ws = record { kept = (data_kept x seq ws).kept }
  opened_kept (Err why) seq ws = as_was (refl, refl)

  pub payload_keeps : (max seq : ℕ) (ws : List ℕ) → MadeKept (payload_export b max seq ws)
  unfolding payload_export
  payload_keeps max seq ws = opened_kept (opened_of max) seq ws
