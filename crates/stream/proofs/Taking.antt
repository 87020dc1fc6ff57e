-- Taking a due request leaves a payload that passes the state test.
use mathlib.Core.Path.{◌≡◌, refl, sym, subst}
use Rattle.std.proofs.Common.{Option, Some, None, Result, Ok, Err}
use Rattle.config.specs.declared.refusal.Refusal.{Refusal}
use Rattle.window.specs.declared.window.SeqRange.{SeqRange}
use Rattle.std.specs.Bool.{⊤}
use mathlib.Core.Bool.{Bool, true, false, cond, not}
use mathlib.Core.List.{List}
use Prim.Native.Nat.{ℕ}
use lib.ListN.{length}
use Rattle.config.specs.declared.settings.StreamConfig.{StreamConfig}
use Rattle.packet.specs.Write.{valid_of as payload_valid}
use Rattle.packet.specs.declared.writer.PayloadWriter.{PayloadWriter}
use Rattle.packet.proofs.Outcomes.{outcome, written_valid, written_length}
use Rattle.command.specs.Write.{request_packet}
use Rattle.command.specs.declared.retransmit.RetransmitRequest.{RetransmitRequest}
use Rattle.window.specs.Window.{request_of}
use Rattle.receiver.specs.Receiver.{enabled_of, with_asked, not_due, taken_by, offered_of, taken_span, taken_of}
use Rattle.receiver.specs.declared.receiver.Receiver.{Receiver}
use Rattle.receiver.specs.declared.receiver.RequestWritten.{RequestWritten}

module _ (r : Receiver) (cfg : StreamConfig) (p : PayloadWriter) (b : List ℕ) (v : payload_valid p (length b) ≡ true) where
  abbrev Kept : RequestWritten × List ℕ → Type 0
  Kept t = (payload_valid t.0.payload (length b) ≡ true) × (length t.1 ≡ length b)

  taken_payload : (q : RetransmitRequest) (w : PayloadWriter) (a : Result ⊤ Refusal) → (taken_by r q w a).payload ≡ w
  taken_payload q w (Ok _) = refl
  taken_payload q w (Err why) = refl

  span_kept : (span : Option SeqRange) → Kept (taken_span r p b span)
  unfolding offered_of
  span_kept None = (v, refl)
  span_kept (Some range) =
      let q : RetransmitRequest = record { seq = range.first; count = range.count } in
      let o = outcome p b (request_packet q) in
      (rw (taken_payload q) (written_valid p b (request_packet q) _ o v), written_length p b (request_packet q) _ o)

  kept : (due on : Bool) → Kept (cond (not due) (not_due r p, b) (cond (not on) (not_due (with_asked r r.asked) p, b) (taken_span r p b (request_of r.window))))
  kept false on = (v, refl)
  kept true false = (v, refl)
  kept true true = span_kept (request_of r.window)

  taken_kept : Kept (taken_of r cfg p b)
  unfolding taken_of
  taken_kept = kept r.request_due (enabled_of r cfg)

  pub taken_valid : (t : RequestWritten) (bytes : List ℕ) → (t, bytes) ≡ taken_of r cfg p b → payload_valid t.payload (length bytes) ≡ true
  taken_valid t bytes e = let k : Kept (t, bytes) = subst Kept (sym e) taken_kept in rw k.1 k.0
