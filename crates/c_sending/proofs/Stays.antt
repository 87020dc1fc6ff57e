-- What the call leaves of a stream has its words, and the receiver stays where no request is due.
use mathlib.Core.Path.{◌≡◌, ap, sym, subst, ◌∙◌}
use mathlib.Core.Bool.{false}
use mathlib.Core.List.{List}
use Prim.Native.Nat.{ℕ}
use Rattle.config.specs.declared.settings.StreamConfig.{StreamConfig}
use Rattle.packet.specs.declared.writer.PayloadWriter.{PayloadWriter}
use Rattle.stream.specs.Sending.{send_and_write_answer}
use Rattle.stream.specs.declared.sending.SentAndWrote.{SentAndWrote}
use Rattle.stream.specs.declared.stream.DataStream.{DataStream}
use Rattle.c_state.specs.Stream.{receiver_in, loaded}
use Rattle.c_state.specs.Theorems.{Wide, NarrowStream}
use Rattle.c_state.proofs.Narrow.{words_narrow, stays_narrow}
use Rattle.c_state.proofs.Unchanged.{both_receiver}

module _ (st : List ℕ) where
  pub both_narrow : Wide st → (d : DataStream) → d ≡ loaded st → (cfg : StreamConfig) (time : ℕ) (ws : List ℕ) (p : PayloadWriter) (b ring : List ℕ) (e : SentAndWrote) (bytes after : List ℕ)
      → (e, bytes, after) ≡ send_and_write_answer d cfg time ws p b ring → NarrowStream e.stream
  both_narrow wide d from cfg time ws p b ring e bytes after q =
      let w = words_narrow st wide in
      subst (λ (x : SentAndWrote × List ℕ × List ℕ). NarrowStream x.0.stream) (sym q)
      (subst (λ (x : DataStream). NarrowStream (send_and_write_answer x cfg time ws p b ring).0.stream) (sym from) ((stays_narrow (loaded st) w.0 w.1).both cfg time ws p b ring))

  pub both_stays : (d : DataStream) → d ≡ loaded st → (cfg : StreamConfig) (time : ℕ) (ws : List ℕ) (p : PayloadWriter) (b ring : List ℕ) (e : SentAndWrote) (bytes after : List ℕ)
      → (e, bytes, after) ≡ send_and_write_answer d cfg time ws p b ring → d.receiver.request_due ≡ false → e.stream.receiver ≡ receiver_in st
  unfolding loaded
  both_stays d from cfg time ws p b ring e bytes after q early =
      ap (λ (x : SentAndWrote × List ℕ × List ℕ). x.0.stream.receiver) q
      ∙ both_receiver d early cfg time ws p b ring
      ∙ ap (λ (x : DataStream). x.receiver) from
