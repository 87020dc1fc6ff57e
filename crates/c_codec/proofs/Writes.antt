-- A write of one command, whichever it is: two words are loaded, the command is written, and the words are stored; other words are refused.
use mathlib.Core.Path.{◌≡◌, refl, ap, ◌∙◌}
use mathlib.Core.List.{List}
use Prim.Native.Nat.{ℕ}
use lib.ListN.{length}
use borrow.Author.Tests.{eq-eqb, ne_eqb}
use Rattle.config.specs.Refusals.{outcome_number}
use Rattle.packet.specs.declared.writer.PayloadWriter.{PayloadWriter}
use Rattle.packet.specs.declared.writer.Wrote.{Wrote}
use Rattle.c_words.specs.Payload.{payload_in, payload_words}
use Rattle.c_words.proofs.Entries.{made, words_refused}
use Rattle.c_codec.specs.Exports.{command_export}

module _ (write : PayloadWriter → Wrote × List ℕ) (p b : List ℕ) where
  pub written : (x : PayloadWriter) (w : Wrote) (bytes p' : List ℕ) (n : ℕ) → length p ≡ 2
      → x ≡ payload_in p → (w, bytes) ≡ write x → p' ≡ payload_words w.payload → n ≡ outcome_number w.answer
      → (n, p', bytes) ≡ command_export write p b
  unfolding command_export
  written x w bytes p' n two e f g h =
      let q : (w, bytes) ≡ write (payload_in p) = f ∙ ap write e in
      made _ _ refl (eq-eqb _ 2 two) (rw (h, g, ← q))

  pub not_written : (length p ≡ 2 → ⊥) → (13, p, b) ≡ command_export write p b
  unfolding command_export
  not_written h = words_refused _ _ refl (ne_eqb _ 2 h) refl
