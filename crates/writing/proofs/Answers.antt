-- The answers of a write, by the tests that lead to them.
use mathlib.Core.Path.{◌≡◌}
use Rattle.std.proofs.Common.{Ok, Err}
use mathlib.Core.Bool.{true, false}
use mathlib.Core.List.{List}
use Prim.Native.Nat.{ℕ}
use lib.ListN.{length}
use Rattle.config.specs.inner.Choices.{and_both, and_not_left, and_not_right}
use Rattle.config.specs.inner.Entries.{entry_made, entry_refused}
use Rattle.config.specs.Settings.{check_of}
use Rattle.config.specs.declared.refusal.Refusal.{Refusal}
use Rattle.config.specs.declared.refusal.Refusal.TheVariants.{InvalidState}
use Rattle.config.specs.declared.settings.StreamConfig.{StreamConfig}
use Rattle.packet.specs.Write.{valid_of as payload_valid}
use Rattle.packet.specs.declared.writer.PayloadWriter.{PayloadWriter}
use Rattle.sender.specs.State.{valid_of}
use Rattle.sender.specs.declared.sender.Sender.{Sender}
use Rattle.writing.specs.Answers.{write_refused, write_answer}
use Rattle.writing.specs.Writing.{written_by}

module _ (s : Sender) (cfg : StreamConfig) (time : ℕ) (p : PayloadWriter) (b ring : List ℕ) where
  pub write_settings : (why : Refusal) → check_of cfg ≡ Err why → write_refused s p b ring why ≡ write_answer s cfg time p b ring
  unfolding write_answer
  write_settings why e = rw e

  module _ (e : check_of cfg ≡ Ok tt) where
    pub write_state : valid_of s ring ≡ false → write_refused s p b ring InvalidState ≡ write_answer s cfg time p b ring
    unfolding write_answer
    write_state v = entry_refused (write_refused s p b ring) _ e (and_not_left _ v)

    module _ (v : valid_of s ring ≡ true) where
      pub write_payload : payload_valid p (length b) ≡ false → write_refused s p b ring InvalidState ≡ write_answer s cfg time p b ring
      unfolding write_answer
      write_payload w = entry_refused (write_refused s p b ring) _ e (and_not_right v w)

      pub write_made : payload_valid p (length b) ≡ true → written_by s cfg time p b ring ≡ write_answer s cfg time p b ring
      unfolding write_answer
      write_made w = entry_made (write_refused s p b ring) _ e (and_both v w)
