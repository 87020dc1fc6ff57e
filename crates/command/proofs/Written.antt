-- The answers of `error_written` and `data_written`, each from the tests that lead to it.
use mathlib.Core.Path.{◌≡◌}
use mathlib.Core.Bool.{true, false}
use mathlib.Core.List.{List}
use Prim.Native.Nat.{ℕ, ◌≤◌, ◌<◌}
use lib.ListN.{length}
use borrow.Author.Tests.{lt-ltb, le-ltb}
use Rattle.config.specs.declared.refusal.Refusal.TheVariants.{InvalidUmpData, ReasonNotAllowed, InvalidState}
use Rattle.packet.specs.Write.{valid_of, refused_of, written_of}
use Rattle.packet.specs.declared.writer.PayloadWriter.{PayloadWriter}
use Rattle.packet.specs.declared.writer.Wrote.{Wrote}
use Rattle.command.specs.Messages.{whole_of}
use Rattle.command.specs.Write.{data_packet, error_packet, is_defined, error_written, data_written}
use Rattle.command.specs.declared.retransmit.RetransmitError.{RetransmitError}

module _ (e : RetransmitError) (p : PayloadWriter) (b : List ℕ) where
  pub error_invalid : valid_of p (length b) ≡ false → (refused_of p InvalidState, b) ≡ error_written e p b
  unfolding error_written
  error_invalid v = rw v

  module _ (v : valid_of p (length b) ≡ true) where
    pub error_undefined : is_defined e ≡ false → (refused_of p ReasonNotAllowed, b) ≡ error_written e p b
    unfolding error_written
    error_undefined d = rw (v, d)

    pub error_defined : is_defined e ≡ true → written_of p b (error_packet e) ≡ error_written e p b
    unfolding error_written
    error_defined d = rw (v, d)

module _ (p : PayloadWriter) (b : List ℕ) (seq : ℕ) (ws : List ℕ) where
  pub data_invalid : (r : Wrote) → r ≡ refused_of p InvalidState → valid_of p (length b) ≡ false → (r, b) ≡ data_written p b seq ws
  unfolding data_written
  data_invalid r e v = rw (v, e)

  module _ (v : valid_of p (length b) ≡ true) where
    pub data_long : (r : Wrote) → r ≡ refused_of p InvalidUmpData → 64 < length ws → (r, b) ≡ data_written p b seq ws
    unfolding data_written
    data_long r e l = rw (v, lt-ltb _ _ l, e)

    module _ (l : length ws ≤ 64) where
      pub data_cut : (r : Wrote) → r ≡ refused_of p InvalidUmpData → whole_of ws ≡ false → (r, b) ≡ data_written p b seq ws
      unfolding data_written
      data_cut r e w = rw (v, le-ltb _ _ l, w, e)

      pub data_whole : whole_of ws ≡ true → written_of p b (data_packet seq ws) ≡ data_written p b seq ws
      unfolding data_written
      data_whole w = rw (v, le-ltb _ _ l, w)
