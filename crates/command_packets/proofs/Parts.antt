-- What is unread, as parts of a slice.
use mathlib.Core.Path.{◌≡◌, sym, ap, ◌∙◌}
use Rattle.std.proofs.Common.{Result, Ok, Err}
use mathlib.Core.List.{List}
use Prim.Native.Nat.{ℕ, ◌-◌}
use lib.ListN.{length, drop}
use lib.Seq.{drop-length}
use Rattle.config.specs.declared.refusal.Refusal.{Refusal}
use Rattle.packet.specs.Read.{body_of}
use Rattle.packet.specs.declared.cursor.Cursor.{Cursor}
use Rattle.packet.specs.declared.cursor.Header.{Header}
use Rattle.packet.specs.declared.cursor.PacketItem.{PacketItem}
use Rattle.packet.specs.declared.cursor.PacketItem.TheVariants.{Command, Truncated}
use Rattle.command_packets.specs.Held.{unread_at, payload_at, after_at}

module _ (b rest : List ℕ) where
  -- ---- after opening
  pub unread_at_lem : (p : Result Cursor Refusal) (c : Cursor) → p ≡ Ok c → rest ≡ drop c.at b → rest ≡ unread_at p b
  unread_at_lem p c e f = f ∙ ap (λ (x : Result Cursor Refusal). unread_at x b) (sym e)

  pub unread_refused : (p : Result Cursor Refusal) (r : Refusal) → p ≡ Err r → rest ≡ drop (length b) b → rest ≡ unread_at p b
  unread_refused p r e f = f ∙ drop-length b ∙ ap (λ (x : Result Cursor Refusal). unread_at x b) (sym e)

  -- ---- of an item and after it
  module _ (i : PacketItem) (h : Header) where
    pub payload_whole : (at : ℕ) (c : Cursor) → i ≡ Command h at c → rest ≡ body_of b at h → rest ≡ payload_at i b
    payload_whole at c e f = f ∙ ap (λ (x : PacketItem). payload_at x b) (sym e)

    pub after_whole : (at : ℕ) (c : Cursor) → i ≡ Command h at c → rest ≡ drop c.at b → rest ≡ after_at i b
    after_whole at c e f = f ∙ ap (λ (x : PacketItem). after_at x b) (sym e)

    pub after_cut : i ≡ Truncated h → rest ≡ drop (length b) b → rest ≡ after_at i b
    after_cut e f = f ∙ drop-length b ∙ ap (λ (x : PacketItem). after_at x b) (sym e)
