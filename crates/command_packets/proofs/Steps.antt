-- A reader's answers, put together from what the calls inside gave.
use mathlib.Core.Path.{◌≡◌, refl, ap, ◌∙◌}
use Rattle.std.proofs.Common.{Result}
use Rattle.config.specs.declared.refusal.Refusal.{Refusal}
use Rattle.packet.specs.declared.cursor.Cursor.{Cursor}
use mathlib.Core.List.{List}
use Prim.Native.Nat.{ℕ}
use Rattle.packet.specs.Read.{open_of, next_of}
use Rattle.packet.specs.declared.cursor.PacketItem.{PacketItem}
use Rattle.command_packets.specs.Held.{unread_at, opened_of, payload_at, after_at, step_of}

module _ (b : List ℕ) where
  pub opened_of_is : (answer : Result Cursor Refusal) (rest : List ℕ) → answer ≡ open_of b → rest ≡ unread_at answer b → (rest, answer) ≡ opened_of b
  unfolding opened_of
  opened_of_is answer rest e f = λ i. ((f ∙ ap (λ (p : Result Cursor Refusal). unread_at p b) e) i, e i)

  pub opened_of_answer : (opened_of b).1 ≡ open_of b
  unfolding opened_of
  opened_of_answer = refl

  pub step_of_is : (item : PacketItem) (words rest : List ℕ) → item ≡ next_of b 0 → words ≡ payload_at item b → rest ≡ after_at item b
      → (rest, (words, item)) ≡ step_of b
  unfolding step_of
  step_of_is item words rest e f g = λ i.
      ((g ∙ ap (λ (p : PacketItem). after_at p b) e) i, ((f ∙ ap (λ (p : PacketItem). payload_at p b) e) i, e i))

  pub step_of_item : (item : PacketItem) (words rest : List ℕ) → (rest, (words, item)) ≡ step_of b → item ≡ next_of b 0
  unfolding step_of
  step_of_item item words rest e = ap (λ (s : List ℕ × (List ℕ × PacketItem)). s.1.1) e
