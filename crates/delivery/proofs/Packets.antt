-- Packets that a write adds: copies of positions, errors, new commands.
use Prim.Native.Nat.{ℕ, suc, ◌+◌, ◌*◌, ◌/◌, ◌%◌, ◌≤◌, ◌<◌}
use mathlib.Core.Path.{◌≡◌, refl, ap, sym, ◌∙◌}
use mathlib.Core.Bool.{true, false, cond}
use mathlib.Core.Logic.{inl, inr}
use mathlib.Core.List.{List, [], ◌∷◌, ◌++◌, append_assoc}
use native.Mathlib.Omega.{arith}
use lib.ListN.{length, get_or, length-append}
use lib.Seq.{get_or_at}
use Rattle.config.specs.Sequence.{turn, after}
use Rattle.config.specs.inner.Tests.{split}
use Rattle.packet.specs.Layout.{Packet, Encodable}
use Rattle.history.specs.Written.{data_packet}
use Rattle.sender_log.specs.Writes.{data_from}
use Rattle.delivery.specs.Commands.{Command, is_data, command_of, data_in}
use Rattle.delivery.proofs.Lists.{All}
use Rattle.delivery.proofs.Sound.{Sound}
use Rattle.delivery.proofs.Wires.{numbered_from, onto, Wire, wire_copy}

-- ---- data commands among packets

-- a sender's own commands are
own_data : (number : ℕ) (ws : List ℕ) → is_data (data_packet number ws) ≡ true
own_data number ws = refl

pub data_append : (cs ds : List Packet) → data_in (cs ++ ds) ≡ data_in cs ++ data_in ds
unfolding data_in
data_append [] ds = refl
data_append (c ∷ cs) ds = elim (split (is_data c)) [ inl k ↦ rw (k, data_append cs ds) | inr k ↦ rw (k, data_append cs ds) ]

pub data_from_lem : (wss : List (List ℕ)) (p : ℕ) → data_in (data_from (p % turn) wss) ≡ numbered_from p wss
unfolding data_in data_from
data_from_lem [] p = refl
data_from_lem (ws ∷ wss) p =
    let n : p % turn / 256 * 256 + p % turn % 256 ≡ p % turn = omega arith in
    let m : after (p % turn) 1 ≡ suc p % turn = omega arith in
    rw (n, m, data_from_lem wss (suc p))

pub from_encodable : (wss : List (List ℕ)) (p : ℕ) → All Sound wss → All Encodable (data_from p wss)
unfolding data_from
from_encodable [] p h = tt
from_encodable (ws ∷ wss) p h = (record { few = omega (arith, h.0.short); words32 = h.0.words32 }, from_encodable wss (after p 1) h.1)

-- ---- copies

-- a packet that writes no new position: no data command, or one of a position that is there
pub data Copy (C : List (List ℕ)) : Packet → Type 0 where
  other : {c : Packet} → is_data c ≡ false → Copy C c
  again : (p : ℕ) → p < length C → length C ≤ p + 32768 → Copy C (data_packet (p % turn) (get_or C p []))

pub wire_copies : (C : List (List ℕ)) (cs : List Packet) (w : List Command) → Wire C w → All (Copy C) cs → Wire C (onto (data_in cs) w)
unfolding data_in
wire_copies C [] w i h = i
wire_copies C (c ∷ cs) w i h = by c h.0 (λ v j. wire_copies C cs v j h.1)
  where
    by : (c : Packet) → Copy C c → ((v : List Command) → Wire C v → Wire C (onto (data_in cs) v)) → Wire C (onto (cond (is_data c) (command_of c ∷ data_in cs) (data_in cs)) w)
    by c (other e) go = rw e (go w i)
    by c (again p l m) go =
        let n : p % turn / 256 * 256 + p % turn % 256 ≡ p % turn = omega arith in
        go _ (rw n (wire_copy C w i p l m))

-- positions from p on are copies of themselves
pub from_copies : (wss xs ys C : List (List ℕ)) (p : ℕ) → C ≡ xs ++ (wss ++ ys) → length xs ≡ p → length C ≤ p + 32768 → All (Copy C) (data_from (p % turn) wss)
unfolding data_from
from_copies [] xs ys C p e l m = tt
from_copies (ws ∷ wss) xs ys C p e l m =
    let here : get_or C p [] ≡ ws = ap (λ (D : List (List ℕ)). get_or D p []) e ∙ get_or_at xs ws (wss ++ ys) [] p l in
    let n : after (p % turn) 1 ≡ suc p % turn = omega arith in
    let q : C ≡ (xs ++ (ws ∷ [])) ++ (wss ++ ys) = e ∙ sym (append_assoc xs (ws ∷ []) (wss ++ ys)) in
    let k : length (xs ++ (ws ∷ [])) ≡ suc p = rw (length-append xs (ws ∷ [])) (omega arith) in
    let below : p < length C = omega (arith, ap length e, length-append xs (ws ∷ (wss ++ ys))) in
    let first : Copy C (data_packet (p % turn) (get_or C p [])) = again p below m in
    (rw here at first, rw n (from_copies wss (xs ++ (ws ∷ [])) ys C (suc p) q k (omega arith)))
