-- The reader that holds the unread bytes, beside the cursor.
use mathlib.Core.Path.{◌≡◌, refl, sym, ap, ◌∙◌}
use mathlib.Core.Bool.{true, false}
use mathlib.Core.Logic.{inl, inr}
use mathlib.Core.List.{List, [], ◌∷◌}
use Prim.Native.Nat.{ℕ, zero, suc, ◌+◌, ◌-◌, ◌*◌, ◌≤◌}
use native.Mathlib.Omega.{arith}
use lib.Dec.{leb, ltb}
use lib.ListN.{length, drop, length-drop}
use lib.Seq.{drop-drop}
use borrow.Author.Tests.{leb-true, ltb-true, ltb-false}
use Rattle.config.specs.inner.Tests.{split}
use Rattle.packet.specs.Layout.{Packet, payload_of, AllEncodable}
use Rattle.packet.specs.Read.{signed, open_of, item_of, next_of, body_of, items_from, items_of, walked, placed}
use Rattle.packet.specs.declared.cursor.Cursor.{Cursor}
use Rattle.packet.specs.declared.cursor.Header.{Header}
use Rattle.packet.specs.declared.cursor.PacketItem.{PacketItem}
use Rattle.packet.specs.declared.cursor.PacketItem.TheVariants.{Command}
use Rattle.packet.proofs.Reading.{signed_short, next_advances}
use Rattle.packet.proofs.RoundTrip.{walked_items, items_payload}
use Rattle.command_packets.specs.Held.{opened_of, payload_at, step_of, item_at, collected, read_all}

-- ---- one step
item_at_lem : (at : ℕ) (xs : List ℕ) → item_at at (item_of 0 xs) ≡ item_of at xs
item_at_lem at [] = refl
item_at_lem at (x ∷ []) = refl
item_at_lem at (x ∷ y ∷ []) = refl
item_at_lem at (x ∷ y ∷ z ∷ []) = refl
item_at_lem at (x ∷ m ∷ y ∷ z ∷ rest) =
    let e : at + (0 + 4 + 4 * m) ≡ at + 4 + 4 * m = omega arith in
    elim (split (leb (4 * m) (length rest))) [
      | inl k ↦ rw (k, e)
      | inr k ↦ rw k
    ]

module _ (b : List ℕ) (at : ℕ) where
  next_at_lem : item_at at (next_of (drop at b) 0) ≡ next_of b at
  unfolding next_of
  next_at_lem = item_at_lem at (drop at b)

  pub step_item : item_at at (step_of (drop at b)).1.1 ≡ next_of b at
  unfolding step_of
  step_item = next_at_lem

  -- the item i at the front of the bytes from `at` on
  module _ (rest : List ℕ) (i : PacketItem) (d : rest ≡ drop at b) (e : i ≡ next_of rest 0) where
    pub front_at : (j : PacketItem) → i ≡ j → item_at at j ≡ next_of b at
    front_at j f = ap (item_at at) (sym f ∙ e ∙ ap (λ (xs : List ℕ). next_of xs 0) d) ∙ next_at_lem

    -- the place after a whole command lies in the payload
    pub front_inside : (h : Header) (here : ℕ) (next : Cursor) → i ≡ Command h here next → at + next.at ≤ length b
    front_inside h here next f =
        let a = next_advances rest 0 h here next (sym e ∙ f) in
        let l = ap length d ∙ length-drop at b in
        omega arith

payload_item : (at : ℕ) (b xs : List ℕ) → drop at b ≡ xs → payload_at (item_of 0 xs) xs ≡ payload_at (item_of at xs) b
unfolding body_of
payload_item at b [] e = refl
payload_item at b (x ∷ []) e = refl
payload_item at b (x ∷ y ∷ []) e = refl
payload_item at b (x ∷ y ∷ z ∷ []) e = refl
payload_item at b (x ∷ m ∷ y ∷ z ∷ rest) e =
    let tail : drop (at + 4) b ≡ rest = sym (drop-drop 4 at b) ∙ ap (drop 4) e in
    elim (split (leb (4 * m) (length rest))) [
      | inl k ↦ rw (k, tail)
      | inr k ↦ rw k
    ]

pub step_payload : (b : List ℕ) (at : ℕ) → (step_of (drop at b)).1.0 ≡ payload_at (next_of b at) b
unfolding step_of next_of
step_payload b at = payload_item at b (drop at b) refl

-- ---- whole runs
collected_none : (f n : ℕ) → collected f n [] ≡ []
unfolding collected step_of next_of
collected_none zero n = refl
collected_none (suc f) n = refl

pub collected_items : (f n : ℕ) (xs : List ℕ) → length xs ≤ n → collected f n xs ≡ items_from f (n - length xs) xs
unfolding collected items_from step_of next_of body_of
collected_items zero n xs h = refl
collected_items (suc f) n [] h = refl
collected_items (suc f) n (x ∷ []) h = refl
collected_items (suc f) n (x ∷ y ∷ []) h = refl
collected_items (suc f) n (x ∷ y ∷ z ∷ []) h = refl
collected_items (suc f) n (x ∷ m ∷ y ∷ z ∷ rest) h =
    let after : drop (0 + 4 + 4 * m) (x ∷ m ∷ y ∷ z ∷ rest) ≡ drop (4 * m) rest = sym (drop-drop (4 * m) 4 (x ∷ m ∷ y ∷ z ∷ rest)) in
    let l = length-drop (4 * m) rest in
    elim (split (leb (4 * m) (length rest))) [
      | inl k ↦
          let fits = leb-true (4 * m) (length rest) k in
          let place : n - length (drop (4 * m) rest) ≡ n - length (x ∷ m ∷ y ∷ z ∷ rest) + 4 + 4 * m = omega arith in
          rw (k, after, collected_items f n (drop (4 * m) rest) (omega arith), place)
      | inr k ↦ rw (k, collected_none f n)
    ]

pub collected_walked : (f : ℕ) (b : List ℕ) (at : ℕ) → at ≤ length b → collected f (length b) (drop at b) ≡ walked f b at
collected_walked f b at h =
    let l = length-drop at b in
    let place : length b - length (drop at b) ≡ at = omega arith in
    collected_items f (length b) (drop at b) (omega arith) ∙ rw place (sym (walked_items f b at))

signed_four : (b : List ℕ) → signed b ≡ true → 4 ≤ length b
signed_four b s = elim (split (ltb (length b) 4)) [
  | inl k ↦ absurd (let e : false ≡ true = signed_short b (ltb-true _ _ k) ∙ s in let z : ◌≡◌ {A = ℕ} 0 1 = cc in let y : ⊥ = omega arith in y)
  | inr k ↦ ltb-false _ _ k
]

pub all_items : (b : List ℕ) → read_all b ≡ items_of b
unfolding read_all opened_of open_of items_of
all_items b = elim (split (signed b)) [
  | inl s ↦ rw s (collected_walked (length b) b 4 (signed_four b s) ∙ walked_items (length b) b 4)
  | inr s ↦ rw s (collected_none (length b) (length b))
]

-- of a payload that was written
pub all_payload : (cs : List Packet) → AllEncodable cs → read_all (payload_of cs) ≡ placed 4 cs
all_payload cs a = all_items (payload_of cs) ∙ items_payload cs a
