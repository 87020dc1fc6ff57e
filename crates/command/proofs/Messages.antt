-- Laws of message lengths and of the walk over messages.
use mathlib.Core.Path.{◌≡◌, refl, sym, ap, ◌∙◌}
use mathlib.Core.Bool.{Bool, true, false}
use mathlib.Core.Logic.{inl, inr}
use mathlib.Core.List.{List, [], ◌∷◌}
use Prim.Native.Nat.{ℕ, zero, suc, ◌+◌, ◌-◌, ◌*◌, ◌/◌, ◌%◌, ◌^◌, ◌≤◌, ◌<◌}
use native.Mathlib.Omega.{arith}
use lib.Dec.{leb, eqb}
use lib.ListN.{length, drop, get_or, length-drop, drop_of_length-le}
use lib.Seq.{drop-cons, drop-drop}
use borrow.Author.Tests.{leb-true, eqb-true}
use Rattle.config.specs.inner.Tests.{split, lifts, below, below_at}
use Rattle.command.specs.Messages.{type_words, message_words, divided, messages_of, message_item, message_at, follow, walked, MessagesWalk}
use Rattle.command.specs.inner.Messages.{type_words_range}
use Rattle.command.specs.declared.message.UmpMessages.{UmpMessages}
use Rattle.command.specs.declared.message.MessageItem.TheVariants.{Message, Truncated, End}

-- ---- message lengths
-- the code's digits, by type
abbrev digit : ℕ → ℕ
digit t = 0x4443322211422111 / 2 ^ (4 * t) % 16

right : ℕ → Bool
right t = eqb (digit t) (type_words t)

all_right : below 16 right ≡ true
unfolding right type_words
all_right = refl

-- are the lengths of the definition
pub digit_right : (t : ℕ) → t < 16 → (digit t ≡ type_words t) × (1 ≤ digit t) × (digit t ≤ 4)
unfolding right
digit_right t h =
    let e : digit t ≡ type_words t = eqb-true _ _ (below_at 16 right all_right t h) in
    let r = type_words_range t in
    (e, omega arith, omega arith)

-- ---- the walk
module _ (ws : List ℕ) (at : ℕ) where
  pub message_end : length ws ≤ at → End ≡ message_at ws at
  unfolding message_at
  message_end h = rw (drop_of_length-le ws h)

  module _ (h : at < length ws) (w : ℕ) (e : w ≡ get_or ws at 0) where
    pub message_cut : (n : ℕ) → n ≡ message_words w → length ws - at < n → Truncated ≡ message_at ws at
    unfolding message_at
    message_cut n q f =
        let l = length-drop at ws in
        let head = drop-cons ws at 0 h in
        let l₂ : length (get_or ws at 0 ∷ drop (suc at) ws) ≡ length ws - at = rw head at l in
        let long : n ≡ message_words (get_or ws at 0) = q ∙ ap message_words e in
        let t : leb (message_words (get_or ws at 0)) (length (get_or ws at 0 ∷ drop (suc at) ws)) ≡ false = omega (arith, lifts) in
        rw (head, t)

    pub message_whole : (n : ℕ) → n ≡ message_words w → n ≤ length ws - at → Message at n record { at = at + n } ≡ message_at ws at
    unfolding message_at
    message_whole n q f =
        let l = length-drop at ws in
        let head = drop-cons ws at 0 h in
        let l₂ : length (get_or ws at 0 ∷ drop (suc at) ws) ≡ length ws - at = rw head at l in
        let long : message_words (get_or ws at 0) ≡ n = sym (q ∙ ap message_words e) in
        let t : leb (message_words (get_or ws at 0)) (length (get_or ws at 0 ∷ drop (suc at) ws)) ≡ true = omega (arith, lifts) in
        rw (head, t, long)

item_advances : (at : ℕ) (ws : List ℕ) (first n : ℕ) (next : UmpMessages) → message_item at ws ≡ Message first n next
    → (at < next.at) × (next.at ≤ at + length ws)
item_advances at [] first n next e = absurd (let z : ◌≡◌ {A = ℕ} 0 1 = cc in let y : ⊥ = omega arith in y)
item_advances at (w ∷ ws) first n next e = elim (split (leb (message_words w) (length (w ∷ ws)))) [
  | inl k ↦
      let f : Message at (message_words w) record { at = at + message_words w } ≡ Message first n next = rw k at e in
      let g : next ≡ record { at = at + message_words w } = cc in
      let fits = leb-true (message_words w) (length (w ∷ ws)) k in
      let some = type_words_range (w / 0x10000000) in
      rw g (omega arith, omega arith)
  | inr k ↦ absurd (let f : Truncated ≡ Message first n next = rw k at e in let z : ◌≡◌ {A = ℕ} 0 1 = cc in let y : ⊥ = omega arith in y)
]

-- a step of the walk goes on, and stays in the words
pub message_advances : (ws : List ℕ) (at first n : ℕ) (next : UmpMessages) → at ≤ length ws → message_at ws at ≡ Message first n next
    → (at < next.at) × (next.at ≤ length ws)
unfolding message_at
message_advances ws at first n next h e =
    let a = item_advances at (drop at ws) first n next e in
    let l = length-drop at ws in
    (omega arith, omega arith)

step : (f at : ℕ) (ws xs : List ℕ) → drop at ws ≡ xs → ((next : ℕ) → walked f ws next ≡ divided f (drop next ws))
    → follow (message_item at xs) ws (λ next. walked f ws next) ≡ divided (suc f) xs
unfolding divided
step f at ws [] e go = refl
step f at ws (x ∷ xs) e go =
    let after : drop (at + message_words x) ws ≡ drop (message_words x) (x ∷ xs) = sym (drop-drop (message_words x) at ws) ∙ ap (drop (message_words x)) e in
    elim (split (leb (message_words x) (length (x ∷ xs)))) [
      | inl k ↦ rw (k, e, go (at + message_words x), after)
      | inr k ↦ rw k
    ]

-- the walk gives exactly the messages, in order, and the cut mark
pub walked_messages : (f : ℕ) (ws : List ℕ) (at : ℕ) → walked f ws at ≡ divided f (drop at ws)
unfolding walked divided message_at
walked_messages zero ws at = refl
walked_messages (suc f) ws at = step f at ws (drop at ws) refl (λ next. walked_messages f ws next)

pub messages_walk : MessagesWalk
unfolding messages_of
messages_walk ws = walked_messages (length ws) ws 0
