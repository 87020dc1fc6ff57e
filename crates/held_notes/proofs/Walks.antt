-- A walk over messages, and what is still to be played.
use Prim.Native.Nat.{ℕ, zero, suc, ◌+◌, ◌≤◌}
use mathlib.Core.Path.{◌≡◌, refl, ap, sym, ◌∙◌}
use mathlib.Core.Bool.{Bool}
use mathlib.Core.List.{List, [], ◌∷◌}
use native.Mathlib.Omega.{arith}
use lib.ListN.{length, take, drop, get_or, length-drop}
use lib.Seq.{get_or-drop}
use Rattle.packet.specs.Bytes.{words_of}
use Rattle.command.specs.Messages.{messages_of, message_at, item_words}
use Rattle.command.specs.inner.Messages.{step_fits, step_last, step_next}
use Rattle.held_notes.specs.Calls.{message, messages, held_through}
use Rattle.held_notes.specs.State.{has, Leads, Played}
use Rattle.held_notes.proofs.Moments.{first}

-- ---- words

pub words_fewer : (b : List ℕ) → length (words_of b) ≤ length b
unfolding words_of
words_fewer [] = omega arith
words_fewer (x ∷ []) = omega arith
words_fewer (x ∷ y ∷ []) = omega arith
words_fewer (x ∷ y ∷ z ∷ []) = omega arith
words_fewer (x ∷ y ∷ z ∷ v ∷ rest) = omega (arith, words_fewer rest)

-- ---- a turn

starts : (n : ℕ) (d : List ℕ) → 1 ≤ n → n ≤ length d → (rest : List ℕ) × (take n d ≡ get_or d 0 0 ∷ rest)
starts zero d l f = absurd (let z : ⊥ = omega arith in z)
starts (suc n) [] l f = absurd (let z : ⊥ = omega arith in z)
starts (suc n) (w ∷ ws) l f = (take n ws, refl)

turn_some : (ws : List ℕ) (at n : ℕ) → at ≤ length ws → n ≡ item_words (message_at ws at) → 1 ≤ n
    → (g k : ℕ) (new : Bool) (w : ℕ) → w ≡ get_or ws at 0 → (before after : List ℕ) → Played g new w before after
    → held_through g k (has before k) (messages new (messages_of (drop at ws)).whole) ≡ held_through g k (has after k) (messages new (messages_of (drop (at + n) ws)).whole)
turn_some ws at n o e l g k new w i before after p =
    let s = starts n (drop at ws) l (omega (arith, step_fits ws at n e o, length-drop at ws)) in
    let h : get_or (drop at ws) 0 0 ≡ w = get_or-drop at ws 0 0 ∙ (let z : at + 0 ≡ at = omega arith in rw z (sym i)) in
    let m : take n (drop at ws) ≡ w ∷ s.0 = s.1 ∙ rw h in
    rw (step_next ws at n e l, m)
    (first g k (has before k) (has after k) (message new (w ∷ s.0)) (messages new (messages_of (drop (at + n) ws)).whole) (sym (p s.0 k)))

-- ---- the loop

-- what is still to be played leads on to where all leads
abbrev pub ToPlay : ℕ → Bool → List ℕ → ℕ → List ℕ → List ℕ → Type 0
ToPlay g new ws at before after =
    (k : ℕ) → held_through g k (has after k) (messages new (messages_of (drop at ws)).whole) ≡ held_through g k (has before k) (messages new (messages_of ws).whole)

pub some : (n : ℕ) → (n ≡ 0 → ⊥) → 1 ≤ n
some zero f = absurd (f refl)
some (suc n) f = omega arith

pub all_played : (g : ℕ) (new : Bool) (ws : List ℕ) (at n : ℕ) → n ≡ item_words (message_at ws at) → n ≡ 0 → (before after : List ℕ) → ToPlay g new ws at before after
    → Leads g (messages new (messages_of ws).whole) before after
all_played g new ws at n e z before after t k =
    ap (λ (ms : List (List ℕ)). held_through g k (has after k) (messages new ms)) (sym (step_last ws at n e z)) ∙ t k

pub one_played : (g : ℕ) (new : Bool) (ws : List ℕ) (at n : ℕ) → at ≤ length ws → n ≡ item_words (message_at ws at) → 1 ≤ n → (w : ℕ) → w ≡ get_or ws at 0 → (before middle after : List ℕ)
    → Played g new w middle after → ToPlay g new ws at before middle → ToPlay g new ws (at + n) before after
one_played g new ws at n o e l w i before middle after p t k = sym (turn_some ws at n o e l g k new w i middle after p) ∙ t k
