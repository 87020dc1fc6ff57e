-- Whole messages: joined, divided into commands, handed on.
use Prim.Native.Nat.{ℕ, zero, suc, ◌-◌, ◌≤◌}
use mathlib.Core.Path.{◌≡◌, refl, ap, ◌∙◌}
use mathlib.Core.Bool.{true}
use mathlib.Core.Logic.{inl, inr}
use mathlib.Core.List.{List, [], ◌∷◌, ◌++◌}
use native.Mathlib.Omega.{arith}
use lib.Dec.{leb}
use lib.ListN.{length, take, drop, length-append, length-drop, take-append-drop}
use lib.Seq.{drop-append-le, drop-length, length-take-le}
use Rattle.config.specs.inner.Tests.{split, tests}
use Rattle.command.specs.Messages.{message_words, whole_of, words_in, whole_words}
use Rattle.command.specs.inner.Messages.{messages_nil, messages_cons}
use Rattle.fronts.specs.Commands.{front}
use Rattle.fronts.proofs.Fronts.{First, first_of, front_nil, front_more, front_stop}

-- what holds of no words, and of words if it holds behind their first message
pub by_messages : (P : List ℕ → Type 0) → P [] → ((w : ℕ) (ws : List ℕ) → First (w ∷ ws) (message_words w) → P (drop (message_words w) (w ∷ ws)) → P (w ∷ ws))
    → (ws : List ℕ) → whole_of ws ≡ true → P ws
by_messages P none more ws e = go (length ws) ws (omega arith) e
  where
    go : (f : ℕ) (ws : List ℕ) → length ws ≤ f → whole_of ws ≡ true → P ws
    go zero [] l e = none
    go (suc f) [] l e = none
    go zero (w ∷ ws) l e = absurd (let z : ⊥ = omega arith in z)
    go (suc f) (w ∷ ws) l e =
        let i = first_of w ws e in
        more w ws i (go f (drop (message_words w) (w ∷ ws)) (omega (arith, i.some, length-drop (message_words w) (w ∷ ws))) i.rest)

-- ---- whole

pub whole_nil : whole_of [] ≡ true
unfolding whole_of
whole_nil = rw messages_nil

whole_cons : (w : ℕ) (ws : List ℕ) → message_words w ≤ length (w ∷ ws) → whole_of (drop (message_words w) (w ∷ ws)) ≡ true → whole_of (w ∷ ws) ≡ true
unfolding whole_of
whole_cons w ws l e = rw (messages_cons w ws l) e

pub whole_append : (xs ys : List ℕ) → whole_of xs ≡ true → whole_of ys ≡ true → whole_of (xs ++ ys) ≡ true
whole_append xs ys e f = by_messages (λ zs. whole_of (zs ++ ys) ≡ true) f step xs e
  where
    step : (w : ℕ) (ws : List ℕ) → First (w ∷ ws) (message_words w) → whole_of (drop (message_words w) (w ∷ ws) ++ ys) ≡ true → whole_of (w ∷ ws ++ ys) ≡ true
    step w ws i h =
        whole_cons w (ws ++ ys) (omega (arith, i.fits, length-append ws ys)) (rw (drop-append-le (message_words w) (w ∷ ws) ys i.fits) h)

-- a single message
first_whole : (w : ℕ) (ws : List ℕ) → First (w ∷ ws) (message_words w) → whole_of (take (message_words w) (w ∷ ws)) ≡ true
first_whole w ws i = go (message_words w) refl i.some
  where
    go : (m : ℕ) → m ≡ message_words w → 1 ≤ m → whole_of (take m (w ∷ ws)) ≡ true
    go zero e l = absurd (let z : ⊥ = omega arith in z)
    go (suc m) e l =
        let n : length (w ∷ take m ws) ≡ message_words w = length-take-le (suc m) (w ∷ ws) (omega (arith, i.fits)) ∙ e in
        whole_cons w (take m ws) (omega arith) (rw (← n, drop-length (w ∷ take m ws)) whole_nil)

pub front_whole : (n : ℕ) (ws : List ℕ) → whole_of ws ≡ true → whole_of (front n ws) ≡ true
front_whole n ws e = by_messages (λ xs. (n : ℕ) → whole_of (front n xs) ≡ true) (λ n. rw front_nil whole_nil) step ws e n
  where
    step : (w : ℕ) (ws : List ℕ) → First (w ∷ ws) (message_words w) → ((n : ℕ) → whole_of (front n (drop (message_words w) (w ∷ ws))) ≡ true) → (n : ℕ) → whole_of (front n (w ∷ ws)) ≡ true
    step w ws i h n = elim (split (leb (message_words w) n)) [
      | inl k ↦
          rw (front_more (w ∷ ws) (message_words w) n i (omega (arith, tests)))
          (whole_append (take (message_words w) (w ∷ ws)) (front (n - message_words w) (drop (message_words w) (w ∷ ws))) (first_whole w ws i) (h (n - message_words w)))
      | inr k ↦ rw (front_stop (w ∷ ws) (message_words w) n i (omega (arith, tests))) whole_nil
    ]

-- ---- handed on

-- all words of whole messages are words of whole messages
pub whole_words_lem : (ws : List ℕ) → whole_of ws ≡ true → whole_words ws ≡ ws
unfolding whole_words words_in
whole_words_lem ws e = by_messages (λ xs. whole_words xs ≡ xs) (rw messages_nil) step ws e
  where
    step : (w : ℕ) (ws : List ℕ) → First (w ∷ ws) (message_words w) → whole_words (drop (message_words w) (w ∷ ws)) ≡ drop (message_words w) (w ∷ ws) → whole_words (w ∷ ws) ≡ w ∷ ws
    step w ws i h =
        rw i.parts (ap (λ (xs : List ℕ). take (message_words w) (w ∷ ws) ++ xs) h ∙ take-append-drop (message_words w) (w ∷ ws))
