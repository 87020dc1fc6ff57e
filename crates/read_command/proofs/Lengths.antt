-- The lengths of the whole messages from an index on, from a step of the walk.
use mathlib.Core.Path.{◌≡◌}
use mathlib.Core.Logic.{⊎_elim}
use mathlib.Core.Bool.{true, false}
use mathlib.Core.List.{List, [], ◌∷◌}
use Prim.Native.Nat.{ℕ, zero, suc, ◌+◌, ◌/◌, ◌≤◌}
use native.Mathlib.Omega.{arith}
use lib.ListN.{length, drop, length-drop, drop_of_length-le}
use lib.Dec.{leb}
use Rattle.config.specs.inner.Tests.{split}
use Rattle.command.specs.Messages.{message_words, divided, messages_of, message_at, item_words}
use Rattle.command.specs.inner.Messages.{type_words_range, messages_nil, step_last, step_next, step_length}
use Rattle.read_command.specs.Words.{each_length, lengths_of}

-- a message has a word at least
each_few : (f : ℕ) (ws : List ℕ) → length (each_length (divided f ws).whole) ≤ length ws
unfolding divided
each_few zero ws = omega arith
each_few (suc f) [] = omega arith
each_few (suc f) (w ∷ ws) =
    ⊎_elim
    (λ (e : leb (message_words w) (length (w ∷ ws)) ≡ true).
    let n = type_words_range (w / 0x10000000) in
    let l = length-drop (message_words w) (w ∷ ws) in
    let r = each_few f (drop (message_words w) (w ∷ ws)) in
    rw e (omega arith))
    (λ (e : leb (message_words w) (length (w ∷ ws)) ≡ false). rw e (omega arith))
    (split (leb (message_words w) (length (w ∷ ws))))

pub lengths_few : (ws : List ℕ) → length (lengths_of ws) ≤ length ws
unfolding lengths_of messages_of
lengths_few ws = each_few (length ws) ws

module _ (ws : List ℕ) (i n : ℕ) (e : n ≡ item_words (message_at ws i)) where
  pub lengths_turn : 1 ≤ n → lengths_of (drop i ws) ≡ n ∷ lengths_of (drop (i + n) ws)
  unfolding lengths_of
  lengths_turn l = rw (step_next ws i n e l, step_length ws i n e)

  pub lengths_stop : n ≡ 0 → lengths_of (drop i ws) ≡ []
  unfolding lengths_of
  lengths_stop z = rw (step_last ws i n e z)

pub lengths_end : (ws : List ℕ) (i : ℕ) → length ws ≤ i → lengths_of (drop i ws) ≡ []
unfolding lengths_of
lengths_end ws i h = rw (drop_of_length-le ws h, messages_nil)
