-- 01, "From the packet up", 2: message lengths go by the top four bits of a message's first word; whole messages.
use Rattle.std.specs.Prelude.{ℕ, zero, suc, ◌+◌, ◌/◌, ◌≡◌, Bool, true, false, cond, not, ◌||◌, List, [], ◌∷◌, ◌++◌, length, take, drop, leb, eqb}
use Rattle.command.specs.declared.message.MessageItem.{MessageItem}
use Rattle.command.specs.declared.message.MessageItem.TheVariants.{Message, Truncated, End}

abbrev pub among : List ℕ → ℕ → Bool
among [] t = false
among (x ∷ xs) t = eqb x t || among xs t

-- types 0, 1, 2, 6, 7 have 1 word; 3, 4, 8, 9, A have 2; B, C have 3; 5, D, E, F have 4
unfoldable pub type_words : ℕ → ℕ
type_words t =
    cond (among (0 ∷ 1 ∷ 2 ∷ 6 ∷ 7 ∷ []) t) 1
    (cond (among (3 ∷ 4 ∷ 8 ∷ 9 ∷ 0xA ∷ []) t) 2
    (cond (among (0xB ∷ 0xC ∷ []) t) 3 4))

abbrev pub message_words : ℕ → ℕ
message_words w = type_words (w / 0x10000000)

-- a list of words divided: its whole messages, in order, and whether it ends inside a message
pub record Messages : Type 0 where
  pub whole : List (List ℕ)
  pub cut : Bool

abbrev pub none : Bool → Messages
none c = record { whole = []; cut = c }

abbrev pub also : List ℕ → Messages → Messages
also m ms = record { whole = m ∷ ms.whole; cut = ms.cut }

-- in at most so many messages
unfoldable pub divided : ℕ → List ℕ → Messages
divided zero ws = none false
divided (suc f) [] = none false
divided (suc f) (w ∷ ws) =
    cond (leb (message_words w) (length (w ∷ ws)))
    (also (take (message_words w) (w ∷ ws)) (divided f (drop (message_words w) (w ∷ ws))))
    (none true)

unfoldable pub messages_of : List ℕ → Messages
messages_of ws = divided (length ws) ws

unfoldable pub whole_of : List ℕ → Bool
whole_of ws = not (messages_of ws).cut

-- messages, or commands, one after the other, as words
unfoldable pub words_in : List (List ℕ) → List ℕ
words_in [] = []
words_in (ws ∷ wss) = ws ++ words_in wss

-- the words of the whole messages at the front
unfoldable pub whole_words : List ℕ → List ℕ
whole_words ws = words_in (messages_of ws).whole

-- what the words from index `at` on begin with
abbrev pub message_item : ℕ → List ℕ → MessageItem
message_item at [] = End
message_item at (w ∷ ws) =
    cond (leb (message_words w) (length (w ∷ ws))) (Message at (message_words w) record { at = at + message_words w }) Truncated

unfoldable pub message_at : List ℕ → ℕ → MessageItem
message_at ws at = message_item at (drop at ws)

-- the words of the message that it finds; 0 where it finds no whole one
abbrev pub item_words : MessageItem → ℕ
item_words (Message at n next) = n
item_words Truncated = 0
item_words End = 0

-- what a caller of the walk collects, one step after the other
abbrev pub follow : MessageItem → List ℕ → (ℕ → Messages) → Messages
follow (Message at n next) ws go = also (take n (drop at ws)) (go next.at)
follow Truncated ws go = none true
follow End ws go = none false

unfoldable pub walked : ℕ → List ℕ → ℕ → Messages
walked zero ws at = none false
walked (suc f) ws at = follow (message_at ws at) ws (λ next. walked f ws next)

-- the walk gives exactly the whole messages, in order, and the cut mark
abbrev pub MessagesWalk : Type 0
MessagesWalk = (ws : List ℕ) → walked (length ws) ws 0 ≡ messages_of ws
