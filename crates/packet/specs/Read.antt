-- 01, "Numbers of each operation", Read: what reading a payload's bytes finds.
use Rattle.std.specs.Prelude.{ℕ, zero, suc, ◌+◌, ◌*◌, Bool, false, cond, ◌&&◌, List, [], ◌∷◌, length, get_or, take, drop, leb, ltb, eqb, Option, Some, None, Result, Ok, Err}
use Rattle.config.specs.declared.refusal.Refusal.{Refusal}
use Rattle.config.specs.declared.refusal.Refusal.TheVariants.{BadSignature}
use Rattle.packet.specs.Bytes.{words_of}
use Rattle.packet.specs.Layout.{Packet, packet, size_of}
use Rattle.packet.specs.declared.cursor.Header.{Header}
use Rattle.packet.specs.declared.cursor.Cursor.{Cursor}
use Rattle.packet.specs.declared.cursor.PacketItem.{PacketItem}
use Rattle.packet.specs.declared.cursor.PacketItem.TheVariants.{Command, Truncated, End}

abbrev pub header : ℕ → ℕ → ℕ → ℕ → Header
header code n a b = record { code = code; len = n; csd1 = a; csd2 = b }

abbrev pub csd_of : Header → ℕ
csd_of h = h.csd1 * 256 + h.csd2

-- the first four bytes are the signature
unfoldable pub signed : List ℕ → Bool
signed [] = false
signed (a ∷ []) = false
signed (a ∷ b ∷ []) = false
signed (a ∷ b ∷ c ∷ []) = false
signed (a ∷ b ∷ c ∷ d ∷ rest) = eqb a 0x4D && (eqb b 0x49 && (eqb c 0x44 && eqb d 0x49))

-- 1 when they aren't, shorter payloads included
unfoldable pub open_of : List ℕ → Result Cursor Refusal
open_of b = cond (signed b) (Ok record { at = 4 }) (Err BadSignature)

-- what the bytes from place `at` on begin with: a command that isn't longer than the rest, or a cut one; fewer than four bytes are the end
abbrev pub item_of : ℕ → List ℕ → PacketItem
item_of at [] = End
item_of at (a ∷ []) = End
item_of at (a ∷ b ∷ []) = End
item_of at (a ∷ b ∷ c ∷ []) = End
item_of at (code ∷ n ∷ a ∷ b ∷ rest) =
    cond (leb (4 * n) (length rest)) (Command (header code n a b) at record { at = at + 4 + 4 * n }) (Truncated (header code n a b))

unfoldable pub next_of : List ℕ → ℕ → PacketItem
next_of b at = item_of at (drop at b)

-- the bytes of the words of the command at place `at`
unfoldable pub body_of : List ℕ → ℕ → Header → List ℕ
body_of b at h = take (4 * h.len) (drop (at + 4) b)

unfoldable pub word_at : List ℕ → ℕ → Option ℕ
word_at b i = cond (ltb i (length (words_of b))) (Some (get_or (words_of b) i 0)) None

-- a payload's item: a whole command with its place, or the header of a cut one
pub data Item : Type 0 where
  whole : ℕ → Packet → Item
  cut : Header → Item

-- all items from place `at` on, in at most so many steps
unfoldable pub items_from : ℕ → ℕ → List ℕ → List Item
items_from zero at b = []
items_from (suc f) at [] = []
items_from (suc f) at (a ∷ []) = []
items_from (suc f) at (a ∷ b ∷ []) = []
items_from (suc f) at (a ∷ b ∷ c ∷ []) = []
items_from (suc f) at (code ∷ n ∷ a ∷ b ∷ rest) =
    cond (leb (4 * n) (length rest))
    (whole at (packet code a b (words_of (take (4 * n) rest))) ∷ items_from f (at + 4 + 4 * n) (drop (4 * n) rest))
    (cut (header code n a b) ∷ [])

-- what reading a payload finds: nothing without the signature, else its items in order
unfoldable pub items_of : List ℕ → List Item
items_of b = cond (signed b) (items_from (length b) 4 (drop 4 b)) []

-- what a caller of the cursor collects, one step after the other
abbrev pub follow : PacketItem → List ℕ → (ℕ → List Item) → List Item
follow (Command h at next) b go = whole at (packet h.code h.csd1 h.csd2 (words_of (body_of b at h))) ∷ go next.at
follow (Truncated h) b go = cut h ∷ []
follow End b go = []

unfoldable pub walked : ℕ → List ℕ → ℕ → List Item
walked zero b at = []
walked (suc f) b at = follow (next_of b at) b (λ next. walked f b next)

-- a list of commands as the items that stand from place `at` on
unfoldable pub placed : ℕ → List Packet → List Item
placed at [] = []
placed at (c ∷ cs) = whole at c ∷ placed (at + size_of c) cs
