-- 01, "Rust forms and their Rattle forms", `CommandPackets`: the payload reader holds the caller's unread bytes, and a raw
-- command's payload is a part of the caller's slice. All of it is the cursor's, at the front of the unread bytes.
use Rattle.std.specs.Prelude.{ℕ, zero, suc, ◌+◌, ◌-◌, List, [], ◌∷◌, length, drop, Result, Ok, Err}
use Rattle.config.specs.declared.refusal.Refusal.{Refusal}
use Rattle.packet.specs.declared.cursor.Cursor.{Cursor}
use Rattle.packet.specs.Bytes.{words_of}
use Rattle.packet.specs.Layout.{packet}
use Rattle.packet.specs.Read.{open_of, next_of, body_of, Item, whole, cut}
use Rattle.packet.specs.declared.cursor.PacketItem.{PacketItem}
use Rattle.packet.specs.declared.cursor.PacketItem.TheVariants.{Command, Truncated, End}

-- ---- opening: what is unread of a payload, by the cursor core's answer
abbrev pub unread_at : Result Cursor Refusal → List ℕ → List ℕ
unread_at (Ok c) b = drop c.at b
unread_at (Err r) b = []

-- the unread bytes and the answer
unfoldable pub opened_of : List ℕ → List ℕ × Result Cursor Refusal
opened_of b = (unread_at (open_of b) b, open_of b)

-- ---- one step: the bytes of a whole command's words
abbrev pub payload_at : PacketItem → List ℕ → List ℕ
payload_at (Command h at next) b = body_of b at h
payload_at (Truncated h) b = []
payload_at End b = []

-- what is unread after an item: a cut command ends the reading
abbrev pub after_at : PacketItem → List ℕ → List ℕ
after_at (Command h at next) b = drop next.at b
after_at (Truncated h) b = []
after_at End b = b

-- what is unread after the step, the bytes of the command's words, and the item; its places count from the front of the unread bytes
unfoldable pub step_of : List ℕ → List ℕ × (List ℕ × PacketItem)
step_of b = (after_at (next_of b 0) b, (payload_at (next_of b 0) b, next_of b 0))

-- an item at the front of the unread bytes, where these begin at place `at` of the payload
abbrev pub item_at : ℕ → PacketItem → PacketItem
item_at at (Command h here next) = Command h at record { at = at + next.at }
item_at at (Truncated h) = Truncated h
item_at at End = End

-- ---- what a caller of the reader collects of a payload of n bytes, in at most so many steps, going on until the reader gives `End`
abbrev pub collect : PacketItem → ℕ → List ℕ → List Item → List Item
collect (Command h at next) place words more = whole place (packet h.code h.csd1 h.csd2 (words_of words)) ∷ more
collect (Truncated h) place words more = cut h ∷ more
collect End place words more = []

unfoldable pub collected : ℕ → ℕ → List ℕ → List Item
collected zero n rest = []
collected (suc f) n rest = collect (step_of rest).1.1 (n - length rest) (step_of rest).1.0 (collected f n (step_of rest).0)

-- of a whole payload
unfoldable pub read_all : List ℕ → List Item
read_all b = collected (length b) (length b) (opened_of b).0
