-- 02, 4/14: what one message does to the notes of a group. A note is its channel times 128 plus its key, so that notes by channel, then key, are notes in order.
use Rattle.std.specs.Prelude.{ℕ, ◌+◌, ◌*◌, ◌/◌, ◌%◌, Bool, false, cond, ◌&&◌, ◌||◌, List, [], ◌∷◌, leb, ltb, eqb}

-- ---- a message's first word: type, group, status, channel (4 bits each), note and velocity (a byte each)

abbrev pub type_of : ℕ → ℕ
type_of w = w / 0x10000000

abbrev pub group_of : ℕ → ℕ
group_of w = w / 0x1000000 % 16

abbrev pub status_of : ℕ → ℕ
status_of w = w / 0x100000 % 16

abbrev pub channel_of : ℕ → ℕ
channel_of w = w / 0x10000 % 16

abbrev pub key_of : ℕ → ℕ
key_of w = w / 0x100 % 256

abbrev pub velocity_of : ℕ → ℕ
velocity_of w = w % 256

unfoldable pub note_of : ℕ → ℕ
note_of w = channel_of w * 128 + key_of w

-- ---- what it does

pub data Effect : Type 0 where
  holds : ℕ → Effect
  releases : ℕ → Effect
  nothing : Effect

-- type 2, of the group, its note and velocity bytes at most 7F
unfoldable pub is_ours : ℕ → ℕ → Bool
is_ours g w = (eqb (type_of w) 2 && eqb (group_of w) g) && (leb (key_of w) 0x7F && leb (velocity_of w) 0x7F)

-- status 9 with velocity above 0
unfoldable pub is_on : ℕ → Bool
is_on w = eqb (status_of w) 9 && ltb 0 (velocity_of w)

-- status 8, or 9 with velocity 0
unfoldable pub is_off : ℕ → Bool
is_off w = eqb (status_of w) 8 || (eqb (status_of w) 9 && eqb (velocity_of w) 0)

abbrev pub word_effect : ℕ → ℕ → Effect
word_effect g w = cond (is_ours g w) (cond (is_on w) (holds (note_of w)) (cond (is_off w) (releases (note_of w)) nothing)) nothing

unfoldable pub effect_of : ℕ → List ℕ → Effect
effect_of g [] = nothing
effect_of g (w ∷ ws) = word_effect g w

-- ---- for the note k

abbrev pub holds_it : ℕ → Effect → Bool
holds_it k (holds n) = eqb k n
holds_it k (releases n) = false
holds_it k nothing = false

abbrev pub releases_it : ℕ → Effect → Bool
releases_it k (holds n) = false
releases_it k (releases n) = eqb k n
releases_it k nothing = false

-- a message is an on for the note k of group g
unfoldable pub on_for : ℕ → ℕ → List ℕ → Bool
on_for g k m = holds_it k (effect_of g m)

-- a message is a release for it
unfoldable pub off_for : ℕ → ℕ → List ℕ → Bool
off_for g k m = releases_it k (effect_of g m)
