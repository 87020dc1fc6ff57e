-- 01, "The runs of demand 3": what a chamber's receiver heard and handed on, over its log alone (crate receiver_log). A place is a position plus 65,536.
use Rattle.std.specs.Prelude.{ℕ, zero, suc, ◌-◌, ◌*◌, ◌≡◌, Bool, true, false, cond, List, [], ◌∷◌, ◌++◌, length, Ok, Err}
use Rattle.packet.specs.Bytes.{words_of}
use Rattle.window.specs.declared.window.Class.{Class}
use Rattle.receiver.specs.Messages.{handed_words, handed_bytes, handed_cut}
use Rattle.receiver_log.specs.Calls.{Entry, data_entry, poll_entry, error_entry, nak_entry, take_entry}
use Rattle.receiver_log.specs.Log.{Report, heard, told, origin, high, hands, hands_on}

-- heard: a data command that a call takes without refusing
abbrev pub is_heard : Entry → Bool
is_heard (data_entry s time seq ws (Ok d)) = true
is_heard (data_entry s time seq ws (Err why)) = false
is_heard (poll_entry s time e) = false
is_heard (error_entry q e) = false
is_heard (nak_entry e) = false
is_heard (take_entry s p b a q c) = false

-- handed on at a place: the words of a heard command, when it is answered New or Late, in order of time
abbrev pub delivered : List Report → ℕ → List ℕ
delivered [] x = []
delivered (heard seq ws c l ∷ t) x = cond (hands_on (high t) (heard seq ws c l) x) (delivered t x ++ ws) (delivered t x)
delivered (told l ∷ t) x = delivered t x

-- n places from x on, joined in order, and one by one
abbrev pub joined : (ℕ → List ℕ) → ℕ → ℕ → List ℕ
joined f x zero = []
joined f x (suc n) = f x ++ joined f (suc x) n

abbrev pub listed : (ℕ → List ℕ) → ℕ → ℕ → List (List ℕ)
listed f x zero = []
listed f x (suc n) = f x ∷ listed f (suc x) n

-- what is handed on, joined in order of command position: every place up to the highest
unfoldable pub handed_on : List Report → List ℕ
handed_on t = joined (delivered t) 0 (suc (high t))

-- what is handed on at each position, from position 0 to the highest, not joined
unfoldable pub handed_by_position : List Report → List (List ℕ)
handed_by_position t = listed (delivered t) origin (suc (high t) - origin)

-- ---- what the program hands on

-- The program hands on the whole messages of a command, as a part of its bytes (crate receiver). Of these words they are all: nothing is left behind or marked as cut.
pub record AllHanded (class : Class) (ws : List ℕ) : Type 0 where
  pub words : handed_words class ws ≡ cond (hands class) ws []
  pub bytes : (b : List ℕ) → words_of b ≡ ws → length b ≡ 4 * length ws → handed_bytes class b ≡ cond (hands class) b []
  pub uncut : (b : List ℕ) → words_of b ≡ ws → handed_cut class b ≡ false
