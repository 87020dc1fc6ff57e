-- 02, 14/14: what repeats alone guarantee, to houses without a return cable. Both ends start fresh and no history is shared, as in demand 3 (`Run`).
use Rattle.std.specs.Prelude.{ℕ, zero, suc, ◌+◌, ◌-◌, ◌≤◌, ◌<◌, min, ◌≡◌, cond, List, [], ◌∷◌, ◌++◌, eqb, length, get_or, Ok, Err}
use Rattle.window.specs.declared.window.Class.{Class}
use Rattle.window.specs.declared.window.Class.TheVariants.{New}
use Rattle.receiver_log.specs.Calls.{Entry as Heard, data_entry, poll_entry, error_entry, nak_entry, take_entry}
use Rattle.receiver_log.specs.Log.{Report, heard, told, origin, place, high, hands}
use Rattle.delivery.specs.Commands.{Command, data_of}
use Rattle.delivery.specs.Positions.{numbered}
use Rattle.delivery.specs.Console.{Lent, bytes, Entry, queued, wrote, stood, noted, held, added, positions, Was}
use Rattle.delivery.specs.Chamber.{handed_by_position}
use Rattle.delivery.specs.Sentence.{NoLoss, ByPosition, Run, sent_log, heard_log, heard_in}

-- ---- what each written payload holds

-- n commands from position p on
abbrev pub commands_from : List (List ℕ) → ℕ → ℕ → List Command
commands_from C p zero = []
commands_from C p (suc n) = numbered p (get_or C p []) ∷ commands_from C (suc p) n

-- the last R, oldest first, or all where these are fewer
abbrev pub last_of : ℕ → List (List ℕ) → List Command
last_of R C = commands_from C (length C - R) (min R (length C))

-- a write, after those that wrote the positions C
pub data Brought (R : ℕ) (C : List (List ℕ)) (u v : Lent) : Type 0 where
  -- adds no data command
  nothing : added u v ≡ [] → Brought R C u v
  -- or finds a payload with none, and leaves it with the last R and one new command, of any words
  one : held u ≡ 0 → (ws : List ℕ) → data_of (bytes v) ≡ last_of R C ++ (numbered (length C) ws ∷ []) → Brought R C u v

-- Each written payload brings exactly one new command and holds, oldest first, all of the last R written before it, or all written where these are fewer,
-- with no retransmits or other data commands.
abbrev pub Brings : ℕ → List Entry → Type 0
Brings R [] = Unit {0}
Brings R (queued cfg ws a ∷ t) = Brings R t
Brings R (wrote k u v a ∷ t) = Brought R (positions t) u v × Brings R t
Brings R (stood k v ∷ t) = Brings R t
Brings R (noted ∷ t) = Brings R t

-- the names of the written payloads, in order: those to which a write added a data command
abbrev pub written_payloads : List Entry → List ℕ
written_payloads [] = []
written_payloads (queued cfg ws a ∷ t) = written_payloads t
written_payloads (wrote k u v a ∷ t) = cond (eqb (length (added u v)) 0) (written_payloads t) (written_payloads t ++ (k ∷ []))
written_payloads (stood k v ∷ t) = written_payloads t
written_payloads (noted ∷ t) = written_payloads t

-- ---- what arrives

-- the written payload j, from 0 on, was v at some moment after its write: when it held a data command
pub record SentAs (t : List Entry) (j : ℕ) (v : Lent) : Type 0 where
  pub is_written : j < length (written_payloads t)
  pub was_so : Was t (get_or (written_payloads t) j 0) v
  pub since : 0 < held v

-- Payloads arrive unchanged and in order, perhaps repeated straight after themselves, and no more than R in a row are lost: how many of the written ones
-- have gone by, and the data commands that reading those that arrived finds, in order.
pub data Arrives (R : ℕ) (t : List Entry) : ℕ → List Command → Type 0 where
  none : Arrives R t 0 []
  -- one arrives, after some that are lost
  next : {n : ℕ} {cs : List Command} → Arrives R t n cs → (lost : ℕ) → lost ≤ R
      → (v : Lent) → SentAs t (n + lost) v → Arrives R t (suc (n + lost)) (cs ++ data_of (bytes v))
  -- the one that arrived last arrives again
  again : {j : ℕ} {cs : List Command} → Arrives R t (suc j) cs
      → (v : Lent) → SentAs t j v → Arrives R t (suc j) (cs ++ data_of (bytes v))

-- the data commands that the receiver is given and does not refuse, in order
abbrev pub heard_commands : List Heard → List Command
heard_commands [] = []
heard_commands (data_entry s time seq ws (Ok d) ∷ q) = heard_commands q ++ (record { number = seq; words = ws } ∷ [])
heard_commands (data_entry s time seq ws (Err why) ∷ q) = heard_commands q
heard_commands (poll_entry s time e ∷ q) = heard_commands q
heard_commands (error_entry r e ∷ q) = heard_commands q
heard_commands (nak_entry e ∷ q) = heard_commands q
heard_commands (take_entry s p b a r c ∷ q) = heard_commands q

-- ---- premises

pub record RepeatsOnly (R : ℕ) (t : List Entry) (q : List Heard) : Type 0 where
  pub brings : Brings R t
  -- the receiver is given data commands only from the payloads that arrive
  pub gone : ℕ
  pub arrives : Arrives R t gone (heard_commands q)
  -- the last arrives
  pub last : gone ≡ length (written_payloads t)

-- ---- conclusion

-- what is handed on, in order of time: place, class and words of each heard command that is answered New or Late
pub record Handed : Type 0 where
  pub at : ℕ
  pub class : Class
  pub words : List ℕ

abbrev pub handed : List Report → List Handed
handed [] = []
handed (heard seq ws c l ∷ t) = cond (hands c) (handed t ++ (record { at = place (high t) seq; class = c; words = ws } ∷ [])) (handed t)
handed (told l ∷ t) = handed t

-- each command in order, none of them Late and none with a gap, from position p on
abbrev pub each_in_order : ℕ → List (List ℕ) → List Handed
each_in_order p [] = []
each_in_order p (ws ∷ C) = record { at = origin + p; class = New 0; words = ws } ∷ each_in_order (suc p) C

pub record AllHandedOn (C : List (List ℕ)) (t : List Report) : Type 0 where
  pub in_order : handed t ≡ each_in_order 0 C
  pub no_loss : NoLoss t
  -- so what is handed on is what was written, position by position
  pub by_position : ByPosition C t
  pub listed : handed_by_position t ≡ C

-- ---- the sentence

abbrev pub RepeatsAlone : Type 0
RepeatsAlone = (u : Run) (R : ℕ) → RepeatsOnly R (sent_log u) (heard_log u) → AllHandedOn (positions (sent_log u)) (heard_in u)
