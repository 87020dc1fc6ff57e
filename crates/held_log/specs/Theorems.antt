-- 02, 4/14: what holds of the held notes by the receiver's promise, whatever arrives, and by the contract sentence.
use Rattle.std.specs.Prelude.{ℕ, zero, suc, ◌≤◌, ◌<◌, ◌≡◌, ◌⊎◌, Bool, true, false, List, [], ◌++◌}
use Rattle.command.specs.Messages.{messages_of}
use Rattle.window.specs.Set.{max_window}
use Rattle.receiver_log.specs.Calls.{AllTyped}
use Rattle.receiver_log.specs.Calls as Chamber
use Rattle.receiver_log.specs.Log.{Report, reports, high, times, Missing}
use Rattle.receiver_log.specs.Promise.{log_of}
use Rattle.delivery.specs.Console.{accepted}
use Rattle.delivery.specs.Chamber.{delivered}
use Rattle.delivery.specs.Sentence.{Run, sent_log, heard_log, Holds}
use Rattle.held_notes.specs.Calls.{messages, held_through, Call, held_in}
use Rattle.held_log.specs.Log.{since}

-- ---- played in order

-- the note is held after these messages, played in order by someone who holds it or not before
abbrev pub leaves_held : ℕ → ℕ → Bool → List (List ℕ) → Bool
leaves_held g k held ms = held_through g k held (messages true ms)

-- the whole messages of these words
abbrev pub whole_in : List ℕ → List (List ℕ)
whole_in ws = (messages_of ws).whole

-- the messages that are handed on at a place, and at n places from x on, in order
abbrev pub handed_at : List Report → ℕ → List (List ℕ)
handed_at t x = whole_in (delivered t x)

abbrev pub in_order : (ℕ → List (List ℕ)) → ℕ → ℕ → List (List ℕ)
in_order f x zero = []
in_order f x (suc n) = f x ++ in_order f (suc x) n

-- ---- whatever arrives

-- its on was handed on at a place, and each place above it, up to the highest, was handed on without releasing it or is still missing
pub record Unreleased (W g k : ℕ) (t : List Report) : Type 0 where
  pub place : ℕ
  pub reached : place ≤ high t
  pub on : leaves_held g k false (handed_at t place) ≡ true
  pub above : (x : ℕ) → place < x → x ≤ high t → ((times t x ≡ 1) × (leaves_held g k true (handed_at t x) ≡ true)) ⊎ Missing W t x

-- No held note's release is known lost.
abbrev pub HeldUnreleased : Type 0
HeldUnreleased =
    (W g k : ℕ) → 1 ≤ W → W ≤ max_window → (calls : List Chamber.Call) → AllTyped calls → (before : List Call)
    → held_in g k (since (log_of W calls) before) ≡ true → Unreleased W g k (reports (log_of W calls))

-- Each held note is one that the messages handed on, taken in order of position, leave held.
abbrev pub HeldHandedOn : Type 0
HeldHandedOn =
    (W g k : ℕ) → 1 ≤ W → W ≤ max_window → (calls : List Chamber.Call) → AllTyped calls → (before : List Call)
    → held_in g k (since (log_of W calls) before) ≡ true
    → leaves_held g k false (in_order (handed_at (reports (log_of W calls))) 0 (suc (high (reports (log_of W calls))))) ≡ true

-- ---- under demand 3's premises

-- Each held note is one that the accepted messages, taken in order of position, leave held: no pipe sounds on.
abbrev pub HeldAccepted : Type 0
HeldAccepted =
    (g k : ℕ) (u : Run) → Holds u → (before : List Call) → held_in g k (since (heard_log u) before) ≡ true
    → leaves_held g k false (whole_in (accepted (sent_log u))) ≡ true
