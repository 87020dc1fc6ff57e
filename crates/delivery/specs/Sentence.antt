-- Demand 3. First sentence: if all that was accepted is written, the sender's newest position, if any, is heard, no loss is reported and nothing is missing, then what
-- is handed on, joined in order of command position, is the accepted message list. Second sentence: crate receiver_log.
use Rattle.std.specs.Prelude.{ℕ, ◌+◌, ◌-◌, ◌%◌, ◌≤◌, ◌<◌, max, ◌≡◌, false, ◌⊎◌, ◌↔◌, length, get_or, None, Ok}
use mathlib.Core.List.{List, [], ◌∷◌, ◌++◌, Memᴰ}
use Rattle.config.specs.Sequence.{turn}
use Rattle.config.specs.declared.settings.StreamConfig.{StreamConfig}
use Rattle.window.specs.Set.{max_window}
use Rattle.window.specs.Arrival.{reach}
use Rattle.window.specs.declared.window.Class.{Class}
use Rattle.receiver.specs.declared.receiver.Delivery.{Delivery}
use Rattle.receiver_log.specs.Calls.{Entry as Heard, data_entry, AllTyped}
use Rattle.receiver_log.specs.Calls as Chamber
use Rattle.receiver_log.specs.Log.{Report, reports, loss_of, origin, high, times, Missing}
use Rattle.receiver_log.specs.Promise.{log_of, ReceiverPromise}
use Rattle.sender.specs.Answers.{new_answer}
use Rattle.command.specs.Messages.{words_in}
use Rattle.delivery.specs.Commands.{Command, data_of}
use Rattle.delivery.specs.Console.{Lent, bytes, Call, Entry, log_from, fresh_console, AllAllowed, accepted, written, positions, position_of, Was}
use Rattle.delivery.specs.Performance.{SamePerformance}
use Rattle.delivery.specs.Chamber.{is_heard, delivered, handed_on, handed_by_position, AllHanded}

-- ---- the line

-- the highest of the sender's positions heard so far, as a place: position -1 when fresh
abbrev pub highest : List ℕ → ℕ
highest [] = origin - 1
highest (p ∷ ps) = max (highest ps) (origin + p)

-- The line between a console's log and a chamber's, with the sender's positions heard, newest first. Each command heard is found by reading the bytes that some payload
-- had at some moment: whole payloads, unchanged, but any payload, any moment, any of its data commands, any number of times, in any order.
pub data Line (t : List Entry) : List Heard → List ℕ → Type 0 where
  fresh : Line t [] []
  hear : {q : List Heard} {ps : List ℕ} → Line t q ps
      → (k : ℕ) (v : Lent) → Was t k v
      → (before behind : List Command) (c : Command) → data_of (bytes v) ≡ before ++ (c ∷ behind)
      -- by the sender's positions, not over 32,767 ahead of nor 32,768 behind the highest heard
      → (p : ℕ) → p ≡ position_of (written t) k (length before)
      → origin + p ≤ highest ps + reach → highest ps ≤ origin + p + (reach + 1)
      → (cfg : StreamConfig) (time : ℕ) (d : Delivery)
      → Line t (data_entry cfg time c.number c.words (Ok d) ∷ q) (p ∷ ps)
  -- any other call, and a data command that is refused, from wherever it came
  pass : {q : List Heard} {ps : List ℕ} → Line t q ps → (e : Heard) → is_heard e ≡ false → Line t (e ∷ q) ps

-- ---- premises

-- no answer reports a loss
abbrev pub NoLoss : List Report → Type 0
NoLoss [] = Unit {0}
NoLoss (r ∷ t) = (loss_of r ≡ None) × NoLoss t

pub record Premises (W : ℕ) (t : List Entry) (q : List Heard) (ps : List ℕ) : Type 0 where
  pub line : Line t q ps
  -- all is written when the positions hold as many words as were accepted
  pub all_written : length (words_in (positions t)) ≡ length (accepted t)
  -- the sender's newest position, if any, is heard
  pub newest_heard : 0 < length (positions t) → Memᴰ (length (positions t) - 1) ps
  pub no_loss : NoLoss (reports q)
  pub nothing_missing : (x : ℕ) → Missing W (reports q) x → ⊥

-- ---- conclusions

-- on the line alone, whatever is lost or missing: what is handed on at a position is what the sender wrote there, and once at most
pub record Safe (C : List (List ℕ)) (t : List Report) : Type 0 where
  pub once : (p : ℕ) → p < length C → times t (origin + p) ≤ 1
  pub same : (p : ℕ) → p < length C → times t (origin + p) ≡ 1 → delivered t (origin + p) ≡ get_or C p []
  pub nowhere_else : (x : ℕ) → (x < origin) ⊎ (origin + length C ≤ x) → times t x ≡ 0

-- the strong form, position by position
pub record ByPosition (C : List (List ℕ)) (t : List Report) : Type 0 where
  -- the receiver's highest position is the sender's newest, -1 if there is none
  pub top : high t ≡ origin - 1 + length C
  -- each position is handed on exactly once, with the words that the sender wrote there
  pub once : (p : ℕ) → p < length C → times t (origin + p) ≡ 1
  pub same : (p : ℕ) → p < length C → delivered t (origin + p) ≡ get_or C p []
  -- and nothing is handed on anywhere else
  pub nowhere_else : (x : ℕ) → (x < origin) ⊎ (origin + length C ≤ x) → times t x ≡ 0

-- ---- a run

-- any fresh sender, any fresh receiver, any lists of calls; nothing is reset or started again
pub record Run : Type 0 where
  pub words : ℕ
  pub places : ℕ
  pub ring₀ : List ℕ
  pub started : (new_answer words places ring₀).0.answer ≡ Ok tt
  pub calls : List Call
  pub allowed : AllAllowed calls
  pub window : ℕ
  pub least : 1 ≤ window
  pub most : window ≤ max_window
  pub arrivals : List Chamber.Call
  pub typed : AllTyped arrivals

abbrev pub sent_log : Run → List Entry
sent_log u = log_from (fresh_console u.words u.places u.ring₀) [] u.calls

abbrev pub heard_log : Run → List Heard
heard_log u = log_of u.window u.arrivals

abbrev pub heard_in : Run → List Report
heard_in u = reports (heard_log u)

abbrev pub Holds : Run → Type 0
Holds u = (ps : List ℕ) × Premises u.window (sent_log u) (heard_log u) ps

-- ---- the sentence

-- the i-th data command of payload k is a copy that a write of this sender added: it has the number of its position and the words that the sender wrote there
pub record Copy (t : List Entry) (k i : ℕ) (c : Command) : Type 0 where
  pub added : Memᴰ (record { payload = k; index = i; what = c }) (written t)
  pub below : position_of (written t) k i < length (positions t)
  pub number : c.number ≡ position_of (written t) k i % turn
  pub words : c.words ≡ get_or (positions t) (position_of (written t) k i) []
  -- and whatever it is answered, the program hands on all of its words or none
  pub all_handed : (class : Class) → AllHanded class c.words

pub record Sentence : Type 0 where
  -- whatever payload is read, at whatever moment: each data command in it is a copy
  pub copies : (u : Run) (k : ℕ) (v : Lent) → Was (sent_log u) k v → (before behind : List Command) (c : Command) → data_of (bytes v) ≡ before ++ (c ∷ behind)
      → Copy (sent_log u) k (length before) c
  pub safe : (u : Run) (ps : List ℕ) → Line (sent_log u) (heard_log u) ps → Safe (positions (sent_log u)) (heard_in u)
  pub by_position : (u : Run) → Holds u → ByPosition (positions (sent_log u)) (heard_in u)
  pub joined : (u : Run) → Holds u → handed_on (heard_in u) ≡ accepted (sent_log u)
  pub equal : (u v : Run) → Holds u → Holds v → (accepted (sent_log u) ≡ accepted (sent_log v)) ↔ (handed_on (heard_in u) ≡ handed_on (heard_in v))
  pub listed : (u : Run) → Holds u → handed_by_position (heard_in u) ≡ positions (sent_log u)
  pub equal_by_position : (u v : Run) → Holds u → Holds v
      → (positions (sent_log u) ≡ positions (sent_log v)) ↔ (handed_by_position (heard_in u) ≡ handed_by_position (heard_in v))
  -- 02, 13/14: two performances are equal exactly when what their receivers hand on is equal position by position; `equal` is the old wording, which looks past the division
  pub performances : (u v : Run) → Holds u → Holds v
      → SamePerformance (sent_log u) (sent_log v) ↔ (handed_by_position (heard_in u) ≡ handed_by_position (heard_in v))

-- both sentences
pub record Contract : Type 0 where
  pub first : Sentence
  pub second : ReceiverPromise

-- ---- what the program hands on

-- of each command heard on the line, all of its words or, of a Duplicate, none
abbrev pub HandedWords : Type 0
HandedWords =
    (u : Run) (ps : List ℕ) → Line (sent_log u) (heard_log u) ps
    → (cfg : StreamConfig) (time seq : ℕ) (ws : List ℕ) (d : Delivery) → Memᴰ (data_entry cfg time seq ws (Ok d)) (heard_log u) → AllHanded d.class ws
