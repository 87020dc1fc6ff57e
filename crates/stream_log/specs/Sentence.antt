-- Demand 3 of two streams, a console's and a chamber's, each also an end of the line back. (Crate delivery says it of a sender and a receiver.)
use Rattle.std.specs.Prelude.{ℕ, ◌≡◌, ◌↔◌, List, [], ◌∷◌, ◌++◌, length}
use Rattle.receiver_log.specs.Calls as Receiver
use Rattle.receiver_log.specs.Log.{Report, reports}
use Rattle.receiver_log.specs.Promise.{log_of, Promise}
use Rattle.delivery.specs.Commands.{Command, data_of}
use Rattle.delivery.specs.Chamber.{handed_on, handed_by_position}
use Rattle.delivery.specs.Console.{Lent, bytes, Entry, log_from, fresh_console, accepted, positions, Was}
use Rattle.delivery.specs.Performance.{SamePerformance}
use Rattle.delivery.specs.Sentence.{Run, sent_log, heard_log, Line, Premises, Safe, ByPosition, Copy}
use Rattle.delivery.specs.Repeats.{RepeatsOnly, AllHandedOn}
use Rattle.stream_log.specs.Ends.{ends_of}
use Rattle.stream_log.specs.Console.{End, run_of}

-- the logs of an end: of its sender with the payloads, and of its receiver
abbrev pub sent_by : End → List Entry
sent_by e = log_from (fresh_console e.words e.places e.ring₀) [] (run_of e).sent

abbrev pub heard_by : End → List Receiver.Entry
heard_by e = log_of e.window (ends_of e.window (run_of e).called).received

abbrev pub reports_by : End → List Report
reports_by e = reports (heard_by e)

-- ---- a line from one stream to another

pub record Pair : Type 0 where
  pub console : End
  pub chamber : End

-- it is a run of crate delivery's: what is proved of those holds of streams
pub record RunIs (u : Pair) (r : Run) : Type 0 where
  pub sent : sent_log r ≡ sent_by u.console
  pub window : r.window ≡ u.chamber.window
  pub heard : heard_log r ≡ heard_by u.chamber

-- the premises of the first sentence
abbrev pub Holds : Pair → Type 0
Holds u = (ps : List ℕ) × Premises u.chamber.window (sent_by u.console) (heard_by u.chamber) ps

-- both sentences
pub record StreamSentence : Type 0 where
  pub runs : (u : Pair) → (r : Run) × RunIs u r
  pub copies : (e : End) (k : ℕ) (v : Lent) → Was (sent_by e) k v → (before behind : List Command) (c : Command) → data_of (bytes v) ≡ before ++ (c ∷ behind)
      → Copy (sent_by e) k (length before) c
  pub safe : (u : Pair) (ps : List ℕ) → Line (sent_by u.console) (heard_by u.chamber) ps → Safe (positions (sent_by u.console)) (reports_by u.chamber)
  pub by_position : (u : Pair) → Holds u → ByPosition (positions (sent_by u.console)) (reports_by u.chamber)
  pub joined : (u : Pair) → Holds u → handed_on (reports_by u.chamber) ≡ accepted (sent_by u.console)
  pub equal : (u v : Pair) → Holds u → Holds v
      → (accepted (sent_by u.console) ≡ accepted (sent_by v.console)) ↔ (handed_on (reports_by u.chamber) ≡ handed_on (reports_by v.chamber))
  pub listed : (u : Pair) → Holds u → handed_by_position (reports_by u.chamber) ≡ positions (sent_by u.console)
  pub equal_by_position : (u v : Pair) → Holds u → Holds v
      → (positions (sent_by u.console) ≡ positions (sent_by v.console)) ↔ (handed_by_position (reports_by u.chamber) ≡ handed_by_position (reports_by v.chamber))
  -- 02, 13/14: the same performance
  pub performances : (u v : Pair) → Holds u → Holds v
      → SamePerformance (sent_by u.console) (sent_by v.console) ↔ (handed_by_position (reports_by u.chamber) ≡ handed_by_position (reports_by v.chamber))
  -- 02, 14/14: what repeats alone guarantee
  pub repeats_alone : (u : Pair) (R : ℕ) → RepeatsOnly R (sent_by u.console) (heard_by u.chamber) → AllHandedOn (positions (sent_by u.console)) (reports_by u.chamber)
  pub second : (e : End) → Promise e.window (reports_by e)
