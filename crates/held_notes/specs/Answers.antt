-- What the calls answer.
use Rattle.std.specs.Prelude.{ℕ, ◌-◌, ◌≡◌, Bool, true, false, cond, List, [], ◌++◌, ltb, length, replicate, Option, Some, None, Ok, Err}
use Rattle.window.specs.declared.window.SeqRange.{SeqRange}
use Rattle.config.specs.declared.refusal.Refusal.TheVariants.{SizeNotAllowed}
use Rattle.receiver_log.specs.Log.{loss_in}
use Rattle.held_notes.specs.Calls.{Moment, held_through, Call, delivered, told, restarted, moments_of}
use Rattle.held_notes.specs.State.{all_notes, has, set_of, notes_below, Leads}
use Rattle.held_notes.specs.declared.listing.Notes.{Notes}
use Rattle.held_notes.specs.declared.held.HeldNotes.{HeldNotes}
use Rattle.held_notes.specs.declared.held.Given.{Given}

-- ---- notes by value

-- they come first, the rest is 0
abbrev pub notes_of : List ℕ → Notes
notes_of ns = record { count = length ns; items = ns ++ replicate (all_notes - length ns) 0 }

-- all held notes, by channel, then note, each once
unfoldable pub list_of : List ℕ → Notes
list_of held = notes_of (notes_below (has held) all_notes)

-- ---- one call

-- a loss is reported
abbrev pub is_loss : Option SeqRange → Bool
is_loss None = false
is_loss (Some range) = true

-- a reported loss or a restart
abbrev pub silences : Call → Bool
silences (delivered (Ok d) ws) = is_loss d.lost
silences (delivered (Err why) ws) = false
silences (told e) = is_loss (loss_in e)
silences restarted = true

-- all that were held are given, or none
unfoldable pub given_by : Bool → List ℕ → Notes
given_by silenced held = cond silenced (list_of held) (notes_of [])

-- the group stays, each note is held as the call's moments leave it, and on a loss or a restart all that were held are given
unfoldable pub done_of : HeldNotes → Call → Given
done_of s call = record {
  state = record { group = s.group; held = set_of (λ (k : ℕ). held_through s.group k (has s.held k) (moments_of call)) };
  notes = given_by (silences call) s.held;
  answer = Ok tt;
}

-- 12, and nothing is changed or given
unfoldable pub refused_of : HeldNotes → Given
refused_of s = record { state = s; notes = notes_of []; answer = Err SizeNotAllowed }

-- 12 when the group is above 15
unfoldable pub answer_of : HeldNotes → Call → Given
answer_of s call = cond (ltb 15 s.group) (refused_of s) (done_of s call)

-- ---- a start

abbrev pub none_held : ℕ → HeldNotes
none_held g = record { group = g; held = replicate 32 0 }

-- 12 when the group is above 15
unfoldable pub start_of : ℕ → Given
start_of g = cond (ltb 15 g) (refused_of (none_held g)) (record { state = none_held g; notes = notes_of []; answer = Ok tt })

-- ---- parts of a call

-- moments in order of time lead on from a state
pub record Follows (s : HeldNotes) (silenced : Bool) (ms : List Moment) (r : Given) : Type 0 where
  pub group : r.state.group ≡ s.group
  pub held : Leads s.group ms s.held r.state.held
  pub notes : r.notes ≡ given_by silenced s.held
  pub answer : r.answer ≡ Ok tt

-- moments in order of time lead on from what was given already: no further note is given
pub record Plays (s : Given) (ms : List Moment) (r : Given) : Type 0 where
  pub group : r.state.group ≡ s.state.group
  pub held : Leads s.state.group ms s.state.held r.state.held
  pub notes : r.notes ≡ s.notes
  pub answer : s.answer ≡ Ok tt → r.answer ≡ Ok tt
