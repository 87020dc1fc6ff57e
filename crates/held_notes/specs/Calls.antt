-- 02, 4/14: what is held after a list of calls: deliveries, events and restarts, as the stream answered them. Newest first.
use Rattle.std.specs.Prelude.{ℕ, Bool, true, false, cond, ◌&&◌, List, [], ◌∷◌, ◌++◌, Option, Some, None, Result, Ok, Err}
use Rattle.config.specs.declared.refusal.Refusal.{Refusal}
use Rattle.receiver.specs.declared.receiver.Delivery.{Delivery}
use Rattle.window.specs.declared.window.SeqRange.{SeqRange}
use Rattle.command.specs.Messages.{messages_of}
use Rattle.window.specs.declared.window.Class.{Class}
use Rattle.window.specs.declared.window.Class.TheVariants.{New, Late, Duplicate}
use Rattle.receiver.specs.declared.receiver.StreamEvent.{StreamEvent}
use Rattle.receiver_log.specs.Log.{loss_in}
use Rattle.notes.specs.Notes.{on_for, off_for}

-- ---- moments

pub data Moment : Type 0 where
  -- a loss is reported, or the stream restarts
  silence : Moment
  -- a message is handed on: whether with a New command, and its words
  message : Bool → List ℕ → Moment

-- whether the note k of group g is held after a moment: a message that isn't New releases but never holds
unfoldable pub held_after : ℕ → ℕ → Bool → Moment → Bool
held_after g k held silence = false
held_after g k held (message new m) = cond (off_for g k m) false (cond (new && on_for g k m) true held)

-- after moments in order of time
abbrev pub held_through : ℕ → ℕ → Bool → List Moment → Bool
held_through g k held [] = held
held_through g k held (m ∷ ms) = held_through g k (held_after g k held m) ms

-- ---- calls

pub data Call : Type 0 where
  -- the receiver's answer to a data command, and the command's words
  delivered : Result Delivery Refusal → List ℕ → Call
  -- its answer to a poll, a Retransmit Error or a NAK
  told : Result (Option StreamEvent) Refusal → Call
  restarted : Call

abbrev pub silenced : Option SeqRange → List Moment
silenced None = []
silenced (Some range) = silence ∷ []

abbrev pub messages : Bool → List (List ℕ) → List Moment
messages new [] = []
messages new (m ∷ ms) = message new m ∷ messages new ms

-- the whole messages of a command, when it is answered New or Late
abbrev pub handed : Class → List (List ℕ) → List Moment
handed (New gap) ms = messages true ms
handed Late ms = messages false ms
handed Duplicate ms = []

-- a loss reported with a delivery counts before its messages; a refused command is not handed on
abbrev pub moments_of : Call → List Moment
moments_of (delivered (Ok d) ws) = silenced d.lost ++ handed d.class (messages_of ws).whole
moments_of (delivered (Err why) ws) = []
moments_of (told e) = silenced (loss_in e)
moments_of restarted = silence ∷ []

-- all moments, in order of time
abbrev pub moments_in : List Call → List Moment
moments_in [] = []
moments_in (c ∷ t) = moments_in t ++ moments_of c

-- whether the note k of group g is held; at the start none is
abbrev pub held_in : ℕ → ℕ → List Call → Bool
held_in g k [] = false
held_in g k (c ∷ t) = held_through g k (held_in g k t) (moments_of c)
