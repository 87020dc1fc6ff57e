-- Two notes in a list, and an on followed by a command that is answered Duplicate or Late, computed.
use Rattle.std.specs.Prelude.{ℕ, ◌^◌, ◌≡◌, Bool, true, false, List, [], ◌∷◌, take, drop, replicate, None, Ok}
use Rattle.window.specs.declared.window.Class.{Class}
use Rattle.window.specs.declared.window.Class.TheVariants.{New, Late, Duplicate}
use Rattle.held_notes.specs.Answers.{list_of}
use Rattle.held_notes.specs.Calls.{Call, delivered, held_in}

-- the notes 60 of channel 0 and 67 of channel 1
abbrev pub two_held : List ℕ
two_held = 2 ^ 60 ∷ 0 ∷ 0 ∷ 2 ^ 3 ∷ replicate 28 0

-- a command with number 0, with no gap and no loss
abbrev pub answered : Class → List ℕ → Call
answered class ws = delivered (Ok record { seq = 0; class = class; gap = None; lost = None }) ws

-- whether note 60 of group 0 is held after its on, and then its release in a command that is answered so
abbrev pub held_after_release : Class → Bool
held_after_release class = held_in 0 60 (answered class (0x20803C00 ∷ []) ∷ answered (New 0) (0x20903C40 ∷ []) ∷ [])

pub record HeldCases : Type 0 where
  -- they come first, by channel, then note, and the rest is 0
  pub count : (list_of two_held).count ≡ 2
  pub first : take 2 (list_of two_held).items ≡ (60 ∷ 195 ∷ [])
  pub rest : drop 2 (list_of two_held).items ≡ replicate 2046 0
  -- a Late release counts, and a Duplicate is not played
  pub late : held_after_release Late ≡ false
  pub duplicate : held_after_release Duplicate ≡ true
