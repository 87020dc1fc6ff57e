-- What the loops ask of a state, and adding a word and taking one away of figures.
use Rattle.std.specs.Prelude.{ℕ, ◌%◌, ◌≤◌, ◌<◌, ◌≡◌, List, length}
use Rattle.loss_sheet.specs.Figures.{is_of}
use Rattle.loss_sheet.specs.declared.figures.Figures.{Figures}
use Rattle.loss_sheet.specs.declared.sheet.Sheet.{Sheet}

-- a state that passes the tests
pub record Good (s : Sheet) (b : List ℕ) : Type 0 where
  pub ring : length b ≡ s.n
  pub most : s.n ≤ 4096
  pub inside : s.head < s.n
  pub room : s.len ≤ s.n
  pub first : s.len < s.n → s.head ≡ 0

-- no more than 4,096 words have these figures
pub record Few (f : Figures) : Type 0 where
  pub new : f.new ≤ 4096
  pub late : f.late ≤ 4096
  pub duplicate : f.duplicate ≤ 4096
  pub lost : f.lost ≤ 268431360

-- the word is among theirs
pub record Within (f : Figures) (w : ℕ) : Type 0 where
  pub new : is_of 0 w ≤ f.new
  pub late : is_of 1 w ≤ f.late
  pub duplicate : is_of 2 w ≤ f.duplicate
  pub lost : w % 65536 ≤ f.lost
