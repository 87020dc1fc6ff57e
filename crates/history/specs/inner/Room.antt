-- What making room leaves.
use Rattle.std.specs.Prelude.{◌≡◌, ℕ, ◌-◌, ◌≤◌, List}
use Rattle.history.specs.Push.{popped}
use Rattle.history.specs.State.{Good}
use Rattle.history.specs.declared.history.SendHistory.{SendHistory}

-- a good state in which the words are free
pub record Freed (k need : ℕ) (h : SendHistory) (b : List ℕ) (r : SendHistory) : Type 0 where
  pub same : r ≡ popped k need b h
  pub good : Good r b
  pub free : need ≤ r.size - r.used
  pub few : r.count ≤ r.used
