-- What is unprocessed lies in the window, so that its bit can be set.
use mathlib.Core.Path.{◌≡◌, sym, ◌∙◌}
use mathlib.Core.Bool.{false}
use native.Mathlib.Omega.{arith}
use Rattle.window.specs.Window.{processed}
use Rattle.window.proofs.Positions.{unprocessed_in}
use Rattle.window.proofs.Accepts.{behind_duplicate, behind_late}
use Rattle.window.proofs.arrival.accept_behind.Goals as goal
use Rattle.window.proofs.arrival.accept_behind.Goals.{Else-processed_at}

late : (c : Else-processed_at) → processed c.args.w c.distance-back.result ≡ false
late c = sym c.processed_at.ensures ∙ c.if-processed_at.false

pub returns-then-processed_at : goal.returns-then-processed_at
returns-then-processed_at c =
    behind_duplicate _ _ c.distance-back.ensures c.requires.1 (sym c.processed_at.ensures ∙ c.if-processed_at.true)

pub overflow_sub-back : goal.overflow_sub-back
overflow_sub-back c = let i = unprocessed_in _ _ (late (goal.at.overflow_sub-back c).Else-processed_at) in omega arith

pub with-requires : goal.with-requires
with-requires c = let i = unprocessed_in _ _ (late (goal.at.with-requires c).Else-processed_at) in omega arith

pub returns : goal.returns
returns c =
    behind_late _ _ c.distance-back.ensures c.requires.1 (late (goal.at.returns c).Else-processed_at) c.with.ensures
