-- The state is tested, and the rest is `tested::starting_at`.
use mathlib.Core.Path.{sym, ◌∙◌}
use Rattle.window.proofs.Validity.{valid_of_lem}
use Rattle.window.proofs.Answers.{changed_refused, changed_done}
use Rattle.window.proofs.window.ReceiveWindow.reset.Goals as goal

pub starting_at-fresh-requires : goal.starting_at-fresh-requires
starting_at-fresh-requires c =
    let v = valid_of_lem c.args.self (sym c.is_valid.ensures ∙ c.if-is_valid.true) in (v.some, v.most)

pub returns-then-is_valid : goal.returns-then-is_valid
returns-then-is_valid c =
    changed_done _ (sym c.is_valid.ensures ∙ c.if-is_valid.true) c.starting_at-fresh.ensures

pub returns : goal.returns
returns c = changed_refused _ (sym c.is_valid.ensures ∙ c.if-is_valid.false) _
