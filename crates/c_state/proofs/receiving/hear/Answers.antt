-- The state is tested, and then the call is made.
use mathlib.Core.Path.{sym, ◌∙◌}
use Rattle.c_state.proofs.Hearings.{heard_tested, heard_refused_lem}
use Rattle.c_state.proofs.receiving.hear.Goals as goal

pub hear_valid-requires : goal.hear_valid-requires
hear_valid-requires c = (c.requires.0, c.receiver_in-before.ensures, sym c.is_valid.ensures ∙ c.if-is_valid.true)

pub returns-then-is_valid : goal.returns-then-is_valid
returns-then-is_valid c = heard_tested _ _ _ _ _ c.receiver_in-before.ensures c.requires.1 (sym c.is_valid.ensures ∙ c.if-is_valid.true) _ c.hear_valid.ensures

pub returns : goal.returns
returns c = heard_refused_lem _ _ _ _ _ c.receiver_in-before.ensures c.requires.1 (sym c.is_valid.ensures ∙ c.if-is_valid.false) c.requires.0
