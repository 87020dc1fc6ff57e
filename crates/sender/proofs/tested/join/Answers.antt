-- No words change nothing; others are the history's business.
use Prim.Native.Nat.{◌<◌}
use lib.ListN.{length}
use mathlib.Core.Path.{◌∙◌}
use native.Mathlib.Omega.{arith}
use Rattle.sender.proofs.Queued.{joined_none, joined_some}
use Rattle.sender.proofs.tested.join.Goals as goal

pub returns-then-words-eq0 : goal.returns-then-words-eq0
returns-then-words-eq0 c = joined_none _ _ _ c.if-words-eq0.true

pub append_to_last-requires : goal.append_to_last-requires
append_to_last-requires c =
    let some : 0 < length c.args.words.now = omega arith in
    (c.requires.0, (c.requires.1 some).0, (c.requires.1 some).1)

pub returns : goal.returns
returns c =
    c.append_to_last.ensures ∙ joined_some _ _ _ c.if-words-eq0.false
