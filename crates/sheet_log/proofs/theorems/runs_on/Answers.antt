-- What every call keeps holds after all of them.
use Rattle.sheet_log.proofs.Kept.{kept_ok, holds_started, answers_on}
use Rattle.sheet_log.proofs.Afresh.{writes_afresh}
use Rattle.sheet_log.proofs.Left.{reached}
use Rattle.sheet_log.proofs.theorems.runs_on.Goals as goal

pub returns : goal.returns
returns c =
    record {
      passes = λ n cs h t. kept_ok _ _ (holds_started n cs h t).kept;
      answers = answers_on;
      writes = writes_afresh;
      reached = reached;
    }
