-- What is refused hands back a stream that is not started.
use Rattle.stream.proofs.Answers.{start_refused}
use Rattle.stream.proofs.stream.DataStream.new.Goals as goal

pub returns-in-Err : goal.returns-in-Err
returns-in-Err c = start_refused _ _ _ _ _ _ _ _ c.not_started.ensures c.started.ensures c.in-Err.is
