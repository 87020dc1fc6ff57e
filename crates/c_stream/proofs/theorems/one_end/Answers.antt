-- The words of one end are a part of all.
use Rattle.c_stream.proofs.Ends.{other_end, whole_stream}
use Rattle.c_stream.proofs.theorems.one_end.Goals as goal

pub returns : goal.returns
returns c = record { other = other_end; whole = whole_stream }
