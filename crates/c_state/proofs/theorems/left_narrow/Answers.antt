-- A window keeps its size, and a history that passes the state test is within its own.
use Rattle.c_state.proofs.Narrow.{start_narrow, words_narrow, stays_narrow}
use Rattle.c_state.proofs.theorems.left_narrow.Goals as goal

pub returns : goal.returns
returns c = record { start = start_narrow; words = words_narrow; calls = stays_narrow }
