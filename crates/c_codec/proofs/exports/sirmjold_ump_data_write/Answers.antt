-- The words are loaded, the command is written, and the words are stored.
use Rattle.c_codec.proofs.Writes.{written, not_written}
use Rattle.c_codec.proofs.exports.sirmjold_ump_data_write.Goals as goal

pub returns-then-p-eq2 : goal.returns-then-p-eq2
returns-then-p-eq2 c = written _ _ _ _ _ _ _ _ c.if-p-eq2.true c.load.ensures c.write-done.ensures c.store.ensures c.number.ensures

pub returns : goal.returns
returns c = not_written _ _ _ c.if-p-eq2.false
