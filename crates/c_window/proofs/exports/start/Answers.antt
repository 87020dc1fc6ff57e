-- By cases.
use Rattle.c_window.proofs.Windows.{started_window, started_refused}
use Rattle.c_window.proofs.exports.start.Goals as goal

pub store-requires : goal.store-requires
store-requires c = c.requires

pub returns-in-Ok : goal.returns-in-Ok
returns-in-Ok c = started_window c.args.started _ _ c.in-Ok.is _ c.store.ensures

pub returns-in-Err : goal.returns-in-Err
returns-in-Err c = started_refused c.args.started _ _ c.in-Err.is _ c.number.ensures
