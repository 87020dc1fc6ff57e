-- A payload opens exactly when it is signed.
use mathlib.Core.Path.{sym, ◌∙◌}
use borrow.Author.Tests.{eq-eqb, ne_eqb}
use Rattle.read_command.proofs.Found.{opened_signed, refused_unsigned}
use Rattle.read_command.proofs.next.opens.Goals as goal

pub returns-in-Ok : goal.returns-in-Ok
returns-in-Ok c =
    let e = opened_signed _ _ (sym c.command_packets.ensures ∙ c.in-Ok.is) in
    rw (eq-eqb _ 0 c.if-at-eq0.true, e)

pub returns-in-Err : goal.returns-in-Err
returns-in-Err c =
    let e = refused_unsigned _ _ (sym c.command_packets.ensures ∙ c.in-Err.is) in
    rw (eq-eqb _ 0 c.if-at-eq0.true, e)

pub returns : goal.returns
returns c = rw (ne_eqb _ 0 c.if-at-eq0.false)
