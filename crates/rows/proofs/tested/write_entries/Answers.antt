use mathlib.Core.Path.{◌≡◌, refl, ◌∙◌}
use native.Mathlib.Nat.{sub-zero}
use native.Mathlib.Omega.{arith}
use Rattle.rows.proofs.Packets.{short_first}
use Rattle.rows.proofs.Filling.{also_none, one_valid, one_length, entries_done, entries_stop, entries_short, entries_end}
use Rattle.rows.proofs.tested.write_entries.Goals as goal

pub loop-n-init : goal.loop-n-init
loop-n-init c = (c.requires.1.inside, rw sub-zero c.requires.1.short, c.requires.0, refl, rw sub-zero (also_none _))

pub write_entry-wrote-requires : goal.write_entry-wrote-requires
write_entry-wrote-requires c =
    (c.loop-n.invariant.2, c.loop-n.invariant.0, c.requires.1.least, c.requires.1.most, (short_first _ _ _ (omega arith) c.loop-n.invariant.1).0)

pub shape_of-buf-in-Err : goal.shape_of-buf-in-Err
shape_of-buf-in-Err c = one_length _ _ _ _ _ c.write_entry-wrote.ensures ∙ c.loop-n.invariant.3

pub returns-in-Err : goal.returns-in-Err
returns-in-Err c =
    entries_stop _ _ _ _ _ _ _ _ c.write_entry-wrote.ensures c.loop-n-test.true _ _ c.in-Err.is c.loop-n.invariant.4

pub next_index-i-requires : goal.next_index-i-requires
next_index-i-requires c =
    (c.loop-n.invariant.0, c.requires.1.least, c.requires.1.most, (short_first _ _ _ (omega (arith, c.loop-n-test.true)) c.loop-n.invariant.1).0)

pub loop-n-preserved : goal.loop-n-preserved
loop-n-preserved c = (
  c.next_index-i.ensures.1,
  entries_short _ _ _ _ _ _ _ _ c.write_entry-wrote.ensures c.loop-n-test.true _ c.next_index-i.ensures.0 c.loop-n.invariant.1,
  one_valid _ _ _ _ _ c.write_entry-wrote.ensures c.loop-n.invariant.2,
  one_length _ _ _ _ _ c.write_entry-wrote.ensures ∙ c.loop-n.invariant.3,
  entries_done _ _ _ _ _ _ _ _ c.write_entry-wrote.ensures c.loop-n-test.true _ _ c.in-Ok.is c.next_index-i.ensures.0 c.loop-n.invariant.4,
)

pub shape_of-buf : goal.shape_of-buf
shape_of-buf c = c.loop-n.invariant.3

pub returns : goal.returns
returns c =
    let e : c.loop-n.n ≡ c.args.k = omega arith in
    entries_end _ _ _ _ _ c.args.k _ (omega arith) (rw e at c.loop-n.invariant.4)
