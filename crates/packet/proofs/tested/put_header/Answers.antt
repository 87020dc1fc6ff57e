-- Four stores are one run of four bytes.
use Rattle.std.proofs.Common.{length-set, rules, arith}
use Rattle.packet.proofs.Splice.{spliced_four}
use Rattle.packet.proofs.tested.put_header.Goals as goal

pub bounds-buf-at-2 : goal.bounds-buf-at-2
bounds-buf-at-2 c = simp length-set (omega arith)

pub bounds-buf-at-3 : goal.bounds-buf-at-3
bounds-buf-at-3 c = simp length-set (omega arith)

pub bounds-buf-at-4 : goal.bounds-buf-at-4
bounds-buf-at-4 c = simp length-set (omega arith)

pub returns : goal.returns
returns c = spliced_four _ _ _ _ _ _ (search rules)
