use Rattle.std.proofs.Common.{◌≡◌, ℕ, ◌+◌, ◌≤◌, ◌*◌, ◌-◌, arith}
use Rattle.sheet_blocks.proofs.Stored.{columns_turn, columns_done}
use Rattle.sheet_blocks.proofs.columns.put_columns.Goals as goal

-- the columns stored and those still to be stored
all_columns : (c i r : ℕ) → i ≤ c → i * r + (c - i) * r ≡ c * r
all_columns c i r h = let k : ℕ = c - i in let e : c ≡ i + k = omega arith in grind arith

pub loop-c-preserved : goal.loop-c-preserved
loop-c-preserved c =
    let o : (c.loop-c.c + 1) * c.args.rows ≡ c.loop-c.c * c.args.rows + c.args.rows = grind arith in
    rw o (columns_turn c.loop-c.out _ c.args.from.now _ (c.loop-c.c * c.args.rows) c.args.cols c.args.rows c.args.cols c.loop-c.c (omega arith) (omega (arith, all_columns c.args.cols c.loop-c.c c.args.rows (omega arith))) c.put_every.ensures c.loop-c.invariant)

pub returns : goal.returns
returns c = columns_done c.loop-c.out c.args.from.now _ (c.loop-c.c * c.args.rows) c.args.cols c.args.rows c.args.cols c.loop-c.c (omega arith) (omega (arith, all_columns c.args.cols c.loop-c.c c.args.rows (omega arith))) c.loop-c.invariant
