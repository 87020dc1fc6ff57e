-- What fits is known in words, so each test chooses as the definition does.
use Rattle.std.proofs.Common.{arith, length-append}
use Rattle.packet.proofs.Written.{written_no_fit, written_long, written_done}
use Rattle.packet.proofs.tested.command_runs.Goals as goal

pub returns-then-free_words-n : goal.returns-then-free_words-n
returns-then-free_words-n c =
    written_no_fit c.args.p _ _ c.requires _ c.refuse_fit.ensures (simp length-append (omega arith))

pub returns-then-n-gt255 : goal.returns-then-n-gt255
returns-then-n-gt255 c =
    written_long c.args.p _ _ c.requires (simp length-append (omega arith)) (simp length-append (omega arith))

pub returns : goal.returns
returns c =
    written_done c.args.p _ _ c.requires (simp length-append (omega arith)) _ _ (simp length-append (omega arith)) c.put_runs-len.ensures.0 c.put_runs-len.ensures.1
