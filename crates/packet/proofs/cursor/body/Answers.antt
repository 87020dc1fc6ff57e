-- A part of the payload is `take` after `drop`, also where the payload ends before the command.
use Rattle.std.proofs.Common.{arith}
use Rattle.packet.proofs.Reading.{body_most}
use Rattle.packet.proofs.cursor.body.Goals as goal

pub returns : goal.returns
returns c =
    body_most c.args.payload.now c.args.at c.args.header c.min-from.result c.min.result (omega arith) (omega arith)
