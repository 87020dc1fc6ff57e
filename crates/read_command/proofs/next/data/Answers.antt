-- The messages are divided, and their words counted.
use Rattle.read_command.proofs.next.data.Goals as goal

pub returns : goal.returns
returns c =
    (rw (c.csd.ensures, c.lengths-count.ensures.0), c.lengths-count.ensures.2)
