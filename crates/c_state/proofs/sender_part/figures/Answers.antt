-- Each figure in its place.
use Rattle.c_state.proofs.Senders.{figure_words_lem}
use native.Mathlib.Omega.{arith}
use Rattle.c_state.proofs.sender_part.figures.Goals as goal

pub overflow_cast-history : goal.overflow_cast-history
overflow_cast-history c = omega (arith, c.requires.head)

pub overflow_cast-history-2 : goal.overflow_cast-history-2
overflow_cast-history-2 c = omega (arith, c.requires.used)

pub overflow_cast-history-3 : goal.overflow_cast-history-3
overflow_cast-history-3 c = omega (arith, c.requires.count)

pub overflow_cast-history-4 : goal.overflow_cast-history-4
overflow_cast-history-4 c = omega (arith, c.requires.last)

pub overflow_cast-history-5 : goal.overflow_cast-history-5
overflow_cast-history-5 c = omega (arith, c.requires.size)

pub overflow_cast-sender : goal.overflow_cast-sender
overflow_cast-sender c = omega (arith, c.requires.unsent)

pub overflow_cast-sender-2 : goal.overflow_cast-sender-2
overflow_cast-sender-2 c = omega (arith, c.requires.words)

pub overflow_cast-queue : goal.overflow_cast-queue
overflow_cast-queue c = omega (arith, c.requires.front)

pub overflow_cast-queue-2 : goal.overflow_cast-queue-2
overflow_cast-queue-2 c = omega (arith, c.requires.waiting)

pub overflow_cast-queue-3 : goal.overflow_cast-queue-3
overflow_cast-queue-3 c = omega (arith, c.requires.places)

pub returns : goal.returns
returns c =
    figure_words_lem c.args.sender _ _ _ _ _
    c.idle_words-idle.ensures
    c.word.ensures
    c.word-2.ensures
    c.pair.ensures
    c.word-3.ensures
