-- The tests in their order.
use Rattle.std.proofs.Common.{sym, ◌∙◌}
use Rattle.read_command.proofs.Found.{read_words, read_lens, read_item, read_unsigned}
use Rattle.read_command.proofs.next.next.Goals as goal
use Rattle.read_command.proofs.next.next.Goals.{then-words-lt-MOST-via-then-words-lt-MOST, then-words-lt-MOST-via-else-words-lt-MOST+then-lens-lt-MOST}

pub returns-then-words-lt-MOST : goal.returns-then-words-lt-MOST
returns-then-words-lt-MOST c = elim c.then-words-lt-MOST.branch [
  | then-words-lt-MOST-via-then-words-lt-MOST w ↦ read_words _ _ _ _ w.if-words-lt-MOST.true _ c.refused.ensures
  | then-words-lt-MOST-via-else-words-lt-MOST+then-lens-lt-MOST w ↦
      read_lens _ _ _ _ w.if-words-lt-MOST.false w.if-lens-lt-MOST.true _ c.refused.ensures
]

pub returns-then-not-opens : goal.returns-then-not-opens
returns-then-not-opens c =
    read_unsigned _ _ _ _ c.if-words-lt-MOST.false c.if-lens-lt-MOST.false (sym c.opens.ensures ∙ c.if-not-opens.true) _ c.refused-then-not-opens.ensures

pub returns : goal.returns
returns c =
    read_item _ _ _ _ c.if-words-lt-MOST.false c.if-lens-lt-MOST.false (sym c.opens.ensures ∙ c.if-not-opens.false) _ c.first.ensures _ c.item.ensures
