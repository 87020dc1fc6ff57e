-- Each test is one of the definition's; the history's hands on the mark.
use Rattle.std.proofs.Common.{sym, ◌∙◌}
use Rattle.history.proofs.Queues.{queue_fit}
use Rattle.history.proofs.StateTest.{answers_no, answers_yes}
use Rattle.sender.proofs.Validity.{test_history, test_queue, test_idle}
use Rattle.writing.proofs.placing.test.Goals as goal

pub begins-requires : goal.begins-requires
begins-requires c = queue_fit _ (sym c.state_ok.ensures ∙ c.if-not-state_ok.false)

pub returns-then-not-state_ok : goal.returns-then-not-state_ok
returns-then-not-state_ok c = answers_no _ _ _ _ _ (test_queue c.args.s _ (sym c.state_ok.ensures ∙ c.if-not-state_ok.true))

pub returns-in_err-mark : goal.returns-in_err-mark
returns-in_err-mark c =
    let a = rw c.in_err-mark.was at c.state_walk.ensures.answer in
    rw c.from_residual.ensures (answers_no _ _ _ _ _ (test_history c.args.s _ (sym a)))

pub returns-then-state_ok : goal.returns-then-state_ok
returns-then-state_ok c =
    let a = rw c.in_ok-mark.was at c.state_walk.ensures.answer in
    answers_yes _ _ _ _ _ _ (sym c.if-state_ok.true ∙ test_idle c.args.s _ (sym a) (sym c.state_ok.ensures ∙ c.if-not-state_ok.false) _ c.state_ok-2.ensures)
    (rw c.begins.ensures at (c.state_walk.ensures.entry _ c.in_ok-mark.was))
    (c.state_walk.ensures.place _ c.in_ok-mark.was)

pub returns-else-state_ok : goal.returns-else-state_ok
returns-else-state_ok c =
    let a = rw c.in_ok-mark.was at c.state_walk.ensures.answer in
    answers_no _ _ _ _ _ (sym c.if-state_ok.false ∙ test_idle c.args.s _ (sym a) (sym c.state_ok.ensures ∙ c.if-not-state_ok.false) _ c.state_ok-2.ensures)
