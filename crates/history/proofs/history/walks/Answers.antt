-- Three walks in a row: one that is not done, or whose words are not those asked for, fails the test; else the newest header decides.
use Rattle.std.proofs.Common.{arith, sym, ◌∙◌, eq-eqb, ne_eqb}
use Rattle.history.proofs.StateTest.{first_lost, second_lost, unsent_off, last_lost, words_left, newest_told, back_place, answers_no, answers_yes}
use Rattle.history.proofs.history.walks.Goals as goal
use Rattle.history.proofs.history.walks.Goals.{then-all-ne0-via-then-all-ne0, then-all-ne0-via-else-all-ne0+then-all-h}

pub returns-in_err-first : goal.returns-in_err-first
returns-in_err-first c =
    rw c.from_residual.ensures (answers_no _ _ _ _ _ (first_lost c.args.h _ _ _ _ c.requires.3 _ c.least-again.ensures (rw c.in_err-first.was at c.walk.ensures)))

pub walk-requires-2 : goal.walk-requires-2
walk-requires-2 c =
    let g = rw c.in_ok-first.was at c.walk.ensures in
    (g.0, omega (arith, g.1, c.requires.2), omega arith)

pub returns-in_err-second : goal.returns-in_err-second
returns-in_err-second c =
    let g = rw c.in_ok-first.was at c.walk.ensures in
    rw c.from_residual-in_err-second.ensures (answers_no _ _ _ _ _ (second_lost c.args.h _ _ _ _ c.requires.3 _ c.least-again.ensures _ g (rw c.in_err-second.was at c.walk-2.ensures)))

pub returns-then-second-unsent_words : goal.returns-then-second-unsent_words
returns-then-second-unsent_words c =
    let g = rw c.in_ok-first.was at c.walk.ensures in
    let k = rw c.in_ok-second.was at c.walk-2.ensures in
    answers_no _ _ _ _ _ (unsent_off c.args.h _ _ _ _ c.requires.3 _ c.least-again.ensures _ g _ k c.if-second-unsent_words.true)

pub walk-requires-3 : goal.walk-requires-3
walk-requires-3 c =
    let g = rw c.in_ok-first.was at c.walk.ensures in
    let k = rw c.in_ok-second.was at c.walk-2.ensures in
    (k.0, omega (arith, g.1, k.1, c.requires.2), omega arith)

pub returns-in_err-all : goal.returns-in_err-all
returns-in_err-all c =
    let g = rw c.in_ok-first.was at c.walk.ensures in
    let k = rw c.in_ok-second.was at c.walk-2.ensures in
    rw c.from_residual-in_err-all.ensures (answers_no _ _ _ _ _ (last_lost c.args.h _ _ _ _ c.requires.3 _ c.least-again.ensures _ g _ k (rw c.in_err-all.was at c.walk-3.ensures)))

pub returns-then-all-ne0 : goal.returns-then-all-ne0
returns-then-all-ne0 c =
    let g = rw c.in_ok-first.was at c.walk.ensures in
    let k = rw c.in_ok-second.was at c.walk-2.ensures in
    let l = rw c.in_ok-all.was at c.walk-3.ensures in
    elim c.then-all-ne0.branch [
      | then-all-ne0-via-then-all-ne0 w ↦
          answers_no _ _ _ _ _ (words_left c.args.h _ _ _ _ c.requires.3 _ c.least-again.ensures _ g _ k _ l w.if-all-ne0.true)
      | then-all-ne0-via-else-all-ne0+then-all-h w ↦
          answers_no _ _ _ _ _ (sym (ne_eqb _ _ w.if-all-h.true) ∙ newest_told c.args.h _ _ _ _ c.requires.3 _ c.least-again.ensures _ g _ k _ l c.if-second-unsent_words.false w.if-all-ne0.false)
    ]

pub returns : goal.returns
returns c =
    let g = rw c.in_ok-first.was at c.walk.ensures in
    let k = rw c.in_ok-second.was at c.walk-2.ensures in
    let l = rw c.in_ok-all.was at c.walk-3.ensures in
    answers_yes _ _ _ _ _ _
    (sym (eq-eqb _ _ c.if-all-h.false) ∙ newest_told c.args.h _ _ _ _ c.requires.3 _ c.least-again.ensures _ g _ k _ l c.if-second-unsent_words.false c.if-all-ne0.false)
    (omega (arith, c.least-again.ensures))
    (back_place c.args.h _ _ 0 _ c.requires.3 _ c.least-again.ensures _ g)
