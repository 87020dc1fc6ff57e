-- Each refusal by its law; a run that starts is its steps from the state that both starts leave.
use mathlib.Core.Path.{refl, sym, ◌∙◌}
use Rattle.link.proofs.Running.{run_settings, run_over, run_lengths, run_start, run_starts}
use Rattle.link.proofs.link.run.Goals as goal
use Rattle.link.proofs.link.run.Goals.{then-budget-gt-MOST_STEPS-via-then-budget-gt-MOST_STEPS, then-budget-gt-MOST_STEPS-via-else-budget-gt-MOST_STEPS+then-ring-other}

pub returns-then-budget-gt-MOST_STEPS : goal.returns-then-budget-gt-MOST_STEPS
returns-then-budget-gt-MOST_STEPS c = elim c.then-budget-gt-MOST_STEPS.branch [
  | then-budget-gt-MOST_STEPS-via-then-budget-gt-MOST_STEPS w ↦ run_over _ _ _ _ _ _ _ _ _ _ (sym c.check.ensures ∙ c.in-Ok.is) w.if-budget-gt-MOST_STEPS.true
  | then-budget-gt-MOST_STEPS-via-else-budget-gt-MOST_STEPS+then-ring-other w ↦ run_lengths _ _ _ _ _ _ _ _ _ _ (sym c.check.ensures ∙ c.in-Ok.is) w.if-ring-other.true
]

pub returns-in-Err : goal.returns-in-Err
returns-in-Err c = run_settings _ _ _ _ _ _ _ _ _ _ _ (sym c.check.ensures ∙ c.in-Err.is)

pub returns-in-Err-answer : goal.returns-in-Err-answer
returns-in-Err-answer c =
    run_start c.args.cfg c.args.window c.args.words c.args.places c.args.seed c.args.drop c.args.figure c.args.budget _ _ (sym c.check.ensures ∙ c.in-Ok.is) c.new-first.result _ c.new-first.ensures _ c.in-Err-answer.is

pub returns-in-Ok-answer : goal.returns-in-Ok-answer
returns-in-Ok-answer c =
    run_starts c.args.cfg c.args.window c.args.words c.args.places c.args.seed c.args.drop c.args.figure c.args.budget _ _ (sym c.check.ensures ∙ c.in-Ok.is) c.new-first.result _ c.new-first.ensures c.in-Ok-answer.is c.if-budget-gt-MOST_STEPS.false c.if-ring-other.false
    c.new-second.result _ c.new-second.ensures _ refl _ c.steps.ensures
