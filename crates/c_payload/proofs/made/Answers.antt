-- By the answer.
use mathlib.Core.Path.{sym, ap, ◌∙◌}
use Rattle.std.proofs.Common.{Result}
use Rattle.config.specs.declared.refusal.Refusal.{Refusal}
use Rattle.std.specs.Bool.{⊤}
use Rattle.c_payload.specs.Export.{refused_by, made_by}
use Rattle.c_payload.proofs.made.Goals as goal

pub returns-in-Ok : goal.returns-in-Ok
returns-in-Ok c = sym (ap (λ (a : Result ⊤ Refusal). made_by a c.args.wrote.payload.len) c.in-Ok.is)

pub returns-in-Err : goal.returns-in-Err
returns-in-Err c = ap refused_by c.number.ensures ∙ sym (ap (λ (a : Result ⊤ Refusal). made_by a c.args.wrote.payload.len) c.in-Err.is)
