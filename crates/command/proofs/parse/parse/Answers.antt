-- The arms of the code are those of the definition.
use Rattle.std.proofs.Common.{◌∙◌, arith}
use Rattle.command.proofs.Parsing.{parsed_data, parsed_request, parsed_error, parsed_raw}
use Rattle.command.proofs.parse.parse.Goals as goal

pub returns-in-255 : goal.returns-in-255
returns-in-255 c = parsed_data _ _ _ c.csd.ensures c.in-255.is

pub returns-in-128 : goal.returns-in-128
returns-in-128 c = c.request.ensures ∙ parsed_request _ _ (λ e. omega (arith, c.in-128.is)) c.in-128.is

pub returns-in-129 : goal.returns-in-129
returns-in-129 c =
    c.error.ensures ∙ parsed_error _ _ (λ e. omega (arith, c.in-129.is)) (λ e. omega (arith, c.in-129.is)) c.in-129.is

pub returns-in_default : goal.returns-in_default
returns-in_default c = parsed_raw _ _ (λ e. omega arith) (λ e. omega arith) (λ e. omega arith)
