-- One law for each kind of command; other kinds and malformed ones pass.
use mathlib.Core.Path.{◌≡◌, ap, ◌∙◌}
use Rattle.std.proofs.Common.{Ok}
use Rattle.command.specs.declared.parse.Command.TheVariants.{UmpData, RetransmitRequest, RetransmitError, Raw}
use Rattle.link_tally.proofs.Tallies as tallies
use Rattle.link_tally.proofs.arriving.command.Goals as goal

pub returns-in-Ok-UmpData : goal.returns-in-Ok-UmpData
returns-in-Ok-UmpData c = tallies.command_is _ _ _ _ _ _ _ (c.in-Ok-UmpData.is ∙ ap Ok (let f : c.in-Ok-UmpData.field-0 ≡ UmpData c.in-Ok-UmpData.d = rw c.in-Ok-UmpData.is at c.in-Ok-UmpData.field-0-is in f)) c.hear.ensures

pub returns-in-Ok-RetransmitRequest : goal.returns-in-Ok-RetransmitRequest
returns-in-Ok-RetransmitRequest c = tallies.command_is _ _ _ _ _ _ _ (c.in-Ok-RetransmitRequest.is ∙ ap Ok (let f : c.in-Ok-RetransmitRequest.field-0 ≡ RetransmitRequest c.in-Ok-RetransmitRequest.q = rw c.in-Ok-RetransmitRequest.is at c.in-Ok-RetransmitRequest.field-0-is in f)) c.request.ensures

pub returns-in-Ok-RetransmitError : goal.returns-in-Ok-RetransmitError
returns-in-Ok-RetransmitError c = tallies.command_is _ _ _ _ _ _ _ (c.in-Ok-RetransmitError.is ∙ ap Ok (let f : c.in-Ok-RetransmitError.field-0 ≡ RetransmitError c.in-Ok-RetransmitError.e = rw c.in-Ok-RetransmitError.is at c.in-Ok-RetransmitError.field-0-is in f)) c.error.ensures

pub returns-in-Ok-Raw : goal.returns-in-Ok-Raw
returns-in-Ok-Raw c = tallies.raw_passes _ _ _ _ _ (c.in-Ok-Raw.is ∙ ap Ok (let f : c.in-Ok-Raw.field-0 ≡ Raw c.in-Ok-Raw.field-0-0 = rw c.in-Ok-Raw.is at c.in-Ok-Raw.field-0-is in f))

pub returns-in-Err : goal.returns-in-Err
returns-in-Err c = tallies.malformed_passes _ _ _ _ _ c.in-Err.is
