-- By the places of the bytes.
use Rattle.sheet_log.proofs.Inverse.{stored_length, records_length, stored_restored, restored_stored}
use Rattle.sheet_log.proofs.theorems.restores.Goals as goal

pub returns : goal.returns
returns c = record { stored_length = stored_length; records_length = records_length; there_back = stored_restored; back_there = restored_stored }
