-- 01, "Numbers of each operation": the number of each refusal. From 14 on the numbers are 02's.
use Rattle.std.specs.Prelude.{ℕ, Result, Ok, Err, ⊤}
use Rattle.config.specs.declared.refusal.Refusal.{Refusal}
use Rattle.config.specs.declared.refusal.Refusal.TheVariants.{BadSignature, Overflow, TooLarge, InvalidValue, InvalidUmpData, Full, IdleInterval, IdleGrowth, CommandWords, Malformed, ReasonNotAllowed, SizeNotAllowed, InvalidState, InvalidBlock, InvalidRecord, DivisionsNotAllowed}

abbrev pub number_of : Refusal → ℕ
number_of BadSignature = 1
number_of Overflow = 2
number_of TooLarge = 3
number_of InvalidValue = 4
number_of InvalidUmpData = 5
number_of Full = 6
number_of IdleInterval = 7
number_of IdleGrowth = 8
number_of CommandWords = 9
number_of Malformed = 10
number_of ReasonNotAllowed = 11
number_of SizeNotAllowed = 12
number_of InvalidState = 13
number_of InvalidBlock = 16
number_of InvalidRecord = 17
number_of DivisionsNotAllowed = 18

-- 0 for a call that was made
abbrev pub outcome_number : Result ⊤ Refusal → ℕ
outcome_number (Ok _) = 0
outcome_number (Err why) = number_of why
