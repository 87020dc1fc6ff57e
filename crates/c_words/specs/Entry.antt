-- 01, "Numbers of each operation" and "State test": what is tested in front of the call of a C function, in this order: the settings that it is lent, then whether its other words
-- fit, 13. `refused` gives what a call leaves and answers that a test refuses, by the number: all that was lent as it was, and the number.
use Rattle.std.specs.Prelude.{ℕ, Bool, Result, Ok, ⊤}
use Rattle.config.specs.declared.refusal.Refusal.{Refusal}
use Rattle.config.specs.Entry.{entry}
use Rattle.config.specs.Refusals.{number_of}

unfoldable pub words_entry : {A : Type 0} → Result ⊤ Refusal → Bool → (ℕ → A) → A → A
words_entry checked fit refused call = entry checked fit (λ why. refused (number_of why)) call

-- a call that is lent no settings
abbrev pub on_words : {A : Type 0} → Bool → (ℕ → A) → A → A
on_words fit refused call = words_entry (Ok tt) fit refused call
