-- An answer: its entry in the table of answers, counted from 0, and its figures. A refusal is the entry 2 with its number; 0 is no refusal.
use Rattle.std.specs.Prelude.{ℕ, cond, eqb, [], ◌∷◌}
use Rattle.text.specs.declared.forms.Answer.{Answer}

abbrev pub entry_of : ℕ → ℕ → ℕ → ℕ → Answer
entry_of form a b c = record { form = form; figures = a ∷ b ∷ c ∷ 0 ∷ [] }

abbrev pub refused_by : ℕ → Answer
refused_by n = entry_of 2 n 0 0

unfoldable pub unless_refused : ℕ → Answer → Answer
unless_refused n answer = cond (eqb n 0) answer (refused_by n)
