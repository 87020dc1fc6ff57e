-- 01, "Position, window, loss": a window's size, highest, bits low and high, as four words; 13 for words that are no window's.
use Rattle.std.specs.Prelude.{◌≡◌, ℕ, ◌≤◌, Bool, true, false, ◌&&◌, List, [], ◌∷◌, length, get_or, eqb, Result, Ok, Err}
use Rattle.config.specs.declared.refusal.Refusal.{Refusal}
use Rattle.window.specs.declared.window.Taken.{Taken}
use Rattle.window.specs.declared.window.WindowAnswer.{WindowAnswer}
use Rattle.window.specs.Set.{max_window}
use Rattle.window.specs.Answers.{heard, accept_answer, start_answer}
use Rattle.window.specs.declared.window.ReceiveWindow.{ReceiveWindow}
use Rattle.window.specs.declared.window.Class.{Class}
use Rattle.window.specs.declared.window.Class.TheVariants.{New, Late, Duplicate}
use Rattle.window.specs.declared.window.Arrival.{Arrival}
use Rattle.config.specs.Refusals.{number_of}
use Rattle.c_words.specs.Entry.{on_words}
use Rattle.c_words.specs.Limits.{within}
use Rattle.c_answers.specs.Answers.{acceptance_of, delivery_refused}
use Rattle.c_answers.specs.declared.answers.CDelivery.{CDelivery}

abbrev at : List ℕ → ℕ → ℕ
at ws k = get_or ws k 0

-- the words that take less than 64 bits, and the largest value of each: a size, and a number
abbrev pub window_limits : List (ℕ × ℕ)
window_limits = (0, max_window) ∷ (1, 65535) ∷ []

unfoldable pub window_fits : List ℕ → Bool
window_fits ws = eqb (length ws) 4 && within window_limits ws

-- words that fit
pub record Narrow (ws : List ℕ) : Type 0 where
  pub whole : length ws ≡ 4
  pub size : at ws 0 ≤ max_window
  pub highest : at ws 1 ≤ 65535

abbrev pub window_at : List ℕ → ReceiveWindow
window_at ws = record { size = at ws 0; highest = at ws 1; bits = record { low = at ws 2; high = at ws 3 } }

abbrev pub window_words : ReceiveWindow → List ℕ
window_words w = w.size ∷ w.highest ∷ w.bits.low ∷ w.bits.high ∷ []

-- the answer to a number, and the words of the window after it
abbrev pub accepted_as : WindowAnswer Taken → Result Taken Refusal × List ℕ
accepted_as e = (e.answer, window_words e.window)

abbrev pub taken_into : Arrival → Result Taken Refusal × List ℕ
taken_into t = accepted_as (heard t)

abbrev pub is_duplicate : Class → Bool
is_duplicate (New gap) = false
is_duplicate Late = false
is_duplicate Duplicate = true

abbrev accepted_into : WindowAnswer Taken → CDelivery × List ℕ
accepted_into e = (acceptance_of e.answer, window_words e.window)

unfoldable pub accept_export : List ℕ → ℕ → CDelivery × List ℕ
accept_export ws seq = on_words (window_fits ws) (λ n. (delivery_refused n, ws)) (accepted_into (accept_answer (window_at ws) seq))

-- ---- a start: a window that is not started leaves the words as they were
abbrev pub started_into : Result ReceiveWindow Refusal → List ℕ → ℕ × List ℕ
started_into (Ok w) ws = (0, window_words w)
started_into (Err why) ws = (number_of why, ws)

unfoldable pub start_export : List ℕ → ℕ → ℕ → ℕ × List ℕ
start_export ws size highest = on_words (eqb (length ws) 4) (λ n. (n, ws)) (started_into (start_answer size highest) ws)
