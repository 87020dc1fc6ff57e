-- 01, "Numbers of each operation": what each operation leaves and answers, refused calls too. Starting refuses 12 when the size isn't 1 to 128;
-- each other operation tests the state first, 13, and a refused call hands the window back as it is.
use Rattle.std.specs.Prelude.{cond, ℕ, ◌-◌, Bool, Option, Result, Ok, Err, ⊤}
use Rattle.window.specs.declared.window.Class.{Class}
use Rattle.window.specs.declared.window.Taken.{Taken}
use Rattle.window.specs.declared.window.WindowAnswer.{WindowAnswer}
use Rattle.config.specs.Entry.{on_state}
use Rattle.config.specs.Range.{outside}
use Rattle.config.specs.Sequence.{turn}
use Rattle.config.specs.declared.refusal.Refusal.{Refusal}
use Rattle.config.specs.declared.refusal.Refusal.TheVariants.{SizeNotAllowed}
use Rattle.window.specs.Set.{max_window}
use Rattle.window.specs.Window.{valid_of, fresh_of, fresh, is_processed, missing_span, request_of}
use Rattle.window.specs.Arrival.{class_of, accept_of}
use Rattle.window.specs.Marking.{mark_of}
use Rattle.window.specs.declared.window.ReceiveWindow.{ReceiveWindow}
use Rattle.window.specs.declared.window.SeqRange.{SeqRange}
use Rattle.window.specs.declared.window.Arrival.{Arrival}

-- ---- starting

unfoldable pub start_answer : ℕ → ℕ → Result ReceiveWindow Refusal
start_answer size highest = cond (outside 1 max_window size) (Err SizeNotAllowed) (Ok (fresh_of size highest))

abbrev pub new_answer : ℕ → Result ReceiveWindow Refusal
new_answer size = start_answer size (turn - 1)

-- ---- the window changes, with nothing to tell

unfoldable pub changed : ReceiveWindow → ReceiveWindow → WindowAnswer ⊤
changed w next = on_state (valid_of w) (λ (why : Refusal). record { window = w; answer = Err why }) record { window = next; answer = Ok tt }

abbrev pub reset_answer : ReceiveWindow → WindowAnswer ⊤
reset_answer w = changed w (fresh w.size)

abbrev pub mark_all_answer : ReceiveWindow → WindowAnswer ⊤
mark_all_answer w = changed w (fresh_of w.size w.highest)

-- ---- a number arrives, or is asked about

unfoldable pub class_answer : ReceiveWindow → ℕ → WindowAnswer Class
class_answer w seq =
    on_state (valid_of w) (λ (why : Refusal). record { window = w; answer = Err why })
    record { window = w; answer = Ok (class_of w seq) }

abbrev pub heard : Arrival → WindowAnswer Taken
heard t = record { window = t.window; answer = Ok record { class = t.class; lost = t.lost } }

unfoldable pub accept_answer : ReceiveWindow → ℕ → WindowAnswer Taken
accept_answer w seq = on_state (valid_of w) (λ (why : Refusal). record { window = w; answer = Err why }) (heard (accept_of w seq))

unfoldable pub processed_answer : ReceiveWindow → ℕ → WindowAnswer Bool
processed_answer w seq =
    on_state (valid_of w) (λ (why : Refusal). record { window = w; answer = Err why })
    record { window = w; answer = Ok (is_processed w seq) }

-- ---- the answer is a span

unfoldable pub extended : ReceiveWindow → ReceiveWindow → Option SeqRange → WindowAnswer (Option SeqRange)
extended w next s = on_state (valid_of w) (λ (why : Refusal). record { window = w; answer = Err why }) record { window = next; answer = Ok s }

abbrev pub missing_answer : ReceiveWindow → WindowAnswer (Option SeqRange)
missing_answer w = extended w w (missing_span w)

abbrev pub request_answer : ReceiveWindow → WindowAnswer (Option SeqRange)
request_answer w = extended w w (request_of w)

abbrev pub mark_answer : ReceiveWindow → SeqRange → WindowAnswer (Option SeqRange)
mark_answer w r = extended w (mark_of w r).window (mark_of w r).span
