-- A number arrives at a window in its words.
use mathlib.Core.Path.{◌≡◌, refl, sym, ap, ◌∙◌}
use Rattle.std.proofs.Common.{None, Result, Ok, Err}
use Rattle.config.specs.declared.refusal.Refusal.{Refusal}
use Rattle.window.specs.declared.window.Taken.{Taken}
use mathlib.Core.Bool.{true, false}
use mathlib.Core.List.{List}
use Prim.Native.Nat.{ℕ}
use native.Mathlib.Omega.{arith}
use lib.ListN.{length}
use Rattle.config.specs.declared.refusal.Refusal.TheVariants.{InvalidState}
use Rattle.window.specs.Window.{valid_of}
use Rattle.window.specs.Arrival.{class_of, unchanged, taken_of, accept_of}
use Rattle.window.specs.Answers.{accept_answer}
use Rattle.window.specs.declared.window.ReceiveWindow.{ReceiveWindow}
use Rattle.window.specs.declared.window.Class.{Class}
use Rattle.window.specs.declared.window.Class.TheVariants.{New, Late, Duplicate}
use Rattle.c_answers.specs.Answers.{acceptance_of}
use Rattle.c_answers.specs.declared.answers.CDelivery.{CDelivery}
use Rattle.c_words.proofs.Runs.{run_all}
use Rattle.c_window.specs.Window.{window_at, window_words, is_duplicate, taken_into, accepted_as}

-- four words are those of the window that they have
words_stay : (ws : List ℕ) (w : ReceiveWindow) → length ws ≡ 4 → window_at ws ≡ w → ws ≡ window_words w
words_stay ws w l e = sym (run_all ws 4 (sym l)) ∙ ap window_words e

module _ (w : ReceiveWindow) (seq : ℕ) where
  pub accepted_valid : valid_of w ≡ true → taken_into (accept_of w seq) ≡ accepted_as (accept_answer w seq)
  unfolding accept_answer
  accepted_valid v = rw v

  refused : valid_of w ≡ false → ◌≡◌ {A = Result Taken Refusal × List ℕ} (Err InvalidState, window_words w) (accepted_as (accept_answer w seq))
  unfolding accept_answer
  refused v = rw v

  duplicate_by : (c : Class) → is_duplicate c ≡ true → taken_of w seq c ≡ unchanged w
  duplicate_by (New gap) e = absurd (let z : ◌≡◌ {A = ℕ} 0 1 = cc in omega arith)
  duplicate_by Late e = absurd (let z : ◌≡◌ {A = ℕ} 0 1 = cc in omega arith)
  duplicate_by Duplicate e = refl

  duplicate : is_duplicate (class_of w seq) ≡ true → accept_of w seq ≡ unchanged w
  unfolding accept_of
  duplicate e = duplicate_by (class_of w seq) e

module _ (ws : List ℕ) (w : ReceiveWindow) (seq : ℕ) (l : length ws ≡ 4) (e : window_at ws ≡ w) where
  pub accepted_refused : valid_of w ≡ false → ◌≡◌ {A = Result Taken Refusal × List ℕ} (Err InvalidState, ws) (accepted_as (accept_answer w seq))
  accepted_refused v = ap (λ (x : List ℕ). (Err InvalidState, x)) (words_stay ws w l e) ∙ refused w seq v

  pub duplicate_stays : is_duplicate (class_of w seq) ≡ true → ◌≡◌ {A = Result Taken Refusal × List ℕ} (Ok record { class = Duplicate; lost = None }, ws) (taken_into (accept_of w seq))
  duplicate_stays d = ap (λ (x : List ℕ). (Ok record { class = Duplicate; lost = None }, x)) (words_stay ws w l e) ∙ ap taken_into (sym (duplicate w seq d))

-- ---- the C function's answer
pub accepted_out : (ws : List ℕ) (w : ReceiveWindow) (seq : ℕ) (a : Result Taken Refusal) (after : List ℕ) (r : CDelivery) → w ≡ window_at ws
    → (a, after) ≡ accepted_as (accept_answer w seq) → r ≡ acceptance_of a
    → let e = accept_answer (window_at ws) seq in ◌≡◌ {A = CDelivery × List ℕ} (r, after) (acceptance_of e.answer, window_words e.window)
accepted_out ws w seq a after r ew ea er =
    ap (λ (x : CDelivery). (x, after)) er
    ∙ ap (λ (x : Result Taken Refusal × List ℕ). (acceptance_of x.0, x.1)) ea
    ∙ ap (λ (x : ReceiveWindow). let e = accept_answer x seq in (acceptance_of e.answer, window_words e.window)) ew
