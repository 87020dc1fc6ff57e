-- A refused call hands back what it was given.
use mathlib.Core.Path.{◌≡◌, refl, sym}
use Rattle.std.proofs.Common.{Result}
use Rattle.config.specs.declared.refusal.Refusal.{Refusal}
use Rattle.window.specs.declared.window.Taken.{Taken}
use Rattle.window.specs.declared.window.WindowAnswer.{WindowAnswer}
use mathlib.Core.Bool.{true}
use mathlib.Core.List.{List}
use Prim.Native.Nat.{ℕ}
use Rattle.config.specs.Range.{outside}
use Rattle.window.specs.Set.{max_window}
use Rattle.window.specs.Window.{valid_of as window_valid}
use Rattle.window.specs.Answers.{start_answer, accept_answer}
use Rattle.window.specs.declared.window.ReceiveWindow.{ReceiveWindow}
use Rattle.c_answers.specs.Answers.{acceptance_of}
use Rattle.c_answers.specs.declared.answers.CDelivery.{CDelivery}
use Rattle.c_words.proofs.Runs.{run_all}
use Rattle.c_words.proofs.Kept.{Kept, KeptOne, itself, as_was, done, by_test, call_keeps}
use Rattle.c_window.specs.Window.{window_fits, window_at, window_words, started_into, start_export, accept_export}
use Rattle.c_window.proofs.Windows.{window_known}

module _ (w : List ℕ) where
  abbrev AcceptedKept : WindowAnswer Taken → Type 0
  AcceptedKept = Kept (λ (e : WindowAnswer Taken). (acceptance_of e.answer).refusal) (λ (e : WindowAnswer Taken). window_words e.window ≡ w)

  window_same : window_fits w ≡ true → window_words (window_at w) ≡ w
  window_same e = run_all w 4 (sym (window_known w e).whole)

  module _ (x : ReceiveWindow) (same : window_words x ≡ w) where
    accepted_kept : (seq : ℕ) → AcceptedKept (accept_answer x seq)
    unfolding accept_answer
    accepted_kept seq = by_test (window_valid x) _ _ (λ _. done refl) (as_was same)

  pub start_keeps : (size highest : ℕ) → KeptOne itself w (start_export w size highest)
  unfolding start_export start_answer
  start_keeps size highest =
      call_keeps _ _ (λ (e : Result ReceiveWindow Refusal). started_into e w) _ (start_answer size highest) (λ n. refl) (λ _ _. by_test (outside 1 max_window size) _ _ (λ _. as_was refl) (done refl))

  pub accept_keeps : (seq : ℕ) → KeptOne (λ (a : CDelivery). a.refusal) w (accept_export w seq)
  unfolding accept_export
  accept_keeps seq =
      call_keeps _ _ (λ (e : WindowAnswer Taken). (acceptance_of e.answer, window_words e.window)) _ (accept_answer (window_at w) seq) (λ n. refl)
      (λ _ fit. accepted_kept (window_at w) (window_same fit) seq)
