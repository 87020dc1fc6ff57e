-- The answers of the operations, by the test that leads there.
use mathlib.Core.Path.{◌≡◌, ap, ap₂, ◌∙◌}
use Rattle.std.proofs.Common.{Option, Ok, Err}
use Rattle.window.specs.declared.window.SeqRange.{SeqRange}
use Rattle.window.specs.declared.window.Taken.{Taken}
use Rattle.window.specs.declared.window.WindowAnswer.{WindowAnswer}
use Rattle.std.specs.Bool.{⊤}
use mathlib.Core.Bool.{Bool, true, false}
use Prim.Native.Nat.{ℕ}
use Rattle.config.specs.Range.{outside}
use Rattle.config.specs.declared.refusal.Refusal.TheVariants.{SizeNotAllowed, InvalidState}
use Rattle.window.specs.Set.{max_window}
use Rattle.window.specs.Window.{valid_of, fresh_of, is_processed}
use Rattle.window.specs.Arrival.{class_of, accept_of}
use Rattle.window.specs.Answers.{start_answer, changed, class_answer, heard, accept_answer, processed_answer, extended}
use Rattle.window.specs.declared.window.ReceiveWindow.{ReceiveWindow}
use Rattle.window.specs.declared.window.Class.{Class}
use Rattle.window.specs.declared.window.Arrival.{Arrival}

-- ---- starting

module _ (size highest : ℕ) where
  pub start_refused : outside 1 max_window size ≡ true → Err SizeNotAllowed ≡ start_answer size highest
  unfolding start_answer
  start_refused e = rw e

  pub start_window : {w : ReceiveWindow} → outside 1 max_window size ≡ false → w ≡ fresh_of size highest → Ok w ≡ start_answer size highest
  unfolding start_answer
  start_window {w} e is = ap Ok is ∙ rw e

-- ---- the other operations

module _ (w : ReceiveWindow) where
  module _ (e : valid_of w ≡ false) where
    pub changed_refused : (next : ReceiveWindow) → ◌≡◌ {A = WindowAnswer ⊤} (record { window = w; answer = Err InvalidState }) (changed w next)
    unfolding changed
    changed_refused next = rw e

    pub class_refused : (seq : ℕ) → ◌≡◌ {A = WindowAnswer Class} (record { window = w; answer = Err InvalidState }) (class_answer w seq)
    unfolding class_answer
    class_refused seq = rw e

    pub accept_refused : (seq : ℕ) → ◌≡◌ {A = WindowAnswer Taken} (record { window = w; answer = Err InvalidState }) (accept_answer w seq)
    unfolding accept_answer
    accept_refused seq = rw e

    pub processed_refused : (seq : ℕ) → ◌≡◌ {A = WindowAnswer Bool} (record { window = w; answer = Err InvalidState }) (processed_answer w seq)
    unfolding processed_answer
    processed_refused seq = rw e

    pub extended_refused : (next : ReceiveWindow) (s : Option SeqRange) → ◌≡◌ {A = WindowAnswer (Option SeqRange)} (record { window = w; answer = Err InvalidState }) (extended w next s)
    unfolding extended
    extended_refused next s = rw e

  module _ (e : valid_of w ≡ true) where
    pub changed_done : {r next : ReceiveWindow} → r ≡ next → ◌≡◌ {A = WindowAnswer ⊤} (record { window = r; answer = Ok tt }) (changed w next)
    unfolding changed
    changed_done {r} {next} is = ap {B = WindowAnswer ⊤} (λ (x : ReceiveWindow). record { window = x; answer = Ok tt }) is ∙ rw e

    pub class_found : (seq : ℕ) {r : Class} → r ≡ class_of w seq → ◌≡◌ {A = WindowAnswer Class} (record { window = w; answer = Ok r }) (class_answer w seq)
    unfolding class_answer
    class_found seq is = ap {B = WindowAnswer Class} (λ (x : Class). record { window = w; answer = Ok x }) is ∙ rw e

    pub accept_heard : (seq : ℕ) {r : Arrival} → r ≡ accept_of w seq → heard r ≡ accept_answer w seq
    unfolding accept_answer
    accept_heard seq is = ap heard is ∙ rw e

    pub processed_known : (seq : ℕ) {r : Bool} → r ≡ is_processed w seq → ◌≡◌ {A = WindowAnswer Bool} (record { window = w; answer = Ok r }) (processed_answer w seq)
    unfolding processed_answer
    processed_known seq is = ap {B = WindowAnswer Bool} (λ (x : Bool). record { window = w; answer = Ok x }) is ∙ rw e

    pub extended_numbers : {r next : ReceiveWindow} {l s : Option SeqRange} → r ≡ next → l ≡ s → ◌≡◌ {A = WindowAnswer (Option SeqRange)} (record { window = r; answer = Ok l }) (extended w next s)
    unfolding extended
    extended_numbers is ls = ap₂ {C = WindowAnswer (Option SeqRange)} (λ (x : ReceiveWindow) (y : Option SeqRange). record { window = x; answer = Ok y }) is ls ∙ rw e
