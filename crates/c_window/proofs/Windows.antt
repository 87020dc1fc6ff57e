-- The words of a window.
use mathlib.Core.Path.{◌≡◌}
use Rattle.std.proofs.Common.{Result, Ok, Err}
use mathlib.Core.Bool.{true, false}
use mathlib.Core.List.{List}
use Prim.Native.Nat.{ℕ, ◌≤◌, ◌<◌}
use native.Mathlib.Omega.{arith}
use lib.ListN.{length, get_or}
use lib.Dec.{leb}
use borrow.Author.Tests.{eq-eqb, le-leb}
use Rattle.config.specs.Refusals.{number_of}
use Rattle.config.specs.declared.refusal.Refusal.{Refusal}
use Rattle.window.specs.Set.{max_window}
use Rattle.window.specs.declared.window.ReceiveWindow.{ReceiveWindow}
use Rattle.c_words.specs.Limits.{within}
use Rattle.c_words.proofs.Within.{and_true, not_as_many, too_large, as_many, small_at}
use Rattle.c_window.specs.Window.{window_limits, window_fits, Narrow, window_words, started_into}

-- ---- the tests
module _ (ws : List ℕ) where
  abbrev at : ℕ → ℕ
  at k = get_or ws k 0

  pub window_short : (length ws ≡ 4 → ⊥) → false ≡ window_fits ws
  unfolding window_fits
  window_short h = not_as_many ws 4 window_limits h

  pub window_large : max_window < at 0 → false ≡ window_fits ws
  unfolding window_fits
  window_large g = too_large ws 4 window_limits 0 (omega arith) g

  pub window_last : length ws ≡ 4 → at 0 ≤ max_window → leb (at 1) 65535 ≡ window_fits ws
  unfolding window_fits within
  window_last l a = rw (eq-eqb (length ws) 4 l, le-leb (at 0) max_window a) (and_true (leb (at 1) 65535))

  pub window_known : window_fits ws ≡ true → Narrow ws
  unfolding window_fits
  window_known e =
      let s = small_at ws 4 window_limits e in
      record { whole = as_many ws 4 window_limits e; size = s 0 (omega arith); highest = s 1 (omega arith) }

-- ---- a start, done or refused: what it stores
pub started_window : (a : Result ReceiveWindow Refusal) (ws : List ℕ) (w : ReceiveWindow) → a ≡ Ok w → (ws' : List ℕ) → ws' ≡ window_words w
    → ◌≡◌ {A = ℕ × List ℕ} (0, ws') (started_into a ws)
started_window a ws w e ws' h = rw (e, h)

pub started_refused : (a : Result ReceiveWindow Refusal) (ws : List ℕ) (why : Refusal) → a ≡ Err why → (r : ℕ) → r ≡ number_of why
    → ◌≡◌ {A = ℕ × List ℕ} (r, ws) (started_into a ws)
started_refused a ws why e r n = rw (e, n)
