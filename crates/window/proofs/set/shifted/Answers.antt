-- By nothing, by less than a word, by a word and less than another, or out of the set.
use mathlib.Core.Path.{◌≡◌, sym, ap, ◌∙◌}
use Prim.Native.Nat.{ℕ, ◌+◌, ◌-◌, ◌*◌, ◌%◌, ◌^◌, ◌<◌}
use native.Mathlib.Nat.{mod-eq_of_lt, mul-one}
use native.Mathlib.Omega.{arith}
use Rattle.window.specs.Set.{max_window, val, set_of}
use Rattle.window.proofs.Words.{of_words, words_lt}
use Rattle.window.proofs.Operations.{shl_out}
use Rattle.window.proofs.set.shifted.Goals as goal
use Rattle.window.proofs.set.shifted.Goals.{Start}

bounds : (c : Start) → (c.args.s.high < 2 ^ 64) × (c.args.s.low < 2 ^ 64)
bounds c = omega arith

pub returns-then-n-eq0 : goal.returns-then-n-eq0
unfolding val
returns-then-n-eq0 c =
    let b = bounds (goal.at.returns-then-n-eq0 c).Start in
    of_words c.args.s.high c.args.s.low b.1 _
    (sym (ap (λ (n : ℕ). (val c.args.s * 2 ^ n) % 2 ^ max_window) c.if-n-eq0.true ∙ ap (λ (y : ℕ). y % 2 ^ max_window) (mul-one (val c.args.s)) ∙ mod-eq_of_lt (words_lt c.args.s.high c.args.s.low b.0 b.1)))

pub returns-then-n-lt-MAX_WINDOW : goal.returns-then-n-lt-MAX_WINDOW
returns-then-n-lt-MAX_WINDOW c =
    let whole : c.args.n - 64 + 64 ≡ c.args.n = omega arith in
    c.word_up.ensures ∙ ap (λ (n : ℕ). set_of ((val c.args.s * 2 ^ n) % 2 ^ max_window)) whole

pub returns : goal.returns
returns c =
    c.none.ensures ∙ ap set_of (shl_out (val c.args.s) c.args.n max_window (omega arith))
