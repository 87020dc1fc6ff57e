-- What a number d ahead leaves and answers, by what the code has at hand.
use mathlib.Core.Path.{◌≡◌, ap, ◌∙◌}
use Rattle.std.proofs.Common.{Option}
use Rattle.window.specs.declared.window.SeqRange.{SeqRange}
use Prim.Native.Nat.{ℕ}
use Rattle.window.specs.Set.{val, set_of}
use Rattle.window.specs.Window.{missing_of, span_of}
use Rattle.window.specs.Arrival.{moved_of, lost_of, new_of}
use Rattle.window.specs.declared.set.Bits.{Bits}
use Rattle.window.specs.declared.window.ReceiveWindow.{ReceiveWindow}
use Rattle.window.proofs.Words.{val_is}

-- a window moved up to a number, with its set
abbrev at : ReceiveWindow → ℕ → Bits → ReceiveWindow
at w seq s = record { size = w.size; highest = seq; bits = s }

module _ (w : ReceiveWindow) (seq d : ℕ) where
  pub new_window_is : {s : Bits} → s ≡ set_of (moved_of w.size (val w.bits) d) → at w seq s ≡ (new_of w seq d).window
  unfolding new_of
  new_window_is es = ap (at w seq) es

  pub new_lost_is : {m : Bits} {l : Option SeqRange} → m ≡ set_of (missing_of w) → l ≡ span_of seq w.size (lost_of w.size (val m) d) → l ≡ (new_of w seq d).lost
  unfolding new_of
  new_lost_is {m} em el = el ∙ ap (λ (x : ℕ). span_of seq w.size (lost_of w.size x d)) (val_is m (missing_of w) em)
