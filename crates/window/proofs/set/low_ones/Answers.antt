-- None for n = 0.
use mathlib.Core.Path.{ap, sym, ◌∙◌}
use Prim.Native.Nat.{ℕ, ◌-◌, ◌^◌}
use Rattle.window.specs.Set.{set_of}
use Rattle.window.proofs.set.low_ones.Goals as goal

pub returns-then-n-eq0 : goal.returns-then-n-eq0
returns-then-n-eq0 c =
    c.none.ensures ∙ ap (λ (x : ℕ). set_of (2 ^ x - 1)) (sym c.if-n-eq0.true)
