-- One place up with the old highest as position 0, and then the rest of the distance.
use mathlib.Core.Path.{ap, ◌∙◌}
use Prim.Native.Nat.{ℕ, ◌+◌, ◌-◌, ◌*◌, ◌%◌, ◌^◌}
use lib.Bits.{bit_or}
use Rattle.window.specs.Set.{max_window, val, set_of}
use Rattle.window.proofs.Words.{val_is, push}
use Rattle.window.proofs.Operations.{mod_times}
use Rattle.window.proofs.arrival.moved.Goals as goal

pub returns : goal.returns
returns c =
    let one = val_is _ _ c.with.ensures ∙ ap (λ (x : ℕ). bit_or x (2 ^ 0)) (val_is _ _ c.shifted.ensures) ∙ push (val c.args.s) (max_window - 1) in
    c.shifted-2.ensures
    ∙ ap set_of (ap (λ (x : ℕ). (x * 2 ^ (c.args.d - 1)) % 2 ^ max_window) one ∙ mod_times (val c.args.s * 2 + 1) (2 ^ (c.args.d - 1)) (2 ^ max_window))
