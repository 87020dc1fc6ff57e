-- The state test.
use Prim.Native.Nat.{◌^◌}
use mathlib.Core.Path.{◌≡◌}
use mathlib.Core.Bool.{Bool, true, false}
use lib.Dec.{ltb}
use borrow.Author.Tests.{ltb-true, not-true}
use Rattle.config.specs.Range.{within, outside}
use Rattle.config.specs.inner.Tests.{and_left, and_right}
use Rattle.window.specs.Set.{max_window, val}
use Rattle.window.specs.Window.{Valid, valid_of}
use Rattle.window.specs.declared.window.ReceiveWindow.{ReceiveWindow}
use Rattle.config.specs.inner.Ranges.{outside_not, within_range}

pub valid_size : (w : ReceiveWindow) → outside 1 max_window w.size ≡ true → false ≡ valid_of w
unfolding valid_of
valid_size w e = rw (not-true (within 1 max_window w.size) e)

pub valid_bits : (w : ReceiveWindow) → outside 1 max_window w.size ≡ false → ltb (val w.bits) (2 ^ w.size) ≡ valid_of w
unfolding valid_of
valid_bits w e = rw (outside_not 1 max_window w.size e)

pub valid_of_lem : (w : ReceiveWindow) → valid_of w ≡ true → Valid w
unfolding valid_of
valid_of_lem w e =
    let s : Bool = within 1 max_window w.size in
    let b : Bool = ltb (val w.bits) (2 ^ w.size) in
    let r = within_range 1 max_window w.size (and_left s b e) in
    record { some = r.0; most = r.1; inside = ltb-true _ _ (and_right s b e) }
