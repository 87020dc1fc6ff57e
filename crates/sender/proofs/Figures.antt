-- Figures of paper 01, computed from the definitions.
use mathlib.Core.Path.{◌≡◌, refl}
use Rattle.std.proofs.Common.{Some}
use mathlib.Core.Bool.{true, false}
use Prim.Native.Nat.{ℕ}
use lib.ListN.{replicate}
use Rattle.history.specs.Headers.{header_at, words_from, numbered}
use Rattle.history.specs.State.{fresh as none_held, state_ok, walk_ok}
use Rattle.history.specs.Queue.{none_wait}
use Rattle.sender.specs.State.{valid_of}
use Rattle.sender.specs.declared.sender.Sender.{Sender}

-- a sender that holds nothing, at an idle step
abbrev idling : ℕ → Sender
idling step =
    record { history = none_held 65; queue = none_wait 4; unsent = 0; unsent_words = 0; idle = Some record { due = 0; step = step; interval = 100 } }

-- "13 when .. the idle step exceeds 510": 510 is taken and 511 is not
pub idle_step : (valid_of (idling 510) (replicate 65 0) ≡ true) × (valid_of (idling 511) (replicate 65 0) ≡ false)
unfolding valid_of state_ok walk_ok numbered words_from header_at
idle_step = (refl, refl)
