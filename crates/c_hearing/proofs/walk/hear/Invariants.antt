-- What is left from here on is the whole from the start.
use mathlib.Core.Path.{◌≡◌}
use Rattle.std.proofs.Common.{Ok}
use mathlib.Core.Bool.{true}
use lib.ListN.{length}
use Prim.Native.Nat.{◌-◌, ◌/◌, ◌≤◌}
use Rattle.config.specs.Settings.{check_of}
use Rattle.c_state.specs.Stream.{fits}
use Rattle.c_hearing.specs.Walk.{hear_from}
use Rattle.c_hearing.proofs.walk.hear.Given as goal

abbrev pub invariant-loop : goal.invariant-loop
invariant-loop l =
    (fits l.s ≡ true) × (check_of l.cfg ≡ Ok tt)
    × (hear_from (length l.payload / 4 - l.counter) l.cfg l.time l.ring l.payload l.at l.count l.s l.heard ≡ hear_from (length l.payload / 4) l.cfg l.time l.ring l.payload l.from 0 l.initial.s l.initial.heard)
    × (length l.s ≡ length l.initial.s) × (length l.heard ≡ length l.initial.heard)
    × (l.counter ≤ length l.payload / 4)
