-- 01, "Numbers of each operation" and "State test": what is tested in front of a call, in this order. `refused` gives what a call leaves and answers that a test refuses: all that was lent as it was, and the refusal.
use Rattle.std.specs.Prelude.{Bool, cond, Result, ⊤}
use Rattle.config.specs.Settings.{tested}
use Rattle.config.specs.declared.refusal.Refusal.{Refusal}
use Rattle.config.specs.declared.refusal.Refusal.TheVariants.{InvalidState}

-- a call that is given a state: 13 for one that no call has left
abbrev pub on_state : {A : Type 0} → Bool → (Refusal → A) → A → A
on_state valid refused call = cond valid call (refused InvalidState)

-- a call that is given settings too: their own number first
abbrev pub entry : {A : Type 0} → Result ⊤ Refusal → Bool → (Refusal → A) → A → A
entry checked valid refused call = tested checked refused (on_state valid refused call)
