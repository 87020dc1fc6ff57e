-- What the theorems are said of: every list of a receiver's calls, any arguments of their types, refused ones too, every window size, any calls before a restart, and every
-- group and note; and that a log's calls are those of crate `held_notes`, one for each answer.
use Prim.Native.Nat.{ℕ, ◌≤◌}
use Rattle.std.proofs.Common.{Option, Result}
use Rattle.config.specs.declared.refusal.Refusal.{Refusal}
use Rattle.receiver.specs.declared.receiver.Delivery.{Delivery}
use mathlib.Core.Path.{◌≡◌, refl}
use mathlib.Core.Bool.{true}
use mathlib.Core.List.{List, ◌∷◌, ◌++◌}
use Rattle.config.specs.declared.settings.StreamConfig.{StreamConfig}
use Rattle.command.specs.declared.retransmit.RetransmitError.{RetransmitError}
use Rattle.receiver.specs.declared.receiver.StreamEvent.{StreamEvent}
use Rattle.receiver_log.specs.Calls.{AllTyped, Entry, data_entry, poll_entry, error_entry, nak_entry}
use Rattle.receiver_log.specs.Calls as Chamber
use Rattle.receiver_log.specs.Log.{reports}
use Rattle.receiver_log.specs.Promise.{log_of}
use Rattle.held_notes.specs.Calls.{Call, delivered, told, restarted, held_in}
use Rattle.held_log.specs.Log.{calls_of}
use Rattle.held_log.specs.Theorems.{Unreleased, HeldUnreleased}

-- each answer is given as it is
pub every_answer : (s : StreamConfig) (time seq : ℕ) (ws : List ℕ) (a : Result Delivery Refusal) (e : Result (Option StreamEvent) Refusal) (q : RetransmitError) (t : List Entry)
    → calls_of (data_entry s time seq ws a ∷ poll_entry s time e ∷ error_entry q e ∷ nak_entry e ∷ t) ≡ delivered a ws ∷ told e ∷ told e ∷ told e ∷ calls_of t
every_answer s time seq ws a e q t = refl

-- a window of 1 to 128, written out
pub every_size : HeldUnreleased → (W g k : ℕ) → 1 ≤ W → W ≤ 128 → (calls : List Chamber.Call) → AllTyped calls → (before : List Call)
    → held_in g k (calls_of (log_of W calls) ++ (restarted ∷ before)) ≡ true → Unreleased W g k (reports (log_of W calls))
every_size theorem W g k least most calls l before e = theorem W g k least most calls l before e
