-- 01, "Position, window, loss": a receiver's call on its words: the answer, and the words of what the call leaves.
use Rattle.std.specs.Prelude.{ℕ, Bool, true, cond, ◌&&◌, List, ltb, Option, Some, None, Result}
use Rattle.config.specs.declared.refusal.Refusal.{Refusal}
use Rattle.receiver.specs.declared.receiver.Delivery.{Delivery}
use Rattle.receiver.specs.declared.receiver.ReceiverAnswer.{ReceiverAnswer}
use Rattle.receiver.specs.declared.receiver.RequestTimer.{RequestTimer}
use Rattle.config.specs.declared.settings.StreamConfig.{StreamConfig}
use Rattle.window.specs.declared.window.ReceiveWindow.{ReceiveWindow}
use Rattle.window.specs.declared.window.Class.{Class}
use Rattle.receiver.specs.Receiver.{valid_of, rest_of, enabled_of, nothing_missing, is_gap, restarts}
use Rattle.receiver.specs.declared.receiver.Receiver.{Receiver}
use Rattle.receiver.specs.declared.receiver.StreamEvent.{StreamEvent}
use Rattle.c_state.specs.Receiver.{with_window}
use Rattle.c_state.specs.Stream.{receiver_fits, receiver_in, with_receiver}

-- a new gap, while requests are enabled and no timer runs that has yet to make one due
abbrev pub starts_timer : Receiver → StreamConfig → Class → Bool
starts_timer r cfg class = is_gap class && (enabled_of r cfg && restarts r.timer)

-- what a number that starts no timer leaves
unfoldable pub kept_of : Receiver → ReceiveWindow → Receiver
kept_of r w = cond (nothing_missing w) (rest_of r.refused w) (with_window r w)

abbrev pub heard_into : List ℕ → ReceiverAnswer Delivery → Result Delivery Refusal × List ℕ
heard_into ws h = (h.answer, with_receiver ws h.receiver)

abbrev pub told_into : List ℕ → ReceiverAnswer (Option StreamEvent) → Result (Option StreamEvent) Refusal × List ℕ
told_into ws t = (t.answer, with_receiver ws t.receiver)

-- a timer that a poll at this time leaves as it is
abbrev pub not_due : Option RequestTimer → ℕ → Bool
not_due None time = true
not_due (Some t) time = ltb time t.due

-- words of a receiver that passes its test, and whose timer a poll at this time leaves as it is
unfoldable pub waits_of : ℕ → List ℕ → Bool
waits_of time ws = receiver_fits ws && (valid_of (receiver_in ws) && not_due (receiver_in ws).timer time)
