-- An end at rest: in a step with nothing to queue, to send or to poll for it is left as it is.
use Rattle.std.specs.Prelude.{ℕ, Bool, true, false, not, ◌&&◌, eqb, ltb, Option, Some, None}
use Rattle.command.specs.declared.retransmit.RetransmitError.{RetransmitError}
use Rattle.idle.specs.declared.idle.Idle.{Idle}
use Rattle.receiver.specs.declared.receiver.RequestTimer.{RequestTimer}
use Rattle.stream.specs.declared.stream.DataStream.{DataStream}
use Rattle.load.specs.Load.{count_of}

-- no idle command is due
unfoldable pub idle_rests : Option Idle → ℕ → Bool
idle_rests None time = true
idle_rests (Some i) time = ltb time i.due

-- a poll has nothing to do
unfoldable pub timer_rests : Option RequestTimer → ℕ → Bool
timer_rests None time = true
timer_rests (Some t) time = ltb time t.due

-- nothing is to be written: no request is due, no command is unwritten, no request waits, no idle command is due
unfoldable pub quiet_of : DataStream → ℕ → Bool
quiet_of s time =
    not s.receiver.request_due && (eqb s.sender.unsent 0 && (eqb s.sender.queue.len 0 && idle_rests s.sender.idle time))

unfoldable pub no_error : Option RetransmitError → Bool
no_error None = true
no_error (Some e) = false

-- the console, with the load's value and the error that waits
unfoldable pub console_rests : DataStream → ℕ → ℕ → Option RetransmitError → Bool
console_rests s time x w = no_error w && (eqb (count_of x) 0 && quiet_of s time)

-- the chamber, which has read
unfoldable pub chamber_rests : DataStream → ℕ → Bool
chamber_rests s time = timer_rests s.receiver.timer time && quiet_of s time
