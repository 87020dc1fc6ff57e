-- An event that has no reason, in one word: refusal and kind in the lowest 16 bits, then the count, the number of a command, and the first number lost.
use Rattle.std.specs.Prelude.{ℕ}
use Rattle.c_answers.specs.declared.answers.CEvent.{CEvent}
use Rattle.c_state.specs.Pack.{four_in, two_in}

unfoldable pub event_in : ℕ → CEvent
event_in w =
    let q = four_in w in
    let s = two_in q.a in
    record { refusal = s.low; kind = s.high; reason = 0; seq = q.c; first = q.d; count = q.b }
