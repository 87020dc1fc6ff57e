-- 01, "History, repeats, idle": what waiting requests are answered with, over every command ever opened, and what is left of them.
use Rattle.std.specs.Prelude.{ℕ, ◌+◌, ◌-◌, ◌%◌, min, Bool, true, cond, ◌&&◌, List, [], ◌∷◌, ◌++◌, length, ltb, leb, eqb}
use Rattle.config.specs.Sequence.{turn, after, ahead}
use Rattle.packet.specs.Layout.{Packet, size_of}
use Rattle.packet.specs.Write.{limit_of, start_of}
use Rattle.packet.specs.declared.writer.PayloadWriter.{PayloadWriter}
use Rattle.command.specs.Write.{error_packet}
use Rattle.command.specs.declared.retransmit.RetransmitRequest.{RetransmitRequest}
use Rattle.sender_log.specs.Opened.{Past, oldest_at, copies}

-- the position with this number, from the oldest held on
abbrev pub position_of : ℕ → Past → ℕ → ℕ
position_of c x seq = oldest_at c x + ahead (oldest_at c x % turn) seq

-- it isn't that of a written command
abbrev pub not_held : ℕ → Past → ℕ → Bool
not_held c x seq = leb (length x.written) (position_of c x seq)

-- Count 0 reaches the newest written command; no count reaches past it.
abbrev pub reach_of : Past → ℕ → ℕ → ℕ
reach_of x at count = cond (eqb count 0) (length x.written) (min (at + count) (length x.written))

-- error NOT_IN_BUFFER with the oldest number if the number left while the request waited, else the commands asked for
unfoldable pub answer_to : ℕ → Past → RetransmitRequest → List Packet
answer_to c x r =
    let at : ℕ = position_of c x r.seq in
    cond (not_held c x r.seq) (error_packet record { reason = 1; seq = oldest_at c x % turn } ∷ [])
    (copies x at (reach_of x at r.count))

-- of several, in order
unfoldable pub answers_to : ℕ → Past → List RetransmitRequest → List Packet
answers_to c x [] = []
answers_to c x (r ∷ rs) = answer_to c x r ++ answers_to c x rs

-- the first doesn't fit
abbrev pub first_left : PayloadWriter → List ℕ → List Packet → Bool
first_left p by [] = true
first_left p by (k ∷ ks) = ltb (limit_of p (length by)) (start_of p + size_of k)

-- Requests whose command or error is too large for an empty payload leave the ring.
unfoldable pub in_turn : ℕ → Past → PayloadWriter → List ℕ → List RetransmitRequest → List RetransmitRequest
in_turn c x p by [] = []
in_turn c x p by (r ∷ rs) = cond (eqb p.len 0 && first_left p by (answer_to c x r)) (in_turn c x p by rs) (r ∷ rs)

-- what is left of a request after n of its commands
abbrev pub rest_of : ℕ → Past → RetransmitRequest → ℕ → RetransmitRequest
rest_of c x r n = cond (not_held c x r.seq) r record { seq = after r.seq n; count = length (answer_to c x r) - n }

-- and of several after n commands
unfoldable pub left_after : ℕ → Past → List RetransmitRequest → ℕ → List RetransmitRequest
left_after c x [] n = []
left_after c x (r ∷ rs) n =
    let k : ℕ = length (answer_to c x r) in
    cond (leb k n) (left_after c x rs (n - k)) (rest_of c x r n ∷ rs)
