-- 01, "Position, window, loss": class, gap, loss, missing span and request of the next call, from what was heard, handed on and reported.
use Rattle.std.specs.Prelude.{ℕ, zero, suc, ◌+◌, ◌-◌, ◌%◌, Bool, true, false, cond, ◌&&◌, List, Option, Some, None}
use Rattle.window.specs.declared.window.SeqRange.{SeqRange}
use Rattle.config.specs.Range.{within}
use Rattle.config.specs.Sequence.{turn, ahead}
use Rattle.command.specs.declared.retransmit.RetransmitRequest.{RetransmitRequest}
use Rattle.window.specs.Marking.{in_range}
use Rattle.window.specs.declared.window.Class.{Class}
use Rattle.window.specs.declared.window.Class.TheVariants.{New, Late, Duplicate}
use Rattle.receiver_log.specs.Log.{Report, origin, is_ahead, place, high, unprocessed}

-- ---- ends

-- the newest and the oldest of some positions, by how far behind the highest they are
pub data Ends : Type 0 where
  none : Ends
  ends : ℕ → ℕ → Ends

abbrev pub is_none : Ends → Bool
is_none none = true
is_none (ends newest oldest) = false

-- one position more, older than all
abbrev pub widen : ℕ → Ends → Ends
widen b none = ends b b
widen b (ends newest oldest) = ends newest b

-- of the n positions from `low` behind on, those that f holds of
unfoldable pub ends_of : (ℕ → Bool) → ℕ → ℕ → Ends
ends_of f low zero = none
ends_of f low (suc n) = cond (f (low + n)) (widen (low + n) (ends_of f low n)) (ends_of f low n)

-- the numbers from the oldest to the newest
abbrev pub span_from : ℕ → Ends → Option SeqRange
span_from highest none = None
span_from highest (ends newest oldest) = Some record { first = (highest - oldest) % turn; count = oldest - newest + 1 }

-- the numbers from the oldest to just before the highest
abbrev pub request_from : ℕ → Ends → Option SeqRange
request_from highest none = None
request_from highest (ends newest oldest) = Some record { first = (highest - oldest) % turn; count = oldest }

-- ---- a number arrives

-- New if ahead, its gap one less than the distance; Late if 1 to W behind and not processed; otherwise Duplicate
unfoldable pub class_in : ℕ → List Report → ℕ → Class
class_in W t seq =
    cond (is_ahead (high t) seq) (New (ahead (high t % turn) seq - 1))
    (cond (within 1 W (ahead seq (high t % turn)) && unprocessed t (place (high t) seq)) Late
    Duplicate)

-- the oldest to the newest unprocessed position, skipped ones included, of those from position 0 that are more than W behind the place `to`
unfoldable pub lost_at : ℕ → List Report → ℕ → Option SeqRange
unfolding ends_of
lost_at W t to = span_from to (ends_of (λ b. unprocessed t (to - b)) (W + 1) (to - origin - W))

-- a New number's loss
unfoldable pub lost_in : ℕ → List Report → ℕ → Option SeqRange
unfolding lost_at
lost_in W t seq = cond (is_ahead (high t) seq) (lost_at W t (place (high t) seq)) None

-- ---- missing

unfoldable pub missing_ends : ℕ → List Report → Ends
unfolding ends_of
missing_ends W t = ends_of (λ b. unprocessed t (high t - b)) 1 W

abbrev pub nothing_missing : ℕ → List Report → Bool
nothing_missing W t = is_none (missing_ends W t)

-- from the oldest missing position to the newest
abbrev pub missing_in : ℕ → List Report → Option SeqRange
missing_in W t = span_from (high t) (missing_ends W t)

-- from the oldest missing position to just before the highest
abbrev pub request_in : ℕ → List Report → Option SeqRange
request_in W t = request_from (high t) (missing_ends W t)

-- from the oldest to the newest of the missing positions whose numbers a request asks for
unfoldable pub asked_for : ℕ → List Report → RetransmitRequest → Option SeqRange
unfolding ends_of
asked_for W t q =
    span_from (high t)
    (ends_of (λ b. unprocessed t (high t - b) && in_range (record { first = q.seq; count = q.count }) ((high t - b) % turn)) 1 W)
