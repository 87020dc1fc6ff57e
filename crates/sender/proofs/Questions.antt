-- The answers of the calls that queue nothing, each from the tests that lead to it.
use mathlib.Core.Path.{◌≡◌, ap}
use Rattle.std.proofs.Common.{None, Result, Ok}
use Rattle.config.specs.declared.refusal.Refusal.{Refusal}
use mathlib.Core.Bool.{true, false}
use mathlib.Core.List.{List}
use Prim.Native.Nat.{ℕ, ◌-◌, ◌%◌, ◌≤◌, ◌<◌}
use native.Mathlib.Omega.{arith}
use borrow.Author.Tests.{le-leb, lt-leb, eq-eqb, ne_eqb}
use Rattle.config.specs.Sequence.{after, ahead}
use Rattle.config.specs.declared.settings.StreamConfig.{StreamConfig}
use Rattle.command.specs.declared.retransmit.RetransmitRequest.{RetransmitRequest}
use Rattle.history.specs.State.{cleared}
use Rattle.history.specs.Queue.{none_wait, push_answer}
use Rattle.history.specs.declared.history.SendHistory.{SendHistory}
use Rattle.history.specs.declared.queue.RetransmitQueue.{RetransmitQueue}
use Rattle.history.specs.declared.queue.Pushed.{Pushed}
use Rattle.sender.specs.State.{start_of}
use Rattle.sender.specs.Requests.{written_count, not_in_buffer, with_queue, told, outcome_of, requested_of, due_at, deadline_of, next_of}
use Rattle.sender.specs.declared.sender.Sender.{Sender}
use Rattle.sender.specs.declared.sender.RequestOutcome.{RequestOutcome}
use Rattle.sender.specs.declared.sender.RequestOutcome.TheVariants.{Error, NotSupported}

-- ---- a start
pub start_made : (words places : ℕ) (ring after : List ℕ) (h : SendHistory) (q : RetransmitQueue)
    → (h, after) ≡ cleared words ring → q ≡ none_wait places
    → (record { history = h; queue = q; unsent = 0; unsent_words = 0; idle = None }, after) ≡ start_of words places ring
start_made words places ring after h q c f =
    let one = ap (λ (x : SendHistory × List ℕ). x.0) c in
    let two = ap (λ (x : SendHistory × List ℕ). x.1) c in
    rw (one, two, f)

-- ---- a received request
module _ (s : Sender) (cfg : StreamConfig) (r : RetransmitRequest) where
  pub request_off : cfg.retransmit ≡ false → told s (Ok NotSupported) ≡ requested_of s cfg r
  unfolding requested_of
  request_off e = rw e

  module _ (on : cfg.retransmit ≡ true) (k : ℕ) (e : k ≡ ahead s.history.oldest r.seq) where
    pub request_error : written_count s ≤ k → told s (Ok (Error (not_in_buffer s))) ≡ requested_of s cfg r
    unfolding requested_of
    request_error h = rw (on, ← e, le-leb _ _ h)

    pub request_queued : k < written_count s → (p : Pushed) → p ≡ push_answer s.queue r → (o : Result RequestOutcome Refusal) → o ≡ outcome_of p.answer
        → told (with_queue s p.queue) o ≡ requested_of s cfg r
    unfolding requested_of
    request_queued h p f o g = rw (on, ← e, lt-leb _ _ h, g, f)

-- ---- questions
module _ (s : Sender) where
  pub deadline_idle : s.unsent ≡ 0 → due_at s.idle ≡ deadline_of s
  unfolding deadline_of
  deadline_idle e = rw (eq-eqb _ _ e)

  pub deadline_none : (s.unsent ≡ 0 → ⊥) → Ok None ≡ deadline_of s
  unfolding deadline_of
  deadline_none e = rw (ne_eqb _ _ e)

  pub next_number : (n : ℕ) → n ≡ after s.history.oldest ((s.history.count - s.unsent) % 65536) → n ≡ next_of s
  unfolding next_of
  next_number n e = omega arith
