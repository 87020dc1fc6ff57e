-- A request follows the book.
use mathlib.Core.Path.{◌≡◌, refl, sym, ap, ◌∙◌}
use Rattle.std.proofs.Common.{Result, Ok, Err}
use Rattle.config.specs.declared.refusal.Refusal.{Refusal}
use Rattle.sender.specs.declared.sender.RequestOutcome.{RequestOutcome}
use Rattle.sender.specs.declared.sender.SenderAnswer.{SenderAnswer}
use Rattle.std.specs.Bool.{⊤}
use mathlib.Core.Bool.{Bool, true, false, cond, not}
use mathlib.Core.List.{List, [], ◌∷◌, ◌++◌}
use Prim.Native.Nat.{ℕ, ◌<◌}
use native.Mathlib.Omega.{arith}
use borrow.Author.Tests.{leb-false}
use lib.Dec.{leb}
use lib.ListN.{length, length-set}
use Rattle.config.specs.Settings.{check_of, tested}
use Rattle.config.specs.declared.settings.StreamConfig.{StreamConfig}
use Rattle.command.specs.declared.retransmit.RetransmitRequest.{RetransmitRequest}
use Rattle.history.specs.Queue.{waiting, asks, behind, answered, push_answer}
use Rattle.history.specs.declared.queue.Ignored.TheVariants.{Pending, Full as NoPlace}
use Rattle.history.proofs.Queues.{waiting_pushed}
use Rattle.sender.specs.Requests.{not_in_buffer, with_queue, told, queued_by, requested_of}
use Rattle.sender.specs.Answers.{request_refused, request_answer}
use Rattle.sender.specs.declared.sender.Sender.{Sender}
use Rattle.sender.specs.declared.sender.RequestOutcome.TheVariants.{Queued, Ignored, Error, NotSupported}
use Rattle.sender_log.specs.Book.{Book, absent_in, error_in, with_waiting, RequestIn, requested_in}
use Rattle.sender_log.proofs.Ties.{Follows, follows_valid, absent_same, error_same, with_queue_lem, waiting_count}

-- ---- a request

module _ (c q : ℕ) (s : Sender) (ring : List ℕ) (b : Book) (f : Follows c q s ring b) where
  -- as many places, as many requests, and the new one behind them
  queue_behind : (r : RetransmitRequest) → s.queue.len < s.queue.size → Follows c q (with_queue s (behind s.queue r)) ring (with_waiting b (b.waiting ++ (r ∷ [])))
  queue_behind r l =
      let t = f.fit in
      with_queue_lem c q s ring b f (behind s.queue r) (b.waiting ++ (r ∷ [])) f.places
      record { least = t.least; most = t.most; inside = t.inside; held = omega arith }
      (length-set s.queue.items _ r ∙ f.items)
      (waiting_pushed s.queue r t l f.items ∙ ap (λ (x : List RetransmitRequest). x ++ (r ∷ [])) f.requests)

  abbrev Asked : SenderAnswer RequestOutcome → RequestIn → Type 0
  Asked h a = Follows c q h.sender ring a.book × (h.answer ≡ a.outcome)

  -- what the book says of a request whose number is that of a written command
  abbrev asked_in : RetransmitRequest → RequestIn
  asked_in r =
      cond (asks b.waiting r.seq) (record { book = b; outcome = Ok (Ignored Pending) })
      (cond (leb q (length b.waiting)) (record { book = b; outcome = Ok (Ignored NoPlace) })
      (record { book = with_waiting b (b.waiting ++ (r ∷ [])); outcome = Ok Queued }))

  pushed_asked : (r : RetransmitRequest) → Asked (queued_by s (push_answer s.queue r)) (asked_in r)
  unfolding push_answer
  pushed_asked r =
      let n : leb q (length b.waiting) ≡ leb s.queue.size s.queue.len = cc (f.places, waiting_count c q s ring b f) in
      let a : asks b.waiting r.seq ≡ asks (waiting s.queue) r.seq = ap (λ (x : List RetransmitRequest). asks x r.seq) (sym f.requests) in
      rw (n, a) (by (asks (waiting s.queue) r.seq) (leb s.queue.size s.queue.len) refl)
    where
      by : (x y : Bool) → leb s.queue.size s.queue.len ≡ y → Asked
          (queued_by s (cond x (answered s.queue (Err Pending)) (cond y (answered s.queue (Err NoPlace)) (answered (behind s.queue r) (Ok tt)))))
          (cond x (record { book = b; outcome = Ok (Ignored Pending) }) (cond y (record { book = b; outcome = Ok (Ignored NoPlace) }) (record { book = with_waiting b (b.waiting ++ (r ∷ [])); outcome = Ok Queued })))
      by true y e = (f, refl)
      by false true e = (f, refl)
      by false false e = (queue_behind r (leb-false _ _ e), refl)

  pub request_follows : (cfg : StreamConfig) (r : RetransmitRequest)
      → Follows c q (request_answer s cfg ring r).sender ring (requested_in q b cfg r).book × ((request_answer s cfg ring r).answer ≡ (requested_in q b cfg r).outcome)
  unfolding request_answer requested_in requested_of
  request_follows cfg r = rw (follows_valid c q s ring b f, absent_same c q s ring b f r.seq) (by (check_of cfg) cfg.retransmit (absent_in b r.seq))
    where
      by : (k : Result ⊤ Refusal) (x y : Bool) → Asked
          (tested k (request_refused s) (cond (not x) (told s (Ok NotSupported)) (cond y (told s (Ok (Error (not_in_buffer s)))) (queued_by s (push_answer s.queue r)))))
          (tested k (λ why. record { book = b; outcome = Err why }) (cond (not x) (record { book = b; outcome = Ok NotSupported }) (cond y (record { book = b; outcome = Ok (Error (error_in b)) }) (asked_in r))))
      by (Err why) x y = (f, refl)
      by (Ok _) false y = (f, refl)
      by (Ok _) true true = (f, ap (λ a. Ok (Error a)) (error_same c q s ring b f))
      by (Ok _) true false = pushed_asked r
