-- The request queue: its test, and what its operations do to the list of requests that wait.
use Rattle.std.proofs.Common.{◌≡◌, ℕ, zero, suc, ◌+◌, ◌-◌, ◌<◌, ◌≤◌, true, false, ltb, leb, List, [], ◌∷◌, ◌++◌, length, get_or, set, sym, refl, ap, ◌∙◌, arith, get_or-set_other, get_or-set_same, ltb-true, lt-ltb, eq-eqb, ne_eqb, le-leb, leb-true}
use Rattle.config.specs.Range.{within}
use Rattle.config.specs.inner.Tests.{and_left, and_right}
use Rattle.history.specs.Ring.{slot_of}
use Rattle.history.specs.Queue.{blank, none_wait, queue_ok, Fit, request, requests, waiting, asks, behind, popped, in_front}
use Rattle.command.specs.declared.retransmit.RetransmitRequest.{RetransmitRequest}
use Rattle.history.specs.declared.queue.RetransmitQueue.{RetransmitQueue}
use Rattle.history.proofs.Slots.{slot_in, slot_zero, slot_add, slot_apart}

-- ---- the test

module _ (q : RetransmitQueue) where
  pub queue_fit : queue_ok q ≡ true → Fit q
  queue_fit e =
      let s = and_left (within 1 16 q.size) _ e in
      let r = and_right (within 1 16 q.size) _ e in
      record {
        least = leb-true _ _ (and_left (leb 1 q.size) _ s);
        most = leb-true _ _ (and_right (leb 1 q.size) _ s);
        inside = ltb-true _ _ (and_left (ltb q.head q.size) _ r);
        held = leb-true _ _ (and_right (ltb q.head q.size) _ r);
      }

  pub fit_queue : Fit q → queue_ok q ≡ true
  fit_queue f = rw (le-leb _ _ f.least, le-leb _ _ f.most, lt-ltb _ _ f.inside, le-leb _ _ f.held)

-- ---- a number that waits

module _ (q : RetransmitQueue) (n i at : ℕ) (r : RetransmitRequest) (place : at ≡ slot_of q.size q.head i) (here : r ≡ get_or q.items at blank) (more : i < q.len) where
  one : q.len - i ≡ suc (q.len - (i + 1))
  one = omega arith

  same : r ≡ request q i
  unfolding request
  same = here ∙ rw place

  pub asks_found : r.seq ≡ n → asks (requests q (q.len - i) i) n ≡ true
  unfolding asks requests
  asks_found h = rw (one, ← same, eq-eqb _ _ h)

  pub asks_passed : (r.seq ≡ n → ⊥) → asks (requests q (q.len - i) i) n ≡ asks (requests q (q.len - (i + 1)) (i + 1)) n
  unfolding asks requests
  asks_passed h = rw (one, ← same, ne_eqb _ _ h)

pub asks_none : (q : RetransmitQueue) (n i : ℕ) → q.len ≤ i → asks (requests q (q.len - i) i) n ≡ false
unfolding asks requests
asks_none q n i h = let e : q.len - i ≡ 0 = omega arith in rw e

-- ---- the requests that wait, after each operation

-- requests whose places a store leaves alone
requests_kept : (q : RetransmitQueue) (r : RetransmitRequest) (k i : ℕ) → Fit q → q.len < q.size → i + k ≤ q.len
    → requests (behind q r) k i ≡ requests q k i
unfolding requests request
requests_kept q r zero i f l h = refl
requests_kept q r (suc k) i f l h =
    rw (
      get_or-set_other q.items (slot_of q.size q.head q.len) (slot_of q.size q.head i) r blank
          (slot_apart q.size q.head i q.len f.inside (omega arith) l),
      requests_kept q r k (i + 1) f l (omega arith),
    )

-- the last of k + 1 requests
requests_last : (q : RetransmitQueue) (k i : ℕ) → requests q (k + 1) i ≡ requests q k i ++ (request q (i + k) ∷ [])
unfolding requests
requests_last q zero i = let e : i + 0 ≡ i = omega arith in rw e
requests_last q (suc k) i =
    let e : suc k + 1 ≡ suc (k + 1) = omega arith in
    let f : i + 1 + k ≡ i + suc k = omega arith in
    rw (e, requests_last q k (i + 1), f)

pub waiting_pushed : (q : RetransmitQueue) (r : RetransmitRequest) → Fit q → q.len < q.size → length q.items ≡ 16
    → waiting (behind q r) ≡ waiting q ++ (r ∷ [])
unfolding request
waiting_pushed q r f l n =
    let s : slot_of q.size q.head q.len < length q.items = omega (arith, slot_in q.size q.head q.len f.inside f.held, f.most) in
    let z : 0 + q.len ≡ q.len = omega arith in
    requests_last (behind q r) q.len 0
    ∙ rw (requests_kept q r q.len 0 f l (omega arith), z, get_or-set_same q.items (slot_of q.size q.head q.len) r blank s)

-- from the next head on each request is one nearer
requests_popped : (q : RetransmitQueue) (k i : ℕ) → Fit q → i + k < q.size → requests (popped q) k i ≡ requests q k (i + 1)
unfolding requests request
requests_popped q zero i f h = refl
requests_popped q (suc k) i f h =
    let e : 1 + i ≡ i + 1 = omega arith in
    rw (slot_add q.size q.head 1 i f.inside (omega arith), e, requests_popped q k (i + 1) f (omega arith))

-- the oldest is gone, the others wait as before
pub waiting_popped : (q : RetransmitQueue) → Fit q → 0 < q.len → waiting q ≡ request q 0 ∷ waiting (popped q)
unfolding requests
waiting_popped q f p =
    let s : q.len ≡ suc (q.len - 1) = omega arith in
    ap (λ (k : ℕ). requests q k 0) s
    ∙ ap (λ (l : List RetransmitRequest). request q 0 ∷ l) (sym (requests_popped q (q.len - 1) 0 f (omega (arith, f.held))))

requests_fronted : (q : RetransmitQueue) (r : RetransmitRequest) (k i : ℕ) → Fit q → 0 < i → i + k ≤ q.size → requests (in_front q r) k i ≡ requests q k i
unfolding requests request
requests_fronted q r zero i f p h = refl
requests_fronted q r (suc k) i f p h =
    rw (
      get_or-set_other q.items q.head (slot_of q.size q.head i) r blank
          (λ e. slot_apart q.size q.head 0 i f.inside p (omega arith) (slot_zero q.size q.head f.inside ∙ sym e)),
      requests_fronted q r k (i + 1) f (omega arith) (omega arith),
    )

-- the oldest is replaced
pub waiting_fronted : (q : RetransmitQueue) (r : RetransmitRequest) → Fit q → 0 < q.len → length q.items ≡ 16
    → waiting (in_front q r) ≡ r ∷ waiting (popped q)
unfolding requests request
waiting_fronted q r f p n =
    let s : q.len ≡ suc (q.len - 1) = omega arith in
    let l : q.head < length q.items = omega (arith, f.inside, f.most) in
    let e : get_or (set q.items q.head r) (slot_of q.size q.head 0) blank ≡ r = rw (slot_zero q.size q.head f.inside) (get_or-set_same q.items q.head r blank l) in
    ap (λ (k : ℕ). requests (in_front q r) k 0) s
    ∙ ap (λ (x : RetransmitRequest). x ∷ requests (in_front q r) (q.len - 1) 1) e
    ∙ ap (λ (x : List RetransmitRequest). r ∷ x) (requests_fronted q r (q.len - 1) 1 f (omega arith) (omega (arith, f.held)) ∙ sym (requests_popped q (q.len - 1) 0 f (omega (arith, f.held))))

pub waiting_none : (size : ℕ) → waiting (none_wait size) ≡ []
unfolding requests
waiting_none size = refl
