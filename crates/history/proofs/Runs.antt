-- Stores of a ring as straight runs.
use Rattle.std.proofs.Common.{◌≡◌, ℕ, ◌+◌, ◌-◌, ◌<◌, ◌≤◌, cond, ltb, List, [], ◌∷◌, length, get_or, drop, set, sym, refl, ap, ◌∙◌, add-one, arith, length-set, drop_of_length-le, drop-cons}
use Rattle.history.specs.Ring.{slot_of, ring_stored}
use Rattle.history.proofs.Slots.{slot_below, slot_round, slot_zero}

-- one store: what is left to store, from the ring as it is, stays the same
stored_turn : (b ws z : List ℕ) (i i' j : ℕ) → j < length ws
    → ring_stored b i (drop j ws) ≡ z
    → i' ≡ slot_of (length (set b i (get_or ws j 0))) i 1
    → ring_stored (set b i (get_or ws j 0)) i' (drop (j + 1) ws) ≡ z
unfolding ring_stored
stored_turn b ws z i i' j h inv e = rw (e, length-set, add-one) (rw (drop-cons ws j 0 h) at inv)

-- nothing is left to store
stored_done : (b ws z : List ℕ) (i j : ℕ) → length ws ≤ j → ring_stored b i (drop j ws) ≡ z → b ≡ z
unfolding ring_stored
stored_done b ws z i j h inv = rw (drop_of_length-le ws h) at inv

pub length_ring_stored : (ws b : List ℕ) (i : ℕ) → length (ring_stored b i ws) ≡ length b
unfolding ring_stored
length_ring_stored [] b i = refl
length_ring_stored (w ∷ ws) b i = length_ring_stored ws (set b i w) _ ∙ length-set b i w

slot_step : (c i k : ℕ) → slot_of c i (k + 1) ≡ slot_of c (i + k) 1
unfolding slot_of
slot_step c i k =
    let e : i + (k + 1) ≡ i + k + 1 = omega arith in
    ap (λ (x : ℕ). cond (ltb x c) x (x - c)) e

pub run_start : (b ws : List ℕ) (i f : ℕ) → i < length b → ring_stored b (slot_of (length b) i 0) (drop (f + 0) ws) ≡ ring_stored b i (drop f ws)
run_start b ws i f h =
    let y : f + 0 ≡ f = omega arith in
    rw (slot_zero (length b) i h, y)

pub run_turn : (b ws z : List ℕ) (c i f k : ℕ) → length b ≡ c → i + k < c → f + k < length ws
    → ring_stored b (slot_of c i k) (drop (f + k) ws) ≡ z
    → ring_stored (set b (i + k) (get_or ws (f + k) 0)) (slot_of c i (k + 1)) (drop (f + (k + 1)) ws) ≡ z
run_turn b ws z c i f k e h l inv =
    let w : ℕ = get_or ws (f + k) 0 in
    let here : ring_stored b (i + k) (drop (f + k) ws) ≡ z = ap (λ (x : ℕ). ring_stored b x (drop (f + k) ws)) (slot_below c i k h) ∙ inv in
    let len : c ≡ length (set b (i + k) w) = rw length-set (sym e) in
    let step : slot_of c i (k + 1) ≡ slot_of (length (set b (i + k) w)) (i + k) 1 = slot_step c i k ∙ ap (λ (x : ℕ). slot_of x (i + k) 1) len in
    let y : f + (k + 1) ≡ f + k + 1 = omega arith in
    ap (λ (x : ℕ). ring_stored (set b (i + k) w) (slot_of c i (k + 1)) (drop x ws)) y
    ∙ stored_turn b ws z (i + k) (slot_of c i (k + 1)) (f + k) l here step

-- one run reaches the words' end
pub run_one : (b b1 ws : List ℕ) (i j r : ℕ) → length ws ≤ r
    → ring_stored b1 j (drop (0 + r) ws) ≡ ring_stored b i (drop 0 ws)
    → b1 ≡ ring_stored b i ws
run_one b b1 ws i j r l p = stored_done b1 ws _ j (0 + r) (omega arith) p

-- a run up to the ring's end, and one from its start
pub run_two : (b b1 b2 ws : List ℕ) (c i r m : ℕ) → c ≡ i + r → length ws ≤ r + m → (c1 : ℕ)
    → ring_stored b1 (slot_of c i r) (drop (0 + r) ws) ≡ ring_stored b i (drop 0 ws)
    → ring_stored b2 (slot_of c1 0 m) (drop (r + m) ws) ≡ ring_stored b1 0 (drop r ws)
    → b2 ≡ ring_stored b i ws
run_two b b1 b2 ws c i r m e l c1 p q =
    let z : 0 ≡ i + r - c = omega arith in
    let y : r ≡ 0 + r = omega arith in
    stored_done b2 ws (ring_stored b1 0 (drop r ws)) (slot_of c1 0 m) (r + m) l q
    ∙ ap (λ (x : ℕ). ring_stored b1 x (drop r ws)) (z ∙ slot_round c i r (omega arith))
    ∙ ap (λ (x : ℕ). ring_stored b1 (slot_of c i r) (drop x ws)) y
    ∙ p
