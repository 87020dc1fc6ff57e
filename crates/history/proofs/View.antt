-- The ring read once round from its head, as a plain list: stores, reads and moves of the head, said of that list.
use Rattle.std.proofs.Common.{◌≡◌, ℕ, zero, suc, ◌+◌, ◌-◌, ◌<◌, ◌≤◌, min, List, [], ◌∷◌, ◌++◌, length, get_or, take, drop, set, sym, refl, ap, ◌∙◌, ⊎_elim, append_assoc, append-nil, suc-add, add-one, arith, length-append, length-drop, length-set, take-append-drop, length-take-le, drop-cons, take-take, drop-drop, take-suc-set, drop-set-lt, take-add}
use lib.Seq.{take-append-le, drop-append-le, take-append-add, drop-append-add, set-append_left, take-set-le, take-set-lt, drop-set-add, take-length}
use Rattle.command.specs.inner.Lists.{drop_taken}
use Rattle.history.specs.Ring.{slot_of, run_of, ring_stored, ring_read, view}
use Rattle.history.proofs.Slots.{slot_below, slot_round, slot_in, slot_add, lt_or_ge}

set_append_add : (xs ys : List ℕ) (i v : ℕ) → set (xs ++ ys) (length xs + i) v ≡ xs ++ set ys i v
set_append_add [] ys i v = let e : 0 + i ≡ i = omega arith in rw e
set_append_add (x ∷ xs) ys i v = rw suc-add (ap (λ (l : List ℕ). x ∷ l) (set_append_add xs ys i v))

module _ (b : List ℕ) (h : ℕ) (inside : h < length b) where
  length_back : length (drop h b) ≡ length b - h
  length_back = length-drop h b

  length_front : length (take h b) ≡ h
  length_front = length-take-le h b (omega arith)

  pub length_view : length (view b h) ≡ length b
  unfolding view
  length_view = rw (length-append, length_back, length_front) (omega arith)

  set_below : (k v : ℕ) → h + k < length b → view (set b (h + k) v) h ≡ set (view b h) k v
  unfolding view
  set_below k v p =
      let q : k < length (drop h b) = omega (arith, length_back) in
      let r : h ≤ h + k = omega arith in
      rw (drop-set-add, take-set-le, set-append_left)

  set_round : (i v : ℕ) → i < h → view (set b i v) h ≡ set (view b h) (length (drop h b) + i) v
  unfolding view
  set_round i v p = rw (drop-set-lt, take-set-lt, set_append_add)

  -- a store at the place k after the head
  pub view_set : (k v : ℕ) → k < length b → view (set b (slot_of (length b) h k) v) h ≡ set (view b h) k v
  view_set k v p =
      ⊎_elim
      (λ (q : h + k < length b). rw (← slot_below (length b) h k q) (set_below k v q))
      (λ (q : length b ≤ h + k).
      let e : length (drop h b) + (h + k - length b) ≡ k = omega (arith, length_back) in
      rw (← slot_round (length b) h k q) (set_round (h + k - length b) v (omega arith) ∙ rw e))
      (lt_or_ge (h + k) (length b))

  turn_below : (n : ℕ) → h + n < length b → view b (h + n) ≡ drop n (view b h) ++ take n (view b h)
  unfolding view
  turn_below n p =
      let q : n ≤ length (drop h b) = omega (arith, length_back) in
      rw (drop-append-le, take-append-le, drop-drop, take-add) (simp append_assoc)

  turn_round : (i : ℕ) → i ≤ h → view b i ≡ drop (length (drop h b) + i) (view b h) ++ take (length (drop h b) + i) (view b h)
  unfolding view
  turn_round i p =
      let q : i ≤ length (take h b) = omega (arith, length_front) in
      let e : drop i b ≡ drop i (take h b) ++ drop h b = ap (drop i) (sym (take-append-drop h b)) ∙ drop-append-le i (take h b) (drop h b) q in
      rw (drop-append-add, take-append-add, take-take, e) (simp append_assoc)

  -- the head moves on by n
  pub view_turn : (n : ℕ) → n ≤ length b → view b (slot_of (length b) h n) ≡ drop n (view b h) ++ take n (view b h)
  view_turn n p =
      ⊎_elim
      (λ (q : h + n < length b). rw (← slot_below (length b) h n q) (turn_below n q))
      (λ (q : length b ≤ h + n).
      let e : length (drop h b) + (h + n - length b) ≡ n = omega (arith, length_back) in
      rw (← slot_round (length b) h n q) (turn_round (h + n - length b) (omega arith) ∙ rw e))
      (lt_or_ge (h + n) (length b))

  -- the first words after the head has moved on by n
  pub view_part : (n m : ℕ) → n + m ≤ length b → take m (view b (slot_of (length b) h n)) ≡ take m (drop n (view b h))
  view_part n m p =
      let r : m ≤ length (drop n (view b h)) = rw (length-drop, length_view) (omega arith) in
      rw (view_turn n (omega arith)) (take-append-le m _ _ r)

  -- what is in use after the n oldest words have left
  pub used_turn : (n u : ℕ) → n ≤ u → u ≤ length b → take (u - n) (view b (slot_of (length b) h n)) ≡ drop n (take u (view b h))
  used_turn n u p q = view_part n (u - n) (omega arith) ∙ sym (drop_taken n u (view b h) p)

  -- the word at the head
  pub view_first : view b h ≡ get_or b h 0 ∷ drop 1 (view b h)
  unfolding view
  view_first = rw (drop-cons b h 0 inside)

-- words stored from the place k after the head
pub view_stored : (ws b : List ℕ) (h k : ℕ) → h < length b → k + length ws ≤ length b
    → view (ring_stored b (slot_of (length b) h k) ws) h ≡ take k (view b h) ++ (ws ++ drop (k + length ws) (view b h))
unfolding ring_stored
view_stored [] b h k p q =
    let e : k + 0 ≡ k = omega arith in
    rw e (sym (take-append-drop k (view b h)))
view_stored (w ∷ ws) b h k p q =
    let m : k < length b = omega arith in
    let c : List ℕ = set b (slot_of (length b) h k) w in
    let e : length c ≡ length b = length-set b (slot_of (length b) h k) w in
    let i : slot_of (length b) (slot_of (length b) h k) 1 ≡ slot_of (length c) h (k + 1) = rw e (slot_add (length b) h k 1 p (omega arith)) in
    let v : k < length (view b h) = rw (length_view b h p) m in
    rw i (view_stored ws c h (k + 1) (rw e p) (rw e (omega arith))
    ∙ rw (view_set b h p k w m) (moved (view b h) k w ws v))
  where
    moved : (l : List ℕ) (k w : ℕ) (ws : List ℕ) → k < length l
        → take (k + 1) (set l k w) ++ (ws ++ drop (k + 1 + length ws) (set l k w)) ≡ take k l ++ (w ∷ ws ++ drop (k + suc (length ws)) l)
    moved l k w ws v =
        let a : k + 1 + length ws ≡ k + suc (length ws) = omega arith in
        let z : k < k + suc (length ws) = omega arith in
        rw (a, add-one, take-suc-set l k w v, drop-set-lt (k + suc (length ws)) l k w z) (simp append_assoc)

-- ---- words read round the end

-- n words from place i on are the first n of the ring read from there
pub read_view : (n : ℕ) (b : List ℕ) (i : ℕ) → i < length b → n ≤ length b → ring_read b i n ≡ take n (view b i)
unfolding ring_read
read_view zero b i p q = refl
read_view (suc n) b i p q =
    let s : slot_of (length b) i 1 < length b = slot_in (length b) i 1 p (omega arith) in
    rw (read_view n b (slot_of (length b) i 1) s (omega arith), view_part b i p 1 n (omega arith), view_first b i p)

-- a run up to the end and one from the start give those words: it makes no difference where in the ring they stand
pub read_parts : (n : ℕ) (b : List ℕ) (i : ℕ) → i < length b → n ≤ length b
    → take (run_of (length b) i n) (drop i b) ++ take (n - run_of (length b) i n) b ≡ ring_read b i n
unfolding view
read_parts n b i p q = ⊎_elim below round (lt_or_ge (length b - i) n) ∙ sym (read_view n b i p q)
  where
    below : length b - i < n → take (run_of (length b) i n) (drop i b) ++ take (n - run_of (length b) i n) b ≡ take n (drop i b ++ take i b)
    below l =
        let r : min n (length b - i) ≡ length (drop i b) = rw length-drop (omega arith) in
        let e : n ≡ length (drop i b) + (n - length (drop i b)) = rw length-drop (omega arith) in
        let s : n - length (drop i b) ≤ i = rw length-drop (omega arith) in
        rw (r, take-length (drop i b), ← take-take (n - length (drop i b)) i b s)
        (sym (ap (λ (m : ℕ). take m (drop i b ++ take i b)) e ∙ take-append-add (drop i b) (take i b) (n - length (drop i b))))

    round : n ≤ length b - i → take (run_of (length b) i n) (drop i b) ++ take (n - run_of (length b) i n) b ≡ take n (drop i b ++ take i b)
    round l =
        let r : min n (length b - i) ≡ n = omega arith in
        let z : n - n ≡ 0 = omega arith in
        rw (r, z, append-nil) (sym (take-append-le n (drop i b) (take i b) (rw length-drop l)))
