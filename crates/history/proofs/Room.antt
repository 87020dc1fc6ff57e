-- Entries that leave to make room: the state stays good, those that are to stay do, and the words come free.
use Rattle.std.proofs.Common.{◌≡◌, ℕ, zero, suc, ◌+◌, ◌-◌, ◌<◌, ◌≤◌, List, length, sym, refl, ap, ◌∙◌, arith, le-ltb, lt-ltb}
use Rattle.history.specs.Headers.{length_at, entry_size, header_at, words_from}
use Rattle.history.specs.State.{Good}
use Rattle.history.specs.Push.{pop_one, popped}
use Rattle.history.specs.inner.Room.{Freed}
use Rattle.history.specs.declared.history.SendHistory.{SendHistory}
use Rattle.history.proofs.Walk.{numbered_first, words_first, header_first, header_none, words_none, words_one, words_count, numbered_shorts, header_in, shorts_prefix, next_in_lem}

module _ (h : SendHistory) (b : List ℕ) (a : Good h b) where
  pub good_few : h.count ≤ h.used
  good_few = omega (arith, words_count h.count b h.head, a.words)

  pub good_in : h.head < length b
  good_in = omega (arith, a.ring, a.inside)

  -- the place of a header, and the end
  pub good_header : (k : ℕ) → k ≤ h.count → header_at k b h.head < length b
  good_header k p =
      header_in k b h.head good_in (omega (arith, a.ring, a.least)) (shorts_prefix k h.count b h.head p (numbered_shorts _ _ _ _ a.headers))

  module _ (some : 0 < h.count) where
    pub good_last : h.last < length b
    good_last = rw (a.newest some) at (good_header (h.count - 1) (omega arith))

    pub good_first : (length_at b h.head ≤ 64) × (entry_size b h.head ≤ h.used)
    good_first =
        let f = words_first h.count b h.head some in
        ((numbered_first _ _ _ _ some a.headers).0, omega (arith, f, a.words))

    pub good_pop : Good (pop_one b h) b
    unfolding pop_one
    good_pop =
        let f = words_first h.count b h.head some in
        let n = numbered_first _ _ _ _ some a.headers in
        let r = a.ring in
        record {
          ring = r;
          least = a.least;
          most = a.most;
          inside = omega (arith, next_in_lem b h.head good_in (omega (arith, a.least)) n.0);
          room = omega (arith, a.room);
          headers = n.2;
          words = omega (arith, a.words);
          newest = λ p. sym (header_first (h.count - 1) b h.head p) ∙ a.newest some;
        }

pub pop_less : (h r : SendHistory) (b : List ℕ) (k : ℕ) → k < h.count → r ≡ pop_one b h → r.count < h.count
unfolding pop_one
pop_less h r b k p e = rw e (omega arith)

-- ---- the loop that frees words

pub popped_turn : (k need : ℕ) (b : List ℕ) (h : SendHistory) → 0 < k → h.size - h.used < need → popped k need b h ≡ popped (k - 1) need b (pop_one b h)
unfolding popped
popped_turn zero need b h p l = absurd (omega arith)
popped_turn (suc k) need b h p l = let z : suc k - 1 ≡ k = omega arith in rw (z, lt-ltb _ _ l)

pub popped_done : (k need : ℕ) (b : List ℕ) (h : SendHistory) → need ≤ h.size - h.used → popped k need b h ≡ h
unfolding popped
popped_done zero need b h l = refl
popped_done (suc k) need b h l = rw (le-ltb _ _ l)

-- the words of the entries that are to stay
abbrev pub staying : ℕ → List ℕ → SendHistory → ℕ
staying stay b h = words_from stay b (header_at (h.count - stay) b h.head)

module _ (stay need : ℕ) (h : SendHistory) (b : List ℕ) (a : Good h b) where
  module _ (more : stay < h.count) where
    pub staying_pop : staying stay b (pop_one b h) ≡ staying stay b h
    unfolding pop_one
    staying_pop =
        let e : h.count - stay - 1 ≡ h.count - 1 - stay = omega arith in
        let f = header_first (h.count - stay) b h.head (omega arith) in
        ap (words_from stay b) (sym (rw e at f))

    pub room_turn : (r z : SendHistory) → r ≡ pop_one b h → h.size - h.used < need → popped (h.count - stay) need b h ≡ z
        → Good r b × (stay ≤ r.count) × (r.size ≡ h.size) × (staying stay b r ≡ staying stay b h) × (popped (r.count - stay) need b r ≡ z)
    unfolding pop_one
    room_turn r z e l inv =
        rw e (good_pop h b a (omega arith), counts, refl, staying_pop, ap (λ (k : ℕ). popped k need b (pop_one b h)) ones ∙ sym (popped_turn _ _ _ _ (omega arith) l) ∙ inv)
      where
        counts : stay ≤ (pop_one b h).count
        counts = omega arith

        ones : (pop_one b h).count - stay ≡ h.count - stay - 1
        ones = omega arith

  -- nothing leaves any more
  pub room_made : (g : SendHistory) → need ≤ h.size - h.used → popped (h.count - stay) need b h ≡ popped (g.count - stay) need b g → Freed (g.count - stay) need g b h
  room_made g l e =
      record { same = sym (popped_done (h.count - stay) need b h l) ∙ e; good = a; free = l; few = good_few h b a }

  -- only those that are to stay are left: what is not theirs is free
  pub room_all : (g : SendHistory) → stay ≤ h.count → h.count ≤ stay → need + staying stay b h ≤ h.size
      → popped (h.count - stay) need b h ≡ popped (g.count - stay) need b g
      → Freed (g.count - stay) need g b h
  room_all g p q l e =
      let z : h.count - stay ≡ 0 = omega arith in
      let c : h.count ≡ stay = omega arith in
      let s : staying stay b h ≡ h.used = rw (z, header_none, ← c) a.words in
      room_made g (omega arith) e

-- a new entry of at most 64 words has room when all others may leave
pub push_fits : (h : SendHistory) (b : List ℕ) (n : ℕ) → Good h b → n ≤ 64 → 1 + n + staying 0 b h ≤ h.size
push_fits h b n a l = rw words_none (omega (arith, a.least))

-- words that the newest entry can take have room when all others may leave
pub join_fits : (h : SendHistory) (b : List ℕ) (n : ℕ) → Good h b → 0 < h.count → length_at b h.last + n ≤ 64 → n + staying 1 b h ≤ h.size
join_fits h b n a p l = rw (words_one, a.newest p) (omega (arith, a.least))
