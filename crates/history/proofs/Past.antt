-- What a walk has passed: nothing at first, one entry with each turn, and the entries of two walks in a row.
use Rattle.std.proofs.Common.{◌≡◌, ℕ, suc, ◌+◌, ◌-◌, ◌*◌, ◌/◌, ◌%◌, ◌<◌, ◌≤◌, Bool, true, false, ltb, leb, Option, None, Some, List, length, get_or, sym, refl, ◌∙◌, ⊎_elim, arith, ltb-false, eq-eqb, ne_eqb, le-leb, leb-true}
use mathlib.Core.Bool.{and-false}
use borrow.Author.Tests.{lt-leb}
use Rattle.config.specs.Sequence.{turn, after}
use Rattle.config.specs.inner.Tests.{split, tests, lifts}
use Rattle.history.specs.Ring.{slot_of}
use Rattle.history.specs.Headers.{length_at, entry_size, next_at, header_at, words_from, header_ok, numbered}
use Rattle.history.specs.inner.Walk.{newest_from, passes, Past, Ran, Walked}
use Rattle.history.specs.State.{Good, Marks, oldest_mark, nearest_mark}
use Rattle.history.specs.declared.history.Mark.{Mark}
use Rattle.history.specs.declared.history.SendHistory.{SendHistory}
use Rattle.history.specs.declared.headers.Stop.{Stop}
use Rattle.history.specs.declared.headers.Leg.{Leg}
use Rattle.history.proofs.Slots.{slot_from, slot_to}
use Rattle.history.proofs.Walk.{header_add, numbered_add, words_add}

pub past_none : (b : List ℕ) (i n p : ℕ) → Past b i n p 0 i n p 0
past_none b i n p =
    record {
      numbers = λ j. (let e : 0 + j ≡ j = omega arith in rw e);
      place = λ j. (let e : 0 + j ≡ j = omega arith in rw e);
      taken = λ j. (let e : 0 + j ≡ j = omega arith in rw e (omega arith));
      newest = λ j. (let e : 0 + j ≡ j = omega arith in rw e);
    }

-- one more is passed, and not yet the last
pub one_more : (passed k : ℕ) → passed < k → (passed + 1 ≡ k → ⊥) → passed + 1 < k
one_more passed k l f = omega arith

pub further : (at i n i' : ℕ) → at ≤ i → i' ≡ i + n → at ≤ i'
further at i n i' l e = omega arith

pub fewer_left : (passed k : ℕ) → passed < k → k - (passed + 1) < k - passed
fewer_left passed k l = omega arith

pub header_parts : (h n pl : ℕ) → h ≡ n * turn + pl → pl ≤ 64 → (h % turn ≡ pl) × (h / turn ≡ n)
header_parts h n pl e l = (omega arith, omega arith)

-- an entry of pl words with header h goes by, from place i on
pub gone_by_lem : (at i pl passed k h : ℕ) {g : ℕ} → passed < k → at ≤ i → g ≡ h → h % turn ≡ pl
    → (0 < passed + 1) × (passed + 1 ≤ k) × (at + (1 + pl) ≤ i + (1 + pl)) × (g ≡ h / turn * turn + pl) × (i + (1 + pl) - (1 + pl) ≡ i)
gone_by_lem at i pl passed k h l m e f = (omega arith, omega arith, omega arith, omega arith, omega arith)

-- the place reached is in front of the end of the ring
pub past_to : (b : List ℕ) (i n p d at seq prev words : ℕ) → i ≤ at → at < length b
    → Past b i n p d (slot_of (length b) i (at - i)) seq prev words → Past b i n p d at seq prev words
past_to b i n p d at seq prev words l m x = rw (slot_to (length b) i at l m) at x

pub past_entry : (b : List ℕ) (i n p : ℕ) → length_at b i ≤ 64 → get_or b i 0 ≡ n * turn + length_at b i → Past b i n p 1 (next_at b i) (after n 1) i (entry_size b i)
unfolding numbered header_at words_from newest_from
past_entry b i n p short header =
    record {
      numbers = λ j. (let e : 1 + j ≡ suc j = omega arith in rw (e, le-leb (length_at b i) 64 short, eq-eqb (get_or b i 0) (n * turn + length_at b i) header));
      place = λ j. (let e : 1 + j ≡ suc j = omega arith in rw e);
      taken = λ j. (let e : 1 + j ≡ suc j = omega arith in rw e);
      newest = λ j. (let e : 1 + j ≡ suc j = omega arith in rw e);
    }

module _ (b : List ℕ) (i n p d i' n' p' : ℕ) where
  pub past_join : (w e i'' n'' p'' w' : ℕ) → Past b i n p d i' n' p' w → Past b i' n' p' e i'' n'' p'' w' → Past b i n p (d + e) i'' n'' p'' (w + w')
  past_join w e i'' n'' p'' w' x y =
      record {
        numbers = λ j. (let a : d + e + j ≡ d + (e + j) = omega arith in rw a (x.numbers (e + j) ∙ y.numbers j));
        place = λ j. (let a : d + e + j ≡ d + (e + j) = omega arith in rw a (x.place (e + j) ∙ y.place j));
        taken = λ j. (let a : d + e + j ≡ d + (e + j) = omega arith in rw a (omega (arith, x.taken (e + j), y.taken j)));
        newest = λ j. (let a : d + e + j ≡ d + (e + j) = omega arith in rw a (x.newest (e + j) ∙ y.newest j));
      }

  -- of u words w are left, and then w'
  pub past_on : (u w e i'' n'' p'' w' : ℕ) → Past b i n p d i' n' p' (u - w) → w ≤ u → Past b i' n' p' e i'' n'' p'' (w - w') → w' ≤ w → Past b i n p (d + e) i'' n'' p'' (u - w')
  past_on u w e i'' n'' p'' w' x l y l' =
      let s : u - w + (w - w') ≡ u - w' = omega arith in
      rw s at (past_join (u - w) e i'' n'' p'' (w - w') x y)

-- ---- what cannot be passed

leb_less : (u w x : ℕ) → w ≤ u → leb (u - w + x) u ≡ leb x w
leb_less u w x l =
    ⊎_elim
    (λ (e : leb x w ≡ true). let f : leb (u - w + x) u ≡ true = omega (arith, tests, lifts) in f ∙ sym e)
    (λ (e : leb x w ≡ false). let f : leb (u - w + x) u ≡ false = omega (arith, tests, lifts) in f ∙ sym e)
    (split (leb x w))

pub numbered_fails : (k : ℕ) (b : List ℕ) (i n u : ℕ) → numbered k b i n ≡ false → passes k b i n u ≡ false
numbered_fails k b i n u h = rw h

pub words_fail : (k : ℕ) (b : List ℕ) (i n u : ℕ) → u < words_from k b i → passes k b i n u ≡ false
words_fail k b i n u h = rw (lt-leb (words_from k b i) u h, and-false)

-- what fails behind the entries passed fails from the start
pub past_fails : (b : List ℕ) (i n p d i' n' p' u w j k : ℕ) → Past b i n p d i' n' p' (u - w) → w ≤ u → d + j ≡ k → passes j b i' n' w ≡ false → passes k b i n u ≡ false
past_fails b i n p d i' n' p' u w j k x l e h =
    rw (← e, x.numbers j, x.taken j, leb_less u w (words_from j b i') l) h

pub no_yes : {A : Type 0} {t : Bool} → t ≡ true → t ≡ false → A
no_yes e f = absurd (let z : ◌≡◌ {A = ℕ} 0 1 = cc in omega arith)

pub past_here : (b : List ℕ) (i n p k u : ℕ) → Past b i n p (k - k) i n p (u - u)
past_here b i n p k u =
    let e : k - k ≡ 0 = omega arith in
    let f : u - u ≡ 0 = omega arith in
    rw (e, f) (past_none b i n p)

-- a leg before its first entry
pub past_start : (b : List ℕ) (at seq p n : ℕ) → n ≡ seq → Past b at seq p 0 at n p (at - at)
past_start b at seq p n e = rw e (past_here b at seq p 0 at)

-- where an entry is passed, it does not matter which header was the newest before
past_any : (b : List ℕ) (i n p q d i' n' p' w : ℕ) → 0 < d → Past b i n p d i' n' p' w → Past b i n q d i' n' p' w
unfolding newest_from
past_any b i n p q d i' n' p' w some x =
    record {
      numbers = x.numbers;
      place = x.place;
      taken = x.taken;
      newest = λ j. (let e : d + j ≡ suc (d - 1 + j) = omega arith in rw e (rw e at (x.newest j)));
    }

-- ---- a header h, and pl, which is h less its number n over a length of 0

pub header_right : (h n pl : ℕ) → n < turn → (pl + n * turn) % 18446744073709551616 ≡ h → pl ≤ 64 → h ≡ n * turn + pl
header_right h n pl small less s = omega arith

header_wrong : (b : List ℕ) (i n pl : ℕ) → n < turn → (pl + n * turn) % 18446744073709551616 ≡ get_or b i 0 → 64 < pl → pl < 18446744073709551616 → header_ok b i n ≡ false
header_wrong b i n pl small less s t =
    ⊎_elim
    (λ (e : leb (length_at b i) 64 ≡ true).
    let f : length_at b i ≤ 64 = leb-true _ _ e in
    rw (e, ne_eqb (get_or b i 0) (n * turn + length_at b i) (λ h. omega arith)))
    (λ (e : leb (length_at b i) 64 ≡ false). rw e)
    (split (leb (length_at b i) 64))

around : (x y z a : ℕ) → (z + y) % 18446744073709551616 ≡ a → (x + y + z) % 18446744073709551616 ≡ (x + a) % 18446744073709551616
around x y z a e = omega arith

cancel : (x y z : ℕ) → (x + z) % 18446744073709551616 ≡ (y + z) % 18446744073709551616 → y < 18446744073709551616 → x % 18446744073709551616 ≡ y
cancel x y z e s = omega arith

-- the place `next` after an entry is computed from `base`, the place a after its header less its number
module _ (h want a base next pl : ℕ) (from : (base + want) % 18446744073709551616 ≡ a) (to : next ≡ (h + base) % 18446744073709551616) (back : (pl + a) % 18446744073709551616 ≡ next) where
  pub less_number : h < 18446744073709551616 → want % turn ≡ 0 → (pl + want / turn * turn) % 18446744073709551616 ≡ h
  less_number s even =
      let e : want / turn * turn ≡ want = omega arith in
      let f : (pl + want + base) % 18446744073709551616 ≡ (h + base) % 18446744073709551616 = around pl want base a from ∙ back ∙ to in
      rw e (cancel (pl + want) h base f s)

  pub place_after : a ≤ 32768 → pl ≤ 64 → next ≡ a + pl
  place_after s t = omega arith

-- a header with the next number and the same length
pub number_next : (h h' : ℕ) → h < 4294967296 → h' ≡ (h + turn) % 4294967296 → (h' / turn ≡ after (h / turn) 1) × (h' % turn ≡ h % turn) × (h' < 4294967296)
number_next h h' s e = (omega arith, omega arith, omega arith)

-- ---- one turn of a leg: n is the number of the next entry, and its header stands at place i

module _ (b : List ℕ) (at seq p i d n prev : ℕ) (x : Past b at seq p d i n prev (i - at)) where
  pub past_wrong : (k pl : ℕ) → d < k → n < turn → (pl + n * turn) % 18446744073709551616 ≡ get_or b i 0 → 64 < pl → pl < 18446744073709551616 → (j : ℕ) → numbered (k + j) b at seq ≡ false
  unfolding numbered
  past_wrong k pl some small less s t j =
      let e : k + j ≡ d + suc (k - d - 1 + j) = omega arith in
      rw (e, x.numbers (suc (k - d - 1 + j)), header_wrong b i n pl small less s t)

  pub past_turn : (pl i' n' p' : ℕ) → get_or b i 0 ≡ n * turn + pl → pl ≤ 64 → i' ≡ i + (1 + pl) → n' ≡ after n 1 → p' ≡ i → at ≤ i
      → Past b at seq p (d + 1) (slot_of (length b) at (i' - at)) n' p' (i' - at)
  past_turn pl i' n' p' header short to number newest o =
      let l : length_at b i ≡ pl = omega arith in
      let same : get_or b i 0 ≡ n * turn + length_at b i = omega arith in
      let y = past_join b at seq p d i n prev (i - at) 1 (next_at b i) (after n 1) i (entry_size b i) x (past_entry b i n prev (omega arith) same) in
      let f : i - at + (1 + pl) ≡ i + (1 + pl) - at = omega arith in
      rw (to, slot_from (length b) at i (1 + pl) o, number, newest) (rw (l, f) at y)

-- ---- what a leg hands back

module _ (b : List ℕ) (i n k : ℕ) where
  pub ran_on : (q passed seq prev words : ℕ) → 0 < passed → passed ≤ k → Past b i n q passed (slot_of (length b) i words) seq prev words
      → (p : ℕ) → Ran b i n p k (Some record { seq = seq; prev = prev; words = words; passed = passed })
  ran_on q passed seq prev words some few x p = (some, few, past_any _ _ _ _ _ _ _ _ _ _ some x)

  -- of k entries it was asked for m
  pub ran_more : (p m : ℕ) (r : Option Leg) → m ≤ k → Ran b i n p m r → Ran b i n p k r
  ran_more p m None l x = λ j. (let f : k + j ≡ m + (k - m + j) = omega arith in rw f (x (k - m + j)))
  ran_more p m (Some r) l x = (x.0, omega (arith, x.1), x.2)

-- ---- the walk: of k entries some are left, and of u words

module _ (b : List ℕ) (i n p k left at seq prev u words : ℕ) (x : Past b i n p (k - left) at seq prev (u - words)) (few : left ≤ k) where
  pub walk_stops : ((j : ℕ) → numbered (left + j) b at seq ≡ false) → (j : ℕ) → passes (k + j) b i n u ≡ false
  walk_stops h j =
      let e : k + j ≡ k - left + (left + j) = omega arith in
      rw e (numbered_fails (k - left + (left + j)) b i n u (x.numbers (left + j) ∙ h j))

  module _ (l : words ≤ u) (d at' seq' prev' w : ℕ) (y : (0 < d) × (d ≤ left) × Past b at seq prev d at' seq' prev' w) where
    pub walk_short : words < w → (j : ℕ) → passes (k + j) b i n u ≡ false
    walk_short o j =
        let z = past_join b i n p (k - left) at seq prev (u - words) d at' seq' prev' w x y.2 in
        let m : d ≤ left = y.1 in
        let e : k + j ≡ k - left + d + (left - d + j) = omega arith in
        rw e (words_fail (k - left + d + (left - d + j)) b i n u (omega (arith, z.taken (left - d + j))))

    pub past_walk : w ≤ words → Past b i n p (k - (left - d)) at' seq' prev' (u - (words - w))
    past_walk o =
        let m : d ≤ left = y.1 in
        let e : k - left + d ≡ k - (left - d) = omega arith in
        let f : u - words + w ≡ u - (words - w) = omega arith in
        rw (e, f) at (past_join b i n p (k - left) at seq prev (u - words) d at' seq' prev' w x y.2)

-- ---- what a walk hands back

module _ (b : List ℕ) (w : Stop) (k : ℕ) where
  pub walked_all : (left at seq prev words : ℕ) → left ≤ 0 → at < length b → words ≤ w.words → Past b w.at w.seq w.prev (k - left) at seq prev (w.words - words)
      → Walked b w k (Some record { at = at; seq = seq; prev = prev; words = words })
  walked_all left at seq prev words z o l x = let f : k - left ≡ k = omega arith in (o, l, rw f at x)

-- ---- from a mark on

pub mark_here : (h : SendHistory) (b : List ℕ) (m : Mark) (k : ℕ) → Marks h b m → m.entry ≡ k → (m.at ≡ header_at k b h.head) × (m.at < length b)
mark_here h b m k a e = (rw (← e) a.0, a.1)

pub mark_oldest : (h : SendHistory) (b : List ℕ) → Good h b → Marks h b (oldest_mark h)
unfolding header_at
mark_oldest h b g = (refl, omega (arith, g.ring, g.inside))

pub mark_nearest : (h : SendHistory) (b : List ℕ) (m : Mark) (k : ℕ) → Good h b → Marks h b m → (r : Mark) → r ≡ nearest_mark h m k → Marks h b r × (r.entry ≤ k)
mark_nearest h b m k g a r e =
    ⊎_elim
    (λ (t : ltb k m.entry ≡ true). let u : r ≡ oldest_mark h = rw t at e in rw u (mark_oldest h b g, omega arith))
    (λ (t : ltb k m.entry ≡ false). let u : r ≡ m = rw t at e in rw u (a, ltb-false k m.entry t))
    (split (ltb k m.entry))

-- a walk from a mark, in a state that was tested, is not lost
module _ (h : SendHistory) (b : List ℕ) (m : Mark) (g : Good h b) (o : h.oldest < turn) (a : Marks h b m) where
  -- the entries from the mark on
  passes_from : m.entry ≤ h.count → passes (h.count - m.entry) b m.at (after h.oldest m.entry) h.used ≡ true
  passes_from l =
      let e : m.entry + (h.count - m.entry) ≡ h.count = omega arith in
      let n = rw (← a.0) at (numbered_add m.entry (h.count - m.entry) b h.head h.oldest o (rw e g.headers)) in
      let w = rw (e, ← a.0) at (words_add m.entry (h.count - m.entry) b h.head) in
      rw n (le-leb (words_from (h.count - m.entry) b m.at) h.used (omega (arith, w, g.words)))

  abbrev from : Stop
  from = record { at = m.at; seq = after h.oldest m.entry; prev = h.last; words = h.used }

  pub walked_never : (k : ℕ) → m.entry ≤ k → k ≤ h.count → Walked b from (k - m.entry) None → ⊥
  walked_never k l few w =
      let f : k - m.entry + (h.count - k) ≡ h.count - m.entry = omega arith in
      no_yes (passes_from (omega arith)) (rw f at (w (h.count - k)))

  pub walked_good : (k : ℕ) (r : Stop) → m.entry ≤ k → Walked b from (k - m.entry) (Some r) → (r.at ≡ header_at k b h.head) × (r.at < length b)
  unfolding header_at
  walked_good k r l p =
      let f : k - m.entry + 0 ≡ k - m.entry = omega arith in
      let d : m.entry + (k - m.entry) ≡ k = omega arith in
      (sym (rw f at (p.2.place 0)) ∙ rw (← a.0) at (sym (rw d at (header_add m.entry (k - m.entry) b h.head))), p.0)
