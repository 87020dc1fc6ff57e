-- What every call keeps: the state passes the state test, and the words held are the last n of all arrivals.
use mathlib.Core.Path.{◌≡◌, refl, sym, ap, ◌∙◌}
use mathlib.Core.Logic.{◌⊎◌, inl, inr}
use mathlib.Core.Bool.{Bool, true, false, cond, ◌&&◌, ◌||◌}
use mathlib.Core.List.{List, [], ◌∷◌, ◌++◌, append_assoc, append-nil}
use Prim.Native.Nat.{ℕ, zero, suc, ◌+◌, ◌-◌, ◌≤◌, ◌<◌}
use native.Mathlib.Numerals.{add-one}
use native.Mathlib.Omega.{arith}
use borrow.Author.Tests.{eq-eqb, lt-ltb, eqb-true, eqb-false, ltb-true, ltb-false, leb-true}
use lib.ListN.{length, set, take, drop, get_or, replicate, length-set, length-replicate, drop_of_length-le}
use lib.Seq.{drop-cons, drop-set-lt, take-suc-set, take_all}
use lib.Dec.{ltb, leb, eqb}
use Rattle.config.specs.Range.{within, outside}
use Rattle.config.specs.inner.Tests.{split, and_left, and_right}
use Rattle.sheet_blocks.specs.Bytes.{spliced}
use Rattle.sheet_blocks.specs.Records.{class_at, zero_at, entry_at, entries, all_records, rows}
use Rattle.loss_sheet.specs.Sheet.{all_below, state_ok, fresh, pushed, pushed_all, held, last_of, sheet_bytes, taken_of, answer_of, arrivals, block_of}
use Rattle.loss_sheet.specs.inner.Fits.{Good}
use Rattle.sheet_log.specs.Calls.{Call, all_bytes, after, started}
use Rattle.loss_sheet.specs.declared.sheet.Sheet.{Sheet}
use Rattle.loss_sheet.specs.declared.sheet.Answered.{Answered}
use Rattle.loss_sheet.proofs.Ring.{good_push, push_grow, push_over, push_n, held_push, last_append, last_few, sheet_last}
use Rattle.loss_sheet.proofs.States.{state_rest, taken_both, block_refused, block_done}

-- ---- words below a limit

pub both : (a b : Bool) → a ≡ true → b ≡ true → (a && b) ≡ true
both a b p q = rw (p, q)

pub below_at : (m : ℕ) (ws : List ℕ) (i : ℕ) → 0 < m → all_below m ws ≡ true → get_or ws i 0 < m
unfolding all_below
below_at m [] i h t = h
below_at m (w ∷ ws) zero h t = ltb-true w m (and_left (ltb w m) (all_below m ws) t)
below_at m (w ∷ ws) (suc i) h t = below_at m ws i h (and_right (ltb w m) (all_below m ws) t)

pub below_append : (m : ℕ) (xs ys : List ℕ) → all_below m xs ≡ true → all_below m ys ≡ true → all_below m (xs ++ ys) ≡ true
unfolding all_below
below_append m [] ys s t = t
below_append m (x ∷ xs) ys s t =
    both (ltb x m) (all_below m (xs ++ ys)) (and_left (ltb x m) (all_below m xs) s) (below_append m xs ys (and_right (ltb x m) (all_below m xs) s) t)

below_one : (m w : ℕ) → w < m → all_below m (w ∷ []) ≡ true
unfolding all_below
below_one m w h = rw (lt-ltb w m h)

below_set : (m : ℕ) (ws : List ℕ) (i w : ℕ) → w < m → all_below m ws ≡ true → all_below m (set ws i w) ≡ true
unfolding all_below
below_set m [] i w h t = t
below_set m (x ∷ ws) zero w h t = both (ltb w m) (all_below m ws) (lt-ltb w m h) (and_right (ltb x m) (all_below m ws) t)
below_set m (x ∷ ws) (suc i) w h t =
    both (ltb x m) (all_below m (set ws i w)) (and_left (ltb x m) (all_below m ws) t) (below_set m ws i w h (and_right (ltb x m) (all_below m ws) t))

below_nil : (m : ℕ) → all_below m [] ≡ true
unfolding all_below
below_nil m = refl

below_tail : (m w : ℕ) (ws : List ℕ) → all_below m (w ∷ ws) ≡ true → all_below m ws ≡ true
unfolding all_below
below_tail m w ws t = and_right (ltb w m) (all_below m ws) t

pub below_zeros : (m n : ℕ) → 0 < m → all_below m (replicate n 0) ≡ true
unfolding all_below
below_zeros m zero h = refl
below_zeros m (suc n) h = both (ltb 0 m) (all_below m (replicate n 0)) (lt-ltb 0 m h) (below_zeros m n h)

-- ---- what a state keeps

pub record Kept (s : Sheet) (b : List ℕ) : Type 0 where
  pub fit : Good s b
  pub used : all_below 196608 (take s.len b) ≡ true
  pub rest : all_below 1 (drop s.len b) ≡ true

first_or : (h l n : ℕ) → l ≤ n → (l < n → h ≡ 0) → (eqb h 0 || eqb l n) ≡ true
first_or h l n k f = by (split (ltb l n))
  where
    by : (ltb l n ≡ true) ⊎ (ltb l n ≡ false) → (eqb h 0 || eqb l n) ≡ true
    by (inl e) = rw (eq-eqb h 0 (f (ltb-true l n e)))
    by (inr e) = let q = ltb-false l n e in let z : l ≡ n = omega arith in rw (eq-eqb l n z) (or_true (eqb h 0))
      where
        or_true : (t : Bool) → (t || true) ≡ true
        or_true true = refl
        or_true false = refl

pub kept_ok : (s : Sheet) (b : List ℕ) → Kept s b → state_ok s b ≡ true
kept_ok s b k =
    let g = k.fit in
    sym (state_rest s b g.ring g.inside g.room (first_or s.head s.len s.n g.room g.first) true k.used (sym k.rest))

kept_push : (s : Sheet) (b : List ℕ) (w : ℕ) → Kept s b → w < 196608 → Kept (pushed s b w).0 (pushed s b w).1
kept_push s b w k h = record { fit = good_push s b w k.fit; used = parts.0; rest = parts.1 }
  where
    g : Good s b
    g = k.fit

    parts : (all_below 196608 (take (pushed s b w).0.len (pushed s b w).1) ≡ true) × (all_below 1 (drop (pushed s b w).0.len (pushed s b w).1) ≡ true)
    parts = by (split (ltb s.len s.n))
      where
        by : (ltb s.len s.n ≡ true) ⊎ (ltb s.len s.n ≡ false)
            → (all_below 196608 (take (pushed s b w).0.len (pushed s b w).1) ≡ true) × (all_below 1 (drop (pushed s b w).0.len (pushed s b w).1) ≡ true)
        by (inl e) =
            let p = ltb-true s.len s.n e in
            let i : s.len < length b = omega (arith, g.ring) in
            let z : s.len < suc s.len = omega arith in
            let t : all_below 1 (get_or b s.len 0 ∷ drop (suc s.len) b) ≡ true = rw (drop-cons b s.len 0 i) at k.rest in
            rw (← push_grow s b w p, add-one) (
              rw (take-suc-set b s.len w i) (below_append 196608 (take s.len b) (w ∷ []) k.used (below_one 196608 w h)),
              rw (drop-set-lt (suc s.len) b s.len w z) (below_tail 1 (get_or b s.len 0) (drop (suc s.len) b) t),
            )
        by (inr e) =
            let p = ltb-false s.len s.n e in
            let l : length b ≤ s.len = omega (arith, g.ring) in
            let m : length (set b s.head w) ≤ s.len = rw length-set l in
            let u : all_below 196608 b ≡ true = rw (take_all s.len b l) at k.used in
            rw (← push_over s b w _ p refl) (
              rw (take_all s.len (set b s.head w) m) (below_set 196608 b s.head w h u),
              rw (drop_of_length-le (set b s.head w) m) (below_nil 1),
            )

pub kept_all : (s : Sheet) (b ws : List ℕ) → Kept s b → all_below 196608 ws ≡ true → Kept (pushed_all s b ws).0 (pushed_all s b ws).1
unfolding pushed_all all_below
kept_all s b [] k t = k
kept_all s b (w ∷ ws) k t =
    kept_all (pushed s b w).0 (pushed s b w).1 ws
    (kept_push s b w k (ltb-true w 196608 (and_left (ltb w 196608) (all_below 196608 ws) t)))
    (and_right (ltb w 196608) (all_below 196608 ws) t)

pub n_all : (s : Sheet) (b ws : List ℕ) → (pushed_all s b ws).0.n ≡ s.n
unfolding pushed_all
n_all s b [] = refl
n_all s b (w ∷ ws) = n_all (pushed s b w).0 (pushed s b w).1 ws ∙ push_n s b w

-- the words held after some arrivals
pub held_all : (n : ℕ) (s : Sheet) (b ws : List ℕ) → Good s b → s.n ≡ n → held s b ≡ last_of n (held s b)
    → held (pushed_all s b ws).0 (pushed_all s b ws).1 ≡ last_of n (held s b ++ ws)
unfolding pushed_all
held_all n s b [] g e f = rw append-nil f
held_all n s b (w ∷ ws) g e f =
    let p : held (pushed s b w).0 (pushed s b w).1 ≡ last_of n (held s b ++ w ∷ []) = rw (← e) (held_push s b w g) in
    let q : held (pushed s b w).0 (pushed s b w).1 ≡ last_of n (held (pushed s b w).0 (pushed s b w).1) = rw p (sym (last_last n (held s b ++ w ∷ []))) in
    held_all n (pushed s b w).0 (pushed s b w).1 ws (good_push s b w g) (push_n s b w ∙ e) q
    ∙ rw p (last_append n (held s b ++ w ∷ []) ws ∙ rw append_assoc)
  where
    last_last : (n : ℕ) (xs : List ℕ) → last_of n (last_of n xs) ≡ last_of n xs
    last_last n xs = simp append-nil at (last_append n xs [])

-- ---- the words of records

pub entries_below : (bs : List ℕ) (k i : ℕ) → all_below 256 bs ≡ true → all_records bs k i ≡ true → all_below 196608 (entries bs k i) ≡ true
unfolding entries all_records all_below entry_at
entries_below bs zero i t r = refl
entries_below bs (suc k) i t r =
    let c : class_at bs i ≤ 2 = leb-true (class_at bs i) 2 (and_left (leb (class_at bs i) 2) (eqb (zero_at bs i) 0 && all_records bs k (i + 16)) r) in
    let m = and_right (eqb (zero_at bs i) 0) (all_records bs k (i + 16)) (and_right (leb (class_at bs i) 2) (eqb (zero_at bs i) 0 && all_records bs k (i + 16)) r) in
    let x = below_at 256 bs (i + 12) (omega arith) t in
    let y = below_at 256 bs (i + 13) (omega arith) t in
    both (ltb (entry_at bs i) 196608) (all_below 196608 (entries bs k (i + 16))) (lt-ltb (entry_at bs i) 196608 (omega arith)) (entries_below bs k (i + 16) t m)

-- ---- one call

pub within_not : (n : ℕ) → within 1 4096 n ≡ true → outside 1 4096 n ≡ false
within_not n h = rw h

module _ (s : Sheet) (b : List ℕ) (k : Kept s b) (h : within 1 4096 s.n ≡ true) where
  pub answer_taken : (bs : List ℕ) (room : ℕ) → answer_of s b bs room ≡ taken_of bs room
  unfolding answer_of
  answer_taken bs room = rw (within_not s.n h, kept_ok s b k)

  pub block_answer : (bs o : List ℕ) → (block_of s b bs o).0.refusal ≡ taken_of bs (length o)
  block_answer bs o = by (split (eqb (taken_of bs (length o)) 0))
    where
      by : (eqb (taken_of bs (length o)) 0 ≡ true) ⊎ (eqb (taken_of bs (length o)) 0 ≡ false) → (block_of s b bs o).0.refusal ≡ taken_of bs (length o)
      by (inl e) =
          let z : taken_of bs (length o) ≡ 0 = eqb-true (taken_of bs (length o)) 0 e in
          rw (← block_done s b bs o (taken_of bs (length o)) (sym (answer_taken bs (length o))) _ _ _ z refl refl) (sym z)
      by (inr e) =
          rw (← block_refused s b bs o (taken_of bs (length o)) (sym (answer_taken bs (length o))) (eqb-false (taken_of bs (length o)) 0 e))

  pub block_taken : (bs o : List ℕ) → taken_of bs (length o) ≡ 0
      → (record { sheet = (pushed_all s b (arrivals bs)).0; refusal = 0 }, (pushed_all s b (arrivals bs)).1, spliced o 0 (sheet_bytes s.n (held s b) (arrivals bs))) ≡ block_of s b bs o
  block_taken bs o z = block_done s b bs o (taken_of bs (length o)) (sym (answer_taken bs (length o))) _ _ _ z refl refl

  pub block_kept : (bs o : List ℕ) → (taken_of bs (length o) ≡ 0 → ⊥)
      → (record { sheet = s; refusal = taken_of bs (length o) }, b, o) ≡ block_of s b bs o
  block_kept bs o z = block_refused s b bs o (taken_of bs (length o)) (sym (answer_taken bs (length o))) z

-- ---- all calls

-- all arrivals so far, in the words that are kept of them
unfoldable pub accepted : List Call → List ℕ
accepted [] = []
accepted (c ∷ cs) = cond (eqb (taken_of c.0 (length c.1)) 0) (arrivals c.0) [] ++ accepted cs

-- a state over n words that holds the last n of all arrivals
pub record Holds (n : ℕ) (all : List ℕ) (s : Sheet) (b : List ℕ) : Type 0 where
  pub kept : Kept s b
  pub size : s.n ≡ n
  pub last : held s b ≡ last_of n all

pub holds_block : (n : ℕ) (all : List ℕ) (s : Sheet) (b bs o : List ℕ) → within 1 4096 n ≡ true → all_below 256 bs ≡ true → Holds n all s b
    → Holds n (all ++ cond (eqb (taken_of bs (length o)) 0) (arrivals bs) []) (block_of s b bs o).0.sheet (block_of s b bs o).1
holds_block n all s b bs o h t k = by (split (eqb (taken_of bs (length o)) 0))
  where
    hs : within 1 4096 s.n ≡ true
    hs = rw k.size h

    by : (eqb (taken_of bs (length o)) 0 ≡ true) ⊎ (eqb (taken_of bs (length o)) 0 ≡ false)
        → Holds n (all ++ cond (eqb (taken_of bs (length o)) 0) (arrivals bs) []) (block_of s b bs o).0.sheet (block_of s b bs o).1
    by (inl e) =
        let z : taken_of bs (length o) ≡ 0 = eqb-true (taken_of bs (length o)) 0 e in
        let l : held s b ≡ last_of n (held s b) = k.last ∙ sym (last_few n all (held s b) k.last) in
        rw (e, ← block_taken s b k.kept hs bs o z)
        (record {
          kept = kept_all s b (arrivals bs) k.kept (entries_below bs (rows bs) 0 t (taken_both bs (length o) z).1);
          size = n_all s b (arrivals bs) ∙ k.size;
          last = held_all n s b (arrivals bs) k.kept.fit k.size l ∙ rw k.last (last_append n all (arrivals bs));
        })
    by (inr e) =
        rw (e, ← block_kept s b k.kept hs bs o (eqb-false (taken_of bs (length o)) 0 e), append-nil) k

pub holds_after : (n : ℕ) (all : List ℕ) (s : Sheet) (b : List ℕ) (cs : List Call) → within 1 4096 n ≡ true → all_bytes cs ≡ true → Holds n all s b
    → Holds n (all ++ accepted cs) (after s b cs).0 (after s b cs).1
unfolding after accepted all_bytes
holds_after n all s b [] h t k = rw append-nil k
holds_after n all s b (c ∷ cs) h t k =
    rw (← append_assoc)
    (holds_after n (all ++ cond (eqb (taken_of c.0 (length c.1)) 0) (arrivals c.0) []) _ _ cs h
    (and_right (all_below 256 c.1) (all_bytes cs) (and_right (all_below 256 c.0) (all_below 256 c.1 && all_bytes cs) t))
    (holds_block n all s b c.0 c.1 h (and_left (all_below 256 c.0) (all_below 256 c.1 && all_bytes cs) t) k))

pub holds_fresh : (n : ℕ) → within 1 4096 n ≡ true → Holds n [] (fresh n) (replicate n 0)
unfolding held last_of
holds_fresh n h =
    let least : 1 ≤ n = leb-true 1 n (and_left (leb 1 n) (leb n 4096) h) in
    let most : n ≤ 4096 = leb-true n 4096 (and_right (leb 1 n) (leb n 4096) h) in
    record {
      kept = record {
        fit = record { ring = length-replicate n 0; most = most; inside = omega arith; room = omega arith; first = λ k. refl };
        used = below_nil 196608;
        rest = below_zeros 1 n (omega arith);
      };
      size = refl;
      last = sym (drop_of_length-le [] {i = 0 - n} (omega arith));
    }

pub holds_started : (n : ℕ) (cs : List Call) → within 1 4096 n ≡ true → all_bytes cs ≡ true → Holds n (accepted cs) (started n cs).0 (started n cs).1
holds_started n cs h t = holds_after n [] (fresh n) (replicate n 0) cs h t (holds_fresh n h)

-- ---- the theorem's parts

module _ (n : ℕ) (cs : List Call) (bs o : List ℕ) (h : within 1 4096 n ≡ true) (t : all_bytes cs ≡ true) where
  k : Holds n (accepted cs) (started n cs).0 (started n cs).1
  k = holds_started n cs h t

  hs : within 1 4096 (started n cs).0.n ≡ true
  hs = rw k.size h

  pub answers_on : (block_of (started n cs).0 (started n cs).1 bs o).0.refusal ≡ taken_of bs (length o)
  answers_on = block_answer (started n cs).0 (started n cs).1 k.kept hs bs o

  pub writes_on : taken_of bs (length o) ≡ 0
      → (block_of (started n cs).0 (started n cs).1 bs o).2 ≡ spliced o 0 (sheet_bytes n (accepted cs) (arrivals bs))
  writes_on z =
      ap (λ (x : Answered × List ℕ × List ℕ). x.2) (sym (block_taken (started n cs).0 (started n cs).1 k.kept hs bs o z))
      ∙ rw (k.size, k.last, sheet_last)
