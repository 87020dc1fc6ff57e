-- Blocks made of words, and the calls that leave a state.
use mathlib.Core.Path.{◌≡◌, refl, sym, ◌∙◌}
use mathlib.Core.Logic.{◌⊎◌, inl, inr}
use mathlib.Core.Bool.{true, false, ◌||◌}
use mathlib.Core.List.{List, [], ◌∷◌, ◌++◌, append_assoc}
use Prim.Native.Nat.{ℕ, zero, suc, ◌+◌, ◌*◌, ◌/◌, ◌%◌, ◌≤◌, ◌<◌}
use native.Mathlib.Omega.{arith}
use borrow.Author.Tests.{eq-eqb, lt-ltb, le-leb, ltb-true, ltb-false}
use lib.ListN.{length, set, take, drop, replicate, length-append, length-drop, length-replicate, take-append-drop}
use lib.Seq.{set-append_seam, take-take, length-take-le}
use lib.Dec.{ltb, leb, eqb}
use Rattle.config.specs.Range.{within}
use Rattle.config.specs.inner.Tests.{split, and_left, and_right}
use Rattle.sheet_blocks.specs.Records.{entry_at, entries, all_records, is_block, rows}
use Rattle.loss_sheet.specs.Sheet.{all_below, state_ok, fresh, pushed_all, taken_of, arrivals}
use Rattle.loss_sheet.specs.inner.Fits.{Good}
use Rattle.sheet_log.specs.Calls.{Call, all_bytes, after, started, LeftBy}
use Rattle.loss_sheet.specs.declared.sheet.Sheet.{Sheet}
use Rattle.loss_sheet.proofs.Ring.{push_grow, push_over, next_below}
use Rattle.loss_sheet.proofs.States.{good}
use Rattle.sheet_log.proofs.Joined.{entries_skip, records_skip}
use Rattle.sheet_log.proofs.Kept.{Kept, kept_all, both, below_zeros, within_not, block_taken, holds_fresh}

-- ---- a block of words

-- the record that a word is kept of, its time, number and loss first 0
abbrev made : ℕ → List ℕ → List ℕ
made w rest = 0 ∷ 0 ∷ 0 ∷ 0 ∷ 0 ∷ 0 ∷ 0 ∷ 0 ∷ 0 ∷ 0 ∷ w / 65536 ∷ 0 ∷ w / 256 % 256 ∷ w % 256 ∷ 0 ∷ 0 ∷ rest

unfoldable made_of : List ℕ → List ℕ
made_of [] = []
made_of (w ∷ ws) = made w (made_of ws)

length_made : (ws : List ℕ) → length (made_of ws) ≡ 16 * length ws
unfolding made_of
length_made [] = refl
length_made (w ∷ ws) = omega (arith, length_made ws)

entries_made : (ws : List ℕ) → entries (made_of ws) (length ws) 0 ≡ ws
unfolding made_of entries entry_at
entries_made [] = refl
entries_made (w ∷ ws) =
    let e : w / 65536 * 65536 + (w / 256 % 256 * 256 + w % 256) ≡ w = omega arith in
    let r : entries (made w (made_of ws)) (length ws) 16 ≡ ws = entries_skip (made w []) (made_of ws) (length ws) 0 16 refl ∙ entries_made ws in
    rw (e, r)

records_made : (ws : List ℕ) → all_below 196608 ws ≡ true → all_records (made_of ws) (length ws) 0 ≡ true
unfolding made_of all_records all_below
records_made [] t = refl
records_made (w ∷ ws) t =
    let h = ltb-true w 196608 (and_left (ltb w 196608) (all_below 196608 ws) t) in
    let c : leb (w / 65536) 2 ≡ true = le-leb (w / 65536) 2 (omega arith) in
    rw c (records_skip (made w []) (made_of ws) (length ws) 0 16 refl ∙ records_made ws (and_right (ltb w 196608) (all_below 196608 ws) t))

bytes_made : (ws : List ℕ) → all_below 196608 ws ≡ true → all_below 256 (made_of ws) ≡ true
unfolding made_of all_below
bytes_made [] t = refl
bytes_made (w ∷ ws) t =
    let h = ltb-true w 196608 (and_left (ltb w 196608) (all_below 196608 ws) t) in
    rw (lt-ltb (w / 65536) 256 (omega arith), lt-ltb (w / 256 % 256) 256 (omega arith), lt-ltb (w % 256) 256 (omega arith))
    (bytes_made ws (and_right (ltb w 196608) (all_below 196608 ws) t))

call_of : List ℕ → Call
call_of ws = (made_of ws, made_of ws)

module _ (ws : List ℕ) (t : all_below 196608 ws ≡ true) (few : length ws ≤ 4096) where
  rows_made : rows (made_of ws) ≡ length ws
  rows_made = omega (arith, length_made ws)

  arrivals_made : arrivals (made_of ws) ≡ ws
  arrivals_made = rw rows_made (entries_made ws)

  taken_made : taken_of (made_of ws) (length (made_of ws)) ≡ 0
  unfolding taken_of is_block
  taken_made =
      let l = length_made ws in
      rw (eq-eqb (length (made_of ws) % 16) 0 (omega arith), le-leb (length (made_of ws)) 65536 (omega arith), le-leb (length (made_of ws)) (length (made_of ws)) (omega arith), rows_made, records_made ws t)

  after_made : (s : Sheet) (b : List ℕ) (cs : List Call) → Kept s b → within 1 4096 s.n ≡ true
      → after s b (call_of ws ∷ cs) ≡ after (pushed_all s b ws).0 (pushed_all s b ws).1 cs
  unfolding after call_of
  after_made s b cs k h = rw (← block_taken s b k h (made_of ws) (made_of ws) taken_made, arrivals_made)

-- ---- words into an empty ring, and round a full one

filled_up : (xs ws zs b : List ℕ) (n l : ℕ) → l ≡ length xs → b ≡ xs ++ zs → l + length zs ≡ n → length ws ≤ length zs
    → pushed_all (record { n = n; head = 0; len = l }) b ws ≡ (record { n = n; head = 0; len = l + length ws }, xs ++ (ws ++ drop (length ws) zs))
unfolding pushed_all
filled_up xs [] zs b n l e f s h = let z : l + 0 ≡ l = omega arith in rw (z, f)
filled_up xs (w ∷ ws) [] b n l e f s h = absurd (let z : ⊥ = omega arith in z)
filled_up xs (w ∷ ws) (z ∷ zs) b n l e f s h =
    let p : l < n = omega arith in
    let c : set b l w ≡ (xs ++ w ∷ []) ++ zs = rw (e, f) (set-append_seam xs z zs w ∙ sym (append_assoc xs (w ∷ []) zs)) in
    let m : l + 1 ≡ length (xs ++ w ∷ []) = rw length-append (omega arith) in
    let q : l + 1 + length ws ≡ l + suc (length ws) = omega arith in
    rw (← push_grow (record { n = n; head = 0; len = l }) b w p)
    (filled_up (xs ++ w ∷ []) ws zs (set b l w) n (l + 1) m c (omega arith) (omega arith) ∙ rw (q, append_assoc))

turned_on : (pre xs ys b : List ℕ) (n i : ℕ) → i ≡ length pre → b ≡ pre ++ (xs ++ ys) → i + length xs < n
    → pushed_all (record { n = n; head = i; len = n }) b xs ≡ (record { n = n; head = i + length xs; len = n }, b)
unfolding pushed_all
turned_on pre [] ys b n i e f h = let z : i + 0 ≡ i = omega arith in rw z
turned_on pre (x ∷ xs) ys b n i e f h =
    let c : set b i x ≡ b = rw (e, f) (set-append_seam pre x (xs ++ ys) x) in
    let g : b ≡ (pre ++ x ∷ []) ++ (xs ++ ys) = f ∙ sym (append_assoc pre (x ∷ []) (xs ++ ys)) in
    let m : i + 1 ≡ length (pre ++ x ∷ []) = rw length-append (omega arith) in
    let q : i + 1 + length xs ≡ i + suc (length xs) = omega arith in
    rw (← push_over (record { n = n; head = i; len = n }) b x (i + 1) (omega arith) (next_below n i (omega arith)), c)
    (turned_on (pre ++ x ∷ []) xs ys b n (i + 1) m g (omega arith) ∙ rw q)

-- ---- the calls that leave a state

zeros_same : (xs ys : List ℕ) → all_below 1 xs ≡ true → all_below 1 ys ≡ true → length xs ≡ length ys → xs ≡ ys
unfolding all_below
zeros_same [] [] s t e = refl
zeros_same [] (y ∷ ys) s t e = absurd (let z : ⊥ = omega arith in z)
zeros_same (x ∷ xs) [] s t e = absurd (let z : ⊥ = omega arith in z)
zeros_same (x ∷ xs) (y ∷ ys) s t e =
    let p = ltb-true x 1 (and_left (ltb x 1) (all_below 1 xs) s) in
    let q = ltb-true y 1 (and_left (ltb y 1) (all_below 1 ys) t) in
    let x0 : x ≡ y = omega arith in
    let r : xs ≡ ys = zeros_same xs ys (and_right (ltb x 1) (all_below 1 xs) s) (and_right (ltb y 1) (all_below 1 ys) t) (omega arith) in
    rw (x0, r)

below_drop : (m i : ℕ) (ws : List ℕ) → all_below m ws ≡ true → all_below m (drop i ws) ≡ true
unfolding all_below
below_drop m zero ws t = t
below_drop m (suc i) [] t = refl
below_drop m (suc i) (w ∷ ws) t = below_drop m i ws (and_right (ltb w m) (all_below m ws) t)

below_take : (m i : ℕ) (ws : List ℕ) → all_below m ws ≡ true → all_below m (take i ws) ≡ true
unfolding all_below
below_take m zero ws t = refl
below_take m (suc i) [] t = refl
below_take m (suc i) (w ∷ ws) t =
    both (ltb w m) (all_below m (take i ws)) (and_left (ltb w m) (all_below m ws) t) (below_take m i ws (and_right (ltb w m) (all_below m ws) t))

words_used : (s : Sheet) (b : List ℕ) → state_ok s b ≡ true → (all_below 196608 (take s.len b) ≡ true) × (all_below 1 (drop s.len b) ≡ true)
unfolding state_ok
words_used s b t =
    let t₁ = and_right (eqb (length b) s.n) _ t in
    let t₂ = and_right (ltb s.head s.n) _ t₁ in
    let t₃ = and_right (leb s.len s.n) _ t₂ in
    let t₄ = and_right (eqb s.head 0 || eqb s.len s.n) _ t₃ in
    (and_left (all_below 196608 (take s.len b)) _ t₄, and_right (all_below 196608 (take s.len b)) _ t₄)

-- the words in use, into an empty ring
first_block : (b : List ℕ) (n l : ℕ) → length b ≡ n → l ≤ n → all_below 1 (drop l b) ≡ true
    → pushed_all (fresh n) (replicate n 0) (take l b) ≡ (record { n = n; head = 0; len = l }, b)
first_block b n l e h t =
    let zs : List ℕ = replicate n 0 in
    let u : length (take l b) ≡ l = length-take-le l b (omega arith) in
    let z : length zs ≡ n = length-replicate n 0 in
    let m : 0 + length zs ≡ n = omega arith in
    let k : length (take l b) ≤ length zs = omega arith in
    let same : drop l zs ≡ drop l b =
    zeros_same (drop l zs) (drop l b) (below_drop 1 l zs (below_zeros 1 n (omega arith))) t (rw (length-drop, length-drop) (omega arith)) in
    let q : 0 + l ≡ l = omega arith in
    filled_up [] (take l b) zs zs n 0 refl refl m k ∙ rw (u, same, take-append-drop l b, q)

-- those before the head again, in their own places
second_block : (b : List ℕ) (n i l : ℕ) → length b ≡ n → i < n → l ≤ n → (l < n → i ≡ 0)
    → pushed_all (record { n = n; head = 0; len = l }) b (take i b) ≡ (record { n = n; head = i; len = l }, b)
unfolding pushed_all
second_block b n i l e h k f = by (split (ltb l n))
  where
    by : (ltb l n ≡ true) ⊎ (ltb l n ≡ false) → pushed_all (record { n = n; head = 0; len = l }) b (take i b) ≡ (record { n = n; head = i; len = l }, b)
    by (inl p) = let z : i ≡ 0 = f (ltb-true l n p) in rw z
    by (inr p) =
        let q = ltb-false l n p in
        let z : l ≡ n = omega arith in
        let u : length (take i b) ≡ i = length-take-le i b (omega arith) in
        let m : 0 + i ≡ i = omega arith in
        let j : 0 + length (take i b) < n = omega arith in
        rw z (turned_on [] (take i b) (drop i b) b n 0 refl (sym (take-append-drop i b)) j ∙ rw (u, m))

all_bytes_lem : (u v : List ℕ) → all_below 196608 u ≡ true → all_below 196608 v ≡ true → all_bytes (call_of u ∷ call_of v ∷ []) ≡ true
unfolding all_bytes call_of
all_bytes_lem u v s t = rw (bytes_made u s, bytes_made v t)

module _ (s : Sheet) (b : List ℕ) (h : within 1 4096 s.n ≡ true) (t : state_ok s b ≡ true) where
  fit : Good s b
  fit = good s b (within_not s.n h) t

  below_used : all_below 196608 (take s.len b) ≡ true
  below_used = (words_used s b t).0

  below_again : all_below 196608 (take s.head b) ≡ true
  below_again = by (split (ltb s.len s.n))
    where
      by : (ltb s.len s.n ≡ true) ⊎ (ltb s.len s.n ≡ false) → all_below 196608 (take s.head b) ≡ true
      by (inl e) =
          let z : s.head ≤ s.len = omega (arith, fit.first (ltb-true s.len s.n e)) in
          rw (take-take s.head s.len b z) at (below_take 196608 s.head (take s.len b) below_used)
      by (inr e) =
          let z : s.head ≤ s.len = omega (arith, ltb-false s.len s.n e, fit.inside) in
          rw (take-take s.head s.len b z) at (below_take 196608 s.head (take s.len b) below_used)

  first_is : pushed_all (fresh s.n) (replicate s.n 0) (take s.len b) ≡ (record { n = s.n; head = 0; len = s.len }, b)
  first_is = first_block b s.n s.len fit.ring fit.room (words_used s b t).1

  second_is : pushed_all (record { n = s.n; head = 0; len = s.len }) b (take s.head b) ≡ (s, b)
  second_is = second_block b s.n s.head s.len fit.ring fit.inside fit.room fit.first

  few_used : length (take s.len b) ≤ 4096
  few_used = rw (length-take-le s.len b (omega (arith, fit.ring, fit.room))) (omega (arith, fit.most, fit.room))

  few_again : length (take s.head b) ≤ 4096
  few_again = rw (length-take-le s.head b (omega (arith, fit.ring, fit.inside))) (omega (arith, fit.most, fit.inside))

  kept_fresh : Kept (fresh s.n) (replicate s.n 0)
  kept_fresh = (holds_fresh s.n h).kept

  kept_first : Kept (record { n = s.n; head = 0; len = s.len }) b
  kept_first = rw first_is at (kept_all (fresh s.n) (replicate s.n 0) (take s.len b) kept_fresh below_used)

  leaves : started s.n (call_of (take s.len b) ∷ call_of (take s.head b) ∷ []) ≡ (s, b)
  unfolding after
  leaves =
      after_made (take s.len b) below_used few_used (fresh s.n) (replicate s.n 0) (call_of (take s.head b) ∷ []) kept_fresh h
      ∙ rw first_is
      (after_made (take s.head b) below_again few_again (record { n = s.n; head = 0; len = s.len }) b [] kept_first h
      ∙ rw second_is)

  pub reached : LeftBy s b
  reached =
      record {
        calls = call_of (take s.len b) ∷ call_of (take s.head b) ∷ [];
        bytes = all_bytes_lem (take s.len b) (take s.head b) below_used below_again;
        leaves = leaves;
      }
