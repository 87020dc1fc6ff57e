-- Lists of entries: their words as they stand in the ring, and which of them stay.
use Rattle.std.proofs.Common.{◌≡◌, ℕ, zero, suc, ◌+◌, ◌-◌, ◌*◌, ◌%◌, ◌<◌, ◌≤◌, Bool, true, false, cond, ltb, List, [], ◌∷◌, ◌++◌, length, get_or, take, drop, sym, refl, ap, ◌∙◌, append_assoc, append-nil, arith, length-append, length-drop, take-append-drop, drop-cons, drop_at, ltb-false, le-ltb}
use lib.Seq.{drop-append-le}
use Rattle.config.specs.Sequence.{turn, after}
use Rattle.history.specs.Entries.{flat, Short, size, Unwritten, kept}

-- ---- the words that entries take

pub length_flat : (n : ℕ) (es : List (List ℕ)) → length (flat n es) ≡ size es
unfolding flat size
length_flat n [] = refl
length_flat n (ws ∷ es) = rw (length-append, length_flat (after n 1) es) (omega arith)

pub size_append : (xs ys : List (List ℕ)) → size (xs ++ ys) ≡ size xs + size ys
unfolding size
size_append [] ys = omega arith
size_append (x ∷ xs) ys = omega (arith, size_append xs ys)

pub size_take : (k : ℕ) (es : List (List ℕ)) → size (take k es) ≤ size es
unfolding size
size_take zero es = omega arith
size_take (suc k) [] = omega arith
size_take (suc k) (ws ∷ es) = omega (arith, size_take k es)

pub size_one : (ws : List ℕ) → size (ws ∷ []) ≡ 1 + length ws
unfolding size
size_one ws = omega arith

pub size_first : (ws : List ℕ) (es : List (List ℕ)) → size (ws ∷ es) ≡ 1 + length ws + size es
unfolding size
size_first ws es = refl

pub short_first : (ws : List ℕ) (es : List (List ℕ)) → Short (ws ∷ es) → (length ws ≤ 64) × Short es
unfolding Short
short_first ws es s = s

-- an entry behind the newest
pub flat_append : (n : ℕ) (es : List (List ℕ)) (ws : List ℕ) → n < turn
    → flat n (es ++ (ws ∷ [])) ≡ flat n es ++ ((after n (length es) * turn + length ws) ∷ ws)
unfolding flat
flat_append n [] ws h =
    let e : (n + 0) % 65536 ≡ n = omega arith in
    rw (append-nil, e)
flat_append n (x ∷ es) ws h =
    let e : (n + suc (length es)) % 65536 ≡ ((n + 1) % 65536 + length es) % 65536 = omega arith in
    ap (λ (l : List ℕ). (n * 65536 + length x) ∷ l)
    (rw (flat_append (after n 1) es ws (omega arith), ← e)
    (sym (append_assoc x (flat (after n 1) es) (((n + suc (length es)) % 65536 * 65536 + length ws) ∷ ws))))

pub short_append : (xs ys : List (List ℕ)) → Short xs → Short ys → Short (xs ++ ys)
unfolding Short
short_append [] ys s t = t
short_append (x ∷ xs) ys s t = (s.0, short_append xs ys s.1 t)

pub short_left : (xs ys : List (List ℕ)) → Short (xs ++ ys) → Short xs
unfolding Short
short_left [] ys s = tt
short_left (x ∷ xs) ys s = (s.0, short_left xs ys s.1)

pub short_one : (ws : List ℕ) → length ws ≤ 64 → Short (ws ∷ [])
unfolding Short
short_one ws h = (h, tt)

-- ---- the entries that stay

pub kept_short : (c need : ℕ) (es : List (List ℕ)) → Short es → Short (kept c need es)
unfolding kept Short
kept_short c need [] s = tt
kept_short c need (ws ∷ es) s = by (ltb (c - size (ws ∷ es)) need) (kept_short c need es s.1)
  where
    by : (t : Bool) → Short (kept c need es) → Short (cond t (kept c need es) (ws ∷ es))
    by true r = r
    by false r = s

-- then the words are free
pub kept_room : (c need : ℕ) (es : List (List ℕ)) → need ≤ c → size es ≤ c → need + size (kept c need es) ≤ c
unfolding kept size
kept_room c need [] h p = omega arith
kept_room c need (ws ∷ es) h p = by (ltb (c - size (ws ∷ es)) need) refl (kept_room c need es h (omega arith))
  where
    by : (t : Bool) → ltb (c - size (ws ∷ es)) need ≡ t → need + size (kept c need es) ≤ c → need + size (cond t (kept c need es) (ws ∷ es)) ≤ c
    by true e r = r
    by false e r = omega (arith, ltb-false (c - size (ws ∷ es)) need e)

-- the newest entries whose words and those needed fit together all stay: others leave for them
pub kept_stays : (c need : ℕ) (xs ys : List (List ℕ)) → need + size ys ≤ c → kept c need (xs ++ ys) ≡ kept (c - size ys) need xs ++ ys
unfolding kept
kept_stays c need [] [] h = refl
kept_stays c need [] (y ∷ ys) h = rw (le-ltb (c - size (y ∷ ys)) need (omega arith))
kept_stays c need (x ∷ xs) ys h =
    let e : c - size (x ∷ xs ++ ys) ≡ c - size ys - size (x ∷ xs) = rw (size_append (x ∷ xs) ys) (omega arith) in
    rw e (by (ltb (c - size ys - size (x ∷ xs)) need) (kept_stays c need xs ys h))
  where
    by : (t : Bool) → kept c need (xs ++ ys) ≡ kept (c - size ys) need xs ++ ys → cond t (kept c need (xs ++ ys)) (x ∷ xs ++ ys) ≡ cond t (kept (c - size ys) need xs) (x ∷ xs) ++ ys
    by true r = r
    by false r = refl

-- ---- the unwritten entries

-- the newest of the list
pub unwritten_newest : (xs ys : List (List ℕ)) → Unwritten (xs ++ ys) (length ys) (size ys)
unwritten_newest xs ys =
    let l = length-append xs ys in
    record { some = omega arith; take = ap size (drop_at xs ys (length (xs ++ ys) - length ys) (omega arith)) }

module _ (c need unsent words : ℕ) (es : List (List ℕ)) (u : Unwritten es unsent words) where
  newest_many : length (drop (length es - unsent) es) ≡ unsent
  newest_many = length-drop (length es - unsent) es ∙ omega (arith, u.some)

  -- unwritten entries never leave for words that fit beside theirs
  pub unwritten_stay : need + words ≤ c → kept c need es ≡ kept (c - words) need (take (length es - unsent) es) ++ drop (length es - unsent) es
  unwritten_stay h =
      let e = u.take in
      ap (kept c need) (sym (take-append-drop (length es - unsent) es))
      ∙ kept_stays c need (take (length es - unsent) es) (drop (length es - unsent) es) (rw e h)
      ∙ rw e

  pub unwritten_kept : need + words ≤ c → Unwritten (kept c need es) unsent words
  unwritten_kept h =
      rw (unwritten_stay h)
      (rw (newest_many, u.take) at (unwritten_newest (kept (c - words) need (take (length es - unsent) es)) (drop (length es - unsent) es)))

-- a new entry is unwritten too, and its header counts
pub unwritten_push : (es : List (List ℕ)) (ws : List ℕ) (unsent words : ℕ) → Unwritten es unsent words
    → Unwritten (es ++ (ws ∷ [])) (unsent + 1) (words + (1 + length ws))
unwritten_push es ws unsent words u =
    let l : length (es ++ (ws ∷ [])) ≡ length es + 1 = length-append es (ws ∷ []) in
    let k : length (es ++ (ws ∷ [])) - (unsent + 1) ≡ length es - unsent = omega arith in
    record {
      some = omega (arith, u.some);
      take =
          rw (k, drop-append-le (length es - unsent) es (ws ∷ []) (omega arith), size_append, size_one) (ap (λ (m : ℕ). m + (1 + length ws)) u.take);
    }

-- words that join the newest unwritten entry are unwritten
pub unwritten_join : (es : List (List ℕ)) (ws xs : List ℕ) (unsent words : ℕ) → 0 < unsent → Unwritten (es ++ (ws ∷ [])) unsent words
    → Unwritten (es ++ ((ws ++ xs) ∷ [])) unsent (words + length xs)
unwritten_join es ws xs unsent words p u =
    let l : length (es ++ (ws ∷ [])) ≡ length es + 1 = length-append es (ws ∷ []) in
    let m : length (es ++ ((ws ++ xs) ∷ [])) ≡ length es + 1 = length-append es ((ws ++ xs) ∷ []) in
    let k : ℕ = length es + 1 - unsent in
    let d : k ≤ length es = omega arith in
    let t : size (drop k es) + (1 + length ws) ≡ words = rw (l, drop-append-le k es (ws ∷ []) d, size_append, size_one) at u.take in
    record {
      some = omega (arith, u.some);
      take = rw (m, drop-append-le k es ((ws ++ xs) ∷ []) d, size_append, size_one, length-append) (omega arith);
    }

-- the oldest unwritten entry is written: it, with its header, is unwritten no more
pub unwritten_written : (es : List (List ℕ)) (unsent words : ℕ) → 0 < unsent → Unwritten es unsent words
    → Unwritten es (unsent - 1) (words - (1 + length (get_or es (length es - unsent) [])))
unwritten_written es unsent words p u =
    let j : ℕ = length es - unsent in
    let q : j < length es = omega (arith, u.some) in
    let k : length es - (unsent - 1) ≡ suc j = omega (arith, u.some) in
    let t : size (get_or es j [] ∷ drop (suc j) es) ≡ words = rw (drop-cons es j [] q) at u.take in
    record { some = omega (arith, u.some); take = rw k (omega (arith, size_first (get_or es j []) (drop (suc j) es))) }

-- ---- the unwritten entries after a push and after an append, for which words are free beside theirs

pub unwritten_pushed : (c unsent words : ℕ) (es : List (List ℕ)) (ws : List ℕ) → Unwritten es unsent words → 1 + length ws + words ≤ c
    → Unwritten (kept c (1 + length ws) es ++ (ws ∷ [])) (unsent + 1) (words + (1 + length ws))
unwritten_pushed c unsent words es ws u h =
    unwritten_push (kept c (1 + length ws) es) ws unsent words (unwritten_kept c (1 + length ws) unsent words es u h)

-- the newest entry is among them
unwritten_least : (es : List (List ℕ)) (ws : List ℕ) (unsent words : ℕ) → 0 < unsent → Unwritten (es ++ (ws ∷ [])) unsent words → size (ws ∷ []) ≤ words
unwritten_least es ws unsent words p u =
    let l : length (es ++ (ws ∷ [])) ≡ length es + 1 = length-append es (ws ∷ []) in
    let k : ℕ = length es + 1 - unsent in
    let t : size (drop k es) + size (ws ∷ []) ≡ words = rw (l, drop-append-le k es (ws ∷ []) (omega arith), size_append) at u.take in
    omega arith

pub unwritten_appended : (c unsent words : ℕ) (es : List (List ℕ)) (ws xs : List ℕ) → 0 < unsent → Unwritten (es ++ (ws ∷ [])) unsent words → length xs + words ≤ c
    → Unwritten (kept (c - size (ws ∷ [])) (length xs) es ++ ((ws ++ xs) ∷ [])) unsent (words + length xs)
unwritten_appended c unsent words es ws xs p u h =
    let s = kept_stays c (length xs) es (ws ∷ []) (omega (arith, unwritten_least es ws unsent words p u)) in
    unwritten_join (kept (c - size (ws ∷ [])) (length xs) es) ws xs unsent words p
    (rw s at (unwritten_kept c (length xs) unsent words (es ++ (ws ∷ [])) u h))
