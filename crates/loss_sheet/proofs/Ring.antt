-- Laws of the ring: the words held, and one arrival more.
use mathlib.Core.Path.{◌≡◌, refl, sym, ap, ◌∙◌}
use mathlib.Core.Bool.{true, false}
use mathlib.Core.List.{List, [], ◌∷◌, ◌++◌, append_assoc, append-nil}
use Prim.Native.Nat.{ℕ, suc, ◌+◌, ◌*◌, ◌-◌, ◌≤◌, ◌<◌}
use native.Mathlib.Numerals.{add-one}
use native.Mathlib.Omega.{arith}
use borrow.Author.Tests.{lt-ltb, le-ltb, ltb-true, ltb-false}
use mathlib.Core.Logic.{⊎_elim}
use lib.ListN.{length, set, take, drop, replicate, drop_of_length-le, length-append, length-set, length-drop, length-take, take-append-drop}
use lib.Seq.{drop-cons, drop-append-le, drop-drop, drop-set-lt, take-suc-set, take_all, take-take}
use lib.Dec.{ltb}
use Rattle.config.specs.inner.Tests.{split}
use Rattle.sheet_blocks.specs.Bytes.{spliced}
use Rattle.sheet_blocks.proofs.Splice.{spliced_append}
use Rattle.loss_sheet.specs.Figures.{figures, figure_bytes}
use Rattle.loss_sheet.specs.Sheet.{next_of, pushed, held, last_of, sheet_bytes}
use Rattle.loss_sheet.specs.inner.Fits.{Good}
use Rattle.loss_sheet.specs.declared.sheet.Sheet.{Sheet}
use Rattle.loss_sheet.specs.declared.figures.Figures.{Figures}
use Rattle.loss_sheet.proofs.Counts.{figures_swap, length_figures}

-- ---- the next place

pub next_below : (n i : ℕ) → i + 1 < n → i + 1 ≡ next_of n i
unfolding next_of
next_below n i h = rw (lt-ltb (i + 1) n h)

pub next_round : (n i : ℕ) → n ≤ i + 1 → 0 ≡ next_of n i
unfolding next_of
next_round n i h = rw (le-ltb (i + 1) n h)

-- ---- one arrival more

module _ (s : Sheet) (b : List ℕ) (w : ℕ) where
  pub push_grow : s.len < s.n → (record { n = s.n; head = s.head; len = s.len + 1 }, set b s.len w) ≡ pushed s b w
  unfolding pushed
  push_grow h = rw (lt-ltb s.len s.n h)

  pub push_over : (i : ℕ) → s.n ≤ s.len → i ≡ next_of s.n s.head → (record { n = s.n; head = i; len = s.len }, set b s.head w) ≡ pushed s b w
  unfolding pushed
  push_over i h e = rw (le-ltb s.len s.n h, e)

-- ---- the last n

length_last : (n : ℕ) (ws : List ℕ) → length ws ≤ n → last_of n ws ≡ ws
unfolding last_of
length_last n ws h = let e : length ws - n ≡ 0 = omega arith in rw e

-- what comes before the last n makes no difference
pub last_append : (n : ℕ) (xs ys : List ℕ) → last_of n (last_of n xs ++ ys) ≡ last_of n (xs ++ ys)
unfolding last_of
last_append n xs ys =
    let d : ℕ = length xs - n in
    let e : drop d xs ++ ys ≡ drop d (xs ++ ys) = sym (drop-append-le d xs ys (omega arith)) in
    let l : d + (length (drop d (xs ++ ys)) - n) ≡ length (xs ++ ys) - n = rw (length-drop, length-append) (omega arith) in
    rw (e, drop-drop, l)

-- the last n are their own last n
pub last_few : (n : ℕ) (all xs : List ℕ) → xs ≡ last_of n all → last_of n xs ≡ last_of n all
last_few n all xs e = rw e (simp append-nil at (last_append n all []))

pub sheet_last : (n : ℕ) (past ws : List ℕ) → sheet_bytes n (last_of n past) ws ≡ sheet_bytes n past ws
unfolding sheet_bytes
sheet_last n past [] = refl
sheet_last n past (w ∷ ws) =
    let e = last_append n past (w ∷ []) in
    let rest : sheet_bytes n (last_of n past ++ w ∷ []) ws ≡ sheet_bytes n (past ++ w ∷ []) ws =
    sym (sheet_last n (last_of n past ++ w ∷ []) ws) ∙ rw e (sheet_last n (past ++ w ∷ []) ws) in
    rw (e, rest)

-- ---- words set to 0

pub filled : (d e : List ℕ) (k : ℕ) → k ≤ length d → length d ≤ k → e ≡ replicate k 0 ++ drop k d → e ≡ replicate (length d) 0
filled d e k p q f =
    let m : k ≡ length d = omega arith in
    f ∙ rw (drop_of_length-le d q, append-nil, m)

-- ---- the words held, oldest first, after one arrival more

next_in_lem : (n i : ℕ) → i < n → next_of n i < n
next_in_lem n i h =
    ⊎_elim
    (λ (e : ltb (i + 1) n ≡ true). let p : i + 1 < n = ltb-true (i + 1) n e in rw (← next_below n i p) p)
    (λ (e : ltb (i + 1) n ≡ false). rw (← next_round n i (ltb-false (i + 1) n e)) (omega arith))
    (split (ltb (i + 1) n))

good_grow : (s : Sheet) (b : List ℕ) (w : ℕ) → Good s b → s.len < s.n → Good (record { n = s.n; head = s.head; len = s.len + 1 }) (set b s.len w)
good_grow s b w g h =
    record { ring = length-set b s.len w ∙ g.ring; most = g.most; inside = g.inside; room = omega arith; first = λ k. g.first h }

good_over : (s : Sheet) (b : List ℕ) (w : ℕ) → Good s b → s.n ≤ s.len
    → Good (record { n = s.n; head = next_of s.n s.head; len = s.len }) (set b s.head w)
good_over s b w g h =
    record {
      ring = length-set b s.head w ∙ g.ring;
      most = g.most;
      inside = next_in_lem s.n s.head g.inside;
      room = g.room;
      first = λ k. absurd (let z : ⊥ = omega arith in z);
    }

pub good_push : (s : Sheet) (b : List ℕ) (w : ℕ) → Good s b → Good (pushed s b w).0 (pushed s b w).1
good_push s b w g =
    ⊎_elim
    (λ (e : ltb s.len s.n ≡ true). let h = ltb-true s.len s.n e in rw (← push_grow s b w h) (good_grow s b w g h))
    (λ (e : ltb s.len s.n ≡ false). let h = ltb-false s.len s.n e in rw (← push_over s b w _ h refl) (good_over s b w g h))
    (split (ltb s.len s.n))

pub push_n : (s : Sheet) (b : List ℕ) (w : ℕ) → (pushed s b w).0.n ≡ s.n
push_n s b w =
    ⊎_elim
    (λ (e : ltb s.len s.n ≡ true). rw (← push_grow s b w (ltb-true s.len s.n e)))
    (λ (e : ltb s.len s.n ≡ false). rw (← push_over s b w _ (ltb-false s.len s.n e) refl))
    (split (ltb s.len s.n))

-- the words held in a ring from place h on, the first len in use
abbrev around : ℕ → ℕ → List ℕ → List ℕ
around h len b = drop h (take len b) ++ take h b

around_grow : (b : List ℕ) (h len n w : ℕ) → h ≡ 0 → len < n → length b ≡ n → around h (len + 1) (set b len w) ≡ last_of n (around h len b ++ w ∷ [])
around_grow b h len n w z k e =
    let l : length (take len b ++ w ∷ []) ≤ n = simp (length-append, length-take) (omega arith) in
    let i : len < length b = omega arith in
    rw (z, append-nil, append-nil, add-one, take-suc-set b len w i) (sym (length_last n (take len b ++ w ∷ []) l))

turned : (b : List ℕ) (h n w : ℕ) → h < n → length b ≡ n → drop (suc h) (set b h w) ++ take (suc h) (set b h w) ≡ last_of n ((drop h b ++ take h b) ++ w ∷ [])
unfolding last_of
turned b h n w k e =
    let i : h < length b = omega arith in
    let l : length ((drop h b ++ take h b) ++ w ∷ []) - n ≡ 1 = simp (length-append, length-drop, length-take) (omega arith) in
    rw (l, drop-set-lt (suc h) b h w (omega arith), take-suc-set b h w i, drop-cons b h 0 i) (sym (append_assoc (drop (suc h) b) (take h b) (w ∷ [])))

around_over : (b : List ℕ) (h len n w : ℕ) → h < n → n ≤ len → length b ≡ n → around (next_of n h) len (set b h w) ≡ last_of n (around h len b ++ w ∷ [])
around_over b h len n w k m e =
    let c : List ℕ = set b h w in
    let lc : length c ≡ n = length-set b h w ∙ e in
    let whole : take len b ≡ b = take_all len b (omega arith) in
    let whole' : take len c ≡ c = take_all len c (omega arith) in
    let t = turned b h n w k e in
    rw (whole, whole')
    (⊎_elim
    (λ (p : ltb (h + 1) n ≡ true). rw (← next_below n h (ltb-true (h + 1) n p), add-one) t)
    (λ (p : ltb (h + 1) n ≡ false).
    let q = ltb-false (h + 1) n p in
    let none : drop (suc h) c ≡ [] = drop_of_length-le c {i = suc h} (omega arith) in
    let all : take (suc h) c ≡ c = take_all (suc h) c (omega arith) in
    rw (← next_round n h q, append-nil) (rw (none, all) at t))
    (split (ltb (h + 1) n)))

pub held_push : (s : Sheet) (b : List ℕ) (w : ℕ) → Good s b → held (pushed s b w).0 (pushed s b w).1 ≡ last_of s.n (held s b ++ w ∷ [])
unfolding held
held_push s b w g =
    ⊎_elim
    (λ (e : ltb s.len s.n ≡ true).
    let h = ltb-true s.len s.n e in
    rw (← push_grow s b w h) (around_grow b s.head s.len s.n w (g.first h) h g.ring))
    (λ (e : ltb s.len s.n ≡ false).
    let h = ltb-false s.len s.n e in
    rw (← push_over s b w _ h refl) (around_over b s.head s.len s.n w g.inside h g.ring))
    (split (ltb s.len s.n))

-- ---- figures of the words held

pub figures_held : (s : Sheet) (b : List ℕ) → Good s b → figures (take s.len b) ≡ figures (held s b)
unfolding held
figures_held s b g =
    let h : s.head ≤ s.len = inside in
    let e : take s.head (take s.len b) ≡ take s.head b = take-take s.head s.len b h in
    ap figures (sym (take-append-drop s.head (take s.len b)))
    ∙ figures_swap (take s.head (take s.len b)) (drop s.head (take s.len b))
    ∙ rw e
  where
    inside : s.head ≤ s.len
    inside =
        ⊎_elim
        (λ (e : ltb s.len s.n ≡ true). omega (arith, g.first (ltb-true s.len s.n e)))
        (λ (e : ltb s.len s.n ≡ false). omega (arith, ltb-false s.len s.n e, g.inside))
        (split (ltb s.len s.n))

-- ---- the loop over a block

length_sheet : (n : ℕ) (past ws : List ℕ) → length (sheet_bytes n past ws) ≡ 16 * length ws
unfolding sheet_bytes
length_sheet n past [] = refl
length_sheet n past (w ∷ ws) =
    rw length-append (omega (arith, length_figures (figures (last_of n (past ++ w ∷ []))), length_sheet n (past ++ w ∷ []) ws))

pub sheet_turn : (s s' : Sheet) (b b' : List ℕ) (w : ℕ) (ws o o' z : List ℕ) (n at : ℕ) (f : Figures) → Good s b → s.n ≡ n
    → (s', b') ≡ pushed s b w
    → f ≡ figures (take s'.len b')
    → o' ≡ spliced o at (figure_bytes f)
    → at + 16 * suc (length ws) ≤ length o
    → spliced o at (sheet_bytes n (held s b) (w ∷ ws)) ≡ z
    → spliced o' (at + 16) (sheet_bytes n (held s' b') ws) ≡ z
unfolding sheet_bytes
sheet_turn s s' b b' w ws o o' z n at f g en p ef eo fits inv =
    let new : List ℕ = last_of n (held s b ++ w ∷ []) in
    let es : s' ≡ (pushed s b w).0 = ap (λ (x : Sheet × List ℕ). x.0) p in
    let eb : b' ≡ (pushed s b w).1 = ap (λ (x : Sheet × List ℕ). x.1) p in
    let gg : Good s' b' = rw (es, eb) (good_push s b w g) in
    let eh : held s' b' ≡ new = rw (es, eb, ← en) (held_push s b w g) in
    let e₁ : f ≡ figures new = ef ∙ figures_held s' b' gg ∙ ap figures eh in
    let e₂ : sheet_bytes n (held s' b') ws ≡ sheet_bytes n (held s b ++ w ∷ []) ws = rw eh (sheet_last n (held s b ++ w ∷ []) ws) in
    let l₁ = length_figures (figures new) in
    let l₂ = length_sheet n (held s b ++ w ∷ []) ws in
    rw (eo, e₁, e₂) (spliced_append o at (at + 16) (figure_bytes (figures new)) (sheet_bytes n (held s b ++ w ∷ []) ws) (omega arith) (omega arith) ∙ inv)
