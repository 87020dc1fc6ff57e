-- The state test: each way out of the walk and of the test, and what a state that passes is.
use Rattle.std.proofs.Common.{◌≡◌, ℕ, zero, suc, ◌+◌, ◌-◌, ◌<◌, ◌≤◌, min, Bool, true, false, ◌&&◌, eqb, leb, Option, None, Some, List, length, sym, refl, ⊎_elim, arith, le-ltb, lt-ltb, eq-eqb, ne_eqb, eqb-true, le-leb}
use mathlib.Core.Bool.{and-true, and-false}
use borrow.Author.Tests.{lt-leb, not-true, not-false}
use lib.Dec.{eqb-suc-zero}
use Rattle.config.specs.Range.{within, outside}
use Rattle.config.specs.inner.Tests.{split, tests}
use Rattle.history.specs.Headers.{next_at, header_at, words_from, numbered}
use Rattle.history.specs.inner.Walk.{newest_from, passes, Past, Walked}
use Rattle.history.specs.State.{newest_at, unsent_take, walk_ok, state_ok, back_of, Marks, Answers}
use Rattle.history.specs.declared.history.SendHistory.{SendHistory}
use Rattle.history.specs.declared.history.Mark.{Mark}
use Rattle.history.specs.declared.headers.Stop.{Stop}
use Rattle.history.proofs.Past.{past_none, past_on, past_fails}

-- what a test passed may be used in the next
and_under : (w u : ℕ) (l d f : Bool) → (w ≡ u → d ≡ f) → (eqb w u && (l && d)) ≡ (eqb w u && (l && f))
and_under w u l d f h =
    ⊎_elim
    (λ (e : eqb w u ≡ true). rw (h (eqb-true w u e)))
    (λ (e : eqb w u ≡ false). rw e)
    (split (eqb w u))

-- ---- the walk

-- the newest header is the one that the walk came by last
newest_is : (k : ℕ) (b : List ℕ) (i p : ℕ) → newest_from (suc k) b i p ≡ header_at k b i
unfolding newest_from header_at
newest_is zero b i p = refl
newest_is (suc k) b i p = newest_is k b (next_at b i) i

newest_at_lem : (last k : ℕ) (b : List ℕ) (i : ℕ) → eqb (newest_from k b i last) last ≡ newest_at last b k i
unfolding newest_from
newest_at_lem last zero b i = eq-eqb last last refl
newest_at_lem last (suc k) b i =
    let e : suc k - 1 ≡ k = omega arith in
    rw (newest_is k b i last, eqb-suc-zero k, e)

module _ (b : List ℕ) (last unsent words k i n u : ℕ) where
  pub walk_fails : passes k b i n u ≡ false → walk_ok b last unsent words k i n u ≡ false
  unfolding walk_ok
  walk_fails h =
      ⊎_elim
      (λ (e : numbered k b i n ≡ true).
      let f : leb (words_from k b i) u ≡ false = rw e at h in
      rw (e, ne_eqb (words_from k b i) u (λ g. omega (arith, tests))))
      (λ (e : numbered k b i n ≡ false). rw e)
      (split (numbered k b i n))

  pub walk_lost : (d at seq prev w e : ℕ) → Past b i n last d at seq prev (u - w) → w ≤ u → d + e ≤ k → ((j : ℕ) → passes (e + j) b at seq w ≡ false) → false ≡ walk_ok b last unsent words k i n u
  walk_lost d at seq prev w e x l m h =
      let f : d + (e + (k - (d + e))) ≡ k = omega arith in
      sym (walk_fails (past_fails b i n last d at seq prev u w (e + (k - (d + e))) k x l f (h (k - (d + e)))))

  -- behind the written entries w words are left
  module _ (at seq prev w : ℕ) (x : Past b i n last (k - unsent) at seq prev (u - w)) (few : unsent ≤ k) (l : w ≤ u) where
    all_words : words_from k b i ≡ u - w + words_from unsent b at
    all_words = let e : k - unsent + unsent ≡ k = omega arith in rw e at (x.taken unsent)

    unsent_words : unsent_take unsent words b k i ≡ eqb (words_from unsent b at) words
    unfolding header_at
    unsent_words =
        let e : k - unsent + 0 ≡ k - unsent = omega arith in
        let f : header_at (k - unsent) b i ≡ at = rw e at (x.place 0) in
        rw (le-ltb k unsent few, f)

    pub walk_unsent : (w ≡ words → ⊥) → walk_ok b last unsent words k i n u ≡ false
    unfolding walk_ok
    walk_unsent h =
        rw
        (unsent_words, and_under (words_from k b i) u (newest_at last b k i) (eqb (words_from unsent b at) words) false (λ e. ne_eqb (words_from unsent b at) words (λ f. h (omega (arith, all_words)))), and-false, and-false, and-false)

    module _ (at' seq' prev' w' : ℕ) (y : Past b i n last k at' seq' prev' (u - w')) (l' : w' ≤ u) where
      none_left : words_from k b i ≡ u - w'
      unfolding words_from
      none_left = let e : k + 0 ≡ k = omega arith in omega (arith, rw e at (y.taken 0))

      pub walk_left : (w' ≡ 0 → ⊥) → walk_ok b last unsent words k i n u ≡ false
      unfolding walk_ok
      walk_left h = rw (ne_eqb (words_from k b i) u (λ e. h (omega (arith, none_left))), and-false)

      pub walk_all : w ≡ words → w' ≡ 0 → walk_ok b last unsent words k i n u ≡ eqb prev' last
      unfolding walk_ok numbered newest_from
      walk_all s z =
          let e : k + 0 ≡ k = omega arith in
          let f : numbered k b i n ≡ true = rw e at (y.numbers 0) in
          let g : newest_from k b i last ≡ prev' = rw e at (y.newest 0) in
          let q : words_from k b i ≡ u = omega (arith, none_left) in
          let t : words_from unsent b at ≡ words = omega (arith, all_words) in
          rw (unsent_words, eq-eqb (words_from unsent b at) words t, f, eq-eqb (words_from k b i) u q, and-true, ← newest_at_lem last k b i, g)

-- ---- the state

size_in : (n : ℕ) → outside 65 32768 n ≡ false → within 65 32768 n ≡ true
size_in n s = not-false (within 65 32768 n) s

module _ (h : SendHistory) (b : List ℕ) (unsent words : ℕ) where
  pub test_size : outside 65 32768 h.size ≡ true → false ≡ state_ok h b unsent words
  unfolding state_ok
  test_size e = rw (not-true (within 65 32768 h.size) e)

  module _ (s : outside 65 32768 h.size ≡ false) where
    pub test_length : (length b ≡ h.size → ⊥) → false ≡ state_ok h b unsent words
    unfolding state_ok
    test_length p = rw (size_in h.size s, ne_eqb _ _ p)

    module _ (l : length b ≡ h.size) where
      pub test_head : h.size ≤ h.head → false ≡ state_ok h b unsent words
      unfolding state_ok
      test_head p = rw (size_in h.size s, eq-eqb _ _ l, le-ltb _ _ p)

      module _ (i : h.head < h.size) where
        pub test_used : h.size < h.used → false ≡ state_ok h b unsent words
        unfolding state_ok
        test_used p = rw (size_in h.size s, eq-eqb _ _ l, lt-ltb _ _ i, lt-leb _ _ p)

        module _ (r : h.used ≤ h.size) where
          pub test_unsent : h.count < unsent → false ≡ state_ok h b unsent words
          unfolding state_ok
          test_unsent p = rw (size_in h.size s, eq-eqb _ _ l, lt-ltb _ _ i, le-leb _ _ r, lt-leb _ _ p)

          pub test_walk : (t : Bool) → t ≡ walk_ok b h.last unsent words h.count h.head h.oldest h.used → unsent ≤ h.count → t ≡ state_ok h b unsent words
          unfolding state_ok
          test_walk t e p = rw (size_in h.size s, eq-eqb _ _ l, lt-ltb _ _ i, le-leb _ _ r, le-leb _ _ p, e)

-- ---- the answer

none_mark : (m : Mark) → ◌≡◌ {A = Option Mark} None (Some m) → ⊥
none_mark m e = let z : ◌≡◌ {A = ℕ} 0 1 = cc in omega arith

module _ (t : Bool) (h : SendHistory) (b : List ℕ) (unsent back : ℕ) where
  pub answers_no : false ≡ t → Answers t h b unsent back None
  answers_no f = record { answer = f; entry = λ m e. absurd (none_mark m e); place = λ m e. absurd (none_mark m e) }

  pub answers_yes : (m : Mark) → true ≡ t → m.entry ≡ back_of h unsent back → Marks h b m → Answers t h b unsent back (Some m)
  answers_yes m f x y =
      record {
        answer = f;
        entry = λ n e. (let g : n ≡ m = cc in rw g x);
        place = λ n e. (let g : n ≡ m = cc in rw g y);
      }

-- ---- the walk in three parts: up to the last `again` written entries, these, and the unwritten ones

abbrev start_of : SendHistory → Stop
start_of h = record { at = h.head; seq = h.oldest; prev = h.last; words = h.used }

module _ (h : SendHistory) (b : List ℕ) (unsent words back : ℕ) (few : unsent ≤ h.count) (again : ℕ) (a : again ≡ min back (h.count - unsent)) where
  abbrev answer : Bool
  answer = walk_ok b h.last unsent words h.count h.head h.oldest h.used

  pub first_lost : Walked b (start_of h) (h.count - unsent - again) None → false ≡ answer
  first_lost x =
      let z : h.used - h.used ≡ 0 = omega arith in
      walk_lost b h.last unsent words h.count h.head h.oldest h.used 0 h.head h.oldest h.last h.used (h.count - unsent - again) (rw z (past_none b h.head h.oldest h.last)) (omega arith) (omega arith) x

  module _ (f : Stop) (x : Walked b (start_of h) (h.count - unsent - again) (Some f)) where
    pub back_place : Marks h b record { entry = h.count - unsent - again; at = f.at }
    unfolding header_at
    back_place =
        let g = x in
        let e : h.count - unsent - again + 0 ≡ h.count - unsent - again = omega arith in
        (sym (rw e at (g.2.place 0)), g.0)

    pub second_lost : Walked b f again None → false ≡ answer
    second_lost y =
        walk_lost b h.last unsent words h.count h.head h.oldest h.used _ _ _ _ _ again x.2 x.1 (omega arith) y

    module _ (s : Stop) (y : Walked b f again (Some s)) where
      both : (s.words ≤ h.used) × Past b h.head h.oldest h.last (h.count - unsent) s.at s.seq s.prev (h.used - s.words)
      both =
          let g = x in
          let k = y in
          let gw : f.words ≤ h.used = g.1 in
          let kw : s.words ≤ f.words = k.1 in
          let e : h.count - unsent - again + again ≡ h.count - unsent = omega arith in
          (omega arith, rw e at (past_on b h.head h.oldest h.last (h.count - unsent - again) f.at f.seq f.prev h.used f.words again s.at s.seq s.prev s.words g.2 gw k.2 kw))

      pub unsent_off : (s.words ≡ words → ⊥) → false ≡ answer
      unsent_off o = sym (walk_unsent b h.last unsent words h.count h.head h.oldest h.used _ _ _ s.words both.1 few both.0 o)

      pub last_lost : Walked b s unsent None → false ≡ answer
      last_lost z = walk_lost b h.last unsent words h.count h.head h.oldest h.used _ _ _ _ _ unsent both.1 both.0 (omega arith) z

      module _ (t : Stop) (z : Walked b s unsent (Some t)) where
        whole : (t.words ≤ h.used) × Past b h.head h.oldest h.last h.count t.at t.seq t.prev (h.used - t.words)
        whole =
            let k = z in
            let bw : s.words ≤ h.used = both.0 in
            let kw : t.words ≤ s.words = k.1 in
            let e : h.count - unsent + unsent ≡ h.count = omega arith in
            (omega arith, rw e at (past_on b h.head h.oldest h.last (h.count - unsent) s.at s.seq s.prev h.used s.words unsent t.at t.seq t.prev t.words both.1 bw k.2 kw))

        pub words_left : (t.words ≡ 0 → ⊥) → false ≡ answer
        words_left o = sym (walk_left b h.last unsent words h.count h.head h.oldest h.used _ _ _ s.words both.1 few both.0 _ _ _ t.words whole.1 whole.0 o)

        pub newest_told : s.words ≡ words → t.words ≡ 0 → eqb t.prev h.last ≡ answer
        newest_told o n = sym (walk_all b h.last unsent words h.count h.head h.oldest h.used _ _ _ s.words both.1 few both.0 _ _ _ t.words whole.1 whole.0 o n)
