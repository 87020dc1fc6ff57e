-- A state that passes the state test holds a list of entries, the newest of them unwritten as the test was told; and such a state passes.
use Rattle.std.proofs.Common.{◌≡◌, ℕ, ◌+◌, ◌-◌, ◌<◌, ◌≤◌, Bool, true, ◌&&◌, eqb, ltb, leb, List, length, drop, sym, ap, ◌∙◌, ⊎_elim, arith, ltb-true, le-ltb, lt-ltb, eq-eqb, ne_eqb, eqb-true, le-leb, leb-true}
use Rattle.config.specs.Sequence.{turn}
use Rattle.config.specs.Range.{within}
use Rattle.config.specs.inner.Tests.{and_left, and_right}
use Rattle.history.specs.Headers.{header_at, words_from, entries_from, numbered}
use Rattle.history.specs.State.{newest_at, unsent_take, walk_ok, state_ok, Good}
use Rattle.history.specs.Entries.{size, entries_of, Holds, Unwritten}
use Rattle.history.specs.declared.history.SendHistory.{SendHistory}
use Rattle.history.proofs.Slots.{lt_or_ge}
use Rattle.history.proofs.Entries.{length_entries, drop_entries, size_entries, good_holds, holds_good, holds_entries}

-- the words of the newest m of k entries
newest_words : (m k : ℕ) (b : List ℕ) (i : ℕ) → m ≤ k → size (drop (k - m) (entries_from k b i)) ≡ words_from m b (header_at (k - m) b i)
newest_words m k b i p =
    let e : k - m + m ≡ k = omega arith in
    ap size (rw e at (drop_entries (k - m) m b i)) ∙ size_entries m b (header_at (k - m) b i)

module _ (h : SendHistory) (b : List ℕ) (unsent words : ℕ) where
  -- what the walk has found
  walked : Bool
  walked = walk_ok b h.last unsent words h.count h.head h.oldest h.used

  module _ (ok : state_ok h b unsent words ≡ true) where
    from_length : (eqb (length b) h.size && (ltb h.head h.size && (leb h.used h.size && (leb unsent h.count && walked)))) ≡ true
    unfolding state_ok walked
    from_length = and_right (within 65 32768 h.size) _ ok

    from_head : (ltb h.head h.size && (leb h.used h.size && (leb unsent h.count && walked))) ≡ true
    from_head = and_right (eqb (length b) h.size) _ from_length

    from_used : (leb h.used h.size && (leb unsent h.count && walked)) ≡ true
    from_used = and_right (ltb h.head h.size) _ from_head

    from_unsent : (leb unsent h.count && walked) ≡ true
    from_unsent = and_right (leb h.used h.size) _ from_used

    from_words : (eqb (words_from h.count b h.head) h.used && (newest_at h.last b h.count h.head && unsent_take unsent words b h.count h.head)) ≡ true
    unfolding walked walk_ok
    from_words = and_right (numbered h.count b h.head h.oldest) _ (and_right (leb unsent h.count) _ from_unsent)

    from_newest : (newest_at h.last b h.count h.head && unsent_take unsent words b h.count h.head) ≡ true
    from_newest = and_right (eqb (words_from h.count b h.head) h.used) _ from_words

    -- the state is good
    pub state_good : Good h b
    unfolding state_ok walked walk_ok
    state_good =
        let s = and_left (within 65 32768 h.size) _ ok in
        record {
          ring = eqb-true _ _ (and_left (eqb (length b) h.size) _ from_length);
          least = leb-true _ _ (and_left (leb 65 h.size) _ s);
          most = leb-true _ _ (and_right (leb 65 h.size) _ s);
          inside = ltb-true _ _ (and_left (ltb h.head h.size) _ from_head);
          room = leb-true _ _ (and_left (leb h.used h.size) _ from_used);
          headers = and_left (numbered h.count b h.head h.oldest) _ (and_right (leb unsent h.count) _ from_unsent);
          words = eqb-true _ _ (and_left (eqb (words_from h.count b h.head) h.used) _ from_words);
          newest = λ some.
              eqb-true _ _ (rw (ne_eqb h.count 0 (λ e. omega arith)) at (and_left (newest_at h.last b h.count h.head) _ from_newest));
        }

    unsent_few : unsent ≤ h.count
    unsent_few = leb-true _ _ (and_left (leb unsent h.count) _ from_unsent)

    -- it holds the entries that its walk finds
    pub state_holds : h.oldest < turn → Holds h b (entries_of h b)
    state_holds o = good_holds h b state_good o

    -- and of these the newest are unwritten
    pub state_unwritten : Unwritten (entries_of h b) unsent words
    state_unwritten =
        let m = length_entries h.count b h.head in
        let t = and_right (newest_at h.last b h.count h.head) _ from_newest in
        record {
          some = omega (arith, unsent_few);
          take = rw (m, newest_words unsent h.count b h.head unsent_few)
              (eqb-true _ _ (rw (le-ltb h.count unsent unsent_few) at t));
        }

  newest_ok : Good h b → newest_at h.last b h.count h.head ≡ true
  newest_ok g =
      ⊎_elim
      (λ (p : 0 < h.count). rw (ne_eqb h.count 0 (λ e. omega arith)) (eq-eqb _ _ (g.newest p)))
      (λ (p : h.count ≤ 0). rw (eq-eqb h.count 0 (omega arith)))
      (lt_or_ge 0 h.count)

  -- a state that holds entries passes the test
  pub holds_state : (es : List (List ℕ)) → Holds h b es → Unwritten es unsent words → state_ok h b unsent words ≡ true
  unfolding state_ok walk_ok
  holds_state es a u =
      let g = holds_good h b es a in
      let few : unsent ≤ h.count = omega (arith, a.many, u.some) in
      let w : words_from unsent b (header_at (h.count - unsent) b h.head) ≡ words =
      sym (newest_words unsent h.count b h.head few)
      ∙ ap (λ (l : List (List ℕ)). size (drop (h.count - unsent) l)) (holds_entries h b es a)
      ∙ ap (λ (m : ℕ). size (drop (m - unsent) es)) a.many
      ∙ u.take in
      rw (
        le-leb 65 h.size a.least,
        le-leb h.size 32768 a.most,
        eq-eqb (length b) h.size a.ring,
        lt-ltb h.head h.size a.inside,
        le-leb h.used h.size a.room,
        le-leb unsent h.count few,
        g.headers,
        eq-eqb (words_from h.count b h.head) h.used g.words,
        newest_ok g,
        le-ltb h.count unsent few,
        eq-eqb (words_from unsent b (header_at (h.count - unsent) b h.head)) words w,
      )
