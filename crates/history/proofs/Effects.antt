-- What push and append_to_last do to the list of entries: the oldest leave, and an entry or words come in behind the newest.
use Rattle.std.proofs.Common.{◌≡◌, ℕ, zero, suc, ◌+◌, ◌-◌, ◌*◌, ◌<◌, ◌≤◌, Bool, true, false, cond, ltb, List, [], ◌∷◌, ◌++◌, length, get_or, take, drop, set, sym, refl, ap, ◌∙◌, subst, append_assoc, append-nil, arith, length-append, length-set, length-take-le, take_at}
use lib.Seq.{take-append_seam, drop-append_seam, set_at, take-set-lt, get_or-append_seam}
use Rattle.config.specs.Sequence.{turn, after}
use Rattle.history.specs.Ring.{slot_of, ring_stored, view}
use Rattle.history.specs.Headers.{entry_size, header_at}
use Rattle.history.specs.Push.{pop_one, popped, end_of, grown, entry_of, pushed, longer, appended}
use Rattle.history.specs.Entries.{flat, size, contents, Holds, kept}
use Rattle.history.specs.declared.history.SendHistory.{SendHistory}
use Rattle.history.proofs.Slots.{slot_in, slot_add}
use Rattle.history.proofs.Runs.{length_ring_stored}
use Rattle.history.proofs.View.{length_view, view_set, view_stored, used_turn}
use Rattle.history.proofs.Flat.{length_flat, size_append, size_take, size_one, size_first, flat_append, short_append, short_left, short_first, short_one, kept_room}
use Rattle.history.proofs.Entries.{used_size, holds_length_at, holds_header_at, holds_index}

-- ---- the oldest leaves

module _ (h : SendHistory) (b ws : List ℕ) (es : List (List ℕ)) (a : Holds h b (ws ∷ es)) where
  oldest_size : entry_size b h.head ≡ suc (length ws)
  unfolding header_at
  oldest_size = omega (arith, holds_length_at h b (ws ∷ es) a 0 (omega (arith, a.many)))

  oldest_fits : entry_size b h.head + size es ≡ h.used
  oldest_fits = omega (arith, oldest_size, used_size h b (ws ∷ es) a, size_first ws es)

  pub holds_pop : Holds (pop_one b h) b es
  unfolding pop_one contents flat
  holds_pop =
      let r = a.ring in
      let i : h.head < length b = omega (arith, a.inside) in
      let m : h.count ≡ suc (length es) = a.many in
      record {
        ring = r;
        least = a.least;
        most = a.most;
        inside = omega (arith, slot_in (length b) h.head (entry_size b h.head) i (omega (arith, oldest_fits, a.room)));
        room = omega (arith, a.room);
        number = omega arith;
        words =
            used_turn b h.head i (entry_size b h.head) h.used (omega (arith, oldest_fits)) (omega (arith, a.room))
            ∙ ap (drop (entry_size b h.head)) a.words
            ∙ rw oldest_size (drop-append_seam ws (flat (after h.oldest 1) es));
        many = omega arith;
        short = (short_first ws es a.short).1;
        newest = λ some.
            let m : ℕ = h.count - 1 - 1 in
            let k : h.count - 1 ≡ suc m = omega arith in
            let e : h.last ≡ slot_of h.size h.head (size (ws ∷ take m es)) = rw k at (a.newest (omega arith)) in
            let f : size (ws ∷ take m es) ≡ entry_size b h.head + size (take m es) = omega (arith, oldest_size, size_first ws (take m es)) in
            let g : entry_size b h.head + size (take m es) ≤ h.size = omega (arith, size_take m es, oldest_fits, a.room) in
            e ∙ ap (slot_of h.size h.head) f
            ∙ sym (slot_add h.size h.head (entry_size b h.head) (size (take m es)) a.inside g)
            ∙ ap (λ (c : ℕ). slot_of h.size (slot_of c h.head (entry_size b h.head)) (size (take m es))) (sym r);
      }

-- ---- the oldest leave while words are needed, all but those at the end of the list

popped_suc : (k need : ℕ) (h : SendHistory) (b ws : List ℕ) (xs ys : List (List ℕ)) → h.used ≡ size (ws ∷ xs ++ ys)
    → Holds h b (ws ∷ xs ++ ys)
    → Holds (popped k need b (pop_one b h)) b (kept (h.size - size ys) need xs ++ ys)
    → Holds (popped (suc k) need b h) b (kept (h.size - size ys) need (ws ∷ xs) ++ ys)
unfolding popped kept
popped_suc k need h b ws xs ys e a r =
    let f : h.size - size ys - size (ws ∷ xs) ≡ h.size - h.used = rw (e, size_append (ws ∷ xs) ys) (omega arith) in
    rw f (by (ltb (h.size - h.used) need))
  where
    by : (t : Bool) → Holds (cond t (popped k need b (pop_one b h)) h) b (cond t (kept (h.size - size ys) need xs) (ws ∷ xs) ++ ys)
    by true = r
    by false = a

pub holds_popped : (xs ys : List (List ℕ)) (h : SendHistory) (b : List ℕ) (need : ℕ) → Holds h b (xs ++ ys)
    → Holds (popped (length xs) need b h) b (kept (h.size - size ys) need xs ++ ys)
unfolding popped kept pop_one
holds_popped [] ys h b need a = a
holds_popped (ws ∷ xs) ys h b need a =
    popped_suc (length xs) need h b ws xs ys (used_size h b (ws ∷ xs ++ ys) a) a
    (holds_popped xs ys (pop_one b h) b need (holds_pop h b ws (xs ++ ys) a))

pub popped_size : (k need : ℕ) (b : List ℕ) (h : SendHistory) → (popped k need b h).size ≡ h.size
unfolding popped pop_one
popped_size zero need b h = refl
popped_size (suc k) need b h = by (ltb (h.size - h.used) need) (popped_size k need b (pop_one b h))
  where
    by : (t : Bool) → (popped k need b (pop_one b h)).size ≡ h.size → (cond t (popped k need b (pop_one b h)) h).size ≡ h.size
    by true r = r
    by false r = refl

pub popped_last : (k need : ℕ) (b : List ℕ) (h : SendHistory) → (popped k need b h).last ≡ h.last
unfolding popped pop_one
popped_last zero need b h = refl
popped_last (suc k) need b h = by (ltb (h.size - h.used) need) (popped_last k need b (pop_one b h))
  where
    by : (t : Bool) → (popped k need b (pop_one b h)).last ≡ h.last → (cond t (popped k need b (pop_one b h)) h).last ≡ h.last
    by true r = r
    by false r = refl

-- ---- words come in behind the newest

-- the first words of the ring, after words were stored behind those in use
stored_contents : (g : SendHistory) (b xs : List ℕ) → length b ≡ g.size → g.head < g.size → g.used + length xs ≤ g.size
    → take (g.used + length xs) (view (ring_stored b (end_of g) xs) g.head) ≡ contents g b ++ xs
unfolding contents
stored_contents g b xs r i q =
    let p : g.head < length b = omega arith in
    let v : length (take g.used (view b g.head)) ≡ g.used = length-take-le g.used (view b g.head) (rw (length_view b g.head p) (omega arith)) in
    let e : length (take g.used (view b g.head) ++ xs) ≡ g.used + length xs = rw length-append (omega arith) in
    let s = view_stored xs b g.head g.used p (omega arith) in
    rw (rw r at s, ← append_assoc) (take_at (take g.used (view b g.head) ++ xs) _ (g.used + length xs) e)

-- an entry behind the newest
pub holds_grown : (g : SendHistory) (b ws : List ℕ) (es : List (List ℕ)) → Holds g b es → length ws ≤ 64 → g.used + (1 + length ws) ≤ g.size
    → Holds (grown g (length ws)) (ring_stored b (end_of g) (entry_of g ws)) (es ++ (ws ∷ []))
unfolding grown contents
holds_grown g b ws es a k r =
    let l : length (ring_stored b (end_of g) (entry_of g ws)) ≡ length b = length_ring_stored (entry_of g ws) b _ in
    let n : length (es ++ (ws ∷ [])) ≡ length es + 1 = length-append es (ws ∷ []) in
    let m : g.count ≡ length es = a.many in
    let o : g.count + 1 - 1 ≡ length es = omega arith in
    let s : g.used + (1 + length ws) ≡ g.used + length (entry_of g ws) = omega arith in
    record {
      ring = l ∙ a.ring;
      least = a.least;
      most = a.most;
      inside = a.inside;
      room = r;
      number = a.number;
      words =
          ap (λ (j : ℕ). take j (view (ring_stored b (end_of g) (entry_of g ws)) g.head)) s
          ∙ stored_contents g b (entry_of g ws) a.ring a.inside (omega arith)
          ∙ rw (m, a.words) (sym (flat_append g.oldest es ws a.number));
      many = omega arith;
      short = short_append es (ws ∷ []) a.short (short_one ws k);
      newest = λ some. rw (o, take-append_seam es (ws ∷ []), ← used_size g b es a);
    }

-- a push: the oldest leave while words are needed, and one entry comes in behind the newest
pub holds_pushed : (h : SendHistory) (b ws : List ℕ) (es : List (List ℕ)) → Holds h b es → length ws ≤ 64
    → Holds (pushed h b ws).0 (pushed h b ws).1 (kept h.size (1 + length ws) es ++ (ws ∷ []))
unfolding pushed size
holds_pushed h b ws es a k =
    let z : h.size - 0 ≡ h.size = omega arith in
    let p : Holds (popped h.count (1 + length ws) b h) b (kept h.size (1 + length ws) es) =
    rw (← a.many, z, append-nil) at (holds_popped es [] h b (1 + length ws) (rw append-nil (a))) in
    let u = used_size _ b _ p in
    let s = popped_size h.count (1 + length ws) b h in
    let f = kept_room h.size (1 + length ws) es (omega (arith, a.least)) (omega (arith, used_size h b es a, a.room)) in
    holds_grown (popped h.count (1 + length ws) b h) b ws (kept h.size (1 + length ws) es) p k (omega arith)

-- ---- words join the newest

module _ (g : SendHistory) (b ws xs : List ℕ) (es : List (List ℕ)) (a : Holds g b (es ++ (ws ∷ []))) where
  count_more : g.count ≡ length es + 1
  count_more = a.many ∙ length-append es (ws ∷ [])

  newest_place : g.last ≡ slot_of g.size g.head (size es)
  newest_place =
      let o : g.count - 1 ≡ length es = omega (arith, count_more) in
      rw (o, take-append_seam) at (a.newest (omega (arith, count_more)))

  newest_header : get_or b g.last 0 ≡ after g.oldest (length es) * turn + length ws
  newest_header =
      let p : length es < g.count = omega (arith, count_more) in
      let e : header_at (length es) b g.head ≡ g.last = holds_index g b _ a (length es) (omega arith) ∙ rw take-append_seam (sym newest_place) in
      rw (e, get_or-append_seam) at (holds_header_at g b _ a (length es) p)

  newest_used : size es + (1 + length ws) ≡ g.used
  newest_used = sym (used_size g b _ a ∙ size_append es (ws ∷ []) ∙ ap (λ (m : ℕ). size es + m) (size_one ws))

  module _ (few : length ws + length xs ≤ 64) (fits : g.used + length xs ≤ g.size) where
    joined : List ℕ
    joined = set (ring_stored b (end_of g) xs) g.last (get_or b g.last 0 + length xs)

    joined_length : length joined ≡ g.size
    unfolding joined
    joined_length = length-set (ring_stored b (end_of g) xs) g.last _ ∙ length_ring_stored xs b _ ∙ a.ring

    joined_words : take (g.used + length xs) (view joined g.head) ≡ flat g.oldest (es ++ ((ws ++ xs) ∷ []))
    unfolding joined
    joined_words =
        let v : ℕ = get_or b g.last 0 + length xs in
        let l : length (ring_stored b (end_of g) xs) ≡ g.size = length_ring_stored xs b _ ∙ a.ring in
        let i : g.head < length (ring_stored b (end_of g) xs) = omega (arith, a.inside) in
        let s : size es < g.used + length xs = omega (arith, newest_used) in
        let t = view_set (ring_stored b (end_of g) xs) g.head i (size es) v (omega arith) in
        let e : length (flat g.oldest es) ≡ size es = length_flat g.oldest es in
        let w : v ≡ after g.oldest (length es) * turn + length (ws ++ xs) = rw (newest_header, length-append) (omega arith) in
        let n : ℕ = g.used + length xs in
        let num : ℕ = after g.oldest (length es) in
        let place : g.last ≡ slot_of (length (ring_stored b (end_of g) xs)) g.head (size es) = newest_place ∙ ap (λ (c : ℕ). slot_of c g.head (size es)) (sym l) in
        ap (λ (j : ℕ). take n (view (set (ring_stored b (end_of g) xs) j v) g.head)) place
        ∙ ap (take n) t
        ∙ take-set-lt n (view (ring_stored b (end_of g) xs) g.head) (size es) v s
        ∙ ap (λ (z : List ℕ). set z (size es) v)
        (stored_contents g b xs a.ring a.inside fits
        ∙ ap (λ (z : List ℕ). z ++ xs) (a.words ∙ flat_append g.oldest es ws a.number)
        ∙ append_assoc (flat g.oldest es) ((num * turn + length ws) ∷ ws) xs)
        ∙ set_at (flat g.oldest es) (num * turn + length ws) (ws ++ xs) v (size es) e
        ∙ ap (λ (z : ℕ). flat g.oldest es ++ (z ∷ (ws ++ xs))) w
        ∙ sym (flat_append g.oldest es (ws ++ xs) a.number)

    pub holds_longer : Holds (longer g (length xs)) (set (ring_stored b (end_of g) xs) g.last (get_or b g.last 0 + length xs)) (es ++ ((ws ++ xs) ∷ []))
    unfolding longer contents joined
    holds_longer =
        let o : g.count - 1 ≡ length es = omega (arith, count_more) in
        record {
          ring = joined_length;
          least = a.least;
          most = a.most;
          inside = a.inside;
          room = fits;
          number = a.number;
          words = joined_words;
          many = count_more ∙ sym (length-append es ((ws ++ xs) ∷ []));
          short = short_append es ((ws ++ xs) ∷ []) (short_left es (ws ∷ []) a.short) (short_one (ws ++ xs) (rw length-append few));
          newest = λ some. rw (o, take-append_seam es ((ws ++ xs) ∷ [])) newest_place;
        }

-- an append: the oldest but the newest leave while words are needed, and the words join the newest
pub holds_appended : (h : SendHistory) (b ws xs : List ℕ) (es : List (List ℕ)) → Holds h b (es ++ (ws ∷ [])) → length ws + length xs ≤ 64
    → Holds (appended h b xs).0 (appended h b xs).1 (kept (h.size - size (ws ∷ [])) (length xs) es ++ ((ws ++ xs) ∷ []))
unfolding appended
holds_appended h b ws xs es a few =
    let o : h.count - 1 ≡ length es = omega (arith, count_more h b ws xs es a) in
    let p : Holds (popped (h.count - 1) (length xs) b h) b (kept (h.size - size (ws ∷ [])) (length xs) es ++ (ws ∷ [])) =
    rw o (holds_popped es (ws ∷ []) h b (length xs) a) in
    let s = popped_size (h.count - 1) (length xs) b h in
    let u = newest_used h b ws xs es a in
    let v = newest_used (popped (h.count - 1) (length xs) b h) b ws xs (kept (h.size - size (ws ∷ [])) (length xs) es) p in
    let f = kept_room (h.size - size (ws ∷ [])) (length xs) es (omega (arith, size_one ws, a.least)) (omega (arith, size_one ws, a.room)) in
    let g : SendHistory = popped (h.count - 1) (length xs) b h in
    subst (λ (j : ℕ). Holds (longer g (length xs)) (set (ring_stored b (end_of g) xs) j (get_or b j 0 + length xs)) (kept (h.size - size (ws ∷ [])) (length xs) es ++ ((ws ++ xs) ∷ [])))
    (popped_last (h.count - 1) (length xs) b h)
    (holds_longer g b ws xs (kept (h.size - size (ws ∷ [])) (length xs) es) p few (omega (arith, size_one ws, a.least, a.room)))
