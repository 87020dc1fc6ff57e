-- The walk over the ring, and the list of entries that it finds: a good state holds them, and a state that holds entries is good.
use Rattle.std.proofs.Common.{◌≡◌, ℕ, zero, suc, ◌+◌, ◌-◌, ◌*◌, ◌/◌, ◌%◌, ◌<◌, ◌≤◌, true, List, [], ◌∷◌, length, get_or, take, drop, sym, refl, ap, ◌∙◌, arith, length-take-le, take-take, take-add, eq-eqb, le-leb}
use lib.Seq.{drop-append_seam, take-append_seam}
use Rattle.config.specs.Sequence.{turn, after}
use Rattle.history.specs.Ring.{slot_of, ring_read, view}
use Rattle.history.specs.Headers.{number_at, length_at, entry_size, next_at, words_at, header_at, words_from, entries_from, numbered}
use Rattle.history.specs.State.{Good}
use Rattle.history.specs.Entries.{flat, Short, size, contents, entries_of, Holds}
use Rattle.history.specs.declared.history.SendHistory.{SendHistory}
use Rattle.history.proofs.Slots.{slot_in, slot_zero, slot_add}
use Rattle.history.proofs.View.{length_view, view_part, view_first, read_view, used_turn}
use Rattle.history.proofs.Walk.{numbered_first, words_prefix, next_in_lem}
use Rattle.history.proofs.Flat.{length_flat, short_first, size_first}

-- ---- the entries that a walk finds

pub length_read : (n : ℕ) (b : List ℕ) (i : ℕ) → length (ring_read b i n) ≡ n
unfolding ring_read
length_read zero b i = refl
length_read (suc n) b i = ap suc (length_read n b (slot_of (length b) i 1))

pub length_entries : (k : ℕ) (b : List ℕ) (i : ℕ) → length (entries_from k b i) ≡ k
unfolding entries_from
length_entries zero b i = refl
length_entries (suc k) b i = ap suc (length_entries k b (next_at b i))

pub take_entries : (j k : ℕ) (b : List ℕ) (i : ℕ) → j ≤ k → take j (entries_from k b i) ≡ entries_from j b i
unfolding entries_from
take_entries zero k b i p = refl
take_entries (suc j) zero b i p = absurd (omega arith)
take_entries (suc j) (suc k) b i p = ap (λ (l : List (List ℕ)). words_at b i ∷ l) (take_entries j k b (next_at b i) (omega arith))

pub drop_entries : (j k : ℕ) (b : List ℕ) (i : ℕ) → drop j (entries_from (j + k) b i) ≡ entries_from k b (header_at j b i)
unfolding entries_from header_at
drop_entries zero k b i = let e : 0 + k ≡ k = omega arith in rw e
drop_entries (suc j) k b i = let e : suc j + k ≡ suc (j + k) = omega arith in rw e (drop_entries j k b (next_at b i))

pub size_entries : (k : ℕ) (b : List ℕ) (i : ℕ) → size (entries_from k b i) ≡ words_from k b i
unfolding entries_from size words_from
size_entries zero b i = refl
size_entries (suc k) b i = rw (length_read, size_entries k b (next_at b i)) (omega arith)

pub short_entries : (k : ℕ) (b : List ℕ) (i n : ℕ) → numbered k b i n ≡ true → Short (entries_from k b i)
unfolding entries_from Short
short_entries zero b i n e = tt
short_entries (suc k) b i n e =
    let f = numbered_first (suc k) b i n (omega arith) e in
    let z : suc k - 1 ≡ k = omega arith in
    (rw length_read f.0, short_entries k b (next_at b i) (after n 1) (rw z at f.2))

-- the header and the words of the first entry
pub view_entry : (b : List ℕ) (i : ℕ) → i < length b → entry_size b i ≤ length b → take (entry_size b i) (view b i) ≡ get_or b i 0 ∷ words_at b i
view_entry b i p l =
    let s : slot_of (length b) i 1 < length b = slot_in (length b) i 1 p (omega arith) in
    let o : entry_size b i ≡ suc (length_at b i) = omega arith in
    rw (read_view (length_at b i) b (slot_of (length b) i 1) s (omega arith), view_part b i p 1 (length_at b i) (omega arith))
    (ap (λ (m : ℕ). take m (view b i)) o ∙ ap (take (suc (length_at b i))) (view_first b i p))

-- the words that the walk passes are those of its entries, with their headers
pub entries_flat : (k : ℕ) (b : List ℕ) (i n : ℕ) → i < length b → 65 ≤ length b → numbered k b i n ≡ true → words_from k b i ≤ length b
    → take (words_from k b i) (view b i) ≡ flat n (entries_from k b i)
unfolding entries_from words_from flat
entries_flat zero b i n p l e h = refl
entries_flat (suc k) b i n p l e h =
    let f = numbered_first (suc k) b i n (omega arith) e in
    let z : suc k - 1 ≡ k = omega arith in
    let w : ℕ = words_from k b (next_at b i) in
    let rest = entries_flat k b (next_at b i) (after n 1) (next_in_lem b i p l f.0) l (rw z at f.2) (omega arith) in
    let here : take (entry_size b i) (view b i) ≡ (n * turn + length_at b i) ∷ words_at b i = view_entry b i p (omega arith) ∙ ap (λ (x : ℕ). x ∷ words_at b i) f.1 in
    rw (take-add (entry_size b i) w (view b i), here, ← view_part b i p (entry_size b i) w h, rest, length_read)

-- ---- places

-- the place of entry k is as far from the first as the entries before it take words
pub header_size : (k : ℕ) (b : List ℕ) (i : ℕ) → i < length b → words_from k b i ≤ length b → header_at k b i ≡ slot_of (length b) i (words_from k b i)
unfolding header_at words_from
header_size zero b i p h = sym (slot_zero (length b) i p)
header_size (suc k) b i p h =
    header_size k b (next_at b i) (slot_in (length b) i (entry_size b i) p (omega arith)) (omega arith)
    ∙ slot_add (length b) i (entry_size b i) (words_from k b (next_at b i)) p h

-- the place of entry k of a walk, by the entries before it
pub header_entries : (k m : ℕ) (b : List ℕ) (i : ℕ) → i < length b → k ≤ m → words_from m b i ≤ length b
    → header_at k b i ≡ slot_of (length b) i (size (take k (entries_from m b i)))
header_entries k m b i p q l =
    rw (take_entries k m b i q, size_entries k b i) (header_size k b i p (omega (arith, words_prefix k m b i q)))

-- the words of entry k of a walk
pub words_entries : (k m : ℕ) (b : List ℕ) (i : ℕ) → k < m → get_or (entries_from m b i) k [] ≡ words_at b (header_at k b i)
unfolding entries_from header_at
words_entries k zero b i p = absurd (omega arith)
words_entries zero (suc m) b i p = refl
words_entries (suc k) (suc m) b i p = words_entries k m b (next_at b i) (omega arith)

-- its header
pub headers_entries : (k m : ℕ) (b : List ℕ) (i n : ℕ) → n < turn → k < m → numbered m b i n ≡ true
    → (length_at b (header_at k b i) ≤ 64) × (get_or b (header_at k b i) 0 ≡ after n k * turn + length_at b (header_at k b i))
unfolding header_at
headers_entries k zero b i n o p e = absurd (omega arith)
headers_entries zero (suc m) b i n o p e =
    let f = numbered_first (suc m) b i n (omega arith) e in
    let g : (n + 0) % 65536 ≡ n = omega arith in
    (f.0, rw g f.1)
headers_entries (suc k) (suc m) b i n o p e =
    let f = numbered_first (suc m) b i n (omega arith) e in
    let z : suc m - 1 ≡ m = omega arith in
    let t = headers_entries k m b (next_at b i) (after n 1) (omega arith) (omega arith) (rw z at f.2) in
    let g : (n + suc k) % 65536 ≡ ((n + 1) % 65536 + k) % 65536 = omega arith in
    (t.0, rw g t.1)

upper_half : (x n l : ℕ) → l ≤ 64 → x ≡ n * turn + l → x / turn ≡ n
upper_half x n l p e = rw e (omega arith)

-- ---- what the entries say of the walk

-- the header of the first entry
module _ (b ws : List ℕ) (i n : ℕ) (es : List (List ℕ)) (p : i < length b) (o : n < turn) (s : length ws ≤ 64)
    (words : take (size (ws ∷ es)) (view b i) ≡ flat n (ws ∷ es)) where
  first_word : get_or b i 0 ≡ n * turn + length ws
  unfolding size flat
  first_word =
      let e : size (ws ∷ es) ≡ suc (length ws + size es) = omega arith in
      ap (λ (l : List ℕ). get_or l 0 0)
      (sym (ap (take (suc (length ws + size es))) (view_first b i p)) ∙ rw e at words)

  first_length : length_at b i ≡ length ws
  first_length = rw first_word (omega arith)

  module _ (room : size (ws ∷ es) ≤ length b) where
    first_fits : entry_size b i ≤ size (ws ∷ es)
    unfolding size
    first_fits = omega (arith, first_length)

    rest_flat : take (size es) (view b (next_at b i)) ≡ flat (after n 1) es
    unfolding size flat
    rest_flat =
        let e : size (ws ∷ es) - entry_size b i ≡ size es = omega (arith, first_length) in
        let f : entry_size b i ≡ suc (length ws) = omega (arith, first_length) in
        ap (λ (m : ℕ). take m (view b (next_at b i))) (sym e)
        ∙ used_turn b i p (entry_size b i) (size (ws ∷ es)) first_fits room
        ∙ ap (drop (entry_size b i)) words
        ∙ rw f (drop-append_seam ws (flat (after n 1) es))

    first_words : words_at b i ≡ ws
    unfolding flat
    first_words =
        let f : entry_size b i ≡ suc (length ws) = omega (arith, first_length) in
        let g : take (entry_size b i) (flat n (ws ∷ es)) ≡ (n * turn + length ws) ∷ ws = rw (f, take-append_seam) in
        ap (drop 1)
        (sym (view_entry b i p (omega (arith, first_fits)))
        ∙ sym (take-take (entry_size b i) (size (ws ∷ es)) (view b i) first_fits)
        ∙ ap (take (entry_size b i)) words
        ∙ g)

-- a ring that holds entries from place i on has their headers there, and the walk finds them
pub flat_walk : (es : List (List ℕ)) (b : List ℕ) (i n : ℕ) → i < length b → 65 ≤ length b → n < turn → Short es → size es ≤ length b
    → take (size es) (view b i) ≡ flat n es
    → (numbered (length es) b i n ≡ true) × (entries_from (length es) b i ≡ es)
unfolding numbered entries_from
flat_walk [] b i n p l o s r w = (refl, refl)
flat_walk (ws ∷ es) b i n p l o s r w =
    let a : length ws ≤ 64 = (short_first ws es s).0 in
    let f = first_length b ws i n es p o a w in
    let h : get_or b i 0 ≡ n * turn + length_at b i = first_word b ws i n es p o a w ∙ ap (λ (m : ℕ). n * turn + m) (sym f) in
    let q : size es ≤ length b = omega (arith, size_first ws es) in
    let t = flat_walk es b (next_at b i) (after n 1) (next_in_lem b i p l (omega arith)) l (omega arith) (short_first ws es s).1 q (rest_flat b ws i n es p o a w r) in (
      rw (le-leb (length_at b i) 64 (omega arith), eq-eqb (get_or b i 0) (n * turn + length_at b i) h) t.0,
      ap (λ (x : List ℕ). x ∷ entries_from (length es) b (next_at b i)) (first_words b ws i n es p o a w r) ∙ ap (λ (x : List (List ℕ)). ws ∷ x) t.1,
    )

-- ---- the state

module _ (h : SendHistory) (b : List ℕ) where
  -- a good state holds the entries that its walk finds
  pub good_holds : Good h b → h.oldest < turn → Holds h b (entries_of h b)
  unfolding contents
  good_holds a o =
      let r = a.ring in
      let p : h.head < length b = omega (arith, a.inside) in
      let l : 65 ≤ length b = omega (arith, a.least) in
      let w = a.words in
      record {
        ring = r;
        least = a.least;
        most = a.most;
        inside = a.inside;
        room = a.room;
        number = o;
        words = ap (λ (m : ℕ). take m (view b h.head)) (sym w) ∙ entries_flat h.count b h.head h.oldest p l a.headers (omega (arith, a.room));
        many = sym (length_entries h.count b h.head);
        short = short_entries h.count b h.head h.oldest a.headers;
        newest = λ some. sym (a.newest some) ∙ rw r at (header_entries (h.count - 1) h.count b h.head p (omega arith) (omega (arith, a.room)));
      }

  module _ (es : List (List ℕ)) (a : Holds h b es) where
    holds_in : h.head < length b
    holds_in = omega (arith, a.ring, a.inside)

    pub used_size : h.used ≡ size es
    unfolding contents
    used_size =
        let v : h.used ≤ length (view b h.head) = rw (length_view b h.head holds_in) (omega (arith, a.ring, a.room)) in
        sym (length-take-le h.used (view b h.head) v) ∙ ap length a.words ∙ length_flat h.oldest es

    holds_walk : (numbered (length es) b h.head h.oldest ≡ true) × (entries_from (length es) b h.head ≡ es)
    unfolding contents
    holds_walk =
        flat_walk es b h.head h.oldest holds_in (omega (arith, a.ring, a.least)) a.number a.short (omega (arith, used_size, a.ring, a.room))
        (ap (λ (m : ℕ). take m (view b h.head)) (sym used_size) ∙ a.words)

    -- there is one list that a state holds: the one that its walk finds
    pub holds_entries : entries_of h b ≡ es
    holds_entries = rw a.many holds_walk.1

    holds_words : words_from h.count b h.head ≡ h.used
    holds_words = sym (size_entries h.count b h.head) ∙ ap size holds_entries ∙ sym used_size

    -- ---- entry k of the list

    -- its place
    pub holds_index : (k : ℕ) → k ≤ h.count → header_at k b h.head ≡ slot_of h.size h.head (size (take k es))
    holds_index k p =
        let e = header_entries k h.count b h.head holds_in p (omega (arith, holds_words, a.ring, a.room)) in
        rw (holds_entries, a.ring) at e

    -- a state that holds entries is good
    pub holds_good : Good h b
    holds_good =
        record {
          ring = a.ring;
          least = a.least;
          most = a.most;
          inside = a.inside;
          room = a.room;
          headers = rw a.many holds_walk.0;
          words = holds_words;
          newest = λ some. holds_index (h.count - 1) (omega arith) ∙ sym (a.newest some);
        }

    module _ (k : ℕ) (p : k < h.count) where
      -- its words
      pub holds_words_at : words_at b (header_at k b h.head) ≡ get_or es k []
      holds_words_at = sym (words_entries k h.count b h.head p) ∙ ap (λ (l : List (List ℕ)). get_or l k []) holds_entries

      -- its count of words
      pub holds_length_at : length_at b (header_at k b h.head) ≡ length (get_or es k [])
      holds_length_at = sym (length_read (length_at b (header_at k b h.head)) b _) ∙ ap length holds_words_at

      -- its header, and its number in it
      pub holds_header_at : get_or b (header_at k b h.head) 0 ≡ after h.oldest k * turn + length (get_or es k [])
      holds_header_at =
          (headers_entries k h.count b h.head h.oldest a.number p holds_good.headers).1
          ∙ ap (λ (m : ℕ). after h.oldest k * turn + m) holds_length_at

      pub holds_number_at : number_at b (header_at k b h.head) ≡ after h.oldest k
      holds_number_at =
          let f = headers_entries k h.count b h.head h.oldest a.number p holds_good.headers in
          upper_half (get_or b (header_at k b h.head) 0) (after h.oldest k) _ f.0 f.1
