-- A write leaves room for the next words: with over c - 16 words unwritten under 16 are written, so that neither retransmits nor repeats fill the payload.
use Prim.Native.Nat.{ℕ, zero, suc, ◌+◌, ◌-◌, ◌*◌, ◌≤◌, ◌<◌, min}
use Rattle.std.proofs.Common.{Option, Some, None, Ok}
use Rattle.idle.specs.declared.idle.Idle.{Idle}
use mathlib.Core.Path.{◌≡◌, refl, sym, ap, ◌∙◌, subst}
use mathlib.Core.Bool.{Bool, true, false, cond, not, ◌||◌}
use mathlib.Core.Logic.{inl, inr}
use mathlib.Core.List.{List, [], ◌∷◌, ◌++◌}
use native.Mathlib.Omega.{arith}
use lib.Dec.{eqb, leb, ltb}
use lib.ListN.{length, take, drop, length-append}
use borrow.Author.Tests.{le-leb, leb-true, leb-false}
use Rattle.config.specs.Sequence.{after}
use Rattle.config.specs.Settings.{check_of}
use Rattle.config.specs.declared.settings.StreamConfig.{StreamConfig}
use Rattle.config.specs.inner.Tests.{split}
use Rattle.packet.specs.Layout.{Packet}
use Rattle.packet.specs.Write.{limit_of, start_of}
use Rattle.packet.specs.declared.writer.PayloadWriter.{PayloadWriter}
use Rattle.command.specs.declared.retransmit.RetransmitRequest.{RetransmitRequest}
use Rattle.history.specs.Entries.{Short, size}
use Rattle.history.proofs.Flat.{size_append}
use Rattle.rows.specs.Rows.{Row, row_of, sizes_of, fit_all}
use Rattle.rows.specs.Choice.{repeats_of}
use Rattle.sender_log.specs.Book.{Book, oldest_in, index_in, absent_in, with_waiting, pushed_in, freed}
use Rattle.sender_log.specs.Promise.{NoRoom}
use Rattle.sender_log.specs.Writes.{data_from, written_from, new_in, reach_in, answer_in, ServedIn, served_in, is_empty, idled_by, idled_in, again_in, written_on, WriteIn, wrote, new_by, new_written, written_in, write_in}
use Rattle.config.specs.inner.Choices.{by_cond}
use Rattle.sender_log.proofs.More.{Small, few_data, short_drop}
use Rattle.sender_log.proofs.Rows.{Few, few_take, row_right, row_all, row_start}
use Rattle.link_rules.proofs.Room.{Room, row_room}

-- ---- sizes

sizes_data : (n : ℕ) (es : List (List ℕ)) → sizes_of (data_from n es) ≡ 4 * size es
unfolding data_from sizes_of size
sizes_data n [] = refl
sizes_data n (e ∷ es) = omega (arith, sizes_data (after n 1) es)

sizes_taken : (m n : ℕ) (es : List (List ℕ)) → sizes_of (take m (data_from n es)) ≡ 4 * size (take m es)
unfolding data_from sizes_of size
sizes_taken zero n es = refl
sizes_taken (suc m) n [] = refl
sizes_taken (suc m) n (e ∷ es) = omega (arith, sizes_taken m (after n 1) es)

sizes_take : (k : ℕ) (cs : List Packet) → sizes_of (take k cs) ≤ sizes_of cs
unfolding sizes_of
sizes_take zero cs = omega arith
sizes_take (suc k) [] = omega arith
sizes_take (suc k) (c ∷ cs) = omega (arith, sizes_take k cs)

sizes_behind : (k : ℕ) (xs ys : List Packet) → sizes_of (take k (xs ++ ys)) ≤ sizes_of xs + sizes_of (take (k - length xs) ys)
unfolding sizes_of
sizes_behind k [] ys = let e : k - 0 ≡ k = omega arith in rw e (omega arith)
sizes_behind zero (x ∷ xs) ys = omega arith
sizes_behind (suc k) (x ∷ xs) ys =
    let e : suc k - suc (length xs) ≡ k - length xs = omega arith in
    rw e (omega (arith, sizes_behind k xs ys))

size_parts : (k : ℕ) (es : List (List ℕ)) → size (take k es) + size (drop k es) ≡ size es
unfolding size
size_parts zero es = omega arith
size_parts (suc k) [] = refl
size_parts (suc k) (e ∷ es) = omega (arith, size_parts k es)

size_drop : (k : ℕ) (es : List (List ℕ)) → size (drop k es) ≤ size es
size_drop k es = omega (arith, size_parts k es)

drop_all : (k : ℕ) (es : List (List ℕ)) → length es ≤ k → size (drop k es) ≡ 0
unfolding size
drop_all zero [] l = refl
drop_all zero (e ∷ es) l = absurd (let z : ⊥ = omega arith in z)
drop_all (suc k) [] l = refl
drop_all (suc k) (e ∷ es) l = drop_all k es (omega arith)

length_data : (n : ℕ) (es : List (List ℕ)) → length (data_from n es) ≡ length es
unfolding data_from
length_data n [] = refl
length_data n (e ∷ es) = ap suc (length_data (after n 1) es)

-- commands of at most 64 words
abbrev Tiny : List Packet → Type 0
Tiny [] = Unit {0}
Tiny (c ∷ cs) = (length c.words ≤ 64) × Tiny cs

tiny_append : (xs ys : List Packet) → Tiny xs → Tiny ys → Tiny (xs ++ ys)
tiny_append [] ys f g = g
tiny_append (x ∷ xs) ys f g = (f.0, tiny_append xs ys f.1 g)

tiny_data : (n : ℕ) (es : List (List ℕ)) → Short es → Tiny (data_from n es)
unfolding data_from Short
tiny_data n [] s = tt
tiny_data n (e ∷ es) s = (s.0, tiny_data (after n 1) es s.1)

tiny_repeats : (p : PayloadWriter) (b : List ℕ) (first : Packet) (cs : List Packet) → Tiny cs → Tiny (repeats_of p b first cs)
unfolding repeats_of
tiny_repeats p b first [] f = tt
tiny_repeats p b first (c ∷ cs) f = by_cond Tiny (fit_all p b (first ∷ c ∷ cs)) _ _ (λ _. f) (λ _. tiny_repeats p b first cs f.1)

sizes_repeats : (p : PayloadWriter) (b : List ℕ) (first : Packet) (cs : List Packet) → sizes_of (repeats_of p b first cs) ≤ sizes_of cs
unfolding repeats_of sizes_of
sizes_repeats p b first [] = omega arith
sizes_repeats p b first (c ∷ cs) =
    let l = sizes_repeats p b first cs in
    by_cond (λ (x : List Packet). sizes_of x ≤ sizes_of (c ∷ cs)) (fit_all p b (first ∷ c ∷ cs)) _ _ (λ _. omega arith) (λ _. omega arith)

-- the first that is left of a row
left_size : (p : PayloadWriter) (b : List ℕ) (k : ℕ) (cs : List Packet) → Tiny cs → NoRoom p b (drop k cs) → limit_of p (length b) < start_of p + 260
left_size p b zero [] f n = absurd n
left_size p b zero (c ∷ cs) f n = omega (arith, f.0)
left_size p b (suc k) [] f n = absurd n
left_size p b (suc k) (c ∷ cs) f n = left_size p b k cs f.1 n

-- ---- retransmits, when under 16 words are written

module _ (k : Book) (small : Small k) (few : size k.written ≤ 15) where
  answer_few : (r : RetransmitRequest) → Few (answer_in k r)
  unfolding answer_in Few
  answer_few r =
      by_cond Few (absent_in k r.seq) _ _ (λ _. (omega arith, tt))
      (λ _. few_take (reach_in k r) _ (few_data (after (oldest_in k) (index_in k r.seq)) (drop (index_in k r.seq) k.written) (short_drop (index_in k r.seq) k.written small.written)))

  answer_small : (r : RetransmitRequest) → sizes_of (answer_in k r) ≤ 60
  unfolding answer_in sizes_of
  answer_small r =
      let j : ℕ = index_in k r.seq in
      let a : sizes_of (written_from k j) ≡ 4 * size (drop j k.written) = sizes_data (after (oldest_in k) j) (drop j k.written) in
      let b : size (drop j k.written) ≤ size k.written = size_drop j k.written in
      let t : sizes_of (take (reach_in k r) (written_from k j)) ≤ sizes_of (written_from k j) = sizes_take (reach_in k r) (written_from k j) in
      by_cond (λ (x : List Packet). sizes_of x ≤ 60) (absent_in k r.seq) _ _ (λ _. omega arith) (λ _. omega (arith, t, a, b, few))

  record AllServed (p : PayloadWriter) (n : ℕ) (y : ServedIn) : Type 0 where
    none_left : y.more ≡ false
    start : start_of y.payload ≤ start_of p + 60 * n
    room : Room y.payload y.bytes

  served_all : (rs : List RetransmitRequest) (p : PayloadWriter) (b : List ℕ) → Room p b → start_of p + 60 * length rs ≤ 1400 → AllServed p (length rs) (served_in k rs p b)
  unfolding served_in
  served_all [] p b m l = record { none_left = refl; start = omega arith; room = m }
  served_all (r ∷ rs) p b m l =
      let cs = answer_in k r in
      let out = row_of p b cs in
      let s = answer_small r in
      let e = row_all cs p b (answer_few r) m.valid (omega (arith, s, m.max, m.lent)) in
      let t = row_start cs p b (answer_few r) m.valid in
      let u = sizes_take out.written cs in
      let n = row_room cs p b m in
      let i = served_all rs out.payload out.bytes n (omega (arith, t.0, u, s)) in
      by_cond (AllServed p (suc (length rs))) (out.whole || eqb out.payload.len 0) _ _
      (λ _. record { none_left = i.none_left; start = omega (arith, i.start, t.0, u, s); room = i.room })
      (λ f. absurd (let g = rw e.0 at f in let z : ◌≡◌ {A = ℕ} 0 1 = cc in omega arith))

few_tiny : (cs : List Packet) → Tiny cs → Few cs
unfolding Few
few_tiny [] f = tt
few_tiny (c ∷ cs) f = (omega (arith, f.0), few_tiny cs f.1)

-- ---- new commands behind them

module _ (cfg : StreamConfig) (time n : ℕ) (k : Book) (p : PayloadWriter) (b : List ℕ) where
  -- none is added
  new_less : size (new_written cfg time n k p b).book.unwritten ≤ size k.unwritten
  unfolding new_written written_on
  new_less = by (new_in k)
    where
      Less : WriteIn → Type 0
      Less x = size x.book.unwritten ≤ size k.unwritten

      by : (cs : List Packet) → Less (new_by cfg time n k p b cs)
      by [] = omega arith
      by (first ∷ others) =
          let again = again_in k cfg.fec_repeats p b first in
          by_cond Less (not (fit_all p b (first ∷ []))) _ _ (λ _. by_cond Less (eqb p.len 0) _ _ (λ _. omega arith) (λ _. omega arith))
          (λ _. size_drop ((row_of p b (again ++ (first ∷ others))).written - length again) k.unwritten)

  module _ (small : Small k) (few : size k.written ≤ 15) (m : Room p b) (low : start_of p ≤ 980) (c : ℕ) (least : 65 ≤ c) (held : size k.unwritten ≤ c) where
    abbrev Leaves : WriteIn → Type 0
    Leaves x = size x.book.unwritten + 16 ≤ c

    module _ (first : Packet) (others : List Packet) (e : new_in k ≡ first ∷ others) where
      again : List Packet
      again = again_in k cfg.fec_repeats p b first

      again_small : sizes_of again ≤ 60
      unfolding again
      again_small =
          let j : ℕ = length k.written - min cfg.fec_repeats (length k.written) in
          let a : sizes_of (repeats_of p b first (written_from k j)) ≤ sizes_of (written_from k j) = sizes_repeats p b first (written_from k j) in
          let d : sizes_of (written_from k j) ≡ 4 * size (drop j k.written) = sizes_data (after (oldest_in k) j) (drop j k.written) in
          omega (arith, a, d, size_drop j k.written, few)

      new_tiny : Tiny (first ∷ others)
      new_tiny = subst Tiny e (tiny_data (after (oldest_in k) (length k.written)) k.unwritten small.unwritten)

      all_tiny : Tiny (again ++ (first ∷ others))
      unfolding again
      all_tiny =
          let j : ℕ = length k.written - min cfg.fec_repeats (length k.written) in
          tiny_append again (first ∷ others) (tiny_repeats p b first (written_from k j) (tiny_data (after (oldest_in k) j) (drop j k.written) (short_drop j k.written small.written))) new_tiny

      out : Row
      out = row_of p b (again ++ (first ∷ others))

      count : length (first ∷ others) ≡ length k.unwritten
      count = sym (ap length e) ∙ length_data (after (oldest_in k) (length k.written)) k.unwritten

      written_sizes : (j : ℕ) → sizes_of (take j (first ∷ others)) ≡ 4 * size (take j k.unwritten)
      written_sizes j = ap (λ (x : List Packet). sizes_of (take j x)) (sym e) ∙ sizes_taken j (after (oldest_in k) (length k.written)) k.unwritten

      leaves : size (drop (out.written - length again) k.unwritten) + 16 ≤ c
      unfolding out
      leaves =
          let cs = again ++ (first ∷ others) in
          let j : ℕ = out.written - length again in
          let r = row_right cs p b (few_tiny cs all_tiny) m.valid in
          let t = row_start cs p b (few_tiny cs all_tiny) m.valid in
          let parts = size_parts j k.unwritten in
          elim (split out.whole) [
            | inl w ↦
                let a = r.all w in
                let z = drop_all j k.unwritten (omega (arith, a, length-append again (first ∷ others), count)) in
                omega (arith, z, least)
            | inr w ↦
                let l = left_size out.payload out.bytes out.written cs all_tiny (r.left w).1 in
                let u = sizes_behind out.written again (first ∷ others) in
                let v = written_sizes j in
                omega (arith, l, t.0, t.1, u, v, again_small, low, parts, held, m.max, m.lent)
          ]

      first_fits : not (fit_all p b (first ∷ [])) ≡ true → ⊥
      unfolding sizes_of
      first_fits over =
          let l : start_of p + sizes_of (first ∷ []) ≤ limit_of p (length b) = omega (arith, new_tiny.0, low, m.max, m.lent) in
          let t : fit_all p b (first ∷ []) ≡ true = le-leb (start_of p + sizes_of (first ∷ [])) (limit_of p (length b)) l in
          let z : ◌≡◌ {A = ℕ} 0 1 = cc in
          omega arith

      new_some : Leaves (new_by cfg time n k p b (first ∷ others))
      unfolding out again written_on
      new_some = by_cond Leaves (not (fit_all p b (first ∷ []))) _ _ (λ over. absurd (first_fits over)) (λ _. leaves)

    new_leaves : Leaves (new_written cfg time n k p b)
    unfolding new_written
    new_leaves = by (new_in k) refl
      where
        by : (cs : List Packet) → new_in k ≡ cs → Leaves (new_by cfg time n k p b cs)
        by [] e =
            let l : length k.unwritten ≡ 0 = sym (length_data (after (oldest_in k) (length k.written)) k.unwritten) ∙ ap length e in
            let z : size (drop 0 k.unwritten) ≡ 0 = drop_all 0 k.unwritten (omega arith) in
            omega (arith, z, least)
        by (first ∷ others) e = new_some first others e

-- ---- idle commands

empty_size : (us : List (List ℕ)) (x : Bool) → (not (is_empty us) || x) ≡ false → size us ≡ 0
unfolding size
empty_size [] x e = refl
empty_size (u ∷ us) x e = absurd (let z : ◌≡◌ {A = ℕ} 0 1 = cc in omega arith)

some_size : (us : List (List ℕ)) (x : Bool) → 0 < size us → (not (is_empty us) || x) ≡ true
unfolding size
some_size [] x l = absurd (let z : ⊥ = omega arith in z)
some_size (u ∷ us) x l = refl

module _ (c : ℕ) (cfg : StreamConfig) (time : ℕ) (k : Book) where
  idled_calm : 65 ≤ c → size k.unwritten + 16 ≤ c → size (idled_in c cfg time k).unwritten + 16 ≤ c
  unfolding idled_in pushed_in freed size
  idled_calm least l = by k.idle
    where
      by : (t : Option Idle) → size (idled_by c cfg time k t).unwritten + 16 ≤ c
      by None = l
      by (Some i) =
          by_cond (λ (x : Book). size x.unwritten + 16 ≤ c) (not (is_empty k.unwritten) || ltb time i.due) _ _ (λ _. l)
          (λ e. omega (arith, size_append k.unwritten ([] ∷ []), empty_size k.unwritten (ltb time i.due) e, least))

  idled_same : 0 < size k.unwritten → idled_in c cfg time k ≡ k
  unfolding idled_in
  idled_same l = by k.idle
    where
      by : (t : Option Idle) → idled_by c cfg time k t ≡ k
      by None = refl
      by (Some i) = rw (some_size k.unwritten (ltb time i.due) l)

-- ---- the whole write

module _ (c : ℕ) (cfg : StreamConfig) (ok : check_of cfg ≡ Ok tt) (time : ℕ) (k : Book) (small : Small k) (least : 65 ≤ c) (held : size k.written + size k.unwritten ≤ c)
    (few : length k.waiting ≤ 16) (p : PayloadWriter) (b : List ℕ) (m : Room p b) (low : start_of p ≤ 20) where
  abbrev served : ServedIn
  served = served_in k k.waiting p b

  abbrev left : Book
  left = with_waiting k served.waiting

  abbrev Calm : WriteIn → Type 0
  Calm x = size x.book.unwritten + 16 ≤ c

  abbrev result : WriteIn
  result = cond served.more (wrote left served.payload served.bytes served.commands true) (new_written cfg time served.commands (idled_in c cfg time left) served.payload served.bytes)

  stays_calm : size k.unwritten + 16 ≤ c → Calm result
  stays_calm l =
      let a = idled_calm c cfg time left least l in
      let d = new_less cfg time served.commands (idled_in c cfg time left) served.payload served.bytes in
      by_cond Calm served.more _ _ (λ _. l) (λ _. omega (arith, a, d))

  gets_calm : c < size k.unwritten + 16 → Calm result
  gets_calm l =
      let w : size k.written ≤ 15 = omega (arith, held) in
      let s = served_all k small w k.waiting p b m (omega (arith, few, low)) in
      let e : idled_in c cfg time left ≡ left = idled_same c cfg time left (omega (arith, least)) in
      let small' : Small left = record { written = small.written; unwritten = small.unwritten; few = small.few } in
      let n = new_leaves cfg time served.commands left served.payload served.bytes small' w s.room (omega (arith, s.start, few, low)) c least (omega (arith, held)) in
      by_cond Calm served.more _ _ (λ t. absurd (let f = s.none_left in let z : ◌≡◌ {A = ℕ} 0 1 = cc in omega arith)) (λ _. rw e n)

  -- at least 16 words of the history are free of unwritten ones
  pub write_calm : Calm (write_in c cfg time k p b)
  unfolding write_in written_in
  write_calm = rw (ok, m.valid) (elim (split (leb (size k.unwritten + 16) c)) [
    | inl t ↦ stays_calm (leb-true (size k.unwritten + 16) c t)
    | inr t ↦ gets_calm (leb-false (size k.unwritten + 16) c t)
  ])
