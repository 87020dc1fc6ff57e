-- The positions that a write opens, read off its bytes: as many as the new commands that it wrote.
use mathlib.Core.Path.{◌≡◌, refl, sym, ap, ◌∙◌}
use Rattle.std.proofs.Common.{Option, Some, None, Result, Ok, Err}
use Rattle.config.specs.declared.refusal.Refusal.{Refusal}
use Rattle.idle.specs.declared.idle.Idle.{Idle}
use Rattle.std.specs.Bool.{⊤}
use mathlib.Core.Bool.{Bool, true, false, cond, not, ◌||◌}
use mathlib.Core.List.{List, [], ◌∷◌, ◌++◌}
use Prim.Native.Nat.{ℕ, zero, suc, ◌+◌, ◌-◌, ◌*◌, ◌/◌, ◌%◌, ◌≤◌, ◌<◌, min}
use native.Mathlib.Omega.{arith}
use lib.Dec.{ltb, eqb}
use lib.ListN.{length, take, drop, length-append, length-drop, length-take, drop_of_length-le}
use Rattle.config.specs.Entry.{entry}
use Rattle.config.specs.Sequence.{turn, after}
use Rattle.config.specs.Settings.{check_of}
use Rattle.config.specs.declared.settings.StreamConfig.{StreamConfig}
use Rattle.config.specs.inner.Tests.{tests, lifts}
use Rattle.packet.specs.Layout.{Packet, AllEncodable}
use Rattle.packet.specs.Read.{items_from}
use Rattle.packet.specs.Write.{start_of, valid_of, bytes_in}
use Rattle.packet.specs.declared.writer.PayloadWriter.{PayloadWriter}
use Rattle.packet.proofs.Outcomes.{valid_length}
use Rattle.packet.proofs.RoundTrip.{all_encodable_append}
use Rattle.command.specs.declared.retransmit.RetransmitRequest.{RetransmitRequest}
use Rattle.history.specs.Entries.{Short}
use Rattle.history.specs.Written.{data_packet}
use Rattle.rows.specs.Rows.{row_of, fit_all}
use Rattle.rows.specs.Choice.{repeats_of}
use Rattle.sender_log.specs.Book.{Book, oldest_in, freed, pushed_in, index_in, absent_in, with_waiting}
use Rattle.sender_log.specs.Writes.{data_from, written_from, new_in, reach_in, answer_in, served_in, is_empty, idled_by, idled_in, again_in, written_on, WriteIn, new_by, new_written, refused, written_in, write_in}
use Rattle.sender_log.specs.Added.{items_added, wholes_in, added_in, opens_next, opens_in}
use Rattle.sender_log.proofs.Packets.{take_data}
use Rattle.sender_log.proofs.More.{Small, idled_short}
use Rattle.config.specs.inner.Choices.{by_cond}
use Rattle.sender_log.proofs.Words.{length_kept, data_encodable, Book32, idled_32}
use Rattle.sender_log.proofs.Added.{Appends, appends_more, row_appended, appends_added}
use Rattle.sender_log.proofs.Counting.{answers_in, turn_in, owed_in, serves, encodable_take, answers_encodable, again_encodable}

-- how many commands were written
abbrev pub written_count : Book → ℕ
written_count b = b.first + length b.written

-- a data command opens the next position by its number
opens_is : (w k : ℕ) (u : List ℕ) → opens_next w (data_packet k u) ≡ eqb k (w % turn)
opens_is w k u = let n : k / 256 * 256 + k % 256 ≡ k = omega arith in rw n

-- ---- commands that open no position

unfoldable pub NoneOpen : ℕ → List Packet → Type 0
NoneOpen w [] = Unit {0}
NoneOpen w (c ∷ cs) = (opens_next w c ≡ false) × NoneOpen w cs

module _ (w : ℕ) where
  none_append : (xs ys : List Packet) → NoneOpen w xs → NoneOpen w ys → NoneOpen w (xs ++ ys)
  unfolding NoneOpen
  none_append [] ys h k = k
  none_append (x ∷ xs) ys h k = (h.0, none_append xs ys h.1 k)

  none_take : (n : ℕ) (xs : List Packet) → NoneOpen w xs → NoneOpen w (take n xs)
  unfolding NoneOpen
  none_take zero xs h = tt
  none_take (suc n) [] h = tt
  none_take (suc n) (x ∷ xs) h = (h.0, none_take n xs h.1)

  none_repeats : (p : PayloadWriter) (by : List ℕ) (first : Packet) (cs : List Packet) → NoneOpen w cs → NoneOpen w (repeats_of p by first cs)
  unfolding repeats_of NoneOpen
  none_repeats p by first [] h = tt
  none_repeats p by first (c ∷ cs) h = by_cond (NoneOpen w) (fit_all p by (first ∷ c ∷ cs)) _ _ (λ e. h) (λ e. none_repeats p by first cs h.1)

  opens_behind : (xs ys : List Packet) → NoneOpen w xs → opens_in w (xs ++ ys) ≡ opens_in w ys
  unfolding NoneOpen opens_in
  opens_behind [] ys h = refl
  opens_behind (x ∷ xs) ys h = rw h.0 (opens_behind xs ys h.1)

  opens_none : (xs : List Packet) → NoneOpen w xs → opens_in w xs ≡ 0
  unfolding NoneOpen opens_in
  opens_none [] h = refl
  opens_none (x ∷ xs) h = rw h.0 (opens_none xs h.1)

  -- those of positions that are there
  none_from : (us : List (List ℕ)) (p : ℕ) → p + length us ≤ w → w < p + turn → NoneOpen w (data_from (p % turn) us)
  unfolding NoneOpen data_from
  none_from [] p l m = tt
  none_from (u ∷ us) p l m =
      let o : after (p % turn) 1 ≡ (p + 1) % turn = omega arith in
      let f : eqb (p % turn) (w % turn) ≡ false = omega (arith, lifts) in
      (opens_is w (p % turn) u ∙ f, rw o (none_from us (p + 1) (omega arith) (omega arith)))

-- those of the next ones
opens_from : (us : List (List ℕ)) (w : ℕ) → opens_in w (data_from (w % turn) us) ≡ length us
unfolding opens_in data_from
opens_from [] w = refl
opens_from (u ∷ us) w =
    let o : after (w % turn) 1 ≡ (w + 1) % turn = omega arith in
    let f : opens_next w (data_packet (w % turn) u) ≡ true = opens_is w (w % turn) u ∙ omega (arith, lifts) in
    rw (f, o, opens_from us (w + 1)) (omega arith)

-- ---- retransmits and repeats

module _ (b : Book) (few : length b.written < turn) where
  written_none : (j : ℕ) → j ≤ length b.written → NoneOpen (written_count b) (written_from b j)
  written_none j l =
      let o : after (oldest_in b) j ≡ (b.first + j) % turn = omega arith in
      rw o (none_from (written_count b) (drop j b.written) (b.first + j) (omega (arith, length-drop j b.written)) (omega arith))

  answer_none : (r : RetransmitRequest) → NoneOpen (written_count b) (answer_in b r)
  unfolding answer_in NoneOpen
  answer_none r =
      by_cond (NoneOpen (written_count b)) (absent_in b r.seq) _ _ (λ absent. (refl, tt))
      (λ held. none_take (written_count b) (reach_in b r) _ (written_none (index_in b r.seq) (omega (arith, tests))))

  answers_none : (rs : List RetransmitRequest) → NoneOpen (written_count b) (answers_in b rs)
  unfolding answers_in NoneOpen
  answers_none [] = tt
  answers_none (r ∷ rs) = none_append (written_count b) (answer_in b r) (answers_in b rs) (answer_none r) (answers_none rs)

  again_none : (R : ℕ) (p : PayloadWriter) (by : List ℕ) (first : Packet) → NoneOpen (written_count b) (again_in b R p by first)
  again_none R p by first =
      none_repeats (written_count b) p by first _ (written_none (length b.written - min R (length b.written)) (omega arith))

  opens_new : (m : ℕ) → opens_in (written_count b) (take m (new_in b)) ≡ length (take m b.unwritten)
  opens_new m =
      let o : after (oldest_in b) (length b.written) ≡ written_count b % turn = omega arith in
      rw (o, take_data m (written_count b % turn) b.unwritten) (opens_from (take m b.unwritten) (written_count b))

-- ---- the whole write

added_none : (p : PayloadWriter) (by : List ℕ) → added_in p p by ≡ []
unfolding items_added wholes_in items_from
added_none p by = rw (drop_of_length-le (bytes_in p by) {i = start_of p} (short (eqb p.len 0) refl)) (nothing (length by))
  where
    short : (t : Bool) → eqb p.len 0 ≡ t → length (bytes_in p by) ≤ cond t 4 p.len
    short true e = omega (arith, tests, length-take p.len by)
    short false e = omega (arith, length-take p.len by)

    nothing : (f : ℕ) → wholes_in (items_from f (start_of p) []) ≡ []
    nothing zero = refl
    nothing (suc f) = refl

-- the positions that it opened are the new commands that it wrote
abbrev pub Opens : ℕ → PayloadWriter → WriteIn → Type 0
Opens w p a = opens_in w (added_in p a.payload a.bytes) ≡ written_count a.book - w

idled_count : (c : ℕ) (cfg : StreamConfig) (time : ℕ) (b : Book) → (written_count (idled_in c cfg time b) ≡ written_count b) × (length (idled_in c cfg time b).written ≤ length b.written)
unfolding idled_in pushed_in freed
idled_count c cfg time b = by b.idle
  where
    Same : Book → Type 0
    Same d = (written_count d ≡ written_count b) × (length d.written ≤ length b.written)

    by : (t : Option Idle) → Same (idled_by c cfg time b t)
    by None = (refl, omega arith)
    by (Some i) = by_cond Same (not (is_empty b.unwritten) || ltb time i.due) _ _ (λ e. (refl, omega arith)) (λ e. let l = length_kept _ 1 b.written in (omega arith, l))

take_split : {A : Type 0} (n : ℕ) (xs ys : List A) → take n (xs ++ ys) ≡ take n xs ++ take (n - length xs) ys
take_split zero xs ys = let z : 0 - length xs ≡ 0 = omega arith in rw z
take_split (suc n) [] ys = let z : suc n - 0 ≡ suc n = omega arith in rw z
take_split {A} (suc n) (x ∷ xs) ys = let m : suc n - suc (length xs) ≡ n - length xs = omega arith in rw m (ap (λ (zs : List A). x ∷ zs) (take_split n xs ys))

module _ (cfg : StreamConfig) (time n : ℕ) (d : Book) (few : length d.written < turn) (sw : Short d.written) (su : Short d.unwritten) (i : Book32 d)
    (p q : PayloadWriter) (by bq : List ℕ) (inside : p.len ≤ length by) (cs : List Packet) (h : AllEncodable cs) (none : NoneOpen (written_count d) cs) (a : Appends p by cs q bq) where
  -- commands before, and none of the new ones
  before_opens : opens_in (written_count d) (added_in p q bq) ≡ written_count d - written_count d
  before_opens = rw (appends_added p by inside q bq cs h a, opens_none (written_count d) cs none) (omega arith)

  -- repeats and new ones behind them
  row_opens : (first : Packet) (others : List Packet) → new_in d ≡ first ∷ others
      → (let again = again_in d cfg.fec_repeats q bq first in
      let out = row_of q bq (again ++ (first ∷ others)) in
      opens_in (written_count d) (added_in p out.payload out.bytes) ≡ written_count (written_on cfg time (out.written - length again) d) - written_count d)
  unfolding written_on
  row_opens first others e =
      let w : ℕ = written_count d in
      let again = again_in d cfg.fec_repeats q bq first in
      let out = row_of q bq (again ++ (first ∷ others)) in
      let m : ℕ = out.written - length again in
      let row : List Packet = take out.written (again ++ (first ∷ others)) in
      let new : AllEncodable (first ∷ others) = rw e at (data_encodable (after (oldest_in d) (length d.written)) d.unwritten su i.unwritten) in
      let k : AllEncodable (again ++ (first ∷ others)) = again_encodable d sw i cfg.fec_repeats q bq (first ∷ others) new in
      let found : added_in p out.payload out.bytes ≡ cs ++ row =
      appends_added p by inside out.payload out.bytes (cs ++ row) (all_encodable_append cs row h (encodable_take out.written _ k))
      (appends_more p q out.payload by bq out.bytes cs row a (row_appended (again ++ (first ∷ others)) q bq)) in
      let parts : row ≡ take out.written again ++ take m (new_in d) = take_split out.written again (first ∷ others) ∙ ap (λ (xs : List Packet). take out.written again ++ take m xs) (sym e) in
      let opens : opens_in w (cs ++ row) ≡ length (take m d.unwritten) =
      opens_behind w cs row none ∙ ap (opens_in w) parts ∙ opens_behind w (take out.written again) (take m (new_in d)) (none_take w out.written again (again_none d few cfg.fec_repeats q bq first))
      ∙ opens_new d few m in
      rw found (omega (arith, opens, length-append d.written (take m d.unwritten)))

  new_opens : Opens (written_count d) p (new_written cfg time n d q bq)
  unfolding new_written
  new_opens = go (new_in d) refl
    where
      go : (l : List Packet) → new_in d ≡ l → Opens (written_count d) p (new_by cfg time n d q bq l)
      go [] e = before_opens
      go (first ∷ others) e =
          by_cond (Opens (written_count d) p) (not (fit_all q bq (first ∷ []))) _ _ (λ over. by_cond (Opens (written_count d) p) (eqb q.len 0) _ _ (λ empty. before_opens) (λ more. before_opens))
          (λ fits. row_opens first others e)

module _ (c : ℕ) (cfg : StreamConfig) (time : ℕ) (b : Book) (small : Small b) (i : Book32 b) (p : PayloadWriter) (by : List ℕ) where
  same_opens : opens_in (written_count b) (added_in p p by) ≡ written_count b - written_count b
  unfolding opens_in
  same_opens = rw (added_none p by) (omega arith)

  written_opens : valid_of p (length by) ≡ true → Opens (written_count b) p (written_in c cfg time b p by)
  unfolding written_in
  written_opens v =
      let s = served_in b b.waiting p by in
      let left : Book = with_waiting b s.waiting in
      let d : Book = idled_in c cfg time left in
      let owed : List Packet = owed_in b p by b.waiting in
      let y = serves b small b.waiting p by v in
      let cs : List Packet = take s.commands owed in
      let h : AllEncodable cs = encodable_take s.commands owed (answers_encodable b small.written i (turn_in b p by b.waiting)) in
      let none : NoneOpen (written_count b) cs = none_take (written_count b) s.commands owed (answers_none b small.few (turn_in b p by b.waiting)) in
      let l : p.len ≤ length by = valid_length p (length by) v in
      by_cond (Opens (written_count b) p) s.more _ _
      (λ more. rw (appends_added p by l s.payload s.bytes cs h y.appends, opens_none (written_count b) cs none) (omega arith))
      (λ all.
      let k = idled_short c cfg time left small.written small.unwritten in
      let g = idled_count c cfg time left in
      let e : written_count b ≡ written_count d = sym g.0 in
      rw e (new_opens cfg time s.commands d (omega (arith, g.1, small.few)) k.0 k.1 (idled_32 c cfg time left record { written = i.written; unwritten = i.unwritten })
      p s.payload by s.bytes l cs h (rw e at none) y.appends))

  pub write_opens : Opens (written_count b) p (write_in c cfg time b p by)
  unfolding write_in
  write_opens = on (check_of cfg) (valid_of p (length by)) refl
    where
      on : (k : Result ⊤ Refusal) (t : Bool) → valid_of p (length by) ≡ t → Opens (written_count b) p (entry k t (refused b p by) (written_in c cfg time b p by))
      on (Err why) t v = same_opens
      on (Ok _) false v = same_opens
      on (Ok _) true v = written_opens v
