-- A write answers "more" exactly when a command is left that doesn't fit.
use mathlib.Core.Path.{◌≡◌, refl, sym, ap, ◌∙◌, subst}
use Rattle.std.proofs.Common.{Option, Some, None, Result, Ok, Err}
use Rattle.idle.specs.declared.idle.Idle.{Idle}
use Rattle.std.specs.Bool.{⊤}
use mathlib.Core.Logic.{inl, inr}
use mathlib.Core.Bool.{Bool, true, false, cond, not, ◌||◌}
use mathlib.Core.List.{List, [], ◌∷◌, ◌++◌}
use Prim.Native.Nat.{ℕ, zero, suc, ◌+◌, ◌-◌, ◌%◌, ◌≤◌, ◌<◌, min}
use native.Mathlib.Omega.{arith}
use borrow.Author.Tests.{leb-true, leb-false, lt-leb, ne_eqb}
use lib.Dec.{ltb, eqb}
use lib.ListN.{length, take, drop, length-append, length-take, drop_of_length-le}
use lib.Seq.{drop-drop, drop-append-add, length-take-le}
use Rattle.command.specs.inner.Lists.{drop_take}
use Rattle.config.specs.Entry.{entry}
use Rattle.config.specs.Sequence.{turn, after, ahead}
use Rattle.config.specs.declared.refusal.Refusal.{Refusal}
use Rattle.config.specs.declared.refusal.Refusal.TheVariants.{TooLarge, InvalidState}
use Rattle.config.specs.Settings.{check_of}
use Rattle.config.specs.declared.settings.StreamConfig.{StreamConfig}
use Rattle.config.specs.inner.Tests.{split}
use Rattle.config.specs.inner.Choices.{or_left}
use Rattle.packet.specs.Layout.{Packet}
use Rattle.packet.specs.Write.{limit_of, start_of, valid_of}
use Rattle.packet.specs.declared.writer.PayloadWriter.{PayloadWriter}
use Rattle.command.specs.Write.{error_packet}
use Rattle.command.specs.declared.retransmit.RetransmitRequest.{RetransmitRequest}
use Rattle.history.specs.Entries.{size, Short}
use Rattle.history.proofs.Entries.{holds_good}
use Rattle.history.proofs.Room.{good_few}
use Rattle.history.proofs.Flat.{kept_short, short_append, short_left, short_one}
use Rattle.idle.specs.Schedule.{idle_next}
use Rattle.rows.specs.Rows.{Row, row_of, sizes_of, fit_all}
use Rattle.sender.specs.declared.sender.Sender.{Sender}
use Rattle.sender_log.specs.Book.{Book, oldest_in, freed, pushed_in, index_in, absent_in, error_in, with_waiting}
use Rattle.writing.specs.declared.writing.Written.{Written as Amount}
use Rattle.sender_log.specs.Writes.{data_from, written_from, new_in, reach_in, answer_in, rest_in, ServedIn, served_also, served_in, is_empty, with_idle, idled_by, idled_in, again_in, written_on, WriteIn, wrote, refused, new_by, new_written, written_in, write_in}
use Rattle.sender_log.specs.Calls.{run}
use Rattle.sender_log.specs.Answers.{book_of}
use Rattle.sender_log.specs.Promise.{next_by, next_in, NoRoom, More}
use Rattle.sender_log.proofs.Packets.{length_data, drop_data}
use Rattle.sender_log.proofs.Serving.{reach_few}
use Rattle.sender_log.proofs.Rows.{Few, few_take, few_append, RowRight, row_right, row_enough, repeats_fit, repeats_few}
use Rattle.sender_log.proofs.Follows.{Follows}
use Rattle.sender_log.proofs.Runs.{run_ok}

-- no command held has more than 64 words, and the written ones are fewer than there are numbers
pub record Small (b : Book) : Type 0 where
  pub written : Short b.written
  pub unwritten : Short b.unwritten
  pub few : length b.written < turn

-- ---- commands held

pub few_data : (n : ℕ) (es : List (List ℕ)) → Short es → Few (data_from n es)
unfolding data_from Few Short
few_data n [] s = tt
few_data n (e ∷ es) s = (omega (arith, s.0), few_data (after n 1) es s.1)

pub short_drop : (k : ℕ) (es : List (List ℕ)) → Short es → Short (drop k es)
unfolding Short
short_drop zero es s = s
short_drop (suc k) [] s = tt
short_drop (suc k) (e ∷ es) s = short_drop k es s.1

-- ---- the answer to a request, and to what is left of it

-- the number n after one that is held is n further on
index_after : (o seq n : ℕ) → o < turn → ahead o seq + n < turn → ahead o (after seq n) ≡ ahead o seq + n
index_after o seq n l k = omega arith

answer_at : (b : Book) (r : RetransmitRequest) (x k : ℕ) → index_in b r.seq ≡ x → reach_in b r ≡ k → x < length b.written → answer_in b r ≡ take k (written_from b x)
unfolding answer_in
answer_at b r x k e f l =
    let t : absent_in b r.seq ≡ false = lt-leb (length b.written) (index_in b r.seq) (omega arith) in
    rw t (ap (λ (j : ℕ). take j (written_from b (index_in b r.seq))) f ∙ ap (λ (j : ℕ). take k (written_from b j)) e)

further_written : (b : Book) (x k n : ℕ) → n ≤ k → take (k - n) (written_from b (x + n)) ≡ drop n (take k (written_from b x))
further_written b x k n l =
    let o : ℕ = oldest_in b in
    let e : n + (k - n) ≡ k = omega arith in
    let m : ((b.first % 65536 + x) % 65536 + n) % 65536 ≡ (b.first % 65536 + (x + n)) % 65536 = omega arith in
    let d : drop n (written_from b x) ≡ written_from b (x + n) =
    drop_data n (after o x) (drop x b.written) (omega arith) ∙ ap (λ (y : ℕ). data_from y (drop n (drop x b.written))) m ∙ ap (data_from (after o (x + n))) (drop-drop n x b.written) in
    sym (ap (λ (j : ℕ). drop n (take j (written_from b x))) (sym e) ∙ drop_take n (k - n) (written_from b x) ∙ ap (take (k - n)) d)

further_answer : (b : Book) → Small b → (r : RetransmitRequest) (n : ℕ) → index_in b r.seq < length b.written → n < reach_in b r
    → answer_in b record { seq = after r.seq n; count = reach_in b r - n } ≡ drop n (take (reach_in b r) (written_from b (index_in b r.seq)))
further_answer b small r n l k =
    let x : ℕ = index_in b r.seq in
    let m = reach_few b r in
    let i : index_in b (after r.seq n) ≡ x + n = index_after (oldest_in b) r.seq n (omega arith) (omega (arith, small.few)) in
    let t : eqb (reach_in b r - n) 0 ≡ false = ne_eqb (reach_in b r - n) 0 (λ e. omega arith) in
    answer_at b record { seq = after r.seq n; count = reach_in b r - n } (x + n) (reach_in b r - n) i (rw t (omega arith)) (omega arith)
    ∙ further_written b x (reach_in b r) n (omega arith)

module _ (b : Book) (small : Small b) (r : RetransmitRequest) where
  answer_few : Few (answer_in b r)
  unfolding answer_in Few
  answer_few = on (absent_in b r.seq)
    where
      on : (t : Bool) → Few (cond t (error_packet (error_in b) ∷ []) (take (reach_in b r) (written_from b (index_in b r.seq))))
      on true = (omega arith, tt)
      on false = few_take (reach_in b r) _ (few_data _ _ (short_drop (index_in b r.seq) b.written small.written))

  -- what is left after n of its commands is answered with the others
  rest_answer : (n : ℕ) → n < length (answer_in b r) → answer_in b (rest_in b r n) ≡ drop n (answer_in b r)
  unfolding answer_in rest_in
  rest_answer n l = on (absent_in b r.seq) refl l
    where
      on : (t : Bool) → absent_in b r.seq ≡ t → n < length (cond t (error_packet (error_in b) ∷ []) (take (reach_in b r) (written_from b (index_in b r.seq))))
          → answer_in b (cond t r record { seq = after r.seq n; count = reach_in b r - n }) ≡ drop n (cond t (error_packet (error_in b) ∷ []) (take (reach_in b r) (written_from b (index_in b r.seq))))
      on true e k = let z : n ≡ 0 = omega arith in rw (z, e)
      on false e k = further_answer b small r n (leb-false (length b.written) (index_in b r.seq) e) (omega (arith, length-take (reach_in b r) (written_from b (index_in b r.seq))))

-- ---- all requests

-- the payload passes the state test; none waits, or the next command of the oldest one doesn't fit
record ServedRight (b : Book) (y : ServedIn) : Type 0 where
  valid : valid_of y.payload (length y.bytes) ≡ true
  none : y.more ≡ false → y.waiting ≡ []
  left : y.more ≡ true → NoRoom y.payload y.bytes (next_by b y.waiting)

served_one : (b : Book) → Small b → (r : RetransmitRequest) (rs : List RetransmitRequest) (out : Row) → RowRight (answer_in b r) out → (t : Bool) → (t ≡ false → out.whole ≡ false) → (y : ServedIn) → ServedRight b y
    → ServedRight b (cond t (served_also out.written y) (record { waiting = rest_in b r out.written ∷ rs; payload = out.payload; bytes = out.bytes; commands = out.written; more = true }))
served_one b small r rs out i true e y j = record { valid = j.valid; none = j.none; left = j.left }
served_one b small r rs out i false e y j =
    let l = i.left (e refl) in
    record {
      valid = i.valid;
      none = λ z. absurd (let w : ◌≡◌ {A = ℕ} 0 1 = cc in omega arith);
      left = λ z. rw (rest_answer b small r out.written l.0) l.1;
    }

served_right : (rs : List RetransmitRequest) (b : Book) → Small b → (p : PayloadWriter) (by : List ℕ) → valid_of p (length by) ≡ true → ServedRight b (served_in b rs p by)
unfolding served_in
served_right [] b small p by v = record { valid = v; none = λ z. refl; left = λ z. absurd (let w : ◌≡◌ {A = ℕ} 0 1 = cc in omega arith) }
served_right (r ∷ rs) b small p by v =
    let i = row_right (answer_in b r) p by (answer_few b small r) v in
    served_one b small r rs (row_of p by (answer_in b r)) i ((row_of p by (answer_in b r)).whole || eqb (row_of p by (answer_in b r)).payload.len 0) (or_left _ _) _
    (served_right rs b small (row_of p by (answer_in b r)).payload (row_of p by (answer_in b r)).bytes i.valid)

-- ---- new commands

record WriteRight (a : WriteIn) : Type 0 where
  more : (n : ℕ) → a.answer ≡ Ok record { commands = n; more = true } → NoRoom a.payload a.bytes (next_in a.book)
  no_more : (n : ℕ) → a.answer ≡ Ok record { commands = n; more = false } → (a.book.waiting ≡ []) × (a.book.unwritten ≡ [])

refused_right : (b : Book) (p : PayloadWriter) (by : List ℕ) (why : Refusal) → WriteRight (refused b p by why)
refused_right b p by why = record {
  more = λ n e. absurd (let z : ◌≡◌ {A = ℕ} 0 1 = cc in omega arith);
  no_more = λ n e. absurd (let z : ◌≡◌ {A = ℕ} 0 1 = cc in omega arith);
}

same_more : (n m : ℕ) (x y : Bool) → ◌≡◌ {A = Result Amount Refusal} (Ok record { commands = n; more = x }) (Ok record { commands = m; more = y }) → x ≡ y
same_more n m x y e =
    let f : ◌≡◌ {A = Amount} record { commands = n; more = x } record { commands = m; more = y } = cc in
    ap (λ (a : Amount). a.more) f

wrote_more : (b : Book) (p : PayloadWriter) (by : List ℕ) (n : ℕ) → NoRoom p by (next_in b) → WriteRight (wrote b p by n true)
wrote_more b p by n l = record { more = λ m e. l; no_more = λ m e. absurd (let z : ◌≡◌ {A = ℕ} 0 1 = cc (same_more n m true false e) in omega arith) }

wrote_all : (b : Book) (p : PayloadWriter) (by : List ℕ) (n : ℕ) → b.waiting ≡ [] → b.unwritten ≡ [] → WriteRight (wrote b p by n false)
wrote_all b p by n e f = record { more = λ m g. absurd (let z : ◌≡◌ {A = ℕ} 0 1 = cc (same_more n m false true g) in omega arith); no_more = λ m g. (e, f) }

next_new : (b : Book) → b.waiting ≡ [] → next_in b ≡ new_in b
unfolding next_in
next_new b e = ap (next_by b) e

none_new : (b : Book) → new_in b ≡ [] → b.unwritten ≡ []
none_new b e = on b.unwritten (sym (length_data (after (oldest_in b) (length b.written)) b.unwritten) ∙ ap length e)
  where
    on : (us : List (List ℕ)) → length us ≡ 0 → us ≡ []
    on [] z = refl
    on (u ∷ us) z = absurd (let y : ⊥ = omega arith in y)

-- the unwritten commands after m of them were written
new_left : (cfg : StreamConfig) (time m : ℕ) (b : Book) → m ≤ length b.unwritten → new_in (written_on cfg time m b) ≡ drop m (new_in b)
unfolding written_on
new_left cfg time m b l =
    let o : ℕ = oldest_in b in
    let w : ℕ = length b.written in
    let n : length (b.written ++ take m b.unwritten) ≡ w + m = length-append b.written (take m b.unwritten) ∙ ap (λ (k : ℕ). w + k) (length-take-le m b.unwritten l) in
    let e : ((b.first % 65536 + w) % 65536 + m) % 65536 ≡ (b.first % 65536 + (w + m)) % 65536 = omega arith in
    ap (λ (k : ℕ). data_from (after o k) (drop m b.unwritten)) n
    ∙ sym (drop_data m (after o w) b.unwritten (omega arith) ∙ ap (λ (k : ℕ). data_from k (drop m b.unwritten)) e)

module _ (cfg : StreamConfig) (time n : ℕ) (b : Book) (p : PayloadWriter) (by : List ℕ) (none : b.waiting ≡ []) where
  -- the first doesn't fit, or is written with those that do
  row_left : (first : Packet) (others again : List Packet) (out : Row) → new_in b ≡ first ∷ others → RowRight (again ++ (first ∷ others)) out → length again ≤ out.written
      → WriteRight (wrote (written_on cfg time (out.written - length again) b) out.payload out.bytes (n + out.written) (not out.whole))
  unfolding written_on
  row_left first others again out e i l =
      let cs : List Packet = first ∷ others in
      let m : ℕ = out.written - length again in
      let after-row : Book = written_on cfg time m b in
      let u : length b.unwritten ≡ length cs = sym (length_data (after (oldest_in b) (length b.written)) b.unwritten) ∙ ap length e in
      let k = length-append again cs in
      elim (split out.whole) [
        | inl w ↦ rw w (wrote_all after-row out.payload out.bytes (n + out.written) none (drop_of_length-le b.unwritten {i = m} (omega (arith, i.all w))))
        | inr w ↦
            let z : length again + m ≡ out.written = omega arith in
            let d : drop out.written (again ++ cs) ≡ next_in after-row =
            ap (λ (j : ℕ). drop j (again ++ cs)) (sym z) ∙ drop-append-add again cs m ∙ ap (drop m) (sym e)
            ∙ sym (next_new after-row none ∙ new_left cfg time m b (omega (arith, (i.left w).0))) in
            rw w (wrote_more after-row out.payload out.bytes (n + out.written) (subst (NoRoom out.payload out.bytes) d (i.left w).1))
      ]

  module _ (first : Packet) (others : List Packet) (e : new_in b ≡ first ∷ others) (v : valid_of p (length by) ≡ true) where
    -- the first doesn't fit
    first_left_lem : fit_all p by (first ∷ []) ≡ false → NoRoom p by (next_in b)
    unfolding sizes_of
    first_left_lem t = subst (NoRoom p by) (sym (next_new b none ∙ e)) (omega (arith, leb-false (start_of p + sizes_of (first ∷ [])) (limit_of p (length by)) t))

    -- the repeats are written before it
    again_enough : (again : List Packet) → Few again → fit_all p by (first ∷ again) ≡ true → length again ≤ (row_of p by (again ++ (first ∷ others))).written
    unfolding sizes_of
    again_enough again f t = row_enough again (first ∷ others) p by f v (omega (arith, leb-true (start_of p + sizes_of (first ∷ again)) (limit_of p (length by)) t))

    new_some : Short b.written → Short b.unwritten → WriteRight (new_by cfg time n b p by (first ∷ others))
    new_some sw su =
        let again : List Packet = again_in b cfg.fec_repeats p by first in
        let j : ℕ = length b.written - min cfg.fec_repeats (length b.written) in
        let f : Few again = repeats_few p by first (written_from b j) (few_data (after (oldest_in b) j) (drop j b.written) (short_drop j b.written sw)) in
        let g : Few (first ∷ others) = subst Few e (few_data (after (oldest_in b) (length b.written)) b.unwritten su) in
        elim (split (fit_all p by (first ∷ []))) [
          | inl t ↦
              rw t (row_left first others again (row_of p by (again ++ (first ∷ others))) e (row_right (again ++ (first ∷ others)) p by (few_append again (first ∷ others) f g) v)
              (again_enough again f (repeats_fit p by first (written_from b j) t)))
          | inr t ↦ elim (split (eqb p.len 0)) [
            | inl z ↦ rw (t, z) (refused_right b p by TooLarge)
            | inr z ↦ rw (t, z) (wrote_more b p by n (first_left_lem t))
          ]
        ]

  new_right : Short b.written → Short b.unwritten → valid_of p (length by) ≡ true → WriteRight (new_written cfg time n b p by)
  unfolding new_written
  new_right sw su v = on (new_in b) refl
    where
      on : (cs : List Packet) → new_in b ≡ cs → WriteRight (new_by cfg time n b p by cs)
      on [] e = wrote_all b p by n none (none_new b e)
      on (first ∷ others) e = new_some first others e v sw su

-- ---- the whole write

pub idled_waiting : (c : ℕ) (cfg : StreamConfig) (time : ℕ) (b : Book) → (idled_in c cfg time b).waiting ≡ b.waiting
unfolding idled_in pushed_in freed
idled_waiting c cfg time b = on b.idle
  where
    on : (i : Option Idle) → (idled_by c cfg time b i).waiting ≡ b.waiting
    on None = refl
    on (Some i) = by_test (not (is_empty b.unwritten) || ltb time i.due)
      where
        by_test : (t : Bool) → (cond t b (with_idle (pushed_in c [] b) (idle_next cfg time i))).waiting ≡ b.waiting
        by_test true = refl
        by_test false = refl

pub idled_short : (c : ℕ) (cfg : StreamConfig) (time : ℕ) (b : Book) → Short b.written → Short b.unwritten → Short (idled_in c cfg time b).written × Short (idled_in c cfg time b).unwritten
unfolding idled_in pushed_in freed
idled_short c cfg time b sw su = on b.idle
  where
    on : (i : Option Idle) → Short (idled_by c cfg time b i).written × Short (idled_by c cfg time b i).unwritten
    on None = (sw, su)
    on (Some i) = by_test (not (is_empty b.unwritten) || ltb time i.due)
      where
        by_test : (t : Bool) → Short (cond t b (with_idle (pushed_in c [] b) (idle_next cfg time i))).written × Short (cond t b (with_idle (pushed_in c [] b) (idle_next cfg time i))).unwritten
        by_test true = (sw, su)
        by_test false = (kept_short (c - size b.unwritten) 1 b.written sw, short_append b.unwritten ([] ∷ []) su (short_one [] (omega arith)))

next_waiting : (b : Book) (rs : List RetransmitRequest) → next_by b rs ≡ next_in (with_waiting b rs)
unfolding next_in answer_in
next_waiting b [] = refl
next_waiting b (r ∷ rs) = refl

written_by_lem : (c : ℕ) (cfg : StreamConfig) (time : ℕ) (b : Book) → Small b → (y : ServedIn) → ServedRight b y
    → WriteRight (cond y.more (wrote (with_waiting b y.waiting) y.payload y.bytes y.commands true)
    (new_written cfg time y.commands (idled_in c cfg time (with_waiting b y.waiting)) y.payload y.bytes))
written_by_lem c cfg time b small y i = elim (split y.more) [
  | inl t ↦ rw t (wrote_more (with_waiting b y.waiting) y.payload y.bytes y.commands (subst (NoRoom y.payload y.bytes) (next_waiting b y.waiting) (i.left t)))
  | inr t ↦
      let s = idled_short c cfg time (with_waiting b y.waiting) small.written small.unwritten in
      rw t (new_right cfg time y.commands (idled_in c cfg time (with_waiting b y.waiting)) y.payload y.bytes (idled_waiting c cfg time (with_waiting b y.waiting) ∙ i.none t) s.0 s.1 i.valid)
]

write_right : (c : ℕ) (cfg : StreamConfig) (time : ℕ) (b : Book) → Small b → (p : PayloadWriter) (by : List ℕ) → WriteRight (write_in c cfg time b p by)
unfolding write_in written_in
write_right c cfg time b small p by = on (check_of cfg) (valid_of p (length by)) refl
  where
    on : (k : Result ⊤ Refusal) (t : Bool) → valid_of p (length by) ≡ t → WriteRight (entry k t (refused b p by) (written_in c cfg time b p by))
    on (Err why) t v = refused_right b p by why
    on (Ok _) false v = refused_right b p by InvalidState
    on (Ok _) true v = written_by_lem c cfg time b small (served_in b b.waiting p by) (served_right b.waiting b small p by v)

-- ---- what calls reach

short_right : (xs ys : List (List ℕ)) → Short (xs ++ ys) → Short ys
unfolding Short
short_right [] ys s = s
short_right (x ∷ xs) ys s = short_right xs ys s.1

pub follows_small : (c q : ℕ) (s : Sender) (ring : List ℕ) (b : Book) → Follows c q s ring b → Small b
follows_small c q s ring b f =
    let h = f.holds in
    let g = good_few s.history ring (holds_good s.history ring (b.written ++ b.unwritten) h) in
    record {
      written = short_left b.written b.unwritten h.short;
      unwritten = short_right b.written b.unwritten h.short;
      few = omega (arith, h.many, length-append b.written b.unwritten, h.room, h.most);
    }

pub more : More
more c q ring₀ started calls l =
    let small = follows_small c q (run c q ring₀ calls).sender (run c q ring₀ calls).ring (book_of c q calls) (run_ok c q ring₀ started calls l) in
    record {
      more = λ cfg time p by n e. (write_right c cfg time (book_of c q calls) small p by).more n e;
      no_more = λ cfg time p by n e. (write_right c cfg time (book_of c q calls) small p by).no_more n e;
    }
