-- What a write adds: the first of the commands that it has to write, as many as it answers.
use mathlib.Core.Path.{◌≡◌, refl, sym, ap, ◌∙◌}
use Rattle.std.proofs.Common.{Result, Ok, Err}
use Rattle.writing.specs.declared.writing.Written.{Written}
use Rattle.std.specs.Bool.{⊤}
use mathlib.Core.Logic.{inl, inr}
use mathlib.Core.Bool.{Bool, true, false, cond, not, ◌||◌, ◌&&◌}
use mathlib.Core.List.{List, [], ◌∷◌, ◌++◌, append-nil}
use Prim.Native.Nat.{ℕ, zero, suc, ◌+◌, ◌-◌, ◌≤◌, ◌<◌, min}
use native.Mathlib.Omega.{arith}
use lib.Dec.{ltb, leb, eqb}
use lib.ListN.{length, take, drop, length-append, length-take}
use lib.Seq.{drop_at, take-append-le, drop-append-le, take_all, length-take-le}
use Rattle.config.specs.Entry.{entry}
use Rattle.config.specs.Sequence.{after}
use Rattle.config.specs.Settings.{check_of}
use Rattle.config.specs.declared.refusal.Refusal.{Refusal}
use Rattle.config.specs.declared.refusal.Refusal.TheVariants.{TooLarge, InvalidState}
use Rattle.config.specs.declared.settings.StreamConfig.{StreamConfig}
use Rattle.config.specs.inner.Tests.{split, tests, lifts}
use Rattle.packet.specs.Layout.{Packet, AllEncodable, Words32}
use Rattle.packet.specs.Read.{placed}
use Rattle.packet.specs.Write.{limit_of, start_of, valid_of}
use Rattle.packet.specs.declared.writer.PayloadWriter.{PayloadWriter}
use Rattle.packet.proofs.Outcomes.{valid_length}
use Rattle.packet.proofs.RoundTrip.{all_encodable_append}
use Rattle.command.specs.declared.retransmit.RetransmitRequest.{RetransmitRequest}
use Rattle.history.specs.Entries.{Short}
use Rattle.rows.specs.Rows.{Row, row_of, sizes_of, fit_all}
use Rattle.rows.specs.Choice.{repeats_of}
use Rattle.writing.specs.declared.writing.Written.{Written as Amount}
use Rattle.sender_log.specs.Book.{Book, oldest_in, index_in, absent_in, with_waiting}
use Rattle.sender_log.specs.Writes.{written_from, new_in, reach_in, answer_in, rest_in, ServedIn, served_in, served_also, idled_in, again_in, WriteIn, new_by, new_written, refused, written_in, write_in}
use Rattle.sender_log.specs.Promise.{NoRoom}
use Rattle.sender_log.specs.Requests.{first_left}
use Rattle.sender_log.specs.Counted.{CountedIn}
use Rattle.sender_log.proofs.Rows.{Few, few_append, few_take, row_left, RowRight, row_right, row_enough, row_start, sizes_append, repeats_few}
use Rattle.sender_log.proofs.More.{Small, few_data, short_drop, idled_short}
use Rattle.config.specs.inner.Choices.{by_cond}
use Rattle.sender_log.proofs.Words.{each_drop, data_encodable, Book32}
use Rattle.sender_log.proofs.Added.{Appends, none, some, appends_more, row_appended, appends_items, appends_kept, appends_reads}

-- ---- lists

module _ {A : Type 0} where
  pub take_seam : (k m : ℕ) (xs ys : List A) → k ≡ length xs → take (k + m) (xs ++ ys) ≡ take k xs ++ take m ys
  take_seam zero m [] ys e = let z : 0 + m ≡ m = omega arith in rw z
  take_seam zero m (x ∷ xs) ys e = absurd (let z : ⊥ = omega arith in z)
  take_seam (suc k) m [] ys e = absurd (let z : ⊥ = omega arith in z)
  take_seam (suc k) m (x ∷ xs) ys e = let z : suc k + m ≡ suc (k + m) = omega arith in rw z (ap (λ (zs : List A). x ∷ zs) (take_seam k m xs ys (omega arith)))

  pub drop_seam : (k m : ℕ) (xs ys : List A) → k ≡ length xs → drop (k + m) (xs ++ ys) ≡ drop m ys
  drop_seam zero m [] ys e = let z : 0 + m ≡ m = omega arith in rw z
  drop_seam zero m (x ∷ xs) ys e = absurd (let z : ⊥ = omega arith in z)
  drop_seam (suc k) m [] ys e = absurd (let z : ⊥ = omega arith in z)
  drop_seam (suc k) m (x ∷ xs) ys e = let z : suc k + m ≡ suc (k + m) = omega arith in rw z (drop_seam k m xs ys (omega arith))

pub no_room_append : (p : PayloadWriter) (by : List ℕ) (xs ys : List Packet) → NoRoom p by xs → NoRoom p by (xs ++ ys)
no_room_append p by [] ys h = absurd h
no_room_append p by (x ∷ xs) ys h = h

-- ---- what was added leaves the payload empty only where nothing was

appends_some : (p q : PayloadWriter) (by by' : List ℕ) (cs : List Packet) → Appends p by cs q by' → 0 < length cs → q.len ≡ 0 → ⊥
appends_some p q by by' cs none l z = omega arith
appends_some p q by by' cs (some c es _ _ o m n e) l z = o z

appends_on : (p q : PayloadWriter) (by by' : List ℕ) (cs : List Packet) → Appends p by cs q by' → (p.len ≡ 0 → ⊥) → q.len ≡ 0 → ⊥
appends_on p q by by' cs none l z = l z
appends_on p q by by' cs (some c es _ _ o m n e) l z = o z

appends_empty : (p q : PayloadWriter) (by by' : List ℕ) (cs : List Packet) → Appends p by cs q by' → q.len ≡ 0 → (q ≡ p) × (by' ≡ by)
appends_empty p q by by' cs none z = (refl, refl)
appends_empty p q by by' cs (some c es _ _ o m n e) z = absurd (o z)

-- ---- retransmits

-- the answers to requests, in order
unfoldable pub answers_in : Book → List RetransmitRequest → List Packet
answers_in b [] = []
answers_in b (r ∷ rs) = answer_in b r ++ answers_in b rs

-- the requests without those that are too large for an empty payload
unfoldable pub turn_in : Book → PayloadWriter → List ℕ → List RetransmitRequest → List RetransmitRequest
turn_in b p by [] = []
turn_in b p by (r ∷ rs) = cond (eqb p.len 0 && first_left p by (answer_in b r)) (turn_in b p by rs) (r ∷ rs)

abbrev pub owed_in : Book → PayloadWriter → List ℕ → List RetransmitRequest → List Packet
owed_in b p by rs = answers_in b (turn_in b p by rs)

-- what is left of them after n commands
unfoldable pub left_in : Book → List RetransmitRequest → ℕ → List RetransmitRequest
left_in b [] n = []
left_in b (r ∷ rs) n = cond (leb (length (answer_in b r)) n) (left_in b rs (n - length (answer_in b r))) (rest_in b r n ∷ rs)

pub left_none : (b : Book) (rs : List RetransmitRequest) (n : ℕ) → length (answers_in b rs) ≤ n → left_in b rs n ≡ []
unfolding answers_in left_in
left_none b [] n l = refl
left_none b (r ∷ rs) n l =
    let m = length-append (answer_in b r) (answers_in b rs) in
    let t : leb (length (answer_in b r)) n ≡ true = omega (arith, lifts) in
    rw t (left_none b rs (n - length (answer_in b r)) (omega arith))

pub record Serves (owed : List Packet) (left : ℕ → List RetransmitRequest) (p : PayloadWriter) (by : List ℕ) (y : ServedIn) : Type 0 where
  pub few : y.commands ≤ length owed
  pub appends : Appends p by (take y.commands owed) y.payload y.bytes
  pub valid : valid_of y.payload (length y.bytes) ≡ true
  pub all : y.more ≡ false → y.commands ≡ length owed
  pub cut : y.more ≡ true → NoRoom y.payload y.bytes (drop y.commands owed)
  pub waits : y.waiting ≡ left y.commands
  pub start : start_of y.payload ≡ start_of p + sizes_of (take y.commands owed)
  pub limit : limit_of y.payload (length y.bytes) ≡ limit_of p (length by)

serves_none : (owed : List Packet) (left : ℕ → List RetransmitRequest) (p : PayloadWriter) (by : List ℕ) (y : ServedIn) → Serves owed left p by y → Serves owed left p by (served_also 0 y)
serves_none owed left p by y i =
    let z : 0 + y.commands ≡ y.commands = omega arith in
    record {
      few = rw z i.few;
      appends = rw z i.appends;
      valid = i.valid;
      all = rw z i.all;
      cut = rw z i.cut;
      waits = rw z i.waits;
      start = rw z i.start;
      limit = i.limit;
    }

module _ (b : Book) (small : Small b) where
  answer_few : (r : RetransmitRequest) → Few (answer_in b r)
  unfolding answer_in Few
  answer_few r =
      by_cond Few (absent_in b r.seq) _ _ (λ absent. (omega arith, tt))
      (λ held. few_take (reach_in b r) _ (few_data _ _ (short_drop (index_in b r.seq) b.written small.written)))

  serves_nothing : (p : PayloadWriter) (by : List ℕ) → valid_of p (length by) ≡ true → Serves [] (left_in b []) p by record { waiting = []; payload = p; bytes = by; commands = 0; more = false }
  unfolding left_in sizes_of
  serves_nothing p by v =
      record {
        few = omega arith;
        appends = none;
        valid = v;
        all = λ z. refl;
        cut = λ z. absurd (let w : ◌≡◌ {A = ℕ} 0 1 = cc in omega arith);
        waits = refl;
        start = omega arith;
        limit = refl;
      }

  -- a request whose first command fits, or into a payload that isn't empty
  serves_one : (r : RetransmitRequest) (rs : List RetransmitRequest) (p : PayloadWriter) (by : List ℕ) → valid_of p (length by) ≡ true
      → ((row_of p by (answer_in b r)).payload.len ≡ 0 → ⊥)
      → Serves (answers_in b rs) (left_in b rs) (row_of p by (answer_in b r)).payload (row_of p by (answer_in b r)).bytes (served_in b rs (row_of p by (answer_in b r)).payload (row_of p by (answer_in b r)).bytes)
      → Serves (answers_in b (r ∷ rs)) (left_in b (r ∷ rs)) p by (served_in b (r ∷ rs) p by)
  unfolding served_in answers_in left_in
  serves_one r rs p by v o rest = go out.whole refl
    where
      out : Row
      out = row_of p by (answer_in b r)

      right : RowRight (answer_in b r) out
      right = row_right (answer_in b r) p by (answer_few r) v

      adds : Appends p by (take out.written (answer_in b r)) out.payload out.bytes
      adds = row_appended (answer_in b r) p by

      from : (start_of out.payload ≡ start_of p + sizes_of (take out.written (answer_in b r))) × (limit_of out.payload (length out.bytes) ≡ limit_of p (length by))
      from = row_start (answer_in b r) p by (answer_few r) v

      held : eqb out.payload.len 0 ≡ false
      held = elim (split (eqb out.payload.len 0)) [ inl z ↦ absurd (o (omega (arith, tests))) | inr z ↦ z ]

      go : (t : Bool) → out.whole ≡ t
          → Serves (answer_in b r ++ answers_in b rs) (left_in b (r ∷ rs)) p by
          (cond (t || eqb out.payload.len 0) (served_also out.written (served_in b rs out.payload out.bytes))
          (record { waiting = rest_in b r out.written ∷ rs; payload = out.payload; bytes = out.bytes; commands = out.written; more = true }))
      go true e =
          let k = right.all e in
          let l = length-append (answer_in b r) (answers_in b rs) in
          let m : ℕ = (served_in b rs out.payload out.bytes).commands in
          let t : leb (length (answer_in b r)) (out.written + m) ≡ true = omega (arith, lifts) in
          let o : out.written + m - length (answer_in b r) ≡ m = omega arith in
          record {
            few = omega (arith, rest.few);
            appends = rw (take_seam out.written m (answer_in b r) (answers_in b rs) k) (appends_more p out.payload (served_in b rs out.payload out.bytes).payload by out.bytes (served_in b rs out.payload out.bytes).bytes (take out.written (answer_in b r)) (take m (answers_in b rs)) adds rest.appends);
            valid = rest.valid;
            all = λ z. omega (arith, rest.all z);
            cut = λ z. rw (drop_seam out.written m (answer_in b r) (answers_in b rs) k) (rest.cut z);
            waits = rw (t, o) rest.waits;
            start = rw (take_seam out.written m (answer_in b r) (answers_in b rs) k) (omega (arith, rest.start, from.0, sizes_append (take out.written (answer_in b r)) (take m (answers_in b rs))));
            limit = rest.limit ∙ from.1;
          }
      go false e =
          let k = right.left e in
          let l = length-append (answer_in b r) (answers_in b rs) in
          let t : leb (length (answer_in b r)) out.written ≡ false = omega (arith, lifts, k.0) in
          rw held record {
            few = omega (arith, k.0);
            appends = rw (take-append-le out.written (answer_in b r) (answers_in b rs) (omega (arith, k.0))) adds;
            valid = right.valid;
            all = λ z. absurd (let w : ◌≡◌ {A = ℕ} 0 1 = cc in omega arith);
            waits = rw t;
            start = rw (take-append-le out.written (answer_in b r) (answers_in b rs) (omega (arith, k.0))) from.0;
            limit = from.1;
            cut = λ z. rw (drop-append-le out.written (answer_in b r) (answers_in b rs) (omega (arith, k.0))) (no_room_append out.payload out.bytes (drop out.written (answer_in b r)) (answers_in b rs) k.1);
          }

  serves_on : (rs : List RetransmitRequest) (p : PayloadWriter) (by : List ℕ) → valid_of p (length by) ≡ true → (p.len ≡ 0 → ⊥) → Serves (answers_in b rs) (left_in b rs) p by (served_in b rs p by)
  unfolding served_in answers_in left_in
  serves_on [] p by v o = serves_nothing p by v
  serves_on (r ∷ rs) p by v o =
      let out = row_of p by (answer_in b r) in
      let k : out.payload.len ≡ 0 → ⊥ = appends_on p out.payload by out.bytes _ (row_appended (answer_in b r) p by) o in
      serves_one r rs p by v k (serves_on rs out.payload out.bytes (row_right (answer_in b r) p by (answer_few r) v).valid k)

  -- its first command doesn't fit an empty payload
  row_nothing : (cs : List Packet) (p : PayloadWriter) (by : List ℕ) → valid_of p (length by) ≡ true → first_left p by cs ≡ true
      → ((row_of p by cs).payload ≡ p) × ((row_of p by cs).bytes ≡ by) × ((row_of p by cs).written ≡ 0)
  unfolding row_of
  row_nothing [] p by v e = (refl, refl, refl)
  row_nothing (c ∷ cs) p by v e = rw (row_left p by c v cs (omega (arith, tests))) (refl, refl, refl)

  row_something : (cs : List Packet) (p : PayloadWriter) (by : List ℕ) → Few cs → valid_of p (length by) ≡ true → first_left p by cs ≡ false → (row_of p by cs).payload.len ≡ 0 → ⊥
  unfolding Few sizes_of
  row_something [] p by f v e = λ z. let w : ◌≡◌ {A = ℕ} 0 1 = cc in omega arith
  row_something (c ∷ cs) p by f v e =
      let n : 1 ≤ (row_of p by (c ∷ cs)).written = row_enough (c ∷ []) cs p by (f.0, tt) v (omega (arith, tests)) in
      let m : 0 < length (take (row_of p by (c ∷ cs)).written (c ∷ cs)) = omega (arith, length-take (row_of p by (c ∷ cs)).written (c ∷ cs)) in
      appends_some p _ by _ _ (row_appended (c ∷ cs) p by) m

  turn_on : (rs : List RetransmitRequest) (p : PayloadWriter) (by : List ℕ) → eqb p.len 0 ≡ false → turn_in b p by rs ≡ rs
  unfolding turn_in
  turn_on [] p by z = refl
  turn_on (r ∷ rs) p by z = rw z

  serves_empty : (rs : List RetransmitRequest) (p : PayloadWriter) (by : List ℕ) → valid_of p (length by) ≡ true → eqb p.len 0 ≡ true → Serves (owed_in b p by rs) (left_in b (turn_in b p by rs)) p by (served_in b rs p by)
  unfolding served_in answers_in turn_in
  serves_empty [] p by v z = serves_nothing p by v
  serves_empty (r ∷ rs) p by v z =
      let out = row_of p by (answer_in b r) in
      elim (split (first_left p by (answer_in b r))) [
        | inl t ↦
            let n = row_nothing (answer_in b r) p by v t in
            let w : (out.whole || eqb out.payload.len 0) ≡ true = passed out.whole (ap (λ (q : PayloadWriter). eqb q.len 0) n.0 ∙ z) in
            let rest = serves_empty rs p by v z in
            rw (w, z, t, n.0, n.1, n.2) (serves_none _ (left_in b (turn_in b p by rs)) p by _ rest)
        | inr t ↦
            let k = row_something (answer_in b r) p by (answer_few r) v t in
            let one = serves_one r rs p by v k (serves_on rs out.payload out.bytes (row_right (answer_in b r) p by (answer_few r) v).valid k) in
            rw (z, t) one
      ]
    where
      passed : (x : Bool) {y : Bool} → y ≡ true → (x || y) ≡ true
      passed true e = refl
      passed false e = e

  pub serves : (rs : List RetransmitRequest) (p : PayloadWriter) (by : List ℕ) → valid_of p (length by) ≡ true → Serves (owed_in b p by rs) (left_in b (turn_in b p by rs)) p by (served_in b rs p by)
  serves rs p by v = elim (split (eqb p.len 0)) [
    | inl z ↦ serves_empty rs p by v z
    | inr z ↦ rw (turn_on rs p by z) (serves_on rs p by v (λ e. let w : ⊥ = omega (arith, tests) in w))
  ]

  -- where nothing was written, nothing was owed
  pub served_nothing : (owed : List Packet) (left : ℕ → List RetransmitRequest) (p : PayloadWriter) (by : List ℕ) (y : ServedIn) → Serves owed left p by y → y.more ≡ false → y.payload.len ≡ 0 → length owed ≡ 0
  served_nothing owed left p by y i e z = elim (split (ltb 0 (length owed))) [
    | inl t ↦ absurd (appends_some p y.payload by y.bytes (take y.commands owed) i.appends (omega (arith, tests, i.all e, length-take y.commands owed)) z)
    | inr t ↦ omega (arith, tests)
  ]

-- up to R of the last written commands, as many as fit beside the first new one, and the new ones
abbrev pub again_by : Book → ℕ → PayloadWriter → List ℕ → List Packet → List Packet
again_by b R p by [] = []
again_by b R p by (first ∷ others) = again_in b R p by first ++ (first ∷ others)

-- ---- new commands

-- what a write answers and leaves in the payload
pub data Out (wanted : List Packet) (p : PayloadWriter) (by : List ℕ) : Result Written Refusal → PayloadWriter → List ℕ → Type 0 where
  wrote : (n : ℕ) (more : Bool) (q : PayloadWriter) (by' : List ℕ) → p.len ≤ length by → Appends p by (take n wanted) q by' → n ≤ length wanted
      → (more ≡ true → NoRoom q by' (drop n wanted)) → (more ≡ false → n ≡ length wanted) → Out wanted p by (Ok record { commands = n; more = more }) q by'
  unchanged : (why : Refusal) → Out wanted p by (Err why) p by

abbrev pub OutOf : List Packet → PayloadWriter → List ℕ → WriteIn → Type 0
OutOf wanted p by a = Out wanted p by a.answer a.payload a.bytes

-- no repeats beside a first one that doesn't fit
repeats_none : (p : PayloadWriter) (by : List ℕ) (first : Packet) (cs : List Packet) → fit_all p by (first ∷ []) ≡ false → repeats_of p by first cs ≡ []
unfolding repeats_of sizes_of
repeats_none p by first [] e = refl
repeats_none p by first (c ∷ cs) e = let f : fit_all p by (first ∷ c ∷ cs) ≡ false = omega (arith, tests, lifts) in rw f (repeats_none p by first cs e)

module _ (cfg : StreamConfig) (time : ℕ) (d : Book) (sw : Short d.written) (su : Short d.unwritten) (owed : List Packet) (left : ℕ → List RetransmitRequest) (p : PayloadWriter) (by : List ℕ) (s : ServedIn) (i : Serves owed left p by s) (done : s.more ≡ false) (inside : p.len ≤ length by) where
  abbrev n : ℕ
  n = s.commands

  whole : n ≡ length owed
  whole = i.all done

  -- the row behind them
  row_out : (cs : List Packet) → Few cs → Out (owed ++ cs) p by
      (Ok record { commands = n + (row_of s.payload s.bytes cs).written; more = not (row_of s.payload s.bytes cs).whole }) (row_of s.payload s.bytes cs).payload (row_of s.payload s.bytes cs).bytes
  row_out cs f =
      let out = row_of s.payload s.bytes cs in
      let r = row_right cs s.payload s.bytes f i.valid in
      let a : Appends p by (take (n + out.written) (owed ++ cs)) out.payload out.bytes =
      rw (take_seam n out.written owed cs whole) (appends_more p s.payload out.payload by s.bytes out.bytes _ _ i.appends (row_appended cs s.payload s.bytes)) in
      let l = length-append owed cs in
      let w = whole in
      elim (split out.whole) [
        | inl t ↦
            rw t (wrote (n + out.written) false out.payload out.bytes inside a (omega (arith, r.all t)) (λ e. absurd (let z : ◌≡◌ {A = ℕ} 0 1 = cc in omega arith)) (λ e. omega (arith, r.all t)))
        | inr t ↦
            rw t (wrote (n + out.written) true out.payload out.bytes inside a (omega (arith, (r.left t).0)) (λ e. rw (drop_seam n out.written owed cs whole) (r.left t).1)
            (λ e. absurd (let z : ◌≡◌ {A = ℕ} 0 1 = cc in omega arith)))
      ]

  new_by_lem : (cs : List Packet) → Few cs → OutOf (owed ++ again_by d cfg.fec_repeats s.payload s.bytes cs) p by (new_by cfg time n d s.payload s.bytes cs)
  unfolding Few sizes_of
  new_by_lem [] f = rw append-nil (wrote n false s.payload s.bytes inside i.appends i.few (λ e. absurd (let z : ◌≡◌ {A = ℕ} 0 1 = cc in omega arith)) (λ e. whole))
  new_by_lem (first ∷ others) f =
      let q : PayloadWriter = s.payload in
      let again : List Packet = again_in d cfg.fec_repeats q s.bytes first in
      let j : ℕ = length d.written - min cfg.fec_repeats (length d.written) in
      let g : Few again = repeats_few q s.bytes first (written_from d j) (few_data (after (oldest_in d) j) (drop j d.written) (short_drop j d.written sw)) in
      elim (split (fit_all q s.bytes (first ∷ []))) [
        | inl t ↦ rw t (row_out (again ++ (first ∷ others)) (few_append again (first ∷ others) g f))
        | inr t ↦ rw (t, repeats_none q s.bytes first (written_from d j) t) (elim (split (eqb q.len 0)) [
          | inl z ↦
              let e = appends_empty p q by s.bytes _ i.appends (omega (arith, tests)) in
              rw (z, e.0, e.1) (unchanged TooLarge)
          | inr z ↦
              let l = length-append owed (first ∷ others) in
              let o : drop n (owed ++ (first ∷ others)) ≡ first ∷ others = drop_at owed (first ∷ others) n (sym whole) in
              rw z (wrote n true q s.bytes inside (rw (take-append-le n owed (first ∷ others) i.few) i.appends) (omega (arith, i.few))
              (λ e. rw o (omega (arith, tests))) (λ e. absurd (let z : ◌≡◌ {A = ℕ} 0 1 = cc in omega arith)))
        ])
      ]

  new_out : OutOf (owed ++ again_by d cfg.fec_repeats s.payload s.bytes (new_in d)) p by (new_written cfg time n d s.payload s.bytes)
  unfolding new_written
  new_out = new_by_lem (new_in d) (few_data _ d.unwritten su)

-- ---- the whole write

-- what stands behind the answers matters only where all of them are written
abbrev pub Behind : ℕ → StreamConfig → ℕ → Book → PayloadWriter → List ℕ → List Packet → Type 0
Behind c cfg time b p by rest =
    let s = served_in b b.waiting p by in
    let d : Book = idled_in c cfg time (with_waiting b s.waiting) in
    valid_of p (length by) ≡ true → s.more ≡ false → rest ≡ again_by d cfg.fec_repeats s.payload s.bytes (new_in d)

module _ (c : ℕ) (cfg : StreamConfig) (time : ℕ) (b : Book) (small : Small b) (p : PayloadWriter) (by : List ℕ) (rest : List Packet) (same : Behind c cfg time b p by rest) where
  written_out : valid_of p (length by) ≡ true → OutOf (owed_in b p by b.waiting ++ rest) p by (written_in c cfg time b p by)
  unfolding written_in
  written_out v =
      let s = served_in b b.waiting p by in
      let left : Book = with_waiting b s.waiting in
      let d : Book = idled_in c cfg time left in
      let owed : List Packet = owed_in b p by b.waiting in
      let i = serves b small b.waiting p by v in
      let l = length-append owed rest in
      elim (split s.more) [
        | inl t ↦
            rw t (wrote s.commands true s.payload s.bytes (valid_length p (length by) v) (rw (take-append-le s.commands owed rest i.few) i.appends) (omega (arith, i.few))
            (λ e. rw (drop-append-le s.commands owed rest i.few) (no_room_append s.payload s.bytes (drop s.commands owed) rest (i.cut t))) (λ e. absurd (let z : ◌≡◌ {A = ℕ} 0 1 = cc in omega arith)))
        | inr t ↦
            let k = idled_short c cfg time left small.written small.unwritten in
            rw (t, same v t) (new_out cfg time d k.0 k.1 owed (left_in b (turn_in b p by b.waiting)) p by s i t (valid_length p (length by) v))
      ]

  pub write_out_lem : OutOf (owed_in b p by b.waiting ++ rest) p by (write_in c cfg time b p by)
  unfolding write_in
  write_out_lem = on (check_of cfg) (valid_of p (length by)) refl
    where
      on : (k : Result ⊤ Refusal) (t : Bool) → valid_of p (length by) ≡ t → OutOf (owed_in b p by b.waiting ++ rest) p by (entry k t (refused b p by) (written_in c cfg time b p by))
      on (Err why) t v = unchanged why
      on (Ok _) false v = unchanged InvalidState
      on (Ok _) true v = written_out v

-- a payload that isn't empty is taken
abbrev pub NotRefused : WriteIn → Type 0
NotRefused a = (why : Refusal) → a.answer ≡ Err why → ⊥

module _ (c : ℕ) (cfg : StreamConfig) (time : ℕ) (b : Book) (small : Small b) (p : PayloadWriter) (by : List ℕ) (o : p.len ≡ 0 → ⊥) (v : valid_of p (length by) ≡ true) where
  new_taken : (n : ℕ) (d : Book) (q : PayloadWriter) (bq : List ℕ) → (q.len ≡ 0 → ⊥) → NotRefused (new_written cfg time n d q bq)
  unfolding new_written
  new_taken n d q bq k = go (new_in d)
    where
      go : (cs : List Packet) → NotRefused (new_by cfg time n d q bq cs)
      go [] = λ why e. let z : ◌≡◌ {A = ℕ} 0 1 = cc in omega arith
      go (first ∷ others) =
          by_cond NotRefused (not (fit_all q bq (first ∷ []))) _ _
          (λ over. by_cond NotRefused (eqb q.len 0) _ _ (λ empty why e. k (omega (arith, tests))) (λ more why e. let z : ◌≡◌ {A = ℕ} 0 1 = cc in omega arith))
          (λ fits why e. let z : ◌≡◌ {A = ℕ} 0 1 = cc in omega arith)

  pub write_taken : check_of cfg ≡ Ok tt → NotRefused (write_in c cfg time b p by)
  unfolding write_in written_in
  write_taken e =
      let s = served_in b b.waiting p by in
      let i = serves b small b.waiting p by v in
      let k : s.payload.len ≡ 0 → ⊥ = appends_on p s.payload by s.bytes _ i.appends o in
      rw (e, v) (by_cond NotRefused s.more _ _ (λ more why f. let z : ◌≡◌ {A = ℕ} 0 1 = cc in omega arith) (λ all. new_taken s.commands _ s.payload s.bytes k))

-- ---- payloads can hold what it has to write

pub encodable_take : (n : ℕ) (cs : List Packet) → AllEncodable cs → AllEncodable (take n cs)
unfolding AllEncodable
encodable_take zero cs h = tt
encodable_take (suc n) [] h = tt
encodable_take (suc n) (c ∷ cs) h = (h.0, encodable_take n cs h.1)

encodable_repeats : (p : PayloadWriter) (by : List ℕ) (first : Packet) (cs : List Packet) → AllEncodable cs → AllEncodable (repeats_of p by first cs)
unfolding repeats_of AllEncodable
encodable_repeats p by first [] h = tt
encodable_repeats p by first (c ∷ cs) h = by_cond AllEncodable (fit_all p by (first ∷ c ∷ cs)) _ _ (λ e. h) (λ e. encodable_repeats p by first cs h.1)

module _ (b : Book) (sw : Short b.written) (i : Book32 b) where
  pub written_encodable : (j : ℕ) → AllEncodable (written_from b j)
  written_encodable j = data_encodable (after (oldest_in b) j) (drop j b.written) (short_drop j b.written sw) (each_drop j b.written i.written)

  answer_encodable : (r : RetransmitRequest) → AllEncodable (answer_in b r)
  unfolding answer_in AllEncodable Words32
  answer_encodable r =
      by_cond AllEncodable (absent_in b r.seq) _ _ (λ absent. (record { few = omega arith; words32 = (omega arith, tt) }, tt))
      (λ held. encodable_take (reach_in b r) _ (written_encodable (index_in b r.seq)))

  pub answers_encodable : (rs : List RetransmitRequest) → AllEncodable (answers_in b rs)
  unfolding answers_in AllEncodable
  answers_encodable [] = tt
  answers_encodable (r ∷ rs) = all_encodable_append (answer_in b r) (answers_in b rs) (answer_encodable r) (answers_encodable rs)

  pub again_encodable : (R : ℕ) (p : PayloadWriter) (by : List ℕ) (cs : List Packet) → AllEncodable cs → AllEncodable (again_by b R p by cs)
  again_encodable R p by [] h = h
  again_encodable R p by (first ∷ others) h =
      all_encodable_append (again_in b R p by first) (first ∷ others) (encodable_repeats p by first _ (written_encodable (length b.written - min R (length b.written)))) h

-- ---- counted

pub same_amount : (n m : ℕ) (x y : Bool) → ◌≡◌ {A = Result Amount Refusal} (Ok record { commands = n; more = x }) (Ok record { commands = m; more = y }) → (n ≡ m) × (x ≡ y)
same_amount n m x y e =
    let f : ◌≡◌ {A = Amount} record { commands = n; more = x } record { commands = m; more = y } = cc in
    (ap (λ (a : Amount). a.commands) f, ap (λ (a : Amount). a.more) f)

pub counts : (wanted : List Packet) (p : PayloadWriter) (by : List ℕ) (a : Result Written Refusal) (q : PayloadWriter) (by' : List ℕ)
    → ((n : ℕ) (x : Bool) → a ≡ Ok record { commands = n; more = x } → AllEncodable (take n wanted)) → Out wanted p by a q by' → CountedIn wanted p by a q by'
counts wanted p by a q by' h (wrote n x _ _ l ap' few left all) = record {
  kept = appends_kept p by l q by' (take n wanted) ap';
  found = λ m y e. appends_items p by l q by' (take n wanted) (h n x refl) ap' ∙ ap (λ (k : ℕ). placed (start_of p) (take k wanted)) (same_amount n m x y e).0;
  counted = λ m y e. let s = same_amount n m x y e in rw (← s.0) (length-take-le n wanted few);
  reads = λ held j b m y e. let s = same_amount n m x y e in rw (← s.0) (appends_reads p q by by' (take n wanted) held l ap' (h n x refl) j b);
  more = λ m e. let s = same_amount n m x true e in rw (← s.0) (left s.1);
  no_more = λ m e. let s = same_amount n m x false e in rw (← s.0) (take_all n wanted (omega (arith, all s.1)));
  refused = λ why e. absurd (let z : ◌≡◌ {A = ℕ} 0 1 = cc in omega arith);
}
counts wanted p by a q by' h (unchanged why) = record {
  kept = refl;
  found = λ m y e. absurd (let z : ◌≡◌ {A = ℕ} 0 1 = cc in omega arith);
  counted = λ m y e. absurd (let z : ◌≡◌ {A = ℕ} 0 1 = cc in omega arith);
  reads = λ held j b m y e. absurd (let z : ◌≡◌ {A = ℕ} 0 1 = cc in omega arith);
  more = λ m e. absurd (let z : ◌≡◌ {A = ℕ} 0 1 = cc in omega arith);
  no_more = λ m e. absurd (let z : ◌≡◌ {A = ℕ} 0 1 = cc in omega arith);
  refused = λ why' e. (refl, refl);
}
