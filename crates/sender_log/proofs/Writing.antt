-- A write follows the book.
use mathlib.Core.Path.{◌≡◌, refl, sym, ap, ◌∙◌, subst}
use Rattle.std.proofs.Common.{Option, Some, Result, Ok, Err}
use Rattle.config.specs.declared.refusal.Refusal.{Refusal}
use Rattle.idle.specs.declared.idle.Idle.{Idle}
use Rattle.std.specs.Bool.{⊤}
use mathlib.Core.Bool.{Bool, true, false, cond, not}
use mathlib.Core.List.{List, [], ◌∷◌, ◌++◌, append_assoc}
use Prim.Native.Nat.{ℕ, ◌+◌, ◌-◌, ◌≤◌, min}
use native.Mathlib.Omega.{arith}
use lib.Dec.{eqb}
use lib.ListN.{length, take, drop, length-append, length-drop, take-append-drop}
use lib.Seq.{drop_at, take_all}
use Rattle.config.specs.Entry.{entry}
use Rattle.config.specs.Sequence.{after}
use Rattle.config.specs.Settings.{check_of}
use Rattle.config.specs.Time.{later}
use Rattle.config.specs.declared.refusal.Refusal.TheVariants.{TooLarge}
use Rattle.config.specs.declared.settings.StreamConfig.{StreamConfig}
use Rattle.packet.specs.Layout.{Packet}
use Rattle.packet.specs.Write.{valid_of as payload_valid}
use Rattle.packet.specs.declared.writer.PayloadWriter.{PayloadWriter}
use Rattle.command.specs.declared.retransmit.RetransmitRequest.{RetransmitRequest}
use Rattle.history.specs.Headers.{header_at, words_from}
use Rattle.history.specs.Entries.{size, Holds}
use Rattle.history.proofs.Flat.{size_append}
use Rattle.idle.specs.Schedule.{idle_ok}
use Rattle.rows.specs.Rows.{Row, row_of, packets_from, fit_all, any_words}
use Rattle.rows.proofs.Filling.{row_few}
use Rattle.sender.specs.Requests.{written_count}
use Rattle.writing.specs.Writing.{commands_at, Served, served_in, served_of, idled_of, idle_after, written_off, wrote, refused, new_by, new_of, written_by}
use Rattle.writing.specs.Answers.{write_refused, write_answer}
use Rattle.sender.specs.declared.sender.Sender.{Sender}
use Rattle.writing.specs.declared.writing.Wrote.{Wrote}
use Rattle.sender_log.specs.Book.{Book, oldest_in, with_waiting}
use Rattle.sender_log.specs.Writes.{data_from, written_from, new_in, ServedIn, served_in as served_by, idled_in, again_in, written_on, WriteIn, wrote as wrote_in, refused as refused_in, new_by as new_by_in, new_written, written_in, write_in}
use Rattle.sender_log.specs.Calls.{TypedConfig}
use Rattle.sender_log.proofs.Packets.{length_data, take_data, packets_data, words_data}
use Rattle.sender_log.proofs.Ties.{Follows, follows_valid, written_count_lem, waiting_count}
use Rattle.sender_log.proofs.Serving.{commands_written, Serves, served_follows}
use Rattle.sender_log.proofs.Idling.{idled_follows}

-- ---- new commands

after_ok : (cfg : StreamConfig) (time : ℕ) (cs : List Packet) (i : Option Idle) → idle_ok i ≡ true → idle_ok (idle_after cfg time cs i) ≡ true
after_ok cfg time cs i e = on (any_words cs)
  where
    on : (t : Bool) → idle_ok (cond t (Some record { due = later time cfg.idle_interval_ms; step = 0; interval = cfg.idle_interval_ms }) i) ≡ true
    on true = refl
    on false = e

module _ (c q : ℕ) (s : Sender) (ring : List ℕ) (b : Book) (f : Follows c q s ring b) where
  -- the first k unwritten commands
  new_parts : (k : ℕ) → k ≤ length b.unwritten
      → (packets_from k ring (header_at (written_count s) ring s.history.head) ≡ take k (new_in b))
      × (words_from k ring (header_at (written_count s) ring s.history.head) ≡ size (take k b.unwritten))
  new_parts k l =
      let es : List (List ℕ) = b.written ++ b.unwritten in
      let n = written_count_lem c q s ring b f in
      let m = f.holds.many ∙ length-append b.written b.unwritten in
      let d : drop (written_count s) es ≡ b.unwritten = drop_at b.written b.unwritten (written_count s) (sym n) in
      let o : after s.history.oldest (written_count s) ≡ after (oldest_in b) (length b.written) = cc f.oldest in (
        packets_data s.history ring es f.holds k (written_count s) (omega arith)
            ∙ ap (λ (x : List (List ℕ)). data_from (after s.history.oldest (written_count s)) (take k x)) d
            ∙ ap (λ (x : ℕ). data_from x (take k b.unwritten)) o
            ∙ sym (take_data k (after (oldest_in b) (length b.written)) b.unwritten),
        words_data s.history ring es f.holds k (written_count s) (omega arith) ∙ ap (λ (x : List (List ℕ)). size (take k x)) d,
      )

  new_length : length (new_in b) ≡ length b.unwritten
  new_length = length_data (after (oldest_in b) (length b.written)) b.unwritten

  new_same : commands_at s ring (written_count s) s.unsent ≡ new_in b
  new_same = (new_parts s.unsent (omega (arith, f.unsent))).0 ∙ take_all s.unsent (new_in b) (omega (arith, f.unsent, new_length))

  -- up to R of the last written ones
  again_same : (R : ℕ) → commands_at s ring (written_count s - min R (written_count s)) (min R (written_count s)) ≡ written_from b (length b.written - min R (length b.written))
  again_same R =
      let w : ℕ = length b.written in
      let j : ℕ = w - min R w in
      let l : length (written_from b j) ≡ w - j = length_data (after (oldest_in b) j) (drop j b.written) ∙ length-drop j b.written in
      ap (λ (n : ℕ). commands_at s ring (n - min R n) (min R n)) (written_count_lem c q s ring b f)
      ∙ commands_written c q s ring b f j (min R w) (omega arith)
      ∙ take_all (min R w) (written_from b j) (omega arith)

  -- n of the unwritten ones are written
  off_follows : (cfg : StreamConfig) (time n : ℕ) → n ≤ length b.unwritten → Follows c q (written_off s cfg time ring n) ring (written_on cfg time n b)
  unfolding written_off written_on
  off_follows cfg time n l =
      let u : List (List ℕ) = b.unwritten in
      let p = new_parts n l in
      let t = take-append-drop n u in
      let e : b.written ++ u ≡ (b.written ++ take n u) ++ drop n u = ap (λ (x : List (List ℕ)). b.written ++ x) (sym t) ∙ sym (append_assoc b.written (take n u) (drop n u)) in
      record {
        least = f.least;
        most = f.most;
        one_place = f.one_place;
        few_places = f.few_places;
        words = f.words;
        places = f.places;
        holds = subst (Holds s.history ring) e f.holds;
        oldest = f.oldest;
        unsent = omega (arith, f.unsent, length-drop n u);
        unsent_words = omega (arith, f.unsent_words, p.1, size_append (take n u) (drop n u), ap size t);
        fit = f.fit;
        items = f.items;
        requests = f.requests;
        idle = ap (λ (x : List Packet). idle_after cfg time x s.idle) p.0 ∙ ap (idle_after cfg time (take n (new_in b))) f.idle;
        step = after_ok cfg time _ s.idle f.step;
      }

  abbrev News : Wrote × List ℕ → WriteIn → Type 0
  News h a = Follows c q h.0.sender ring a.book × (h.0.answer ≡ a.answer) × (h.0.payload ≡ a.payload) × (h.1 ≡ a.bytes)

  module _ (cfg : StreamConfig) (time n : ℕ) (p : PayloadWriter) (by : List ℕ) where
    -- the first doesn't fit, or is written with those that do
    new_row_lem : (fits empty : Bool) (again : ℕ) (out : Row) → out.written ≤ again + length b.unwritten
        → News
        (cond (not fits) (cond empty (refused s p) (wrote s p n true), by)
        (wrote (written_off s cfg time ring (out.written - again)) out.payload (n + out.written) (not out.whole), out.bytes))
        (cond (not fits) (cond empty (refused_in b p by TooLarge) (wrote_in b p by n true))
        (wrote_in (written_on cfg time (out.written - again) b) out.payload out.bytes (n + out.written) (not out.whole)))
    new_row_lem false true again out l = (f, refl, refl, refl)
    new_row_lem false false again out l = (f, refl, refl, refl)
    new_row_lem true empty again out l = (off_follows cfg time (out.written - again) (omega arith), refl, refl, refl)

    new_by_lem : (cs : List Packet) → length cs ≡ length b.unwritten → News (new_by s cfg time n p by ring cs) (new_by_in cfg time n b p by cs)
    new_by_lem [] e = (f, refl, refl, refl)
    new_by_lem (first ∷ others) e =
        let again : List Packet = again_in b cfg.fec_repeats p by first in
        let l = row_few (again ++ (first ∷ others)) p by in
        let m = length-append again (first ∷ others) in
        rw (again_same cfg.fec_repeats)
        (new_row_lem (fit_all p by (first ∷ [])) (eqb p.len 0) (length again) (row_of p by (again ++ (first ∷ others))) (omega arith))

    new_follows : News (new_of s cfg time n p by ring) (new_written cfg time n b p by)
    unfolding new_of new_written
    new_follows = rw new_same (new_by_lem (new_in b) new_length)

-- ---- the whole write

module _ (c q : ℕ) (ring : List ℕ) (b : Book) (cfg : StreamConfig) (typed : TypedConfig cfg) (time : ℕ) where
  abbrev Writes : Wrote × List ℕ × List ℕ → WriteIn → Type 0
  Writes h a = Follows c q h.0.sender h.2 a.book × (h.0.answer ≡ a.answer) × (h.0.payload ≡ a.payload) × (h.1 ≡ a.bytes)

  -- after the retransmits
  rest_written : (s : Sender) (rs : List RetransmitRequest) (p : PayloadWriter) (by : List ℕ) (n : ℕ) (more : Bool) → Follows c q s ring (with_waiting b rs)
      → Writes
      (cond more (wrote s p n true, by, ring)
      ((new_of (idled_of s cfg time ring).0 cfg time n p by (idled_of s cfg time ring).1).0, (new_of (idled_of s cfg time ring).0 cfg time n p by (idled_of s cfg time ring).1).1, (idled_of s cfg time ring).1))
      (cond more (wrote_in (with_waiting b rs) p by n true) (new_written cfg time n (idled_in c cfg time (with_waiting b rs)) p by))
  rest_written s rs p by n true f = (f, refl, refl, refl)
  rest_written s rs p by n false f =
      new_follows c q (idled_of s cfg time ring).0 (idled_of s cfg time ring).1 (idled_in c cfg time (with_waiting b rs)) (idled_follows c q s ring (with_waiting b rs) f cfg typed time) cfg time n p by

  written_by_lem : (x : Served) (y : ServedIn) → Serves c q ring b x y
      → Writes
      (cond x.more (wrote x.sender x.payload x.written true, x.bytes, ring) (
        (new_of (idled_of x.sender cfg time ring).0 cfg time x.written x.payload x.bytes (idled_of x.sender cfg time ring).1).0,
        (new_of (idled_of x.sender cfg time ring).0 cfg time x.written x.payload x.bytes (idled_of x.sender cfg time ring).1).1,
        (idled_of x.sender cfg time ring).1,
      ))
      (cond y.more (wrote_in (with_waiting b y.waiting) y.payload y.bytes y.commands true)
      (new_written cfg time y.commands (idled_in c cfg time (with_waiting b y.waiting)) y.payload y.bytes))
  written_by_lem x y i = rw i.same (rest_written x.sender i.left x.payload x.bytes x.written x.more i.follows)

  served_whole : (s : Sender) (p : PayloadWriter) (by : List ℕ) → Follows c q s ring b → Serves c q ring b (served_of s ring p by) (served_by b b.waiting p by)
  unfolding served_of
  served_whole s p by f =
      subst (λ (n : ℕ). Serves c q ring b (served_in n s ring p by) (served_by b b.waiting p by)) (sym (waiting_count c q s ring b f)) (served_follows b.waiting c q ring b s p by f)

  written_follows : (s : Sender) (p : PayloadWriter) (by : List ℕ) → Follows c q s ring b → Writes (written_by s cfg time p by ring) (written_in c cfg time b p by)
  unfolding written_by written_in
  written_follows s p by f = written_by_lem (served_of s ring p by) (served_by b b.waiting p by) (served_whole s p by f)

pub write_follows : (c q : ℕ) (s : Sender) (ring : List ℕ) (b : Book) → Follows c q s ring b → (cfg : StreamConfig) → TypedConfig cfg → (time : ℕ) (p : PayloadWriter) (by : List ℕ)
    → Follows c q (write_answer s cfg time p by ring).0.sender (write_answer s cfg time p by ring).2 (write_in c cfg time b p by).book
    × ((write_answer s cfg time p by ring).0.answer ≡ (write_in c cfg time b p by).answer)
    × ((write_answer s cfg time p by ring).0.payload ≡ (write_in c cfg time b p by).payload)
    × ((write_answer s cfg time p by ring).1 ≡ (write_in c cfg time b p by).bytes)
unfolding write_answer write_in
write_follows c q s ring b f cfg typed time p by = rw (follows_valid c q s ring b f) (on (check_of cfg) (payload_valid p (length by)))
  where
    on : (k : Result ⊤ Refusal) (v : Bool) → Writes c q ring b cfg typed time
        (entry k v (write_refused s p by ring) (written_by s cfg time p by ring))
        (entry k v (refused_in b p by) (written_in c cfg time b p by))
    on (Err why) v = (f, refl, refl, refl)
    on (Ok _) false = (f, refl, refl, refl)
    on (Ok _) true = written_follows c q ring b cfg typed time s p by f
