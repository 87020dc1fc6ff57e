-- The book agrees, after every call, with what was ever opened, asked for and scheduled by the log.
use mathlib.Core.Path.{◌≡◌, refl, sym, ap, ◌∙◌, subst}
use Rattle.std.proofs.Common.{Option, Some, Result, Ok, Err}
use Rattle.idle.specs.declared.idle.Idle.{Idle}
use Rattle.std.specs.Bool.{⊤}
use mathlib.Core.Logic.{inl, inr}
use mathlib.Core.Bool.{Bool, true, false, cond, not, ◌&&◌, ◌||◌}
use mathlib.Core.List.{List, [], ◌∷◌, ◌++◌, append-nil, append_assoc}
use Prim.Native.Nat.{ℕ, zero, suc, ◌+◌, ◌-◌, ◌%◌, ◌≤◌}
use native.Mathlib.Omega.{arith}
use native.Mathlib.Numerals.{add-one}
use lib.Dec.{ltb, leb, eqb}
use lib.ListN.{length, take, drop, length-append, take-append-drop}
use Rattle.config.specs.Entry.{entry}
use Rattle.config.specs.Range.{outside}
use Rattle.config.specs.Refusals.{number_of}
use Rattle.config.specs.Sequence.{turn, after}
use Rattle.config.specs.Settings.{check_of}
use Rattle.config.specs.declared.refusal.Refusal.{Refusal}
use Rattle.config.specs.declared.refusal.Refusal.TheVariants.{CommandWords, IdleInterval, IdleGrowth, InvalidState}
use Rattle.config.specs.declared.settings.StreamConfig.{StreamConfig}
use Rattle.config.specs.inner.Tests.{split, tests, lifts, and_left, ltb_not_leb}
use Rattle.config.specs.Time.{later}
use Rattle.packet.specs.Layout.{Packet}
use Rattle.packet.specs.Write.{valid_of as payload_valid}
use Rattle.packet.specs.declared.writer.PayloadWriter.{PayloadWriter}
use Rattle.command.specs.Messages.{words_in}
use Rattle.command.specs.declared.retransmit.RetransmitRequest.{RetransmitRequest}
use Rattle.history.specs.Entries.{size, kept}
use Rattle.history.specs.Queue.{asks}
use Rattle.history.proofs.Flat.{size_append, size_one, size_first}
use Rattle.idle.specs.Schedule.{idle_next}
use Rattle.rows.specs.Rows.{row_of, fit_all, any_words}
use Rattle.fronts.specs.Commands.{front, behind, commands_of}
use Rattle.sender.specs.Queueing.{words_check}
use Rattle.sender.specs.Answers.{new_answer}
use Rattle.sender.specs.declared.sender.Sender.{Sender}
use Rattle.fronts.proofs.Fronts.{Divides, part_of, divides_behind, front_nil, commands_nil}
use Rattle.sender.proofs.Parts.{front_behind, commands_parts}
use Rattle.sender.proofs.Queued.{check_divides, settings_few}
use Rattle.sender_log.specs.Book.{Book, nothing, oldest_in, freed, with_unwritten, pushed_in, pushed_all_in, joined_last, joined_in, room_in, need_in, queued_in, QueueIn, sent_in, absent_in, RequestIn, requested_in, with_waiting}
use Rattle.sender_log.specs.Writes.{data_from, answer_in, new_in, is_empty, with_idle, idled_by, idled_in, written_on, WriteIn, new_by, new_written, served_in, ServedIn, refused, written_in, write_in}
use Rattle.sender_log.specs.Calls.{Call, queue_words, retransmit_request, write, Entry, step_of, run_from, run, AllTyped}
use Rattle.sender_log.specs.Answers.{told_of, book_from, book_of}
use Rattle.sender_log.specs.Promise.{Kept, Started}
use Rattle.sender_log.specs.Added.{added_in, opens_in}
use Rattle.sender_log.specs.Schedule.{Schedule, none, since, Queued, step_after, last_at, all_queued, timer_of, is_due, one_more_at}
use Rattle.sender_log.specs.Opened.{Past, longest_end, newest}
use Rattle.sender_log.specs.Requests.{in_turn, left_after}
use Rattle.sender_log.specs.Past.{queued_on, with_requests, requested_on, count_of, changes, idled_on, served_on, wrote_on, past_after, past_in, past_of, HeldIn, Held}
use Rattle.sender_log.proofs.Newest.{size_joined as size_newest, joined_nothing}
use Rattle.sender_log.proofs.Idling.{size_none}
use Rattle.sender_log.proofs.Packets.{take_data}
use Rattle.sender_log.proofs.More.{Small, follows_small}
use Rattle.config.specs.inner.Choices.{by_check, by_cond}
use Rattle.sender_log.proofs.Words.{length_kept, Book32, call_32, nothing_32}
use Rattle.sender_log.proofs.Counting.{turn_in, owed_in, left_in, left_none, serves, served_nothing}
use Rattle.sender_log.proofs.Opening.{written_count, write_opens}
use Rattle.sender_log.proofs.Opened.{newest_append, newest_kept, Agrees, held_is, oldest_is, turn_is, left_is}
use Rattle.sender_log.proofs.Follows.{Follows, start_follows}
use Rattle.sender_log.proofs.Runs.{step_ok, run_ok, reached}

size_joins : (max : ℕ) (xs : List ℕ) (us : List (List ℕ)) → length xs ≤ room_in max us → size (joined_last us xs) ≡ size us + length xs
unfolding room_in joined_last size
size_joins max xs [] l = omega arith
size_joins max xs (u ∷ us) l = size_newest u us xs

abbrev with_open : Past → List (List ℕ) → Past
with_open x us = record { written = x.written; unwritten = us; waiting = x.waiting; schedule = x.schedule }

module _ (c : ℕ) where
  -- other commands are unwritten, which need so many words more
  grown_agrees : (b : Book) (x : Past) → Agrees c b x → (need : ℕ) (us : List (List ℕ)) → size us ≡ size b.unwritten + need → size us ≤ c
      → Agrees c (with_unwritten (freed c need b) us) (with_open x us)
  unfolding freed
  grown_agrees b x i need us e l =
      let room : ℕ = c - size b.unwritten in
      let stay : kept room need b.written ≡ newest (c - size us) x.written =
      ap (kept room need) i.written ∙ sym (newest_kept room need x.written (omega arith)) ∙ ap (λ (n : ℕ). newest n x.written) (omega arith) in
      record { unwritten = refl; fits = l; written = stay; first = omega (arith, i.first, length_kept room need b.written); waiting = i.waiting; idle = i.idle }

  -- ---- queueing

  pushed_agrees : (ws : List ℕ) (b : Book) (x : Past) → Agrees c b x → 1 + length ws + size b.unwritten ≤ c
      → Agrees c (pushed_in c ws b) (with_open x (b.unwritten ++ (ws ∷ [])))
  unfolding pushed_in freed
  pushed_agrees ws b x i l =
      let e : size (b.unwritten ++ (ws ∷ [])) ≡ size b.unwritten + (1 + length ws) = size_append b.unwritten (ws ∷ []) ∙ omega (arith, size_one ws) in
      grown_agrees b x i (1 + length ws) (b.unwritten ++ (ws ∷ [])) e (omega arith)

  pushed_all_agrees : (wss : List (List ℕ)) (b : Book) (x : Past) → Agrees c b x → size wss + size b.unwritten ≤ c
      → Agrees c (pushed_all_in c wss b) (with_open x (b.unwritten ++ wss))
  unfolding pushed_all_in pushed_in
  pushed_all_agrees [] b x i l = rw append-nil record { unwritten = refl; fits = i.fits; written = i.written; first = i.first; waiting = i.waiting; idle = i.idle }
  pushed_all_agrees (ws ∷ wss) b x i l =
      let z = size_first ws wss in
      rw (append_assoc b.unwritten (ws ∷ []) wss) at
      (pushed_all_agrees wss (pushed_in c ws b) (with_open x (b.unwritten ++ (ws ∷ []))) (pushed_agrees ws b x i (omega arith))
      (omega (arith, size_append b.unwritten (ws ∷ []), size_one ws)))

  joined_agrees : (max : ℕ) (xs : List ℕ) (b : Book) (x : Past) → Agrees c b x → length xs ≤ room_in max b.unwritten → length xs + size b.unwritten ≤ c
      → Agrees c (joined_in c xs b) (with_open x (joined_last b.unwritten xs))
  unfolding joined_in freed
  joined_agrees max xs b x i l r = grown_agrees b x i (length xs) (joined_last b.unwritten xs) (size_joins max xs b.unwritten l) (omega (arith, size_joins max xs b.unwritten l))

  queued_agrees : (max : ℕ) (ws : List ℕ) (b : Book) (x : Past) → Agrees c b x → max ≤ 64 → Divides max ws → need_in max ws b + size b.unwritten ≤ c
      → Agrees c (queued_in c max ws b) (queued_on x max ws (Ok tt))
  unfolding queued_in joined_in
  queued_agrees max ws b x i m d l =
      let n : ℕ = room_in max b.unwritten in
      let p = part_of n ws d.whole in
      let q = commands_parts max (behind n ws) (divides_behind max n ws d) m in
      let z = size_joins max (front n ws) b.unwritten p.few in
      let long : length ws ≡ length (front n ws) + length (behind n ws) = sym (ap length (front_behind max n ws d)) ∙ length-append (front n ws) (behind n ws) in
      rw (← i.unwritten)
      (pushed_all_agrees (commands_of max (behind n ws)) (joined_in c (front n ws) b) (with_open x (joined_last b.unwritten (front n ws))) (joined_agrees max (front n ws) b x i p.few (omega arith))
      (omega (arith, q.0)))

  nothing_queued : (b : Book) (x : Past) → Agrees c b x → (max : ℕ) (ws : List ℕ) → length ws ≡ 0 → Agrees c b (queued_on x max ws (Ok tt))
  unfolding behind
  nothing_queued b x i max [] l = rw (front_nil, commands_nil, append-nil, joined_nothing) i
  nothing_queued b x i max (w ∷ ws) l = absurd (let z : ⊥ = omega arith in z)

  -- the words of a queue call that isn't refused
  sent_agrees : (b : Book) (cfg : StreamConfig) (ws : List ℕ) (x : Past) → Agrees c b x
      → Agrees c (sent_in c b cfg ws).book (queued_on x cfg.max_command_words ws (sent_in c b cfg ws).answer)
  unfolding sent_in
  sent_agrees b cfg ws x i =
      by_check Fine (check_of cfg) _ _ (λ why. i) (λ passed.
      by_cond Fine (eqb (length ws) 0) _ _ (λ none. nothing_queued b x i cfg.max_command_words ws (omega (arith, tests))) (λ some.
      by_check Fine (words_check cfg.max_command_words ws) _ _ (λ why. i) (λ divides.
      by_cond Fine (ltb (c - size b.unwritten) (need_in cfg.max_command_words ws b)) _ _ (λ full. i) (λ fits.
      queued_agrees cfg.max_command_words ws b x i (settings_few cfg passed) (check_divides _ ws divides) (omega (arith, tests, i.fits))))))
    where
      Fine : QueueIn → Type 0
      Fine q = Agrees c q.book (queued_on x cfg.max_command_words ws q.answer)

  -- ---- a request

  requested_agrees : (q : ℕ) (b : Book) (cfg : StreamConfig) (r : RetransmitRequest) (x : Past) → Agrees c b x
      → Agrees c (requested_in q b cfg r).book (requested_on x r (requested_in q b cfg r).outcome)
  unfolding requested_in
  requested_agrees q b cfg r x i =
      by_check Fine (check_of cfg) _ _ (λ why. i) (λ passed.
      by_cond Fine (not cfg.retransmit) _ _ (λ off. i) (λ on.
      by_cond Fine (absent_in b r.seq) _ _ (λ absent. i) (λ there.
      by_cond Fine (asks b.waiting r.seq) _ _ (λ pending. i) (λ new.
      by_cond Fine (leb q (length b.waiting)) _ _ (λ full. i) (λ room.
      record { unwritten = i.unwritten; fits = i.fits; written = i.written; first = i.first; waiting = ap (λ (rs : List RetransmitRequest). rs ++ (r ∷ [])) i.waiting; idle = i.idle })))))
    where
      Fine : RequestIn → Type 0
      Fine a = Agrees c a.book (requested_on x r a.outcome)

-- ---- idle commands

either_one : (e l g : Bool) → l ≡ not g → (not e || l) ≡ not (e && g)
either_one true l g h = h
either_one false l g h = refl

empty_nothing : (us : List (List ℕ)) → is_empty us ≡ true → us ≡ []
empty_nothing [] e = refl
empty_nothing (u ∷ us) e = absurd (let z : ◌≡◌ {A = ℕ} 0 1 = cc in omega arith)

-- one more is queued
next_timer : (cfg : StreamConfig) (time t0 T1 d : ℕ) (ks : List Queued)
    → idle_next cfg time record { due = d; step = length ks; interval = step_after T1 ks } ≡ timer_of (one_more_at cfg time (since t0 T1 ks))
unfolding idle_next timer_of step_after
next_timer cfg time t0 T1 d ks =
    let n : ℕ = suc (length ks) in
    let R : ℕ = cfg.fec_repeats in
    let most : ℕ = 1 + R + cfg.idle_further in
    rw (add-one (length ks)) (elim (split (leb n R)) [
      | inl t ↦
          let u : leb most n ≡ false = omega (arith, tests, lifts) in
          let v : ltb R n ≡ false = omega (arith, tests, lifts) in
          rw (t, u, v)
      | inr t ↦
          let v : ltb R n ≡ true = omega (arith, tests, lifts) in
          elim (split (ltb n most)) [
            | inl w ↦ let u : leb most n ≡ false = omega (arith, tests, lifts) in rw (t, u, v, w)
            | inr w ↦ let u : leb most n ≡ true = omega (arith, tests, lifts) in rw (t, u, w)
          ]
    ])

module _ (c : ℕ) (some : 1 ≤ c) (cfg : StreamConfig) (time : ℕ) (b : Book) (x : Past) (i : Agrees c b x) where
  abbrev opened_by : Bool → Schedule → Past
  opened_by t s = cond t (record { written = x.written; unwritten = [] ∷ []; waiting = x.waiting; schedule = one_more_at cfg time s }) x

  never_due : (e : Bool) (s : Schedule) → Agrees c b (opened_by (e && false) s)
  never_due true s = i
  never_due false s = i

  due_agrees : (t0 T1 d : ℕ) (ks : List Queued)
      → Agrees c (idled_by c cfg time b (Some record { due = d; step = length ks; interval = step_after T1 ks })) (opened_by (is_empty x.unwritten && leb d time) (since t0 T1 ks))
  unfolding pushed_in freed
  due_agrees t0 T1 d ks =
      let same : (not (is_empty b.unwritten) || ltb time d) ≡ not (is_empty x.unwritten && leb d time) =
      ap (λ (us : List (List ℕ)). not (is_empty us) || ltb time d) i.unwritten ∙ either_one (is_empty x.unwritten) _ _ (ltb_not_leb time d) in
      rw same (by (is_empty x.unwritten && leb d time) refl)
    where
      by : (t : Bool) → (is_empty x.unwritten && leb d time) ≡ t
          → Agrees c (cond (not t) b (with_idle (pushed_in c [] b) (idle_next cfg time record { due = d; step = length ks; interval = step_after T1 ks }))) (opened_by t (since t0 T1 ks))
      by false e = i
      by true e =
          let empty : b.unwritten ≡ [] = i.unwritten ∙ empty_nothing x.unwritten (and_left (is_empty x.unwritten) _ e) in
          let z : size b.unwritten ≡ 0 = size_none b.unwritten (ap length empty) in
          let p = pushed_agrees c [] b x i (omega arith) in
          record {
            unwritten = ap (λ (us : List (List ℕ)). us ++ ([] ∷ [])) empty;
            fits = p.fits;
            written = p.written;
            first = p.first;
            waiting = p.waiting;
            idle = next_timer cfg time t0 T1 d ks;
          }

  timer_agrees : (s : Schedule) → Agrees c (idled_by c cfg time b (timer_of s)) (opened_by (is_empty x.unwritten && is_due time (timer_of s)) s)
  unfolding timer_of
  timer_agrees none = never_due (is_empty x.unwritten) none
  timer_agrees (since t0 T1 ks) = elim (split (all_queued ks)) [
    | inl e ↦ rw e (never_due (is_empty x.unwritten) (since t0 T1 ks))
    | inr e ↦ rw e (due_agrees t0 T1 (later (last_at t0 ks) (step_after T1 ks)) ks)
  ]

  pub idled_agrees : Agrees c (idled_in c cfg time b) (idled_on x cfg time)
  unfolding idled_in
  idled_agrees = subst (λ (t : Option Idle). Agrees c (idled_by c cfg time b t) (idled_on x cfg time)) (sym i.idle) (timer_agrees x.schedule)

idled_written : (x : Past) (cfg : StreamConfig) (time : ℕ) → (idled_on x cfg time).written ≡ x.written
idled_written x cfg time = by_cond (λ (y : Past). y.written ≡ x.written) (is_empty x.unwritten && is_due time (timer_of x.schedule)) _ _ (λ e. refl) (λ e. refl)

-- ---- commands written

take_taken : {A : Type 0} (m : ℕ) (xs : List A) → (take (length (take m xs)) xs ≡ take m xs) × (drop (length (take m xs)) xs ≡ drop m xs)
take_taken zero xs = (refl, refl)
take_taken (suc m) [] = (refl, refl)
take_taken {A} (suc m) (x ∷ xs) = (ap (λ (ys : List A). x ∷ ys) (take_taken m xs).0, (take_taken m xs).1)

any_words_lem : (k : ℕ) (us : List (List ℕ)) → any_words (data_from k us) ≡ ltb 0 (length (words_in us))
unfolding any_words data_from words_in
any_words_lem k [] = refl
any_words_lem k (u ∷ us) =
    let l = length-append u (words_in us) in
    rw (any_words_lem (after k 1) us) (elim (split (ltb 0 (length u))) [
      | inl t ↦ let v : ltb 0 (length (u ++ words_in us)) ≡ true = omega (arith, tests, lifts) in rw (t, v)
      | inr t ↦ let v : length (u ++ words_in us) ≡ length (words_in us) = omega (arith, tests) in rw (t, v)
    ])

module _ (c : ℕ) (b : Book) (x : Past) (i : Agrees c b x) (cfg : StreamConfig) (time : ℕ) where
  -- none are
  same_agrees : (n : ℕ) → n ≡ 0 → Agrees c b (wrote_on x cfg time n)
  unfolding words_in
  same_agrees n e = rw (e, append-nil) i

  starts : (t : Bool) → cond t (Some record { due = later time cfg.idle_interval_ms; step = 0; interval = cfg.idle_interval_ms }) b.idle
      ≡ timer_of (cond t (since time cfg.idle_interval_ms []) x.schedule)
  unfolding timer_of step_after
  starts true = refl
  starts false = i.idle

  wrote_agrees : (m n : ℕ) → n ≡ length (take m b.unwritten) → Agrees c (written_on cfg time m b) (wrote_on x cfg time n)
  unfolding written_on
  wrote_agrees m n e =
      let us : List (List ℕ) = b.unwritten in
      let t : take m us ≡ take n x.unwritten = sym (take_taken m us).0 ∙ ap (λ (k : ℕ). take k us) (sym e) ∙ ap (take n) i.unwritten in
      let d : drop m us ≡ drop n x.unwritten = sym (take_taken m us).1 ∙ ap (λ (k : ℕ). drop k us) (sym e) ∙ ap (drop n) i.unwritten in
      let s : size us ≡ size (take m us) + size (drop m us) = ap size (sym (take-append-drop m us)) ∙ size_append (take m us) (drop m us) in
      let l = i.fits in
      let room : c - size (drop m us) - size (take m us) ≡ c - size us = omega arith in
      let w : b.written ++ take m us ≡ newest (c - size (drop m us)) (x.written ++ take m us) =
      ap (λ (es : List (List ℕ)). es ++ take m us) (i.written ∙ ap (λ (k : ℕ). newest k x.written) (sym room))
      ∙ sym (newest_append (c - size (drop m us)) x.written (take m us) (omega arith)) in
      let k : ℕ = after (oldest_in b) (length b.written) in
      let a : any_words (take m (new_in b)) ≡ ltb 0 (length (words_in (take n x.unwritten))) =
      ap any_words (take_data m k us) ∙ any_words_lem k (take m us) ∙ ap (λ (es : List (List ℕ)). ltb 0 (length (words_in es))) t in
      record {
        unwritten = d;
        fits = omega arith;
        written = w ∙ ap (λ (es : List (List ℕ)). newest (c - size (drop m us)) (x.written ++ es)) t;
        first = omega (arith, i.first, length-append b.written (take m us), length-append x.written (take n x.unwritten), ap length t);
        waiting = i.waiting;
        idle = rw a (starts (ltb 0 (length (words_in (take n x.unwritten)))));
      }

-- ---- the whole write

served_waiting : (rs : List RetransmitRequest) (b : Book) (p : PayloadWriter) (by : List ℕ) → is_empty (served_in b rs p by).waiting ≡ not (served_in b rs p by).more
unfolding served_in
served_waiting [] b p by = refl
served_waiting (r ∷ rs) b p by =
    let out = row_of p by (answer_in b r) in
    by_cond (λ (y : ServedIn). is_empty y.waiting ≡ not y.more) (out.whole || eqb out.payload.len 0) _ _
    (λ all. served_waiting rs b out.payload out.bytes) (λ cut. refl)

-- new commands are written, or none; at least so many commands are counted
record NewRight (c : ℕ) (x : Past) (cfg : StreamConfig) (time least : ℕ) (a : WriteIn) : Type 0 where
  changed : changes a.answer ≡ true
  enough : least ≤ count_of a.answer
  agrees : (before : ℕ) → before ≡ length x.written → Agrees c a.book (wrote_on x cfg time (written_count a.book - before))

module _ (c : ℕ) (b : Book) (x : Past) (i : Agrees c b x) (cfg : StreamConfig) (time : ℕ) where
  none_written : (before : ℕ) → before ≡ length x.written → Agrees c b (wrote_on x cfg time (written_count b - before))
  none_written before e = same_agrees c b x i cfg time (written_count b - before) (omega (arith, i.first))

  some_written : (m before : ℕ) → before ≡ length x.written → Agrees c (written_on cfg time m b) (wrote_on x cfg time (written_count (written_on cfg time m b) - before))
  unfolding written_on
  some_written m before e = wrote_agrees c b x i cfg time m (written_count (written_on cfg time m b) - before) (omega (arith, i.first, length-append b.written (take m b.unwritten)))

  new_right : (n least : ℕ) (p : PayloadWriter) (by : List ℕ) → least ≤ n → (p.len ≡ 0 → least ≡ 0) → NewRight c x cfg time least (new_written cfg time n b p by)
  unfolding new_written
  new_right n least p by l z = go (new_in b)
    where
      Fine : WriteIn → Type 0
      Fine = NewRight c x cfg time least

      go : (cs : List Packet) → Fine (new_by cfg time n b p by cs)
      go [] = record { changed = refl; enough = l; agrees = none_written }
      go (first ∷ others) =
          by_cond Fine (not (fit_all p by (first ∷ []))) _ _
          (λ over.
          by_cond Fine (eqb p.len 0) _ _ (λ empty. record { changed = refl; enough = omega (arith, z (omega (arith, tests))); agrees = none_written })
          (λ more. record { changed = refl; enough = l; agrees = none_written }))
          (λ fits. record { changed = refl; enough = omega arith; agrees = some_written _ })

-- other requests wait
pub requests_agree : (c : ℕ) (b : Book) (x : Past) → Agrees c b x → (rs : List RetransmitRequest) → Agrees c (with_waiting b rs) (with_requests x rs)
requests_agree c b x i rs = record { unwritten = i.unwritten; fits = i.fits; written = i.written; first = i.first; waiting = refl; idle = i.idle }

-- settings are never refused with 3
check_kept : (cfg : StreamConfig) (why : Refusal) → check_of cfg ≡ Err why → eqb (number_of why) 3 ≡ false
unfolding check_of
check_kept cfg why =
    by_cond Not3 (outside 1 64 cfg.max_command_words) _ _ (λ t e. other CommandWords refl e) (λ t.
    by_cond Not3 (outside 1 300 cfg.idle_interval_ms) _ _ (λ u e. other IdleInterval refl e) (λ u.
    by_cond Not3 (eqb cfg.idle_growth 0) _ _ (λ v e. other IdleGrowth refl e) (λ v e. absurd (let z : ◌≡◌ {A = ℕ} 0 1 = cc in omega arith))))
  where
    Not3 : Result ⊤ Refusal → Type 0
    Not3 k = k ≡ Err why → eqb (number_of why) 3 ≡ false

    other : (w : Refusal) → eqb (number_of w) 3 ≡ false → ◌≡◌ {A = Result ⊤ Refusal} (Err w) (Err why) → eqb (number_of why) 3 ≡ false
    other w f e = let g : w ≡ why = cc in subst (λ (v : Refusal). eqb (number_of v) 3 ≡ false) g f

module _ (c : ℕ) (some : 1 ≤ c) (b : Book) (small : Small b) (x : Past) (i : Agrees c b x) (cfg : StreamConfig) (time : ℕ) (p : PayloadWriter) (by : List ℕ) where
  abbrev Wrote : WriteIn → Type 0
  Wrote a =
      Agrees c a.book (cond (changes a.answer) (wrote_on (served_on c x cfg time p by (count_of a.answer)) cfg time (written_count a.book - length x.written)) x)

  -- the requests that the log leaves
  served_as : (n : ℕ) (rs : List RetransmitRequest) → left_in b (turn_in b p by b.waiting) n ≡ rs
      → served_on c x cfg time p by n ≡ cond (is_empty rs) (idled_on (with_requests x rs) cfg time) (with_requests x rs)
  served_as n rs e =
      let f : left_after c x (in_turn c x p by x.waiting) n ≡ rs =
      left_is c b x i (in_turn c x p by x.waiting) n ∙ ap (λ (qs : List RetransmitRequest). left_in b qs n) (turn_is c b x i p by x.waiting ∙ ap (turn_in b p by) (sym i.waiting)) ∙ e in
      ap (λ (qs : List RetransmitRequest). cond (is_empty qs) (idled_on (with_requests x qs) cfg time) (with_requests x qs)) f

  -- a refusal that isn't 3
  kept_agrees : (why : Refusal) → eqb (number_of why) 3 ≡ false → Wrote (refused b p by why)
  kept_agrees why e = rw e i

  written_agrees : payload_valid p (length by) ≡ true → Wrote (written_in c cfg time b p by)
  unfolding written_in
  written_agrees v =
      let y = served_in b b.waiting p by in
      let w = serves b small b.waiting p by v in
      let e = served_waiting b.waiting b p by in
      let a = requests_agree c b x i y.waiting in
      by_cond Wrote y.more _ _
      (λ more.
      let t : is_empty y.waiting ≡ false = e ∙ ap not more in
      let s : served_on c x cfg time p by y.commands ≡ with_requests x y.waiting = served_as y.commands y.waiting (sym w.waits) ∙ rw t in
      subst (λ (z : Past). Agrees c (with_waiting b y.waiting) (wrote_on z cfg time (written_count b - length x.written))) (sym s)
      (none_written c (with_waiting b y.waiting) (with_requests x y.waiting) a cfg time (length x.written) refl))
      (λ all.
      let t : is_empty y.waiting ≡ true = e ∙ ap not all in
      let owed : List Packet = owed_in b p by b.waiting in
      let m = w.all all in
      let z : Past = idled_on (with_requests x y.waiting) cfg time in
      let d : Book = idled_in c cfg time (with_waiting b y.waiting) in
      let r = new_right c d z (idled_agrees c some cfg time (with_waiting b y.waiting) (with_requests x y.waiting) a) cfg time y.commands (length owed) y.payload y.bytes (omega arith) (served_nothing b small owed _ p by y w all) in
      let n : WriteIn = new_written cfg time y.commands d y.payload y.bytes in
      let none' : y.waiting ≡ [] = w.waits ∙ left_none b (turn_in b p by b.waiting) y.commands (omega arith) in
      let s : served_on c x cfg time p by (count_of n.answer) ≡ z =
      served_as (count_of n.answer) y.waiting (left_none b (turn_in b p by b.waiting) (count_of n.answer) r.enough ∙ sym none') ∙ rw t in
      subst (λ (k : Bool). Agrees c n.book (cond k (wrote_on (served_on c x cfg time p by (count_of n.answer)) cfg time (written_count n.book - length x.written)) x)) (sym r.changed)
      (subst (λ (q : Past). Agrees c n.book (wrote_on q cfg time (written_count n.book - length x.written))) (sym s)
      (r.agrees (length x.written) (ap length (sym (idled_written (with_requests x y.waiting) cfg time))))))

  write_agrees : Wrote (write_in c cfg time b p by)
  unfolding write_in
  write_agrees = by_tests (check_of cfg) refl (payload_valid p (length by)) refl
    where
      by_tests : (k : Result ⊤ Refusal) → check_of cfg ≡ k → (v : Bool) → payload_valid p (length by) ≡ v → Wrote (entry k v (refused b p by) (written_in c cfg time b p by))
      by_tests (Err why) e v f = kept_agrees why (check_kept cfg why e)
      by_tests (Ok _) e false f = kept_agrees InvalidState refl
      by_tests (Ok _) e true f = written_agrees f

-- ---- every list of calls

module _ (c q : ℕ) (some : 1 ≤ c) where
  call_agrees : (b : Book) (x : Past) → Agrees c b x → Small b → Book32 b → (call : Call) → Agrees c (told_of c q b call).book (past_after c x (told_of c q b call).entry)
  unfolding told_of past_after
  call_agrees b x i small h (queue_words cfg ws) = sent_agrees c b cfg ws x i
  call_agrees b x i small h (retransmit_request cfg r) = requested_agrees c q b cfg r x i
  call_agrees b x i small h (write cfg time p by) =
      let a = write_in c cfg time b p by in
      let o = write_opens c cfg time b small h p by in
      let n : opens_in (length x.written) (added_in p a.payload a.bytes) ≡ written_count a.book - length x.written =
      ap (λ (w : ℕ). opens_in w (added_in p a.payload a.bytes)) (sym i.first) ∙ o ∙ ap (λ (w : ℕ). written_count a.book - w) i.first in
      rw n (write_agrees c some b small x i cfg time p by)

  entry_agrees : (t : List Entry) (b : Book) (e f : Entry) → e ≡ f → Agrees c b (past_after c (past_in c t) f) → Agrees c b (past_in c (e ∷ t))
  unfolding past_in
  entry_agrees t b e f k i = rw k i

  from_agrees : (calls : List Call) (s : Sender) (ring : List ℕ) (t : List Entry) (b : Book) → Follows c q s ring b → Book32 b → AllTyped calls → Agrees c b (past_in c t)
      → Agrees c (book_from c q b calls) (past_in c (run_from s ring t calls).log)
  unfolding book_from run_from
  from_agrees [] s ring t b f h l i = i
  from_agrees (call ∷ calls) s ring t b f h l i =
      let k = step_ok c q s ring b call f l.0 in
      from_agrees calls (step_of s ring call).sender (step_of s ring call).ring ((step_of s ring call).entry ∷ t) (told_of c q b call).book k.follows (call_32 c q call b l.0 h) l.1
      (entry_agrees t (told_of c q b call).book (step_of s ring call).entry (told_of c q b call).entry k.says (call_agrees b (past_in c t) i (follows_small c q s ring b f) h call))

  pub past_agrees : (ring₀ : List ℕ) → Started c q ring₀ → (calls : List Call) → AllTyped calls → Agrees c (book_of c q calls) (past_of c q ring₀ calls)
  unfolding size longest_end timer_of past_in run
  past_agrees ring₀ started calls l =
      from_agrees calls (new_answer c q ring₀).0.sender (new_answer c q ring₀).1 [] nothing (start_follows c q ring₀ started) (nothing_32 c q) l
      record { unwritten = refl; fits = omega arith; written = refl; first = refl; waiting = refl; idle = refl }

held_all : (c q : ℕ) (s : Sender) (ring : List ℕ) (b : Book) (x : Past) → Kept c q s ring b → Agrees c b x → HeldIn c s ring x
held_all c q s ring b x k i =
    let e = held_is c b x i in
    let u = i.unwritten in
    record {
      entries = k.entries ∙ sym e;
      oldest = k.oldest ∙ ap (λ (n : ℕ). n % turn) (sym (oldest_is c b x i));
      all_unwritten = omega (arith, ap length e, length-append b.written b.unwritten, ap length u);
      unsent = k.unsent ∙ ap length u;
      unsent_words = k.unsent_words ∙ ap size u;
      requests = k.requests ∙ i.waiting;
      idle = k.idle ∙ i.idle;
    }

pub held_past : Held
held_past c q ring₀ started calls l =
    let f = run_ok c q ring₀ started calls l in
    held_all c q (run c q ring₀ calls).sender (run c q ring₀ calls).ring (book_of c q calls) (past_of c q ring₀ calls) (reached c q ring₀ started calls l) (past_agrees c q (omega (arith, f.least)) ring₀ started calls l)
