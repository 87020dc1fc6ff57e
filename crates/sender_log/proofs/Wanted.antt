-- What a write adds: the first of the commands that the log says it has to write, as many as it answers.
use mathlib.Core.Path.{◌≡◌, refl, sym, ap, ◌∙◌, subst}
use mathlib.Core.Logic.{inl, inr}
use mathlib.Core.Bool.{Bool, ◌&&◌}
use mathlib.Core.List.{List, [], ◌∷◌, ◌++◌}
use Prim.Native.Nat.{ℕ, ◌+◌, ◌-◌, ◌≤◌, min}
use native.Mathlib.Omega.{arith}
use lib.Dec.{leb}
use lib.ListN.{length}
use lib.Seq.{take_all}
use Rattle.config.specs.declared.settings.StreamConfig.{StreamConfig}
use Rattle.config.specs.inner.Tests.{split}
use Rattle.packet.specs.Layout.{Packet, AllEncodable}
use Rattle.packet.specs.Write.{limit_of, start_of}
use Rattle.packet.specs.declared.writer.PayloadWriter.{PayloadWriter}
use Rattle.packet.proofs.RoundTrip.{all_encodable_append}
use Rattle.command.specs.declared.retransmit.RetransmitRequest.{RetransmitRequest}
use Rattle.rows.specs.Rows.{sizes_of, fit_all}
use Rattle.rows.specs.Choice.{repeats_of}
use Rattle.sender_log.specs.Book.{Book, with_waiting}
use Rattle.sender_log.specs.Writes.{written_from, new_in, served_in, is_empty, idled_in, write_in}
use Rattle.sender_log.specs.Calls.{run}
use Rattle.sender_log.specs.Answers.{book_of}
use Rattle.sender_log.specs.Schedule.{timer_of, is_due}
use Rattle.sender_log.specs.Opened.{Past, longest_end, new_of}
use Rattle.sender_log.specs.Requests.{answers_to, in_turn}
use Rattle.sender_log.specs.Past.{idled_on, with_requests, past_of}
use Rattle.sender_log.specs.Counted.{last_written, repeats_on, wanted_in, Counted}
use Rattle.sender_log.proofs.Rows.{sizes_append}
use Rattle.sender_log.proofs.More.{Small, idled_short, follows_small}
use Rattle.config.specs.inner.Choices.{by_cond}
use Rattle.sender_log.proofs.Words.{data_encodable, Book32, idled_32, book_32}
use Rattle.sender_log.proofs.Counting.{turn_in, answers_in, owed_in, again_by, OutOf, serves, Behind, write_out_lem, encodable_take, answers_encodable, written_encodable, counts}
use Rattle.sender_log.proofs.Opened.{Agrees, answers_is, turn_is, last_is, new_is}
use Rattle.sender_log.proofs.Past.{requests_agree, idled_agrees, past_agrees}
use Rattle.sender_log.proofs.Follows.{write_follows}
use Rattle.sender_log.proofs.Runs.{run_ok}

-- ---- repeats

same_end : (owed ks : List Packet) (first : Packet) (p q : PayloadWriter) → start_of q ≡ start_of p + sizes_of owed
    → start_of p + sizes_of (owed ++ (ks ++ (first ∷ []))) ≡ start_of q + sizes_of (first ∷ ks)
unfolding sizes_of
same_end owed ks first p q s = omega (arith, sizes_append owed (ks ++ (first ∷ [])), sizes_append ks (first ∷ []))

-- behind commands that end where the payload q goes on, those fit that fit there
repeats_is : (owed last : List Packet) (first : Packet) (p q : PayloadWriter) (by bq : List ℕ) → start_of q ≡ start_of p + sizes_of owed → limit_of q (length bq) ≡ limit_of p (length by)
    → longest_end (λ again. fit_all p by (owed ++ (again ++ (first ∷ [])))) last ≡ repeats_of q bq first last
unfolding longest_end repeats_of
repeats_is owed [] first p q by bq s l = refl
repeats_is owed (k ∷ ks) first p q by bq s l =
    let e : fit_all p by (owed ++ ((k ∷ ks) ++ (first ∷ []))) ≡ fit_all q bq (first ∷ k ∷ ks) =
    ap (λ (n : ℕ). leb n (limit_of p (length by))) (same_end owed (k ∷ ks) first p q s) ∙ ap (leb (start_of q + sizes_of (first ∷ k ∷ ks))) (sym l) in
    rw (e, repeats_is owed ks first p q by bq s l)

rest_is : (owed last ns : List Packet) (d : Book) (R : ℕ) (p q : PayloadWriter) (by bq : List ℕ) → start_of q ≡ start_of p + sizes_of owed → limit_of q (length bq) ≡ limit_of p (length by)
    → last ≡ written_from d (length d.written - min R (length d.written)) → repeats_on owed p by last ns ++ ns ≡ again_by d R q bq ns
rest_is owed last [] d R p q by bq s l e = refl
rest_is owed last (first ∷ others) d R p q by bq s l e =
    ap (λ (ks : List Packet). ks ++ (first ∷ others)) (repeats_is owed last first p q by bq s l ∙ ap (repeats_of q bq first) e)

end_encodable : (fits : List Packet → Bool) (ks : List Packet) → AllEncodable ks → AllEncodable (longest_end fits ks)
unfolding longest_end AllEncodable
end_encodable fits [] h = tt
end_encodable fits (k ∷ ks) h = by_cond AllEncodable (fits (k ∷ ks)) _ _ (λ e. h) (λ e. end_encodable fits ks h.1)

repeats_encodable : (owed last ns : List Packet) (p : PayloadWriter) (by : List ℕ) → AllEncodable last → AllEncodable (repeats_on owed p by last ns)
unfolding AllEncodable
repeats_encodable owed last [] p by h = tt
repeats_encodable owed last (first ∷ others) p by h = end_encodable _ last h

-- ---- one write

module _ (c : ℕ) (some : 1 ≤ c) (cfg : StreamConfig) (time : ℕ) (b : Book) (small : Small b) (x : Past) (i : Agrees c b x) (p : PayloadWriter) (by : List ℕ) where
  abbrev owed : List Packet
  owed = answers_to c x (in_turn c x p by x.waiting)

  abbrev R : ℕ
  R = cfg.fec_repeats

  abbrev rest : List Packet
  rest = repeats_on owed p by (last_written c (idled_on x cfg time) R) (new_of (idled_on x cfg time)) ++ new_of (idled_on x cfg time)

  -- what the book owes
  owed_is : owed ≡ owed_in b p by b.waiting
  owed_is = answers_is c b x i (in_turn c x p by x.waiting) ∙ ap (answers_in b) (turn_is c b x i p by x.waiting ∙ ap (turn_in b p by) (sym i.waiting))

  -- which requests wait is nothing to an idle command
  idled_same : (rs : List RetransmitRequest)
      → (new_of (idled_on (with_requests x rs) cfg time) ≡ new_of (idled_on x cfg time)) × (last_written c (idled_on (with_requests x rs) cfg time) R ≡ last_written c (idled_on x cfg time) R)
  idled_same rs = elim (split (is_empty x.unwritten && is_due time (timer_of x.schedule))) [ inl t ↦ rw t (refl, refl) | inr t ↦ rw t (refl, refl) ]

  behind_owed : Behind c cfg time b p by rest
  behind_owed v all =
      let s = served_in b b.waiting p by in
      let w = serves b small b.waiting p by v in
      let d : Book = idled_in c cfg time (with_waiting b s.waiting) in
      let z : Past = idled_on (with_requests x s.waiting) cfg time in
      let j : Agrees c d z = idled_agrees c some cfg time (with_waiting b s.waiting) (with_requests x s.waiting) (requests_agree c b x i s.waiting) in
      let t = idled_same s.waiting in
      let n : new_of (idled_on x cfg time) ≡ new_in d = sym t.0 ∙ new_is c d z j in
      let f : start_of s.payload ≡ start_of p + sizes_of owed =
      w.start ∙ ap (λ (ks : List Packet). start_of p + sizes_of ks) (take_all s.commands (owed_in b p by b.waiting) (omega (arith, w.all all)) ∙ sym owed_is) in
      ap (λ (ns : List Packet). repeats_on owed p by (last_written c (idled_on x cfg time) R) ns ++ ns) n
      ∙ rest_is owed (last_written c (idled_on x cfg time) R) (new_in d) d R p s.payload by s.bytes f w.limit (sym t.1 ∙ last_is c d z j R)

  pub wanted_out : OutOf (wanted_in c cfg time x p by) p by (write_in c cfg time b p by)
  unfolding wanted_in
  wanted_out = subst (λ (ks : List Packet). OutOf (ks ++ rest) p by (write_in c cfg time b p by)) (sym owed_is) (write_out_lem c cfg time b small p by rest behind_owed)

  pub wanted_encodable : Book32 b → AllEncodable (wanted_in c cfg time x p by)
  unfolding wanted_in
  wanted_encodable h =
      let d : Book = idled_in c cfg time b in
      let j : Agrees c d (idled_on x cfg time) = idled_agrees c some cfg time b x i in
      let k = idled_short c cfg time b small.written small.unwritten in
      let g : Book32 d = idled_32 c cfg time b h in
      let new : AllEncodable (new_of (idled_on x cfg time)) = subst AllEncodable (sym (new_is c d (idled_on x cfg time) j)) (data_encodable _ d.unwritten k.1 g.unwritten) in
      let last : AllEncodable (last_written c (idled_on x cfg time) R) = subst AllEncodable (sym (last_is c d (idled_on x cfg time) j R)) (written_encodable d k.0 g _) in
      all_encodable_append owed rest (subst AllEncodable (sym owed_is) (answers_encodable b small.written h (turn_in b p by b.waiting)))
      (all_encodable_append _ (new_of (idled_on x cfg time)) (repeats_encodable owed _ (new_of (idled_on x cfg time)) p by last) new)

-- ---- every write

pub counted : Counted
counted c q ring₀ started calls l cfg t time p by =
    let s = (run c q ring₀ calls).sender in
    let ring = (run c q ring₀ calls).ring in
    let b : Book = book_of c q calls in
    let x : Past = past_of c q ring₀ calls in
    let f = run_ok c q ring₀ started calls l in
    let small = follows_small c q s ring b f in
    let some : 1 ≤ c = omega (arith, f.least) in
    let i = past_agrees c q some ring₀ started calls l in
    let w = write_follows c q s ring b f cfg t time p by in
    rw (w.1, w.2, w.3) (counts (wanted_in c cfg time x p by) p by _ _ _ (λ n m e. encodable_take n (wanted_in c cfg time x p by) (wanted_encodable c some cfg time b small x i p by (book_32 c q calls l))) (wanted_out c some cfg time b small x i p by))
