-- A write adds packets to the payload's bytes, refused writes too: the data commands among them are copies of positions, then new ones in order.
use Prim.Native.Nat.{ℕ, ◌+◌, ◌-◌, ◌%◌, ◌≤◌, min}
use Rattle.std.proofs.Common.{Option, Some, None}
use Rattle.idle.specs.declared.idle.Idle.{Idle}
use mathlib.Core.Path.{◌≡◌, refl, ap, sym, ◌∙◌}
use mathlib.Core.Bool.{true, not, ◌||◌}
use mathlib.Core.List.{List, [], ◌∷◌, ◌++◌, append_assoc, append-nil}
use native.Mathlib.Omega.{arith}
use lib.Dec.{ltb, eqb}
use lib.ListN.{length, take, drop, length-append, take-append-drop}
use lib.Seq.{length-take-le}
use borrow.Author.Tests.{not-false}
use Rattle.config.specs.Sequence.{turn, after}
use Rattle.config.specs.Settings.{check_of}
use Rattle.config.specs.declared.settings.StreamConfig.{StreamConfig}
use Rattle.config.specs.inner.Tests.{tests}
use Rattle.packet.specs.Layout.{Packet, Words32, Encodable}
use Rattle.packet.specs.Write.{valid_of as payload_valid}
use Rattle.packet.specs.declared.writer.PayloadWriter.{PayloadWriter}
use Rattle.command.specs.declared.retransmit.RetransmitRequest.{RetransmitRequest}
use Rattle.history.specs.Entries.{size}
use Rattle.history.proofs.Flat.{size_append}
use Rattle.command.specs.Messages.{words_in}
use Rattle.command.specs.inner.Messages.{words_append}
use Rattle.rows.specs.Rows.{row_of, fit_all}
use Rattle.rows.specs.Choice.{repeats_of}
use Rattle.sender_log.specs.Book.{Book, oldest_in, index_in, absent_in, with_waiting}
use Rattle.sender_log.specs.Writes.{written_from, new_in, reach_in, answer_in, ServedIn, served_in, is_empty, idled_by, idled_in, again_in, written_on, WriteIn, new_by, new_written, written_in, write_in}
use Rattle.sender_log.proofs.Packets.{take_data}
use Rattle.config.specs.inner.Choices.{by_cond, or_left}
use Rattle.config.specs.inner.Entries.{entry_any}
use Rattle.delivery.specs.Commands.{Command, data_in}
use Rattle.delivery.proofs.Lists.{All, all_append, all_right, all_take, all_drop, take_append}
use Rattle.delivery.proofs.Wires.{onto, onto_append, numbered_from, wire_nexts}
use Rattle.delivery.proofs.Packets.{data_append, data_from_lem, from_encodable, Copy, other, wire_copies, from_copies}
use Rattle.delivery.proofs.Payloads.{Holds, holds_row}
use Rattle.delivery.proofs.Messages.{whole_nil}
use Rattle.delivery.proofs.Sound.{Sound, length_size}
use Rattle.delivery.proofs.Books.{Agrees, pushed_agrees}

-- packets that write no new position
pub record Copies (C : List (List ℕ)) (cs : List Packet) : Type 0 where
  pub encodable : All Encodable cs
  pub copies : All (Copy C) cs

module _ (C : List (List ℕ)) where
  copies_none : Copies C []
  copies_none = record { encodable = tt; copies = tt }

  copies_append : (cs ds : List Packet) → Copies C cs → Copies C ds → Copies C (cs ++ ds)
  copies_append cs ds h k =
      record { encodable = all_append Encodable cs ds h.encodable k.encodable; copies = all_append (Copy C) cs ds h.copies k.copies }

  copies_take : (n : ℕ) (cs : List Packet) → Copies C cs → Copies C (take n cs)
  copies_take n cs h = record { encodable = all_take Encodable n cs h.encodable; copies = all_take (Copy C) n cs h.copies }

  copies_repeated : (p : PayloadWriter) (by : List ℕ) (first : Packet) (cs : List Packet) → Copies C cs → Copies C (repeats_of p by first cs)
  unfolding repeats_of
  copies_repeated p by first [] h = h
  copies_repeated p by first (c ∷ cs) h =
      by_cond (Copies C) (fit_all p by (first ∷ c ∷ cs)) _ _ (λ e. h) (λ e. copies_repeated p by first cs record { encodable = h.encodable.1; copies = h.copies.1 })

-- what a write leaves: the payload holds some packets more, and what is held agrees with the data commands among them
pub record Grown (c : ℕ) (accepted : List ℕ) (w : List Command) (cs : List Packet) (b : Book) (p : PayloadWriter) (by : List ℕ) : Type 0 where
  pub more : List Packet
  pub agrees : Agrees c b accepted (onto (data_in more) w)
  pub holds : Holds p by (cs ++ more)

abbrev pub GrownBy : ℕ → List ℕ → List Command → List Packet → WriteIn → Type 0
GrownBy c accepted w cs a = Grown c accepted w cs a.book a.payload a.bytes

module _ (c : ℕ) (most : c ≤ 32768) (b : Book) (accepted : List ℕ) (w : List Command) (i : Agrees c b accepted w) where
  few : length b.written ≤ 32768
  few = omega (arith, i.room, length_size b.written)

  -- ---- copies

  written_copies : (j : ℕ) → j ≤ length b.written → Copies (i.gone ++ b.written) (written_from b j)
  written_copies j l =
      let n : after (oldest_in b) j ≡ (length i.gone + j) % turn = omega (arith, i.oldest) in
      let e : i.gone ++ b.written ≡ (i.gone ++ take j b.written) ++ (drop j b.written ++ []) =
      ap (λ (es : List (List ℕ)). i.gone ++ es) (sym (take-append-drop j b.written)) ∙ sym (append_assoc i.gone (take j b.written) (drop j b.written)) ∙ simp append-nil in
      let k : length (i.gone ++ take j b.written) ≡ length i.gone + j = length-append i.gone (take j b.written) ∙ rw (length-take-le j b.written l) in
      record {
        encodable = from_encodable (drop j b.written) _ (all_drop Sound j b.written (all_right Sound i.gone b.written i.old));
        copies = rw n (from_copies (drop j b.written) (i.gone ++ take j b.written) [] (i.gone ++ b.written) (length i.gone + j) e k
            (omega (arith, few, length-append i.gone b.written)));
      }

  copies_agree : (cs : List Packet) → Copies (i.gone ++ b.written) cs → Agrees c b accepted (onto (data_in cs) w)
  copies_agree cs h =
      record {
        gone = i.gone;
        oldest = i.oldest;
        wire = wire_copies (i.gone ++ b.written) cs w i.wire h.copies;
        words = i.words;
        old = i.old;
        new = i.new;
        room = i.room;
      }

  -- ---- retransmits

  answer_copies : (r : RetransmitRequest) → Copies (i.gone ++ b.written) (answer_in b r)
  unfolding answer_in Words32
  answer_copies r =
      by_cond (Copies (i.gone ++ b.written)) (absent_in b r.seq) _ _
      (λ absent. record { encodable = (record { few = omega arith; words32 = (omega arith, tt) }, tt); copies = (other refl, tt) })
      (λ held. copies_take (i.gone ++ b.written) (reach_in b r) _ (written_copies (index_in b r.seq) (omega (arith, tests))))

  -- a payload holds copies more
  record Repeated (cs : List Packet) (p : PayloadWriter) (by : List ℕ) : Type 0 where
    more : List Packet
    copies : Copies (i.gone ++ b.written) more
    holds : Holds p by (cs ++ more)

  repeated_more : (cs : List Packet) (p : PayloadWriter) (by : List ℕ) (more : List Packet) → Copies (i.gone ++ b.written) more → Repeated (cs ++ more) p by → Repeated cs p by
  repeated_more cs p by more h r =
      record { more = more ++ r.more; copies = copies_append (i.gone ++ b.written) more r.more h r.copies; holds = rw (← append_assoc) r.holds }

  served_holds : (rs : List RetransmitRequest) (p : PayloadWriter) (by : List ℕ) (cs : List Packet) → Holds p by cs
      → Repeated cs (served_in b rs p by).payload (served_in b rs p by).bytes
  unfolding served_in
  served_holds [] p by cs h = record { more = []; copies = copies_none (i.gone ++ b.written); holds = rw append-nil h }
  served_holds (r ∷ rs) p by cs h =
      let out = row_of p by (answer_in b r) in
      let a = answer_copies r in
      let k = copies_take (i.gone ++ b.written) out.written (answer_in b r) a in
      let g : Holds out.payload out.bytes (cs ++ take out.written (answer_in b r)) = holds_row (answer_in b r) p by cs a.encodable h in
      by_cond (λ (s : ServedIn). Repeated cs s.payload s.bytes) (out.whole || eqb out.payload.len 0) _ _
      (λ all. repeated_more cs _ _ (take out.written (answer_in b r)) k (served_holds rs out.payload out.bytes (cs ++ take out.written (answer_in b r)) g))
      (λ cut. record { more = take out.written (answer_in b r); copies = k; holds = g })

  -- ---- idle commands

  empty_none : (us : List (List ℕ)) → is_empty us ≡ true → size us ≡ 0
  unfolding size
  empty_none [] e = refl
  empty_none (u ∷ us) e = absurd (let z : ◌≡◌ {A = ℕ} 0 1 = cc in omega arith)

  pub idled_agrees : (cfg : StreamConfig) (time : ℕ) → 1 ≤ c → Agrees c (idled_in c cfg time b) accepted w
  unfolding idled_in Words32
  idled_agrees cfg time l = by b.idle
    where
      by : (t : Option Idle) → Agrees c (idled_by c cfg time b t) accepted w
      by None = i
      by (Some t) =
          by_cond (λ (d : Book). Agrees c d accepted w) (not (is_empty b.unwritten) || ltb time t.due) _ _ (λ e. i)
          (λ e.
          let none : size b.unwritten ≡ 0 = empty_none b.unwritten (not-false _ (or_left (not (is_empty b.unwritten)) _ e)) in
          rw append-nil at (pushed_agrees c [] b accepted w i record { short = omega arith; whole = whole_nil; words32 = tt } (omega arith)))

  -- ---- repeats and new commands

  new_from : (n : ℕ) → data_in (take n (new_in b)) ≡ numbered_from (length (i.gone ++ b.written)) (take n b.unwritten)
  new_from n =
      let e : after (oldest_in b) (length b.written) ≡ length (i.gone ++ b.written) % turn = rw (length-append i.gone b.written) (omega (arith, i.oldest)) in
      rw (take_data n (after (oldest_in b) (length b.written)) b.unwritten, e) (data_from_lem (take n b.unwritten) (length (i.gone ++ b.written)))

  new_agrees : (cfg : StreamConfig) (time n : ℕ) → Agrees c (written_on cfg time n b) accepted (onto (data_in (take n (new_in b))) w)
  unfolding written_on
  new_agrees cfg time n =
      let us : List (List ℕ) = b.unwritten in
      let C : List (List ℕ) = i.gone ++ b.written in
      let e : i.gone ++ (b.written ++ take n us) ≡ C ++ take n us = sym (append_assoc i.gone b.written (take n us)) in
      let halves : words_in (take n us) ++ words_in (drop n us) ≡ words_in us = sym (words_append (take n us) (drop n us)) ∙ ap words_in (take-append-drop n us) in
      let s : size us ≡ size (take n us) + size (drop n us) = ap size (sym (take-append-drop n us)) ∙ size_append (take n us) (drop n us) in
      record {
        gone = i.gone;
        oldest = i.oldest;
        wire = rw (e, new_from n) (wire_nexts (take n us) C w i.wire);
        words = rw (e, words_append C (take n us), append_assoc (words_in C) (words_in (take n us)) (words_in (drop n us)), halves) i.words;
        old = rw e (all_append Sound C (take n us) i.old (all_take Sound n us i.new));
        new = all_drop Sound n us i.new;
        room = omega (arith, i.room, size_append b.written (take n us));
      }

module _ (c : ℕ) (most : c ≤ 32768) (accepted : List ℕ) where
  unchanged : (w : List Command) (cs : List Packet) (b : Book) (p : PayloadWriter) (by : List ℕ) → Agrees c b accepted w → Holds p by cs → Grown c accepted w cs b p by
  unfolding data_in
  unchanged w cs b p by i h = record { more = []; agrees = i; holds = rw append-nil h }

  -- the first n of copies and new commands
  row_agrees : (cfg : StreamConfig) (time n : ℕ) (b : Book) (w : List Command) (i : Agrees c b accepted w) (again : List Packet) → Copies (i.gone ++ b.written) again
      → Agrees c (written_on cfg time (n - length again) b) accepted (onto (data_in (take n (again ++ new_in b))) w)
  row_agrees cfg time n b w i again k =
      let m : ℕ = n - length again in
      let v : List Command = onto (data_in (take n again)) w in
      let copied : Agrees c b accepted v = copies_agree c most b accepted w i (take n again) (copies_take (i.gone ++ b.written) n again k) in
      rw (take_append n again (new_in b), data_append (take n again) (take m (new_in b)), onto_append (data_in (take n again)) (data_in (take m (new_in b))) w)
      (new_agrees c most b accepted v copied cfg time m)

  new_grown : (cfg : StreamConfig) (time n : ℕ) (b : Book) (p : PayloadWriter) (by : List ℕ) (w : List Command) (cs : List Packet) → Agrees c b accepted w → Holds p by cs
      → GrownBy c accepted w cs (new_written cfg time n b p by)
  unfolding new_written
  new_grown cfg time n b p by w cs i h = go (new_in b) refl
    where
      same : Grown c accepted w cs b p by
      same = unchanged w cs b p by i h

      go : (l : List Packet) → new_in b ≡ l → GrownBy c accepted w cs (new_by cfg time n b p by l)
      go [] e = same
      go (first ∷ others) e =
          let again : List Packet = again_in b cfg.fec_repeats p by first in
          let out = row_of p by (again ++ (first ∷ others)) in
          let C : List (List ℕ) = i.gone ++ b.written in
          let k : Copies C again = copies_repeated C p by first _ (written_copies c most b accepted w i (length b.written - min cfg.fec_repeats (length b.written)) (omega arith)) in
          let new : All Encodable (first ∷ others) = rw e at (from_encodable b.unwritten (after (oldest_in b) (length b.written)) i.new) in
          by_cond (GrownBy c accepted w cs) (not (fit_all p by (first ∷ []))) _ _
          (λ over. by_cond (GrownBy c accepted w cs) (eqb p.len 0) _ _ (λ empty. same) (λ some. same))
          (λ fits. record {
            more = take out.written (again ++ (first ∷ others));
            agrees = rw e at (row_agrees cfg time out.written b w i again k);
            holds = holds_row (again ++ (first ∷ others)) p by cs (all_append Encodable again (first ∷ others) k.encodable new) h;
          })

  -- ---- the whole write

  grown_more : (w : List Command) (cs more : List Packet) (b : Book) (p : PayloadWriter) (by : List ℕ) → Grown c accepted (onto (data_in more) w) (cs ++ more) b p by → Grown c accepted w cs b p by
  grown_more w cs more b p by g =
      record {
        more = more ++ g.more;
        agrees = rw (data_append more g.more, onto_append (data_in more) (data_in g.more) w) g.agrees;
        holds = rw (← append_assoc) g.holds;
      }

  written_grown : (cfg : StreamConfig) (time : ℕ) (b : Book) (p : PayloadWriter) (by : List ℕ) (w : List Command) (cs : List Packet) → 1 ≤ c → Agrees c b accepted w → Holds p by cs
      → GrownBy c accepted w cs (written_in c cfg time b p by)
  unfolding written_in
  written_grown cfg time b p by w cs l i h =
      let s = served_in b b.waiting p by in
      let r = served_holds c most b accepted w i b.waiting p by cs h in
      let v : List Command = onto (data_in r.more) w in
      let j : Agrees c (with_waiting b s.waiting) accepted v = copies_agree c most b accepted w i r.more r.copies in
      by_cond (GrownBy c accepted w cs) s.more _ _
      (λ more. record { more = r.more; agrees = j; holds = r.holds })
      (λ all. grown_more w cs r.more _ _ _
      (new_grown cfg time s.commands (idled_in c cfg time (with_waiting b s.waiting)) s.payload s.bytes v (cs ++ r.more)
      (idled_agrees c most (with_waiting b s.waiting) accepted v j cfg time l) r.holds))

  pub write_grown : (cfg : StreamConfig) (time : ℕ) (b : Book) (p : PayloadWriter) (by : List ℕ) (w : List Command) (cs : List Packet) → 1 ≤ c → Agrees c b accepted w → Holds p by cs
      → GrownBy c accepted w cs (write_in c cfg time b p by)
  unfolding write_in
  write_grown cfg time b p by w cs l i h =
      entry_any (GrownBy c accepted w cs) _ _ (λ why. unchanged w cs b p by i h) (check_of cfg) (payload_valid p (length by))
      (λ passed valid. written_grown cfg time b p by w cs l i h)
