-- A write answers "more" exactly when the next command doesn't fit.
use Prim.Native.Nat.{ℕ, ◌+◌, ◌≤◌}
use Rattle.std.proofs.Common.{Result, Ok, Err}
use Rattle.writing.specs.declared.writing.Written.{Written}
use mathlib.Core.Path.{◌≡◌, refl, sym, ap, ◌∙◌, subst}
use mathlib.Core.Bool.{Bool, true, false}
use mathlib.Core.List.{List, [], ◌∷◌, ◌++◌}
use native.Mathlib.Omega.{arith}
use Rattle.config.specs.declared.refusal.Refusal.{Refusal}
use Rattle.config.specs.declared.refusal.Refusal.TheVariants.{TooLarge, InvalidState}
use Rattle.config.specs.declared.settings.StreamConfig.{StreamConfig}
use Rattle.config.specs.inner.Tests.{tests}
use Rattle.packet.specs.declared.writer.PayloadWriter.{PayloadWriter}
use Rattle.window.specs.Set.{max_window}
use Rattle.receiver.specs.Answers as receiver
use Rattle.receiver.specs.declared.receiver.Receiver.{Receiver}
use Rattle.receiver.specs.declared.receiver.Request.{Request}
use Rattle.receiver_log.specs.Calls as Receiver
use Rattle.receiver_log.specs.Timing.{due_in}
use Rattle.receiver_log.specs.Promise.{log_of}
use Rattle.sender_log.specs.Book.{Book}
use Rattle.sender_log.specs.Writes.{write_in}
use Rattle.sender_log.specs.Calls as Sender
use Rattle.sender_log.specs.Answers.{told_of, book_from, book_of}
use Rattle.sender_log.specs.Promise.{NoRoom}
use Rattle.sender_log.specs.Promise as Sent
use Rattle.sender_log.proofs.Counting.{same_amount}
use Rattle.sender_log.proofs.More.{more as sender_more}
use Rattle.stream.specs.State.{with_receiver}
use Rattle.stream.specs.Writing.{counted_also, write_answer}
use Rattle.stream.specs.declared.stream.DataStream.{DataStream}
use Rattle.stream.specs.declared.stream.Wrote.{Wrote}
use Rattle.stream_log.specs.Calls.{write_data}
use Rattle.stream_log.specs.Ends.{Ends, receiving, sending, unless_cut, ends_after, ends_of}
use Rattle.stream_log.specs.Answers.{request_wanted}
use Rattle.stream_log.specs.Promise.{next_of, More}
use Rattle.stream_log.proofs.Writing.{behind_take, write_joined}
use Rattle.stream_log.proofs.Taking.{wanted_is, none_wanted, Took, settings, invalid, too_large, no_space, none_due, taken, take_took}
use Rattle.stream_log.proofs.Runs.{start_is, Tied, receiving_on, receiver_keeps, both_valid, run_tied}
use Rattle.stream_log.proofs.Answering.{sender_wrote}

book_next : (c q : ℕ) (xs : List Sender.Call) (x : Sender.Call) (k : Book) → book_from c q k (xs ++ (x ∷ [])) ≡ (told_of c q (book_from c q k xs) x).book
unfolding book_from
book_next c q [] x k = refl
book_next c q (y ∷ xs) x k = book_next c q xs x (told_of c q k y).book

-- the sender's own answer
counted_back : (k : ℕ) (a : Result Written Refusal) (n : ℕ) (x : Bool) → counted_also k a ≡ Ok record { commands = n; more = x } → (m : ℕ) × (a ≡ Ok record { commands = m; more = x })
counted_back k (Ok w) n x e = (w.commands, ap (λ (y : Bool). Ok record { commands = w.commands; more = y }) (same_amount (k + w.commands) n w.more x e).1)
counted_back k (Err why) n x e = absurd (let z : ◌≡◌ {A = ℕ} 0 1 = cc in omega arith)

-- what a write leaves
abbrev LeavesNone : ℕ → ℕ → ℕ → Ends → Type 0
LeavesNone W c q e = (due_in W (log_of W e.received) ≡ false) × ((book_of c q e.sent).waiting ≡ []) × ((book_of c q e.sent).unwritten ≡ [])

abbrev Right : ℕ → ℕ → ℕ → StreamConfig → Ends → Result Written Refusal → PayloadWriter → List ℕ → Type 0
Right W c q cfg e a p b =
    ((n : ℕ) → a ≡ Ok record { commands = n; more = true } → NoRoom p b (next_of W c q e cfg)) × ((n : ℕ) → a ≡ Ok record { commands = n; more = false } → LeavesNone W c q e)

abbrev RightBy : ℕ → ℕ → ℕ → StreamConfig → Ends → Wrote × List ℕ × List ℕ → Type 0
RightBy W c q cfg e w = Right W c q cfg e w.0.answer w.0.payload w.1

module _ (W c q : ℕ) (ring₀ : List ℕ) (least : 1 ≤ W) (most : W ≤ max_window) (started : Sent.Started c q ring₀) (s : DataStream) (ring : List ℕ) (e : Ends)
    (cfg : StreamConfig) (typed : Sender.TypedConfig cfg) (time : ℕ) where
  -- behind a request that was taken, or where none was due
  sent_right : (r : Receiver) → Tied W c q ring₀ (with_receiver s r) ring e → r.request_due ≡ false → (k : ℕ) (p : PayloadWriter) (b : List ℕ) (y : Result Written Refusal) (p₁ : PayloadWriter) (b₁ : List ℕ)
      → (let v = write_in c cfg time (book_of c q e.sent) p b in
      y ≡ counted_also k v.answer → p₁ ≡ v.payload → b₁ ≡ v.bytes → Right W c q cfg (sending e (Sender.write cfg time p b)) y p₁ b₁)
  unfolding told_of
  sent_right r i d k p b y p₁ b₁ ea ep eb =
      let v = write_in c cfg time (book_of c q e.sent) p b in
      let g = receiver_keeps W c q ring₀ least most started (with_receiver s r) ring e i in
      let t = log_of W e.received in
      let none : request_wanted W t cfg ≡ [] = sym (wanted_is W r t g cfg) ∙ none_wanted r cfg d in
      let book : book_of c q (e.sent ++ (Sender.write cfg time p b ∷ [])) ≡ v.book = book_next c q e.sent (Sender.write cfg time p b) _ in
      let m = sender_more c q ring₀ started e.sent i.sender_typed in (
        λ n x. let a = counted_back k v.answer n true (sym ea ∙ x) in rw (none, book, ep, eb) (m.more cfg time p b a.0 a.1),
        λ n x. let a = counted_back k v.answer n false (sym ea ∙ x) in let none_left = m.no_more cfg time p b a.0 a.1 in (sym g.due ∙ d, ap (λ (z : Book). z.waiting) book ∙ none_left.0, ap (λ (z : Book). z.unwritten) book ∙ none_left.1),
      )

  refused_right : (why : Refusal) (p : PayloadWriter) (b : List ℕ) → Right W c q cfg e (Err why) p b
  refused_right why p b = (λ n y. absurd (let z : ◌≡◌ {A = ℕ} 0 1 = cc in omega arith), λ n y. absurd (let z : ◌≡◌ {A = ℕ} 0 1 = cc in omega arith))

  behind_right : (p : PayloadWriter) (b : List ℕ) (a : Result Request Refusal) (r : Receiver) (p₁ : PayloadWriter) (b₁ : List ℕ) → Took s.receiver cfg p b a r p₁ b₁ → Tied W c q ring₀ (with_receiver s r) ring e
      → RightBy W c q cfg (unless_cut a e (Sender.write cfg time p₁ b₁)) (behind_take a (with_receiver s r) cfg time p₁ b₁ ring)
  behind_right p b a r p₁ b₁ (settings why k) i = refused_right why p b
  behind_right p b a r p₁ b₁ (invalid k v) i = refused_right InvalidState p b
  behind_right p b a r p₁ b₁ (too_large g x w l z) i = refused_right TooLarge p b
  behind_right p b a r p₁ b₁ (no_space g x w l z) i =
      let t = log_of W e.received in
      let still : request_wanted W t cfg ≡ x ∷ [] = sym (wanted_is W s.receiver t (receiver_keeps W c q ring₀ least most started (with_receiver s r) ring e i) cfg) ∙ w in
      (λ n y. rw still (omega (arith, tests)), λ n y. absurd (let o : ◌≡◌ {A = Bool} true false = (same_amount 0 n true false y).1 in let z : ◌≡◌ {A = ℕ} 0 1 = cc in omega arith))
  behind_right p b a r p₁ b₁ (none_due g _ w d) i =
      let k = sender_wrote W c q ring₀ least most started (with_receiver s r) ring e i cfg typed time p b in
      sent_right r i d 0 p b _ _ _ (ap (counted_also 0) k.0) k.1 k.2
  behind_right p b a r p₁ b₁ (taken g x _ w d _ l) i =
      let k = sender_wrote W c q ring₀ least most started (with_receiver s r) ring e i cfg typed time p₁ b₁ in
      sent_right r i d 1 p₁ b₁ _ _ _ (ap (counted_also 1) k.0) k.1 k.2

module _ (W c q : ℕ) (ring₀ : List ℕ) (least : 1 ≤ W) (most : W ≤ max_window) (started : Sent.Started c q ring₀) (s : DataStream) (ring : List ℕ) (e : Ends) (i : Tied W c q ring₀ s ring e) where
  write_right : (cfg : StreamConfig) → Sender.TypedConfig cfg → (time : ℕ) (p : PayloadWriter) (b : List ℕ) → RightBy W c q cfg (ends_after W e (write_data cfg time p b)) (write_answer s cfg time p b ring)
  unfolding ends_after Receiver.step_of
  write_right cfg l time p b =
      let take : Receiver.Call = Receiver.take_request cfg p b in
      let t = receiver.take_answer s.receiver cfg p b in
      let v = (receiver_keeps W c q ring₀ least most started s ring e i).valid in
      let h = behind_right W c q ring₀ least most started s ring (receiving e take) cfg l time p b t.0.answer t.0.receiver t.0.payload t.1 (take_took s.receiver cfg p b v)
      (receiving_on W c q ring₀ s ring e i take tt) in
      let w = behind_take t.0.answer (with_receiver s t.0.receiver) cfg time t.0.payload t.1 ring in
      subst (RightBy W c q cfg (ends_after W e (write_data cfg time p b))) (sym (write_joined s ring (both_valid W c q ring₀ least most started s ring e i) cfg time p b))
      (subst (λ (r : Receiver). let y = receiver.take_answer r cfg p b in RightBy W c q cfg (unless_cut y.0.answer (receiving e take) (Sender.write cfg time y.0.payload y.1)) w) i.receiver_is h)

pub more : More
more cfg W c q ring₀ done calls l =
    let st = start_is cfg W c q ring₀ done in
    let i = run_tied cfg W c q ring₀ done calls l in
    let right = write_right W c q ring₀ st.least st.most st.started _ _ (ends_of W calls) i in
    record { more = λ s k time p b. (right s k time p b).0; no_more = λ s k time p b. (right s k time p b).1 }
