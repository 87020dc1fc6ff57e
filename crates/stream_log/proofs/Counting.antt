-- What a stream's write adds: a due request, and then what its sender's write adds.
use Prim.Native.Nat.{ℕ, ◌+◌, ◌≤◌, ◌<◌}
use Rattle.std.proofs.Common.{Some, Result, Ok, Err}
use Rattle.writing.specs.declared.writing.Written.{Written}
use mathlib.Core.Path.{◌≡◌, refl, sym, ◌∙◌, subst}
use mathlib.Core.Logic.{inl, inr}
use mathlib.Core.Bool.{Bool, true}
use mathlib.Core.List.{List, [], ◌∷◌, ◌++◌}
use native.Mathlib.Omega.{arith}
use lib.Dec.{eqb}
use lib.ListN.{length, take, length-append}
use lib.Seq.{take_all}
use Rattle.config.specs.Settings.{check_of}
use Rattle.config.specs.declared.refusal.Refusal.{Refusal}
use Rattle.config.specs.declared.refusal.Refusal.TheVariants.{TooLarge, InvalidState}
use Rattle.config.specs.declared.settings.StreamConfig.{StreamConfig}
use Rattle.config.specs.inner.Tests.{split, tests}
use Rattle.packet.specs.Layout.{Packet, AllEncodable, Words32}
use Rattle.packet.specs.Write.{valid_of as payload_valid}
use Rattle.packet.specs.declared.writer.PayloadWriter.{PayloadWriter}
use Rattle.packet.proofs.Outcomes.{valid_length}
use Rattle.packet.proofs.RoundTrip.{all_encodable_append}
use Rattle.command.specs.Write.{request_packet}
use Rattle.command.specs.declared.retransmit.RetransmitRequest.{RetransmitRequest}
use Rattle.window.specs.Set.{max_window}
use Rattle.receiver.specs.Receiver.{valid_of as receiver_valid}
use Rattle.receiver.specs.Answers as receiver
use Rattle.receiver.specs.declared.receiver.Receiver.{Receiver}
use Rattle.receiver.specs.declared.receiver.Request.{Request}
use Rattle.receiver_log.specs.Calls as Receiver
use Rattle.receiver_log.specs.Promise.{log_of}
use Rattle.receiver_log.proofs.Follows.{Follows as ReceiverFollows, AskedOk}
use Rattle.receiver_log.proofs.Runs.{step_ok as receiver_step, run_ok as receiver_run}
use Rattle.writing.specs.Answers as writing
use Rattle.sender.specs.declared.sender.Sender.{Sender}
use Rattle.sender_log.specs.Book.{Book}
use Rattle.sender_log.specs.Calls.{TypedConfig}
use Rattle.sender_log.specs.Answers.{book_of}
use Rattle.sender_log.specs.Opened.{Past}
use Rattle.sender_log.specs.Past.{past_of}
use Rattle.sender_log.specs.Counted.{wanted_in, CountedIn}
use Rattle.sender_log.specs.Promise.{NoRoom}
use Rattle.sender_log.proofs.Follows.{Follows as SenderFollows, write_follows}
use Rattle.sender_log.proofs.Runs.{run_ok as sender_run}
use Rattle.sender_log.proofs.Added.{Appends, none, appends_more, one_appended}
use Rattle.sender_log.proofs.More.{Small, follows_small}
use Rattle.sender_log.proofs.Words.{Book32, book_32}
use Rattle.sender_log.proofs.Counting.{take_seam, drop_seam, Out, wrote, unchanged, write_taken, encodable_take, same_amount, counts}
use Rattle.sender_log.proofs.Opened.{Agrees}
use Rattle.sender_log.proofs.Past.{past_agrees}
use Rattle.sender_log.proofs.Wanted.{wanted_out, wanted_encodable}
use Rattle.stream.specs.State.{with_receiver}
use Rattle.stream.specs.Writing.{write_refused, counted_also, write_answer}
use Rattle.stream.specs.declared.stream.DataStream.{DataStream}
use Rattle.stream.specs.declared.stream.Wrote.{Wrote}
use Rattle.stream_log.specs.Calls.{run}
use Rattle.stream_log.specs.Ends.{ends_of}
use Rattle.stream_log.specs.Answers.{request_wanted}
use Rattle.stream_log.specs.Count.{wanted_of, StreamCounted}
use Rattle.stream_log.proofs.Writing.{behind_take, Joined, write_joined}
use Rattle.stream_log.proofs.Taking.{wanted_by, wanted_is, Took, settings, invalid, too_large, no_space, none_due, taken, take_took, one_written, one_valid}
use Rattle.stream_log.proofs.Runs.{start_is, moved, reached}

-- ---- what the sender's write adds behind it

out_behind : (p q r : PayloadWriter) (b b₁ b₂ : List ℕ) (cs wanted : List Packet) (k : ℕ) (a : Result Written Refusal) → k ≡ length cs → p.len ≤ length b → Appends p b cs q b₁
    → Out wanted q b₁ a r b₂ → (length cs ≡ 0 → (q ≡ p) × (b₁ ≡ b)) → (0 < length cs → (why : Refusal) → a ≡ Err why → ⊥)
    → Out (cs ++ wanted) p b (counted_also k a) r b₂
out_behind p q r b b₁ b₂ cs wanted k a e l h (wrote n x _ _ m j few left all) none' some' =
    let z = length-append cs wanted in
    let whole : take k cs ≡ cs = take_all k cs (omega arith) in
    wrote (k + n) x r b₂ l (rw (take_seam k n cs wanted e, whole) (appends_more p q r b b₁ b₂ cs (take n wanted) h j)) (omega arith)
    (λ y. rw (drop_seam k n cs wanted e) (left y)) (λ y. omega (arith, all y))
out_behind p q r b b₁ b₂ cs wanted k a e l h (unchanged why) none' some' = elim (split (eqb (length cs) 0)) [
  | inl z ↦ let f = none' (omega (arith, tests)) in rw (f.0, f.1) (unchanged why)
  | inr z ↦ absurd (some' (omega (arith, tests)) why refl)
]

-- ---- the whole write

-- the request that a reached receiver made asks for no more than its window holds
request_encodable : (q : RetransmitRequest) → q.count ≤ 128 → AllEncodable (request_packet q ∷ [])
unfolding AllEncodable Words32
request_encodable q l = (record { few = omega arith; words32 = (omega arith, tt) }, tt)

module _ (W c q : ℕ) (most : W ≤ max_window) (s : DataStream) (ring : List ℕ) (t : List Receiver.Entry) (bk : Book) (f : ReceiverFollows W s.receiver t) (g : SenderFollows c q s.sender ring bk)
    (c-some : 1 ≤ c) (x' : Past) (agree : Agrees c bk x') (h32 : Book32 bk) (cfg : StreamConfig) (typed : TypedConfig cfg) (time : ℕ) (p : PayloadWriter) (b : List ℕ) where
  abbrev Counts : List Packet → Wrote × List ℕ × List ℕ → Type 0
  Counts wanted w =
      ((n : ℕ) (x : Bool) → w.0.answer ≡ Ok record { commands = n; more = x } → AllEncodable (take n wanted)) × Out wanted p b w.0.answer w.0.payload w.1

  small : Small bk
  small = follows_small c q s.sender ring bk g

  -- the sender's write into a payload
  sender_out : (p₁ : PayloadWriter) (b₁ : List ℕ) → (let w = writing.write_answer s.sender cfg time p₁ b₁ ring in Out (wanted_in c cfg time x' p₁ b₁) p₁ b₁ w.0.answer w.0.payload w.1)
  sender_out p₁ b₁ = let w = write_follows c q s.sender ring bk g cfg typed time p₁ b₁ in rw (w.1, w.2, w.3) (wanted_out c c-some cfg time bk small x' agree p₁ b₁)

  sender_taken : (p₁ : PayloadWriter) (b₁ : List ℕ) → check_of cfg ≡ Ok tt → payload_valid p₁ (length b₁) ≡ true → (p₁.len ≡ 0 → ⊥) → (why : Refusal)
      → (writing.write_answer s.sender cfg time p₁ b₁ ring).0.answer ≡ Err why → ⊥
  sender_taken p₁ b₁ k v o why e =
      let w = write_follows c q s.sender ring bk g cfg typed time p₁ b₁ in
      write_taken c cfg time bk small p₁ b₁ o v k why (sym w.1 ∙ e)

  sender_encodable : (p₁ : PayloadWriter) (b₁ : List ℕ) → AllEncodable (wanted_in c cfg time x' p₁ b₁)
  sender_encodable p₁ b₁ = wanted_encodable c c-some cfg time bk small x' agree p₁ b₁ h32

  refused_out_lem : (wanted : List Packet) (r : Receiver) (why : Refusal) → Counts wanted (write_refused (with_receiver s r) p b ring why)
  refused_out_lem wanted r why = (λ n x e. absurd (let z : ◌≡◌ {A = ℕ} 0 1 = cc in omega arith), unchanged why)

  behind_out : (a : Result Request Refusal) (r : Receiver) (p₁ : PayloadWriter) (b₁ : List ℕ) → Took s.receiver cfg p b a r p₁ b₁ → AskedOk W r.asked
      → Counts (wanted_by s.receiver cfg ++ wanted_in c cfg time x' p₁ b₁) (behind_take a (with_receiver s r) cfg time p₁ b₁ ring)
  unfolding AllEncodable
  behind_out a r p₁ b₁ (settings why k) ok = refused_out_lem _ r why
  behind_out a r p₁ b₁ (invalid k v) ok = refused_out_lem _ r InvalidState
  behind_out a r p₁ b₁ (too_large g x e l z) ok = refused_out_lem _ r TooLarge
  behind_out a r p₁ b₁ (no_space g x e l z) ok =
      let none-fits : NoRoom p b (x ∷ []) = omega (arith, tests) in
      rw e (
        λ n y o. let k = same_amount 0 n true y o in rw (← k.0) tt,
        wrote 0 true p b (valid_length p (length b) g.valid) none (omega arith) (λ y. none-fits) (λ y. absurd (let o : ◌≡◌ {A = ℕ} 0 1 = cc in omega arith)),
      )
  behind_out a r p₁ b₁ (none_due g _ e d) ok = rw e (
    λ n x y. encodable_take n (wanted_in c cfg time x' p b) (sender_encodable p b),
    out_behind p p _ b b _ [] (wanted_in c cfg time x' p b) 0 _ refl (valid_length p (length b) g.valid) none (sender_out p b) (λ z. (refl, refl)) (λ z. absurd (let y : ⊥ = omega arith in y)),
  )
  behind_out a r p₁ b₁ (taken g q' _ e d k l) ok =
      let request : List Packet = request_packet q' ∷ [] in
      let few : AskedOk W (Some q') = subst (AskedOk W) k ok in
      let w = one_written p b g.valid (request_packet q') l refl in
      let adds : Appends p b request p₁ b₁ = rw w (one_appended p b (request_packet q') (omega (arith, tests)) (omega arith)) in
      let some : p₁.len ≡ 0 → ⊥ = rw w (λ z. omega arith) in
      let valid : payload_valid p₁ (length b₁) ≡ true = rw w (one_valid p b g.valid (request_packet q') l refl) in
      rw e (
        λ n x y. encodable_take n (request ++ wanted_in c cfg time x' p₁ b₁) (all_encodable_append request (wanted_in c cfg time x' p₁ b₁) (request_encodable q' (omega (arith, few.1))) (sender_encodable p₁ b₁)),
        out_behind p p₁ _ b b₁ _ request (wanted_in c cfg time x' p₁ b₁) 1 _ refl (valid_length p (length b) g.valid) adds (sender_out p₁ b₁) (λ z. absurd (let y : ⊥ = omega arith in y))
            (λ z. sender_taken p₁ b₁ g.check valid some),
      )

  stream_out : receiver_valid s.receiver ≡ true → Joined s ring
      → (let t₁ = receiver.take_answer s.receiver cfg p b in Counts (wanted_by s.receiver cfg ++ wanted_in c cfg time x' t₁.0.payload t₁.1) (write_answer s cfg time p b ring))
  unfolding Receiver.step_of
  stream_out v joined =
      let t₁ = receiver.take_answer s.receiver cfg p b in
      let ok : AskedOk W t₁.0.receiver.asked = (receiver_step W s.receiver t (Receiver.take_request cfg p b) f tt).follows.few in
      rw (joined cfg time p b) (behind_out t₁.0.answer t₁.0.receiver t₁.0.payload t₁.1 (take_took s.receiver cfg p b v) ok)

-- ---- the theorem

pub stream_counted : StreamCounted
unfolding wanted_of
stream_counted start W c q ring₀ done calls l cfg typed time p b =
    let u = run start W c q ring₀ calls in
    let e = ends_of W calls in
    let i = reached start W c q ring₀ done calls l in
    let st = start_is start W c q ring₀ done in
    let t = log_of W e.received in
    let k = book_of c q e.sent in
    let f : ReceiverFollows W u.stream.receiver t = subst (λ (r : Receiver). ReceiverFollows W r t) (sym i.receiver) (receiver_run W st.least st.most e.received i.receiver_typed) in
    let g : SenderFollows c q u.stream.sender u.ring k = moved i.sender i.history (λ (x : Sender) (m : List ℕ). SenderFollows c q x m k) (sender_run c q ring₀ st.started e.sent i.sender_typed) in
    let some : 1 ≤ c = omega (arith, g.least) in
    let x = past_of c q ring₀ e.sent in
    let o = stream_out W c q st.most u.stream u.ring t k f g some x (past_agrees c q some ring₀ st.started e.sent i.sender_typed) (book_32 c q e.sent i.sender_typed) cfg typed time p b i.receiver_kept.valid (write_joined u.stream u.ring i.valid) in
    let w = write_answer u.stream cfg time p b u.ring in
    let t₁ = receiver.take_answer u.stream.receiver cfg p b in
    let rest = wanted_in c cfg time x t₁.0.payload t₁.1 in
    let said : CountedIn (request_wanted W t cfg ++ rest) p b w.0.answer w.0.payload w.1 =
    subst (λ (xs : List Packet). CountedIn (xs ++ rest) p b w.0.answer w.0.payload w.1) (wanted_is W u.stream.receiver t i.receiver_kept cfg)
    (counts (wanted_by u.stream.receiver cfg ++ rest) p b w.0.answer w.0.payload w.1 o.0 o.1) in
    subst (λ (r : Receiver). let v = receiver.take_answer r cfg p b in
    CountedIn (request_wanted W t cfg ++ wanted_in c cfg time x v.0.payload v.1) p b w.0.answer w.0.payload w.1) i.receiver said
