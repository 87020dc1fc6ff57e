-- What no call of a run refuses: a stream whose sender holds what a book says and whose window is valid.
use Prim.Native.Nat.{ℕ, zero, suc, ◌+◌, ◌-◌, ◌≤◌}
use Rattle.std.proofs.Common.{Option, Some, None, Result, Ok, Err}
use Rattle.history.specs.declared.queue.Ignored.{Ignored}
use Rattle.receiver.specs.declared.receiver.Delivery.{Delivery}
use Rattle.receiver.specs.declared.receiver.ReceiverAnswer.{ReceiverAnswer}
use Rattle.receiver.specs.declared.receiver.RequestTimer.{RequestTimer}
use Rattle.receiver.specs.declared.receiver.StreamEvent.{StreamEvent}
use Rattle.sender.specs.declared.sender.RequestOutcome.{RequestOutcome}
use Rattle.sender.specs.declared.sender.SenderAnswer.{SenderAnswer}
use Rattle.window.specs.declared.window.SeqRange.{SeqRange}
use Rattle.writing.specs.declared.writing.Written.{Written}
use Rattle.std.specs.Bool.{⊤}
use mathlib.Core.Path.{◌≡◌, refl, sym, ap, ◌∙◌, subst}
use mathlib.Core.Bool.{true, false, not, ◌||◌, ◌&&◌}
use mathlib.Core.Logic.{inl, inr}
use mathlib.Core.List.{List, [], ◌∷◌, ◌++◌}
use native.Mathlib.Omega.{arith}
use lib.Dec.{eqb, leb, ltb}
use lib.ListN.{length, replicate, length-replicate, length-drop}
use borrow.Author.Tests.{le-ltb, le-leb, leb-true, not-false}
use Rattle.config.specs.Range.{outside}
use Rattle.config.specs.Sequence.{after}
use Rattle.config.specs.Settings.{check_of}
use Rattle.config.specs.declared.refusal.Refusal.{Refusal}
use Rattle.config.specs.declared.settings.StreamConfig.{StreamConfig}
use Rattle.config.specs.inner.Tests.{split, and_left}
use Rattle.packet.specs.Layout.{Packet}
use Rattle.packet.specs.Write.{limit_of, start_of, done_of}
use Rattle.packet.specs.declared.writer.PayloadWriter.{PayloadWriter}
use Rattle.command.specs.Messages.{type_words, message_words, divided, messages_of, whole_of}
use Rattle.command.specs.Write.{request_packet, is_defined}
use Rattle.command.specs.declared.retransmit.RetransmitRequest.{RetransmitRequest}
use Rattle.command.specs.declared.retransmit.RetransmitError.{RetransmitError}
use Rattle.history.specs.Entries.{Short, size}
use Rattle.history.proofs.Entries.{used_size}
use Rattle.history.proofs.Flat.{size_append}
use Rattle.history.specs.Queue.{push_answer}
use Rattle.history.specs.Written.{data_packet}
use Rattle.window.specs.Window.{Valid, missing_span, request_of}
use Rattle.window.specs.Arrival.{accept_of}
use Rattle.window.specs.Marking.{mark_of}
use Rattle.window.proofs.Preserved.{valid_accept, valid_mark, valid_all}
use Rattle.rows.specs.Rows.{row_of, fit_all, sizes_of}
use Rattle.receiver.specs.Receiver.{valid_of as receiver_valid, enabled_of, nothing_missing, is_gap, restarts, settled_of, heard_of, loss_of, gave_up, polled_at, polled_of, error_event, error_to, error_of, not_due, with_asked, offered_of, taken_span, taken_of}
use Rattle.receiver.specs.Answers as receiver
use Rattle.receiver.specs.declared.receiver.Receiver.{Receiver}
use Rattle.receiver.specs.declared.receiver.Request.{Request}
use Rattle.receiver.specs.declared.receiver.Request.TheVariants.{Nothing as NotDue, Written as WasTaken, More as NoSpace}
use Rattle.receiver.specs.declared.receiver.RequestWritten.{RequestWritten}
use Rattle.receiver_log.proofs.Follows.{passes}
use Rattle.sender.specs.Answers as sender
use Rattle.writing.specs.Answers as writing
use Rattle.fronts.specs.Commands.{front, behind, commands_in, commands_of, longer, above}
use Rattle.sender.specs.Queueing.{room_of, need_of, queued_of, words_check, placed_of as queue_placed, sent_of}
use Rattle.sender.specs.Requests.{not_written, outcome_of, requested_of}
use Rattle.sender.specs.State.{valid_of as sender_valid}
use Rattle.writing.specs.Writing.{written_by}
use Rattle.sender.specs.declared.sender.Sender.{Sender}
use Rattle.writing.specs.declared.writing.Wrote.{Wrote as SenderWrote}
use Rattle.sender_log.specs.Book.{Book, oldest_in, with_waiting}
use Rattle.sender_log.specs.Calls.{TypedConfig}
use Rattle.sender_log.specs.Writes.{data_from, answer_in, ServedIn, served_in, idled_in, WriteIn, new_by, new_written, written_in, write_in}
use Rattle.config.specs.inner.Choices.{by_cond}
use Rattle.sender_log.proofs.Follows.{Follows, follows_valid, write_follows}
use Rattle.sender_log.proofs.More.{Small, follows_small, idled_short}
use Rattle.sender_log.proofs.Ties.{waiting_count}
use Rattle.stream.specs.State.{valid_of, with_sender, with_receiver}
use Rattle.stream.specs.Writing.{counted_also, sent_after, after_request, data_written, write_answer}
use Rattle.stream.specs.declared.stream.DataStream.{DataStream}
use Rattle.stream.specs.declared.stream.Wrote.{Wrote}
use Rattle.load.specs.Load.{sends, count_of, word, words_of}
use Rattle.link_rules.specs.Arriving.{requested, error_by}
use Rattle.link_rules.specs.NoneRefused.{write_refuses, event_refuses, hearing_refuses, outcome_refuses}
use Rattle.link_rules.proofs.Room.{Room, written_room, one_fits, row_room}
use Rattle.link_rules.proofs.Emptied.{write_calm}

-- ---- the load's words

divided_load : (n : ℕ) → divided n (replicate n word) ≡ record { whole = replicate n (word ∷ []); cut = false }
unfolding divided type_words
divided_load zero = refl
divided_load (suc n) =
    let l : 1 ≤ suc (length (replicate n word)) = omega arith in
    let t : leb (message_words word) (length (word ∷ replicate n word)) ≡ true = le-leb 1 (length (word ∷ replicate n word)) l in
    rw (t, divided_load n)

messages_load : (n : ℕ) → messages_of (replicate n word) ≡ record { whole = replicate n (word ∷ []); cut = false }
unfolding messages_of
messages_load n = rw (length-replicate n word) (divided_load n)

none_longer : (max n : ℕ) → 1 ≤ max → longer max (replicate n (word ∷ [])) ≡ false
unfolding longer
none_longer max zero l = refl
none_longer max (suc n) l = rw (le-ltb max 1 l) (none_longer max n l)

words_pass : (max x : ℕ) → 1 ≤ max → words_check max (words_of x) ≡ Ok tt
unfolding words_check whole_of above
words_pass max x l = rw (messages_load (count_of x), none_longer max (count_of x) l)

-- at most 8, and with the headers of their commands at most 16
few_words : (x : ℕ) → length (words_of x) ≤ 8
unfolding count_of
few_words x =
    let l = length-replicate (count_of x) word in
    let n : count_of x ≤ 8 = elim (split (sends x)) [ inl t ↦ rw t (omega arith) | inr t ↦ rw t (omega arith) ] in
    omega (arith, l, n)

few_commands : (f max : ℕ) (ws : List ℕ) → length (commands_in f max ws) ≤ f
unfolding commands_in
few_commands zero max ws = omega arith
few_commands (suc f) max [] = omega arith
few_commands (suc f) max (w ∷ ws) = omega (arith, few_commands f max (behind max (w ∷ ws)))

few_needed : (s : Sender) (ring : List ℕ) (max x : ℕ) → need_of s ring max (words_of x) ≤ 16
unfolding need_of commands_of behind
few_needed s ring max x =
    let room : ℕ = room_of s ring max in
    let rest : List ℕ = behind room (words_of x) in
    let l : length (commands_in (length rest) max rest) ≤ length rest = few_commands (length rest) max rest in
    let d : length rest ≡ length (words_of x) - length (front room (words_of x)) = length-drop (length (front room (words_of x))) (words_of x) in
    omega (arith, l, d, few_words x)

-- ---- the receiver's calls keep its window valid

module _ (cfg : StreamConfig) (ok : check_of cfg ≡ Ok tt) (r : Receiver) (v : Valid r.window) where
  able : receiver_valid r ≡ true
  able = passes r v

  abbrev Kept : Receiver → Type 0
  Kept x = Valid x.window

  pub heard_sound : (time seq : ℕ) → Kept (receiver.data_answer r cfg time seq).receiver × (hearing_refuses (receiver.data_answer r cfg time seq).answer ≡ false)
  unfolding receiver.data_answer heard_of settled_of
  heard_sound time seq =
      let t = accept_of r.window seq in
      let w : Valid t.window = valid_accept r.window v seq in
      let e : receiver.data_answer r cfg time seq ≡ heard_of r cfg time seq = rw (ok, able) in
      subst (λ (h : ReceiverAnswer Delivery). Kept h.receiver × (hearing_refuses h.answer ≡ false)) (sym e)
      (by_cond Kept (nothing_missing t.window) _ _ (λ _. w) (λ _. by_cond Kept (is_gap t.class && (enabled_of r cfg && restarts r.timer)) _ _ (λ _. w) (λ _. w)), refl)

  abbrev Told-sound : ReceiverAnswer (Option StreamEvent) → Type 0
  Told-sound h = Kept h.receiver × (event_refuses h.answer ≡ false)

  pub error_sound : (x : RetransmitError) → Told-sound (receiver.error_answer r x)
  unfolding receiver.error_answer error_of
  error_sound x =
      let e : receiver.error_answer r x ≡ error_of r x = rw able in
      subst Told-sound (sym e) (by r.asked)
    where
      event : (s : Option SeqRange) → event_refuses (error_event x s) ≡ false
      event None = refl
      event (Some range) = refl

      by : (a : Option RetransmitRequest) → Told-sound (error_to r x a)
      by None = (v, refl)
      by (Some q) =
          let m = mark_of r.window record { first = q.seq; count = q.count } in
          let w : Valid m.window = valid_mark r.window v record { first = q.seq; count = q.count } in
          (by_cond Kept (nothing_missing m.window) _ _ (λ _. w) (λ _. w), event m.span)

  loss_taken : (s : Option SeqRange) → event_refuses (loss_of s) ≡ false
  loss_taken None = refl
  loss_taken (Some range) = refl

  pub polled_sound : (time : ℕ) → Told-sound (receiver.poll_answer r cfg time)
  unfolding receiver.poll_answer polled_of gave_up
  polled_sound time =
      let e : receiver.poll_answer r cfg time ≡ polled_of r cfg time = rw (ok, able) in
      subst Told-sound (sym e) (by r.timer)
    where
      by : (t : Option RequestTimer) → Told-sound (polled_at r cfg time t)
      by None = (v, refl)
      by (Some k) =
          by_cond Told-sound (ltb time k.due) _ _ (λ _. (v, refl))
          (λ _. by_cond Told-sound (nothing_missing r.window) _ _ (λ _. (v, refl))
          (λ _. by_cond Told-sound (ltb k.sent cfg.max_requests && enabled_of r cfg) _ _ (λ _. (v, refl)) (λ _. (valid_all r.window v, loss_taken (missing_span r.window)))))

  -- a due request fits a payload that holds nothing, or an error
  pub record TakeSound (t : RequestWritten × List ℕ) : Type 0 where
    pub window : Kept t.0.receiver
    pub room : Room t.0.payload t.1
    pub low : start_of t.0.payload ≤ 20
    pub answer : (why : Refusal) → t.0.answer ≡ Err why → ⊥
    pub space : t.0.answer ≡ Ok NoSpace → ⊥

  pub taken_sound : (p : PayloadWriter) (b : List ℕ) → Room p b → p.len ≤ 12 → TakeSound (taken_of r cfg p b)
  unfolding taken_of offered_of
  taken_sound p b m l =
      by_cond TakeSound (not r.request_due) _ _ (λ _. none r v)
      (λ _. by_cond TakeSound (not (enabled_of r cfg)) _ _ (λ _. none (with_asked r r.asked) v) (λ _. by (request_of r.window)))
    where
      start : start_of p ≤ 12
      start = elim (split (eqb p.len 0)) [ inl z ↦ rw z (omega arith) | inr z ↦ rw z l ]

      none : (x : Receiver) → Kept x → TakeSound (not_due x p, b)
      none x w = record { window = w; room = m; low = omega (arith, start); answer = λ why e. let z : ◌≡◌ {A = ℕ} 0 1 = cc in omega arith; space = λ e. let z : ◌≡◌ {A = ℕ} 0 1 = cc in omega arith }

      over : (q : PayloadWriter) → q.len ≤ 20 → start_of q ≤ 20
      over q n = elim (split (eqb q.len 0)) [ inl z ↦ rw z (omega arith) | inr z ↦ rw z n ]

      by : (s : Option SeqRange) → TakeSound (taken_span r p b s)
      by None = none (with_asked r r.asked) v
      by (Some range) =
          let q : RetransmitRequest = record { seq = range.first; count = range.count } in
          let e = one_fits p b (request_packet q) m (omega (arith, start)) (omega arith) in
          let n = written_room p b (request_packet q) m in
          rw e (record {
            window = v;
            room = rw e at n;
            low = over (done_of p (request_packet q)).payload (omega (arith, start));
            answer = λ why f. let z : ◌≡◌ {A = ℕ} 0 1 = cc in omega arith;
            space = λ f. let z : ◌≡◌ {A = ℕ} 0 1 = cc in omega arith;
          })

-- ---- the sender's calls

-- the error that waits has a defined reason
abbrev pub Defined : Option RetransmitError → Type 0
Defined None = Unit {0}
Defined (Some e) = is_defined e ≡ true

module _ (cfg : StreamConfig) (ok : check_of cfg ≡ Ok tt) (c q : ℕ) (s : Sender) (ring : List ℕ) (k : Book) (f : Follows c q s ring k) where
  ready : sender_valid s ring ≡ true
  ready = follows_valid c q s ring k f

  size_some : 1 ≤ cfg.max_command_words
  unfolding check_of
  size_some = elim (split (outside 1 64 cfg.max_command_words)) [
    | inl t ↦ absurd (let e = rw t at ok in let z : ◌≡◌ {A = ℕ} 0 1 = cc in omega arith)
    | inr t ↦ leb-true 1 _ (and_left (leb 1 cfg.max_command_words) _ (not-false _ t))
  ]

  -- the load's words are accepted where 16 words are free of unwritten ones
  pub sent_sound : (x : ℕ) → s.unsent_words + 16 ≤ c → (sender.send_answer s cfg ring (words_of x)).0.answer ≡ Ok tt
  unfolding sender.send_answer sent_of queue_placed queued_of
  sent_sound x calm =
      let need : ltb (s.history.size - s.unsent_words) (need_of s ring cfg.max_command_words (words_of x)) ≡ false =
      le-ltb (s.history.size - s.unsent_words) (need_of s ring cfg.max_command_words (words_of x)) (omega (arith, few_needed s ring cfg.max_command_words x, f.words, calm)) in
      rw (ok, ready, words_pass cfg.max_command_words x size_some, need)
      (by_cond (λ (a : SenderAnswer ⊤ × List ℕ). a.0.answer ≡ Ok tt) (eqb (length (words_of x)) 0) _ _ (λ _. refl) (λ _. refl))

  pub requested_sound : (r : RetransmitRequest) → (let a = sender.request_answer s cfg ring r in
      (outcome_refuses a.answer ≡ false) × Defined (error_by None (requested a.answer)) × (a.sender.unsent_words ≡ s.unsent_words))
  unfolding sender.request_answer requested_of
  requested_sound r =
      rw (ok, ready)
      (by_cond Q (not cfg.retransmit) _ _ (λ _. (refl, tt, refl)) (λ _. by_cond Q (not_written s r.seq) _ _ (λ _. (refl, refl, refl)) (λ _. let b = by (push_answer s.queue r).answer in (b.0, b.1, refl))))
    where
      Q : SenderAnswer RequestOutcome → Type 0
      Q a = (outcome_refuses a.answer ≡ false) × Defined (error_by None (requested a.answer)) × (a.sender.unsent_words ≡ s.unsent_words)

      by : (p : Result ⊤ Ignored) → (outcome_refuses (outcome_of p) ≡ false) × Defined (error_by None (requested (outcome_of p)))
      by (Ok _) = (refl, tt)
      by (Err why) = (refl, tt)

-- ---- a write of the sender

module _ (cfg : StreamConfig) (ok : check_of cfg ≡ Ok tt) (time : ℕ) where
  served_room : (rs : List RetransmitRequest) (k : Book) (p : PayloadWriter) (b : List ℕ) → Room p b → Room (served_in k rs p b).payload (served_in k rs p b).bytes
  unfolding served_in
  served_room [] k p b m = m
  served_room (r ∷ rs) k p b m =
      let out = row_of p b (answer_in k r) in
      let n = row_room (answer_in k r) p b m in
      by_cond (λ (x : ServedIn). Room x.payload x.bytes) (out.whole || eqb out.payload.len 0) _ _ (λ _. served_room rs k out.payload out.bytes n) (λ _. n)

  -- a command has at most 64 words, and so the first one fits an empty payload
  new_taken : (n : ℕ) (k : Book) (p : PayloadWriter) (b : List ℕ) → Short k.unwritten → Room p b → write_refuses (new_written cfg time n k p b).answer ≡ false
  unfolding new_written data_from Short sizes_of
  new_taken n k p b short m = by k.unwritten short
    where
      W : WriteIn → Type 0
      W x = write_refuses x.answer ≡ false

      by : (es : List (List ℕ)) → Short es → W (new_by cfg time n k p b (data_from (after (oldest_in k) (length k.written)) es))
      by [] h = refl
      by (e ∷ es) h =
          let new = data_packet (after (oldest_in k) (length k.written)) e in
          by_cond W (not (fit_all p b (new ∷ []))) _ _ (λ over. by_cond W (eqb p.len 0) _ _ (λ none. absurd (fits new h.0 over none)) (λ _. refl)) (λ _. refl)
        where
          fits : (c : Packet) → length c.words ≤ 64 → not (fit_all p b (c ∷ [])) ≡ true → eqb p.len 0 ≡ true → ⊥
          fits c short over none =
              let l : 4 + sizes_of (c ∷ []) ≤ limit_of p (length b) = omega (arith, short, m.max, m.lent) in
              let t : fit_all p b (c ∷ []) ≡ true = rw none (le-leb (4 + sizes_of (c ∷ [])) (limit_of p (length b)) l) in
              let z : ◌≡◌ {A = ℕ} 0 1 = cc in
              omega arith

  pub write_taken : (c : ℕ) (k : Book) → Small k → (p : PayloadWriter) (b : List ℕ) → Room p b → write_refuses (write_in c cfg time k p b).answer ≡ false
  unfolding write_in written_in
  write_taken c k small p b m =
      let served = served_in k k.waiting p b in
      let left : Book = with_waiting k served.waiting in
      let n = served_room k.waiting k p b m in
      rw (ok, m.valid) (by_cond (λ (x : WriteIn). write_refuses x.answer ≡ false) served.more _ _ (λ _. refl)
      (λ _. new_taken served.commands (idled_in c cfg time left) served.payload served.bytes (idled_short c cfg time left small.written small.unwritten).1 n))

-- ---- a stream

pub record Sound (c q : ℕ) (s : DataStream) (ring : List ℕ) : Type 0 where
  pub book : Book
  pub follows : Follows c q s.sender ring book
  pub window : Valid s.receiver.window

pub sound_valid : (c q : ℕ) (s : DataStream) (ring : List ℕ) → Sound c q s ring → valid_of s ring ≡ true
unfolding valid_of
sound_valid c q s ring i = rw (passes s.receiver i.window, follows_valid c q s.sender ring i.book i.follows)

module _ (cfg : StreamConfig) (ok : check_of cfg ≡ Ok tt) (typed : TypedConfig cfg) (c q time : ℕ) (s : DataStream) (ring : List ℕ) (i : Sound c q s ring) where
  pub record WriteSound (w : Wrote × List ℕ × List ℕ) : Type 0 where
    pub stream : Sound c q w.0.stream w.2
    pub answer : write_refuses w.0.answer ≡ false
    -- 16 words of the history are free of unwritten ones
    pub calm : w.0.stream.sender.unsent_words + 16 ≤ c

  counted : (n : ℕ) (a : Result Written Refusal) → write_refuses a ≡ false → write_refuses (counted_also n a) ≡ false
  counted n (Ok w) e = e
  counted n (Err why) e = e

  write_is : (p : PayloadWriter) (b : List ℕ) → Room p b → writing.write_answer s.sender cfg time p b ring ≡ written_by s.sender cfg time p b ring
  unfolding writing.write_answer
  write_is p b m = rw (ok, follows_valid c q s.sender ring i.book i.follows, m.valid)

  held : size i.book.written + size i.book.unwritten ≤ c
  held =
      let f = i.follows in
      omega (arith, used_size s.sender.history ring (i.book.written ++ i.book.unwritten) f.holds, size_append i.book.written i.book.unwritten, f.holds.room, f.words)

  few : length i.book.waiting ≤ 16
  few = let f = i.follows in omega (arith, waiting_count c q s.sender ring i.book f, f.fit.held, f.fit.most)

  sent_after_lem : (n : ℕ) (r : Receiver) (p : PayloadWriter) (b : List ℕ) → Valid r.window → Room p b → start_of p ≤ 20 → WriteSound (sent_after n (with_receiver s r) cfg time p b ring)
  unfolding sent_after
  sent_after_lem n r p b v m low =
      let e : writing.write_answer s.sender cfg time p b ring ≡ written_by s.sender cfg time p b ring = write_is p b m in
      let k = write_follows c q s.sender ring i.book i.follows cfg typed time p b in
      let small = follows_small c q s.sender ring i.book i.follows in
      let t = write_taken cfg ok time c i.book small p b m in
      let d = write_calm c cfg ok time i.book small i.follows.least held few p b m low in
      subst (λ (w : SenderWrote × List ℕ × List ℕ). WriteSound (record { stream = with_sender (with_receiver s r) w.0.sender; payload = w.0.payload; answer = counted_also n w.0.answer }, w.1, w.2)) e
      (record { stream = record { book = _; follows = k.0; window = v }; answer = counted n (writing.write_answer s.sender cfg time p b ring).0.answer (ap write_refuses k.1 ∙ t); calm = omega (arith, k.0.unsent_words, d) })

  pub written_sound : (p : PayloadWriter) (b : List ℕ) → Room p b → p.len ≤ 12 → WriteSound (write_answer s cfg time p b ring)
  unfolding write_answer data_written
  written_sound p b m l =
      let t = taken_of s.receiver cfg p b in
      let h = taken_sound cfg ok s.receiver i.window p b m l in
      rw (ok, sound_valid c q s ring i, m.valid) (by t.0.answer h.answer h.space t.0.receiver t.0.payload t.1 h.window h.room h.low)
    where
      by : (a : Result Request Refusal) → ((why : Refusal) → a ≡ Err why → ⊥) → (a ≡ Ok NoSpace → ⊥) → (r : Receiver) (p : PayloadWriter) (b : List ℕ) → Valid r.window → Room p b → start_of p ≤ 20
          → WriteSound (after_request a (with_receiver s r) cfg time p b ring)
      by (Err why) never space r p b v m l = absurd (never why refl)
      by (Ok NoSpace) never space r p b v m l = absurd (space refl)
      by (Ok NotDue) never space r p b v m l = sent_after_lem 0 r p b v m l
      by (Ok WasTaken) never space r p b v m l = sent_after_lem 1 r p b v m l
