-- After every list of a console's calls: what its sender holds agrees with the log, and each payload holds what the log says.
use Prim.Native.Nat.{ℕ, ◌≤◌, ◌<◌}
use Rattle.std.proofs.Common.{Result, Ok}
use Rattle.config.specs.declared.refusal.Refusal.{Refusal}
use Rattle.std.specs.Bool.{⊤}
use mathlib.Core.Path.{◌≡◌, refl}
use mathlib.Core.Bool.{Bool, true, false, cond, ◌&&◌}
use mathlib.Core.List.{List, [], ◌∷◌, ◌++◌}
use native.Mathlib.Omega.{arith}
use lib.Dec.{leb, ltb}
use borrow.Author.Tests.{leb-true, not-false}
use lib.ListN.{length}
use Rattle.config.specs.Range.{within, outside}
use Rattle.config.specs.Settings.{check_of}
use Rattle.config.specs.declared.settings.StreamConfig.{StreamConfig}
use Rattle.config.specs.inner.Tests.{tests, and_right}
use Rattle.packet.specs.Layout.{Words32}
use Rattle.packet.specs.Write.{opened_of, valid_of as payload_valid}
use Rattle.packet.specs.declared.writer.PayloadWriter.{PayloadWriter}
use Rattle.command.specs.declared.retransmit.RetransmitRequest.{RetransmitRequest}
use Rattle.sender.specs.State.{valid_of}
use Rattle.sender.specs.Answers.{new_answer}
use Rattle.writing.specs.Answers.{write_answer}
use Rattle.sender.specs.declared.sender.Sender.{Sender}
use Rattle.writing.specs.declared.writing.Wrote.{Wrote}
use Rattle.sender_log.specs.Book.{Book, nothing, sent_in, requested_in}
use Rattle.sender_log.specs.Writes.{write_in}
use Rattle.sender_log.specs.Calls.{TypedConfig}
use Rattle.sender_log.proofs.Follows.{Follows, start_follows, send_follows, request_follows, write_follows}
use Rattle.config.specs.inner.Choices.{by_cond, by_check}
use Rattle.delivery.specs.Commands.{Command, data_in}
use Rattle.delivery.specs.Console.{Lent, Call, open_payload, lend_again, queue_words, retransmit_request, write_into, put_in, write_astray, Entry, queued, noted, Console, Step, noting, payload_at, open_step, lent_again, put_step, put_into, write_step, step_of, log_from, fresh_console, Allowed, AllAllowed, accepted, added, held, written, commands, Was, was}
use Rattle.delivery.proofs.Payloads.{Holds}
use Rattle.delivery.proofs.Books.{Agrees, nothing_agrees, sent_agrees, requested_agrees}
use Rattle.delivery.proofs.Writing.{write_grown}
use Rattle.delivery.proofs.Tags.{on, commands_tagged}
use Rattle.delivery.proofs.Lent.{Reads, reads_opened, reads_lent, reads_put, reads_more, reads_added, Payloads, none_opened, payloads_quiet, payloads_opened, payloads_stood, payloads_wrote}

-- ---- a write that is refused for its settings or for its payload's state

not_both : (b : Bool) → (b && false) ≡ false
not_both true = refl
not_both false = refl

-- changes neither sender nor history
pub astray_keeps : (s : Sender) (cfg : StreamConfig) (time : ℕ) (p : PayloadWriter) (b ring : List ℕ) → (check_of cfg ≡ Ok tt → payload_valid p (length b) ≡ false)
    → ((write_answer s cfg time p b ring).0.sender ≡ s) × ((write_answer s cfg time p b ring).2 ≡ ring)
unfolding write_answer
astray_keeps s cfg time p b ring h = by_check Kept (check_of cfg) _ _ (λ why. (refl, refl)) (λ passed. rw (h passed, not_both (valid_of s ring)) (refl, refl))
  where
    Kept : Wrote × List ℕ × List ℕ → Type 0
    Kept w = (w.0.sender ≡ s) × (w.2 ≡ ring)

-- a limit that opening takes
pub limit_most : (limit : ℕ) → outside 8 1400 limit ≡ false → limit ≤ 1400
limit_most limit e = leb-true limit 1400 (and_right (leb 8 limit) (leb limit 1400) (not-false (within 8 1400 limit) e))

-- ---- every call keeps what holds

module _ (c q : ℕ) where
  pub record Good (d : Console) (t : List Entry) : Type 0 where
    pub book : Book
    pub follows : Follows c q d.sender d.ring book
    pub agrees : Agrees c book (accepted t) (commands (written t))
    pub payloads : Payloads d.payloads (written t) t

  abbrev pub StepGood : List Entry → Step → Type 0
  StepGood t s = Good s.console (s.entry ∷ t)

  -- ---- calls that touch no payload

  pub quiet_noted : (t : List Entry) (k : ℕ) (v : Lent) → Was (noted ∷ t) k v → Was t k v
  quiet_noted t k v (was e h) = h

  pub quiet_queued : (t : List Entry) (cfg : StreamConfig) (ws : List ℕ) (a : Result ⊤ Refusal) (k : ℕ) (v : Lent) → Was (queued cfg ws a ∷ t) k v → Was t k v
  quiet_queued t cfg ws a k v (was e h) = h

  unfoldable pub noted_good : (d : Console) (t : List Entry) → Good d t → StepGood t (noting d)
  noted_good d t i =
      record { book = i.book; follows = i.follows; agrees = i.agrees; payloads = payloads_quiet d.payloads (written t) t noted (quiet_noted t) (λ o. o) i.payloads }

  unfoldable pub queue_good : (d : Console) (t : List Entry) → Good d t → (cfg : StreamConfig) (ws : List ℕ) → Words32 ws → StepGood t (step_of d (queue_words cfg ws))
  unfolding step_of
  queue_good d t i cfg ws h =
      let f = send_follows c q d.sender d.ring i.book i.follows cfg ws in
      record {
        book = (sent_in c i.book cfg ws).book;
        follows = f.0;
        agrees = rw f.1 (sent_agrees c i.book cfg ws (accepted t) (commands (written t)) i.agrees h);
        payloads = payloads_quiet d.payloads (written t) t _ (quiet_queued t cfg ws _) (λ o. o) i.payloads;
      }

  request_good : (d : Console) (t : List Entry) → Good d t → (cfg : StreamConfig) (r : RetransmitRequest) → StepGood t (step_of d (retransmit_request cfg r))
  unfolding step_of
  request_good d t i cfg r =
      record {
        book = (requested_in q i.book cfg r).book;
        follows = (request_follows c q d.sender d.ring i.book i.follows cfg r).0;
        agrees = requested_agrees c q i.book cfg r (accepted t) (commands (written t)) i.agrees;
        payloads = payloads_quiet d.payloads (written t) t noted (quiet_noted t) (λ o. o) i.payloads;
      }

  -- ---- calls that touch one

  unfoldable pub opened_good : (d : Console) (t : List Entry) → Good d t → (limit : ℕ) (buffer : List ℕ) → limit ≤ 1400 → StepGood t (open_step d buffer (Ok record { len = 0; max = limit }))
  opened_good d t i limit buffer l =
      record {
        book = i.book;
        follows = i.follows;
        agrees = i.agrees;
        payloads = payloads_opened d.payloads (written t) t record { payload = record { len = 0; max = limit }; buffer = buffer } (reads_opened limit buffer l) i.payloads;
      }

  open_good : (d : Console) (t : List Entry) → Good d t → (limit : ℕ) (buffer : List ℕ) → StepGood t (open_step d buffer (opened_of limit))
  unfolding opened_of
  open_good d t i limit buffer =
      by_cond (λ (o : Result PayloadWriter Refusal). StepGood t (open_step d buffer o)) (outside 8 1400 limit) _ _ (λ e. noted_good d t i) (λ e. opened_good d t i limit buffer (limit_most limit e))

  unfoldable pub put_good : (d : Console) (t : List Entry) → Good d t → (k : ℕ) → k < length d.payloads → (v : Lent) → (Reads (payload_at d k) (on k (written t)) → Reads v (on k (written t)))
      → StepGood t (put_step d k v)
  put_good d t i k l v keeps =
      record {
        book = i.book;
        follows = i.follows;
        agrees = i.agrees;
        payloads = payloads_stood d.payloads (written t) t i.payloads k l v (keeps (i.payloads.open_ones k l));
      }

  touch_good : (d : Console) (t : List Entry) → Good d t → (k : ℕ) (f : Lent → Lent) → ((v : Lent) (cs : List Command) → Reads v cs → Reads (f v) cs)
      → StepGood t (cond (ltb k (length d.payloads)) (put_step d k (f (payload_at d k))) (noting d))
  touch_good d t i k f keeps =
      by_cond (StepGood t) (ltb k (length d.payloads)) _ _
      (λ e. put_good d t i k (omega (arith, tests)) (f (payload_at d k)) (keeps (payload_at d k) (on k (written t)))) (λ e. noted_good d t i)

  unfoldable pub write_good : (d : Console) (t : List Entry) → Good d t → (k : ℕ) (cfg : StreamConfig) (time : ℕ) → TypedConfig cfg → k < length d.payloads → StepGood t (write_step d k cfg time)
  write_good d t i k cfg time typed l =
      let v : Lent = payload_at d k in
      let w = write_answer d.sender cfg time v.payload v.buffer d.ring in
      let u : Lent = record { payload = w.0.payload; buffer = w.1 } in
      let f = write_follows c q d.sender d.ring i.book i.follows cfg typed time v.payload v.buffer in
      let before : Reads v (on k (written t)) = i.payloads.open_ones k l in
      let g = write_grown c i.follows.most (accepted t) cfg time i.book v.payload v.buffer (commands (written t)) before.packets (omega (arith, i.follows.least)) i.agrees before.holds in
      let holds : Holds w.0.payload w.1 (before.packets ++ g.more) = rw (f.2, f.3) g.holds in
      let after : Reads u (on k (written t) ++ data_in g.more) = reads_more v u (on k (written t)) before g.more holds in
      let adds : added v u ≡ data_in g.more = reads_added v u (on k (written t)) (data_in g.more) before after in
      record {
        book = (write_in c cfg time i.book v.payload v.buffer).book;
        follows = f.0;
        agrees = rw (commands_tagged k (held v) (added v u) (written t), adds) g.agrees;
        payloads = payloads_wrote d.payloads (written t) t i.payloads k l u v w.0.answer (data_in g.more) before after;
      }

  -- ---- every call

  step_good : (d : Console) (t : List Entry) → Good d t → (call : Call) → Allowed call → StepGood t (step_of d call)
  unfolding step_of
  step_good d t i (open_payload limit buffer) a = open_good d t i limit buffer
  step_good d t i (lend_again k rest) a = touch_good d t i k (lent_again rest) (reads_lent rest)
  step_good d t i (queue_words cfg ws) a = queue_good d t i cfg ws a
  step_good d t i (retransmit_request cfg r) a = request_good d t i cfg r
  step_good d t i (write_into k cfg time) a =
      by_cond (StepGood t) (ltb k (length d.payloads)) _ _ (λ e. write_good d t i k cfg time a (omega (arith, tests))) (λ e. noted_good d t i)
  step_good d t i (put_in k call) a = touch_good d t i k (put_into call) (λ v cs. reads_put call v cs a.0 a.1)
  step_good d t i (write_astray p b cfg time) a =
      let e = astray_keeps d.sender cfg time p b d.ring a in rw (e.0, e.1) (noted_good d t i)

  log_good : (calls : List Call) (d : Console) (t : List Entry) → Good d t → AllAllowed calls → (e : Console) × Good e (log_from d t calls)
  unfolding log_from
  log_good [] d t i a = (d, i)
  log_good (call ∷ calls) d t i a = log_good calls (step_of d call).console ((step_of d call).entry ∷ t) (step_good d t i call a.0) a.1

  pub console_good : (ring₀ : List ℕ) → (new_answer c q ring₀).0.answer ≡ Ok tt → (calls : List Call) → AllAllowed calls
      → (e : Console) × Good e (log_from (fresh_console c q ring₀) [] calls)
  console_good ring₀ started calls a =
      log_good calls (fresh_console c q ring₀) []
      record { book = nothing; follows = start_follows c q ring₀ started; agrees = nothing_agrees c; payloads = none_opened } a
