-- What the theorems are said of: every call of a console and of a chamber with any arguments of its types, refused ones too, every size that 01 allows, and a line as
-- wide as 01's.
use Prim.Native.Nat.{ℕ, suc, ◌+◌, ◌-◌, ◌*◌, ◌≤◌, ◌<◌}
use Rattle.std.proofs.Common.{Option, Result, Ok, Err}
use mathlib.Core.Path.{◌≡◌, refl, ◌∙◌}
use mathlib.Core.Bool.{false}
use mathlib.Core.Logic.{◌↔◌}
use mathlib.Core.List.{List, [], ◌∷◌, ◌++◌, Memᴰ}
use native.Mathlib.Omega.{arith}
use lib.ListN.{length, get_or}
use Rattle.config.specs.Settings.{check_of}
use Rattle.config.specs.declared.refusal.Refusal.{Refusal}
use Rattle.config.specs.declared.settings.StreamConfig.{StreamConfig}
use Rattle.packet.specs.Layout.{Words32}
use Rattle.packet.specs.Write.{valid_of as payload_valid}
use Rattle.packet.specs.declared.writer.PayloadWriter.{PayloadWriter}
use Rattle.command.specs.Calls as Writes
use Rattle.command.specs.Messages.{words_in}
use Rattle.command.specs.declared.retransmit.RetransmitError.{RetransmitError}
use Rattle.command.specs.declared.retransmit.RetransmitRequest.{RetransmitRequest}
use Rattle.receiver.specs.Answers.{take_answer}
use Rattle.receiver.specs.declared.receiver.Delivery.{Delivery}
use Rattle.receiver.specs.declared.receiver.Receiver.{Receiver}
use Rattle.receiver.specs.declared.receiver.Request.{Request}
use Rattle.receiver.specs.declared.receiver.StreamEvent.{StreamEvent}
use Rattle.receiver_log.specs.Calls.{Entry as Heard, data_entry, poll_entry, error_entry, nak_entry, take_entry, AllTyped}
use Rattle.receiver_log.specs.Calls as Chamber
use Rattle.receiver_log.specs.Log.{origin, Missing}
use Rattle.sender_log.proofs.Covered.{every_size}
use Rattle.delivery.specs.Commands.{Command, is_data, data_of}
use Rattle.delivery.specs.Console.{Lent, bytes, Call, open_payload, lend_again, queue_words, retransmit_request, write_into, put_in, write_astray, Entry, Console, step_of, log_from, fresh_console, Allowed, AllAllowed, accepted, held, written, positions, position_of, Was}
use Rattle.delivery.specs.Chamber.{handed_on, handed_by_position, AllHanded}
use Rattle.delivery.specs.Performance.{SamePerformance}
use Rattle.delivery.specs.Sentence.{Line, hear, pass, highest, NoLoss, Run, sent_log, heard_log, heard_in, Holds, Contract, HandedWords}
use Rattle.delivery.specs.Positions.{numbered}
use Rattle.delivery.specs.Repeats.{last_of, Brought, one, Brings, written_payloads, Arrives, next, heard_commands, AllHandedOn, RepeatsAlone}
use Rattle.delivery.specs.Paced.{Ready, Paced, PacedSender}
use Rattle.delivery.specs.Take.{TakenBy, Takes}

-- ---- calls

-- neither queued nor written, and no request
abbrev Apart : Call → Type 0
Apart (open_payload limit buffer) = Unit {0}
Apart (lend_again k rest) = Unit {0}
Apart (put_in k call) = Unit {0}
Apart (write_astray p b cfg time) = Unit {0}
Apart (queue_words cfg ws) = ⊥
Apart (retransmit_request cfg r) = ⊥
Apart (write_into k cfg time) = ⊥

-- of a console: R and K up to 255, a buffer lent again, a write refused for its payload's state
pub every_call : (limit k : ℕ) (buffer ws : List ℕ) (cfg : StreamConfig) (r : RetransmitRequest) (time : ℕ) (call : Writes.Call) (p : PayloadWriter)
    → Words32 ws → cfg.fec_repeats < 256 → cfg.idle_further < 256 → Writes.Typed call → is_data (Writes.command_of call) ≡ false → payload_valid p (length buffer) ≡ false
    → AllAllowed (open_payload limit buffer ∷ lend_again k buffer ∷ queue_words cfg ws ∷ retransmit_request cfg r ∷ write_into k cfg time ∷ put_in k call ∷ write_astray p buffer cfg time ∷ [])
every_call limit k buffer ws cfg r time call p w f g t d e = (tt, (tt, (w, (tt, ((f, g), ((t, d), (λ passed. e, tt)))))))

-- or for its settings
pub every_refused : (p : PayloadWriter) (buffer : List ℕ) (cfg : StreamConfig) (time : ℕ) → (check_of cfg ≡ Ok tt → ⊥) → Allowed (write_astray p buffer cfg time)
every_refused p buffer cfg time h passed = absurd (h passed)

-- of a chamber
pub every_arrival : (cfg : StreamConfig) (time seq : ℕ) (ws : List ℕ) (e : RetransmitError) (p : PayloadWriter) (b : List ℕ) → seq < 65536
    → AllTyped (Chamber.data_command cfg time seq ws ∷ Chamber.poll cfg time ∷ Chamber.retransmit_error e ∷ Chamber.nak ∷ Chamber.take_request cfg p b ∷ [])
every_arrival cfg time seq ws e p b l = (l, (tt, (tt, (tt, (tt, tt)))))

-- the log holds each call, refused ones too
pub every_entry : (calls : List Call) (c : Console) (t : List Entry) → length (log_from c t calls) ≡ length calls + length t
unfolding log_from
every_entry [] c t = omega arith
every_entry (call ∷ calls) c t = every_entry calls (step_of c call).console ((step_of c call).entry ∷ t) ∙ omega arith

-- ---- runs

-- a history of 65 to 32,768 words, 1 to 16 places for requests, a window of 1 to 128, and any lists of these calls
pub every_run : (words places W : ℕ) (ring₀ : List ℕ) (calls : List Call) (arrivals : List Chamber.Call)
    → 65 ≤ words → words ≤ 32768 → length ring₀ ≡ words → 1 ≤ places → places ≤ 16 → 1 ≤ W → W ≤ 128 → AllAllowed calls → AllTyped arrivals → Run
every_run words places W ring₀ calls arrivals a b c d e f g allowed typed = record {
  words = words;
  places = places;
  ring₀ = ring₀;
  started = every_size words places ring₀ a b c d e;
  calls = calls;
  allowed = allowed;
  window = W;
  least = f;
  most = g;
  arrivals = arrivals;
  typed = typed;
}

-- ---- the line

-- 32,767 ahead of the highest heard and 32,768 behind it
pub every_reach : {t : List Entry} {q : List Heard} {ps : List ℕ} → Line t q ps
    → (k : ℕ) (v : Lent) → Was t k v → (before behind : List Command) (c : Command) → data_of (bytes v) ≡ before ++ (c ∷ behind)
    → origin + position_of (written t) k (length before) ≤ highest ps + 32767 → highest ps ≤ origin + position_of (written t) k (length before) + 32768
    → (cfg : StreamConfig) (time : ℕ) (d : Delivery)
    → Line t (data_entry cfg time c.number c.words (Ok d) ∷ q) (position_of (written t) k (length before) ∷ ps)
every_reach {t = t} l k v w before behind c e m n cfg time d = hear l k v w before behind c e (position_of (written t) k (length before)) refl (omega (arith, m)) (omega (arith, n)) cfg time d

-- between the commands heard: each other call, and a refused data command, from wherever it came
pub every_other : {t : List Entry} {q : List Heard} {ps : List ℕ} → Line t q ps
    → (cfg : StreamConfig) (time seq : ℕ) (ws : List ℕ) (why : Refusal) (e : RetransmitError) (told asked denied : Result (Option StreamEvent) Refusal) (p r : PayloadWriter) (b d : List ℕ) (a : Result Request Refusal)
    → Line t (data_entry cfg time seq ws (Err why) ∷ poll_entry cfg time told ∷ error_entry e asked ∷ nak_entry denied ∷ take_entry cfg p b a r d ∷ q) ps
every_other l cfg time seq ws why e told asked denied p r b d a =
    pass (pass (pass (pass (pass l (take_entry cfg p b a r d) refl) (nak_entry denied) refl) (error_entry e asked) refl) (poll_entry cfg time told) refl)
    (data_entry cfg time seq ws (Err why)) refl

-- ---- what is asked, and what follows

-- the first sentence asks for the line, all written, the newest heard, no loss and nothing missing, and for nothing else
pub every_holding : Contract → (u : Run) (ps : List ℕ) → Line (sent_log u) (heard_log u) ps
    → length (words_in (positions (sent_log u))) ≡ length (accepted (sent_log u))
    → (0 < length (positions (sent_log u)) → Memᴰ (length (positions (sent_log u)) - 1) ps)
    → NoLoss (heard_in u) → ((x : ℕ) → Missing u.window (heard_in u) x → ⊥)
    → handed_on (heard_in u) ≡ accepted (sent_log u)
every_holding c u ps line all newest none nothing =
    c.first.joined u (ps, record { line = line; all_written = all; newest_heard = newest; no_loss = none; nothing_missing = nothing })

-- performances are compared between any two such runs, whatever their windows, histories and settings
pub every_pair : Contract → (u v : Run) → Holds u → Holds v → SamePerformance (sent_log u) (sent_log v) ↔ (handed_by_position (heard_in u) ≡ handed_by_position (heard_in v))
every_pair c = c.first.performances

-- what is handed on is all words, for the line alone; and a take is any receiver's, of any payload
pub every_heard : HandedWords → (u : Run) (ps : List ℕ) → Line (sent_log u) (heard_log u) ps
    → (cfg : StreamConfig) (time seq : ℕ) (ws : List ℕ) (d : Delivery) → Memᴰ (data_entry cfg time seq ws (Ok d)) (heard_log u) → AllHanded d.class ws
every_heard h = h

pub every_take : Takes → (r : Receiver) (cfg : StreamConfig) (v : Lent) → TakenBy v (take_answer r cfg v.payload v.buffer)
every_take h = h

-- ---- repeats alone

-- any R, with any run: a window of 1 to 128, any settings, history and times (`every_run`); what is asked is what payloads hold and what arrives, and nothing else
pub every_R : RepeatsAlone → (u : Run) (R : ℕ) → Brings R (sent_log u) → Arrives R (sent_log u) (length (written_payloads (sent_log u))) (heard_commands (heard_log u))
    → AllHandedOn (positions (sent_log u)) (heard_in u)
every_R h u R b a = h u R record { brings = b; gone = length (written_payloads (sent_log u)); arrives = a; last = refl }

-- any number up to R is lost in a row, from the first payload on; R 0 means none
pub every_loss : {R : ℕ} {t : List Entry} {n : ℕ} {cs : List Command} → Arrives R t n cs → (lost : ℕ) → lost ≤ R
    → (v : Lent) → Was t (get_or (written_payloads t) (n + lost) 0) v → n + lost < length (written_payloads t) → 0 < held v
    → Arrives R t (suc (n + lost)) (cs ++ data_of (bytes v))
every_loss a lost l v w m h = next a lost (omega (arith, l)) v record { is_written = m; was_so = w; since = h }

-- a new command has any words, also none, and a payload may hold other commands before and behind
pub every_new : (R : ℕ) (C : List (List ℕ)) (u v : Lent) (ws : List ℕ) → held u ≡ 0 → data_of (bytes v) ≡ last_of R C ++ (numbered (length C) ws ∷ []) → Brought R C u v
every_new R C u v ws e d = one e ws d

-- each other call, and a refused data command, may stand between
pub every_between : (q : List Heard) (cfg : StreamConfig) (time seq : ℕ) (ws : List ℕ) (why : Refusal) (e : RetransmitError) (told asked denied : Result (Option StreamEvent) Refusal) (p r : PayloadWriter) (b d : List ℕ) (a : Result Request Refusal)
    → heard_commands (data_entry cfg time seq ws (Err why) ∷ poll_entry cfg time told ∷ error_entry e asked ∷ nak_entry denied ∷ take_entry cfg p b a r d ∷ q) ≡ heard_commands q
every_between q cfg time seq ws why e told asked denied p r b d a = refl

-- a sender is paced whatever payloads are opened, lent again and put into between, and whatever writes are refused
pub every_pace : (R s n : ℕ) (d : Console) (calls : List Call) (call : Call) → Apart call → Paced R s (step_of d call).console n calls → Paced R s d n (call ∷ calls)
every_pace R s n d calls (open_payload limit buffer) x h = h
every_pace R s n d calls (lend_again k rest) x h = h
every_pace R s n d calls (put_in k call) x h = h
every_pace R s n d calls (write_astray p b cfg time) x h = h
every_pace R s n d calls (queue_words cfg ws) x h = absurd x
every_pace R s n d calls (retransmit_request cfg r) x h = absurd x
every_pace R s n d calls (write_into k cfg time) x h = absurd x

-- what is asked of it, with the figures written out: of each write, and of the history
pub every_write : (R s : ℕ) (cfg : StreamConfig) (v : Lent) → check_of cfg ≡ Ok tt → cfg.fec_repeats ≡ R → v.payload.len ≡ 0
    → 4 + (R + 1) * (4 + 4 * s) ≤ v.payload.max → 4 + (R + 1) * (4 + 4 * s) ≤ length v.buffer → Ready R s cfg v
every_write R s cfg v a b c d e = record { passes = a; repeats = b; empty = c; limit = d; lent = e }

pub every_paced : PacedSender → (u : Run) (R s : ℕ) → (R + 1) * (1 + s) ≤ u.words → Paced R s (fresh_console u.words u.places u.ring₀) 0 u.calls → Brings R (sent_log u)
every_paced p u R s h c = p.brings u R s record { history = h; paced = c }
