-- What the theorems are said of: every call, with any arguments of its types, every list of them, and every size that 01 allows.
use Prim.Native.Nat.{ℕ, ◌+◌, ◌≤◌, ◌<◌}
use Rattle.std.proofs.Common.{Some, Ok}
use mathlib.Core.Path.{◌≡◌, ◌∙◌}
use mathlib.Core.Bool.{Bool, true, false, not, ◌||◌}
use mathlib.Core.List.{List, [], ◌∷◌}
use native.Mathlib.Omega.{arith}
use lib.Dec.{leb, eqb}
use lib.ListN.{length}
use Rattle.config.specs.Range.{outside}
use Rattle.config.specs.Settings.{check_of}
use Rattle.config.specs.declared.refusal.Refusal.TheVariants.{SizeNotAllowed}
use Rattle.config.specs.declared.settings.StreamConfig.{StreamConfig}
use Rattle.config.specs.inner.Tests.{lifts}
use Rattle.config.specs.Time.{later}
use Rattle.packet.specs.Layout.{Words32}
use Rattle.packet.specs.Write.{limit_of, start_of, valid_of as payload_valid}
use Rattle.packet.specs.declared.writer.PayloadWriter.{PayloadWriter}
use Rattle.command.specs.declared.retransmit.RetransmitRequest.{RetransmitRequest}
use Rattle.sender.specs.Answers.{new_answer}
use Rattle.writing.specs.Answers.{write_answer}
use Rattle.history.specs.Entries.{Short}
use Rattle.sender.specs.declared.sender.Sender.{Sender}
use Rattle.sender_log.specs.Book.{Book}
use Rattle.sender_log.specs.Idle.{steps_of, times_at, dues_in, IdleTimes}
use Rattle.sender_log.specs.Answers.{book_of}
use Rattle.sender_log.specs.Calls.{Call, queue_words, retransmit_request, write, Entry, step_of, run_from, run, AllTyped}
use Rattle.sender_log.specs.Past.{past_of, HeldIn, Held}
use Rattle.sender_log.specs.Counted.{wanted_in, CountedIn, Counted}
use Rattle.sender_log.specs.Promise.{Kept, StateTaken, MoreRight, AnsweredIn, Started, StateRefused, Reached, NeverInvalid, NotStarted, Answered, More}

-- R and K up to 255, numbers and counts up to 65,535
pub every_call : (cfg : StreamConfig) (time : ℕ) (ws : List ℕ) (r : RetransmitRequest) (p : PayloadWriter) (b : List ℕ)
    → cfg.fec_repeats < 256 → cfg.idle_further < 256 → Words32 ws → r.seq < 65536 → r.count < 65536
    → AllTyped (queue_words cfg ws ∷ retransmit_request cfg r ∷ write cfg time p b ∷ [])
every_call cfg time ws r p b f g w s c = (((f, g), w), (((f, g), s, c), ((f, g), tt)))

-- a history of 65 to 32,768 words, 1 to 16 places for requests, whatever the lent words are
pub every_size : (c q : ℕ) (ring₀ : List ℕ) → 65 ≤ c → c ≤ 32768 → length ring₀ ≡ c → 1 ≤ q → q ≤ 16 → Started c q ring₀
unfolding new_answer
every_size c q ring₀ c-least c-most lent q-least q-most =
    let a : leb 65 c ≡ true = omega (arith, lifts) in
    let b : leb c 32768 ≡ true = omega (arith, lifts) in
    let d : eqb (length ring₀) c ≡ true = omega (arith, lifts) in
    let e : leb 1 q ≡ true = omega (arith, lifts) in
    let f : leb q 16 ≡ true = omega (arith, lifts) in
    rw (a, b, d, e, f)

-- each theorem holds of each list of calls, and asks nothing else
pub every_list : (c q : ℕ) (ring₀ : List ℕ) → Started c q ring₀ → (calls : List Call) → AllTyped calls
    → (Reached → Kept c q (run c q ring₀ calls).sender (run c q ring₀ calls).ring (book_of c q calls))
    × (NeverInvalid → StateTaken (run c q ring₀ calls).sender (run c q ring₀ calls).ring)
    × (Answered → AnsweredIn c q ring₀ calls)
    × (More → MoreRight c (book_of c q calls))
every_list c q ring₀ s calls l = (λ t. t c q ring₀ s calls l, λ t. t c q ring₀ s calls l, λ t. t c q ring₀ s calls l, λ t. t c q ring₀ s calls l)

-- and the log holds each call, refused ones too
log_length : (calls : List Call) (s : Sender) (ring : List ℕ) (t : List Entry) → length (run_from s ring t calls).log ≡ length calls + length t
unfolding run_from
log_length [] s ring t = omega arith
log_length (call ∷ calls) s ring t =
    log_length calls (step_of s ring call).sender (step_of s ring call).ring ((step_of s ring call).entry ∷ t) ∙ omega arith

pub every_entry : (c q : ℕ) (ring₀ : List ℕ) (calls : List Call) → length (run c q ring₀ calls).log ≡ length calls
unfolding run
every_entry c q ring₀ calls = log_length calls (new_answer c q ring₀).0.sender (new_answer c q ring₀).1 [] ∙ omega arith

-- what is held after each list, and what each write after it adds
pub every_sender_held : (c q : ℕ) (ring₀ : List ℕ) → Started c q ring₀ → (calls : List Call) → AllTyped calls
    → Held → HeldIn c (run c q ring₀ calls).sender (run c q ring₀ calls).ring (past_of c q ring₀ calls)
every_sender_held c q ring₀ s calls l h = h c q ring₀ s calls l

pub every_write_counted : (c q : ℕ) (ring₀ : List ℕ) → Started c q ring₀ → (calls : List Call) → AllTyped calls
    → Counted → (cfg : StreamConfig) → cfg.fec_repeats < 256 → cfg.idle_further < 256 → (time : ℕ) (p : PayloadWriter) (by : List ℕ)
    → (let w = write_answer (run c q ring₀ calls).sender cfg time p by (run c q ring₀ calls).ring in
    CountedIn (wanted_in c cfg time (past_of c q ring₀ calls) p by) p by w.0.answer w.0.payload w.1)
every_write_counted c q ring₀ s calls l h cfg f g time p by = h c q ring₀ s calls l cfg (f, g) time p by

-- the idle times, for every T1 of 1 to 300 and every G but 0, whatever R, K and the other settings are
abbrev pacing : ℕ → ℕ → ℕ → ℕ → Bool → ℕ → ℕ → ℕ → StreamConfig
pacing T1 G K R X D M size =
    record { idle_interval_ms = T1; idle_growth = G; idle_further = K; fec_repeats = R; retransmit = X; request_delay_ms = D; max_requests = M; max_command_words = size }

passes : (T1 G K R : ℕ) (X : Bool) (D M size : ℕ) → 1 ≤ T1 → T1 ≤ 300 → 1 ≤ G → 1 ≤ size → size ≤ 64 → check_of (pacing T1 G K R X D M size) ≡ Ok tt
unfolding check_of
passes T1 G K R X D M size t-least t-most g-least s-least s-most =
    let a : leb 1 size ≡ true = omega (arith, lifts) in
    let b : leb size 64 ≡ true = omega (arith, lifts) in
    let d : leb 1 T1 ≡ true = omega (arith, lifts) in
    let e : leb T1 300 ≡ true = omega (arith, lifts) in
    let f : eqb G 0 ≡ false = omega (arith, lifts) in
    rw (a, b, d, e, f)

pub every_pace : IdleTimes → (c T1 G K R : ℕ) (X : Bool) (D M size : ℕ) → 1 ≤ T1 → T1 ≤ 300 → 1 ≤ G → 1 ≤ size → size ≤ 64
    → (p : PayloadWriter) (by : List ℕ) (b : Book) (time : ℕ) → payload_valid p (length by) ≡ true → start_of p + 4 ≤ limit_of p (length by)
    → Short b.written → b.unwritten ≡ [] → b.waiting ≡ [] → b.idle ≡ Some record { due = later time T1; step = 0; interval = T1 }
    → dues_in (2 + R + K) c (pacing T1 G K R X D M size) p by b ≡ times_at time (steps_of T1 G K R)
every_pace h c T1 G K R X D M size t-least t-most g-least s-least s-most p by b time v l short none no_request i =
    h c (pacing T1 G K R X D M size) p by b time (2 + R + K) (passes T1 G K R X D M size t-least t-most g-least s-least s-most) v l short none no_request i (omega arith)

-- every start that 12 refuses: a history not of 65 to 32,768 words or not of the lent length, not 1 to 16 places; whatever history is lent afterwards
pub every_refused_start : NotStarted → (c q : ℕ) (ring₀ ring : List ℕ)
    → outside 65 32768 c || (not (eqb (length ring₀) c) || outside 1 16 q) ≡ true → StateRefused (new_answer c q ring₀).0.sender ring
unfolding new_answer
every_refused_start h c q ring₀ ring refused = h c q ring₀ SizeNotAllowed (rw refused) ring
