-- The due times of the idle commands: each write at a due time writes one, and the timer takes the next step.
use mathlib.Core.Path.{◌≡◌, refl, sym, ap, ◌∙◌, subst}
use Rattle.std.proofs.Common.{Option, Some, None, Ok}
use Rattle.idle.specs.declared.idle.Idle.{Idle}
use mathlib.Core.Bool.{true}
use mathlib.Core.List.{List, [], ◌∷◌, ◌++◌}
use Prim.Native.Nat.{ℕ, zero, suc, ◌+◌, ◌-◌, ◌*◌, ◌≤◌, ◌<◌, min}
use native.Mathlib.Omega.{arith}
use borrow.Author.Tests.{le-ltb, lt-ltb, le-leb, lt-leb, leb-true}
use lib.ListN.{length, drop, replicate, length-append}
use Rattle.config.specs.Sequence.{after}
use Rattle.config.specs.Settings.{check_of}
use Rattle.config.specs.Time.{last_time, later}
use Rattle.config.specs.declared.settings.StreamConfig.{StreamConfig}
use Rattle.packet.specs.Layout.{Packet}
use Rattle.packet.specs.Write.{limit_of, start_of, valid_of}
use Rattle.packet.specs.declared.writer.PayloadWriter.{PayloadWriter}
use Rattle.command.specs.declared.retransmit.RetransmitRequest.{RetransmitRequest}
use Rattle.history.specs.Entries.{size, Short, kept}
use Rattle.history.specs.Written.{data_packet}
use Rattle.history.proofs.Flat.{kept_short, short_append, short_one}
use Rattle.idle.specs.Schedule.{idle_next}
use Rattle.idle.specs.declared.idle.Idle.{Idle as Timer}
use Rattle.rows.specs.Rows.{row_of, sizes_of, fit_all, any_words}
use Rattle.sender_log.specs.Book.{Book, oldest_in, freed, pushed_in}
use Rattle.sender_log.specs.Writes.{data_from, written_from, served_in, idled_in, again_in, written_on, new_written, written_in, write_in}
use Rattle.sender_log.specs.Idle.{growing, steps_of, times_at, due_of, at_due, dues_in, IdleTimes}
use Rattle.sender_log.proofs.Rows.{Few, few_append, row_all, sizes_append, repeats_fit, repeats_few}
use Rattle.sender_log.proofs.More.{few_data, short_drop}

-- nothing is unwritten and nothing waits
pub record Silent (b : Book) (i : Option Idle) : Type 0 where
  pub short : Short b.written
  pub none : b.unwritten ≡ []
  pub quiet : b.waiting ≡ []
  pub timer : b.idle ≡ i

module _ (c : ℕ) (cfg : StreamConfig) (p : PayloadWriter) (by : List ℕ) (passed : check_of cfg ≡ Ok tt) (v : valid_of p (length by) ≡ true) (room : start_of p + 4 ≤ limit_of p (length by)) where
  -- an idle command that is queued is written with the repeats that fit beside it
  module _ (first : ℕ) (ws : List (List ℕ)) (i : Option Idle) (short : Short ws) (time : ℕ) where
    abbrev queued : Book
    queued = record { first = first; written = ws; unwritten = [] ∷ []; waiting = []; idle = i }

    abbrev idle_command : Packet
    idle_command = data_packet (after (oldest_in queued) (length ws)) []

    abbrev again : List Packet
    again = again_in queued cfg.fec_repeats p by idle_command

    alone_fits : fit_all p by (idle_command ∷ []) ≡ true
    unfolding sizes_of
    alone_fits = le-leb (start_of p + 4) (limit_of p (length by)) room

    again_few : Few again
    again_few =
        let j : ℕ = length ws - min cfg.fec_repeats (length ws) in
        repeats_few p by idle_command (written_from queued j) (few_data (after (oldest_in queued) j) (drop j ws) (short_drop j ws short))

    row_length : (row_of p by (again ++ (idle_command ∷ []))).written - length again ≡ 1
    unfolding sizes_of Few
    row_length =
        let j : ℕ = length ws - min cfg.fec_repeats (length ws) in
        let t = leb-true (start_of p + sizes_of (idle_command ∷ again)) (limit_of p (length by)) (repeats_fit p by idle_command (written_from queued j) alone_fits) in
        let r = row_all (again ++ (idle_command ∷ [])) p by (few_append again (idle_command ∷ []) again_few (omega arith, tt)) v (omega (arith, sizes_append again (idle_command ∷ []))) in
        omega (arith, r.1, length-append again (idle_command ∷ []))

    written_idle : Silent (written_on cfg time 1 queued) i
    unfolding written_on data_from any_words
    written_idle = record { short = short_append ws ([] ∷ []) short (short_one [] (omega arith)); none = refl; quiet = refl; timer = refl }

    new_idle : Silent (new_written cfg time 0 queued p by).book i
    unfolding new_written data_from
    new_idle = rw (alone_fits, row_length) written_idle

  -- ---- a write at the due time

  write_silent : (first : ℕ) (ws : List (List ℕ)) (i : Timer) → Short ws
      → Silent (write_in c cfg i.due record { first = first; written = ws; unwritten = []; waiting = []; idle = Some i } p by).book (idle_next cfg i.due i)
  unfolding write_in written_in served_in idled_in pushed_in freed
  write_silent first ws i short =
      rw (passed, v, le-ltb i.due i.due (omega arith))
      (new_idle (first + (length ws - length (kept (c - size []) 1 ws))) (kept (c - size []) 1 ws) (idle_next cfg i.due i) (kept_short (c - size []) 1 ws short) i.due)

  silent_book : (b : Book) (i : Option Idle) → Silent b i → b ≡ record { first = b.first; written = b.written; unwritten = []; waiting = []; idle = i }
  silent_book b i s =
      ap (λ (u : List (List ℕ)). record { first = b.first; written = b.written; unwritten = u; waiting = b.waiting; idle = b.idle }) s.none
      ∙ ap (λ (w : List RetransmitRequest). record { first = b.first; written = b.written; unwritten = []; waiting = w; idle = b.idle }) s.quiet
      ∙ ap (λ (t : Option Idle). record { first = b.first; written = b.written; unwritten = []; waiting = []; idle = t }) s.timer

  abbrev next_book : Book → ℕ → Book
  next_book b time = (write_in c cfg time b p by).book

  write_idle : (b : Book) (i : Timer) → Silent b (Some i) → Silent (next_book b i.due) (idle_next cfg i.due i)
  write_idle b i s =
      subst (λ (x : Book). Silent (write_in c cfg i.due x p by).book (idle_next cfg i.due i)) (sym (silent_book b (Some i) s)) (write_silent b.first b.written i s.short)

  -- ---- the due times

  dues_off : (f : ℕ) (b : Book) → Silent b None → dues_in f c cfg p by b ≡ []
  unfolding dues_in
  dues_off zero b s = refl
  dues_off (suc f) b s = ap (λ (i : Option Idle). at_due (due_of i) (λ due. dues_in f c cfg p by (next_book b due))) s.timer

  dues_waiting : (f : ℕ) (b : Book) (i : Timer) → Silent b (Some i) → dues_in (suc f) c cfg p by b ≡ i.due ∷ dues_in f c cfg p by (next_book b i.due)
  unfolding dues_in
  dues_waiting f b i s = ap (λ (t : Option Idle). at_due (due_of t) (λ due. dues_in f c cfg p by (next_book b due))) s.timer

  abbrev R : ℕ
  R = cfg.fec_repeats

  abbrev K : ℕ
  K = cfg.idle_further

  abbrev G : ℕ
  G = cfg.idle_growth

  module _ (time : ℕ) (i : Timer) where
    next_same : i.step < R → idle_next cfg time i ≡ Some record { due = later time i.interval; step = i.step + 1; interval = i.interval }
    unfolding idle_next
    next_same l = rw (le-leb (i.step + 1) R (omega arith))

    next_grown : R ≤ i.step → i.step < R + K
        → idle_next cfg time i ≡ Some record { due = later time (min (i.interval * G) last_time); step = i.step + 1; interval = min (i.interval * G) last_time }
    unfolding idle_next
    next_grown l m = rw (lt-leb (i.step + 1) R (omega arith), lt-ltb (i.step + 1) (1 + R + K) (omega arith))

    next_off : R ≤ i.step → R + K ≤ i.step → idle_next cfg time i ≡ None
    unfolding idle_next
    next_off l m = rw (lt-leb (i.step + 1) R (omega arith), le-ltb (i.step + 1) (1 + R + K) (omega arith))

  -- the steps that grow
  dues_grown : (k f : ℕ) (b : Book) (i : Timer) → Silent b (Some i) → R ≤ i.step → i.step + k ≡ R + K → k < f
      → dues_in f c cfg p by b ≡ i.due ∷ times_at i.due (growing G i.interval k)
  unfolding growing times_at
  dues_grown k zero b i s l e m = absurd (let z : ⊥ = omega arith in z)
  dues_grown zero (suc f) b i s l e m =
      dues_waiting f b i s ∙ ap (λ (x : List ℕ). i.due ∷ x) (dues_off f (next_book b i.due) (subst (Silent (next_book b i.due)) (next_off i.due i l (omega arith)) (write_idle b i s)))
  dues_grown (suc k) (suc f) b i s l e m =
      dues_waiting f b i s
      ∙ ap (λ (x : List ℕ). i.due ∷ x)
      (dues_grown k f (next_book b i.due) record { due = later i.due (min (i.interval * G) last_time); step = i.step + 1; interval = min (i.interval * G) last_time }
      (subst (Silent (next_book b i.due)) (next_grown i.due i l (omega arith)) (write_idle b i s)) (omega arith) (omega arith) (omega arith))

  -- the steps of T1 before them
  dues_steady : (j f : ℕ) (b : Book) (i : Timer) → Silent b (Some i) → i.step + j ≡ R → j + K < f
      → dues_in f c cfg p by b ≡ i.due ∷ times_at i.due (replicate j i.interval ++ growing G i.interval K)
  unfolding times_at
  dues_steady zero f b i s e m = dues_grown K f b i s (omega arith) (omega arith) (omega arith)
  dues_steady (suc j) zero b i s e m = absurd (let z : ⊥ = omega arith in z)
  dues_steady (suc j) (suc f) b i s e m =
      dues_waiting f b i s
      ∙ ap (λ (x : List ℕ). i.due ∷ x)
      (dues_steady j f (next_book b i.due) record { due = later i.due i.interval; step = i.step + 1; interval = i.interval }
      (subst (Silent (next_book b i.due)) (next_same i.due i (omega arith)) (write_idle b i s)) (omega arith) (omega arith))

pub idle_times : IdleTimes
unfolding steps_of times_at
idle_times c cfg p by b time f passed v room short none quiet timer enough =
    let T : ℕ = cfg.idle_interval_ms in
    let e : 1 + cfg.fec_repeats ≡ suc cfg.fec_repeats = omega arith in
    dues_steady c cfg p by passed v room cfg.fec_repeats f b record { due = later time T; step = 0; interval = T } (record { short = short; none = none; quiet = quiet; timer = timer }) (omega arith) (omega arith)
    ∙ ap (λ (n : ℕ). times_at time (replicate n T ++ growing cfg.idle_growth T cfg.idle_further)) (sym e)
