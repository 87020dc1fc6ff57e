-- No call of a run is refused.
use Prim.Native.Nat.{ℕ, zero, suc, ◌+◌, ◌-◌, ◌≤◌}
use Rattle.std.proofs.Common.{Option, Some, None, Result, Ok, Err}
use Rattle.config.specs.declared.refusal.Refusal.{Refusal}
use mathlib.Core.Path.{◌≡◌, refl, ◌∙◌}
use mathlib.Core.Bool.{false, not}
use mathlib.Core.List.{List, [], ◌∷◌, ◌++◌}
use native.Mathlib.Omega.{arith}
use lib.Dec.{eqb, leb}
use lib.ListN.{length, replicate, length-replicate}
use borrow.Author.Tests.{leb-true, eqb-true, not-false}
use Rattle.config.specs.Range.{outside, within}
use Rattle.config.specs.Sequence.{turn}
use Rattle.config.specs.Settings.{check_of}
use Rattle.config.specs.declared.settings.StreamConfig.{StreamConfig}
use Rattle.config.specs.inner.Tests.{and_left, and_right}
use Rattle.config.specs.inner.Choices.{or_left, or_right}
use Rattle.packet.specs.Read.{Item, whole, cut, items_of}
use Rattle.packet.specs.Write.{written_of, valid_of as payload_valid}
use Rattle.command.specs.Write.{error_packet, error_written}
use Rattle.command.specs.declared.retransmit.RetransmitError.{RetransmitError as ErrorCommand}
use Rattle.command.specs.declared.parse.Command.{Command}
use Rattle.command.specs.declared.parse.Command.TheVariants.{UmpData, RetransmitRequest, RetransmitError, Raw}
use Rattle.window.specs.Set.{max_window}
use Rattle.window.proofs.Preserved.{valid_fresh}
use Rattle.sender.specs.Answers as sender
use Rattle.sender.specs.declared.sender.RequestOutcome.TheVariants.{Queued, Ignored, Error as ErrorOutcome, NotSupported}
use Rattle.sender_log.specs.Book.{nothing}
use Rattle.sender_log.specs.Calls.{TypedConfig}
use Rattle.sender_log.proofs.Follows.{start_follows, send_follows, request_follows}
use Rattle.stream.specs.Answers.{sizes_out}
use Rattle.stream.specs.Ends.{send_answer, request_answer, data_answer, error_answer, poll_answer}
use Rattle.stream.specs.State.{fresh}
use Rattle.stream.specs.declared.stream.DataStream.{DataStream}
use Rattle.load.specs.Load.{next, words_of}
use Rattle.link_rules.specs.Arriving.{Answer, heard, told, requested, Arrived, command_of, arrived_by, item_by, arrived_of, error_by, error_in}
use Rattle.link_rules.specs.Link.{Ends, start_of, empty, blank, opened_by, carried, payload_of, calls_of, step_of, run_of}
use Rattle.link_rules.specs.NoneRefused.{refuses, NoneRefuses, Taken, NoneRefused}
use Rattle.link_rules.proofs.Room.{Room, written_room, one_fits}
use Rattle.link_rules.proofs.Sound.{Defined, heard_sound, error_sound, polled_sound, sent_sound, requested_sound, Sound, written_sound}

-- ---- what an end answers

-- no refusal, and no error but one that can be written
abbrev Fine : List Answer → Type 0
Fine [] = Unit {0}
Fine (a ∷ rest) = (refuses a ≡ false) × Defined (error_by None a) × Fine rest

fine_none : (xs : List Answer) → Fine xs → NoneRefuses xs
fine_none [] f = tt
fine_none (a ∷ rest) f = (f.0, fine_none rest f.2)

fine_append : (xs ys : List Answer) → Fine xs → Fine ys → Fine (xs ++ ys)
fine_append [] ys f g = g
fine_append (a ∷ xs) ys f g = (f.0, f.1, fine_append xs ys f.2 g)

error_defined : (w : Option ErrorCommand) (a : Answer) → Defined w → Defined (error_by None a) → Defined (error_by w a)
error_defined w (heard h) d e = d
error_defined w (told x) d e = d
error_defined w (requested (Ok Queued)) d e = d
error_defined w (requested (Ok (Ignored why))) d e = d
error_defined w (requested (Ok (ErrorOutcome x))) d e = e
error_defined w (requested (Ok NotSupported)) d e = d
error_defined w (requested (Err why)) d e = d

errors_defined : (xs : List Answer) (w : Option ErrorCommand) → Defined w → Fine xs → Defined (error_in w xs)
unfolding error_in
errors_defined [] w d f = d
errors_defined (a ∷ xs) w d f = errors_defined xs (error_by w a) (error_defined w a d f.1) f.2

-- ---- an end reads

module _ (cfg : StreamConfig) (ok : check_of cfg ≡ Ok tt) (c q time : ℕ) (ring : List ℕ) where
  -- and as many words are unwritten as were
  record ArrivedSound (unwritten : ℕ) (a : Arrived) : Type 0 where
    stream : Sound c q a.stream ring
    fine : Fine a.answers
    same : a.stream.sender.unsent_words ≡ unwritten

  module _ (s : DataStream) (i : Sound c q s ring) where
    abbrev S : Arrived → Type 0
    S = ArrivedSound s.sender.unsent_words

    nothing_heard : S (record { stream = s; answers = [] })
    nothing_heard = record { stream = i; fine = tt; same = refl }

    command_sound : (k : Result Command Refusal) → S (arrived_by s cfg time ring k)
    unfolding data_answer request_answer error_answer
    command_sound (Ok (UmpData d)) =
        let h = heard_sound cfg ok s.receiver i.window time d.seq in
        record { stream = record { book = i.book; follows = i.follows; window = h.0 }; fine = (h.1, tt, tt); same = refl }
    command_sound (Ok (RetransmitRequest r)) =
        let h = requested_sound cfg ok c q s.sender ring i.book i.follows r in
        record { stream = record { book = _; follows = (request_follows c q s.sender ring i.book i.follows cfg r).0; window = i.window }; fine = (h.0, h.1, tt); same = h.2 }
    command_sound (Ok (RetransmitError x)) =
        let h = error_sound cfg ok s.receiver i.window x in
        record { stream = record { book = i.book; follows = i.follows; window = h.0 }; fine = (h.1, tt, tt); same = refl }
    command_sound (Ok (Raw h)) = nothing_heard
    command_sound (Err why) = nothing_heard

    item_sound : (x : Item) → S (item_by s cfg time ring x)
    item_sound (whole at k) = command_sound (command_of k)
    item_sound (cut h) = nothing_heard

  arrived_sound : (items : List Item) (s : DataStream) → Sound c q s ring → ArrivedSound s.sender.unsent_words (arrived_of s cfg time ring items)
  unfolding arrived_of
  arrived_sound [] s i = nothing_heard s i
  arrived_sound (x ∷ items) s i =
      let a = item_sound s i x in
      let b = arrived_sound items (item_by s cfg time ring x).stream a.stream in
      record { stream = b.stream; fine = fine_append (item_by s cfg time ring x).answers (arrived_of (item_by s cfg time ring x).stream cfg time ring items).answers a.fine b.fine; same = b.same ∙ a.same }

-- ---- the console's payload

opened_empty : Room empty blank
unfolding payload_valid
opened_empty = let l : length blank ≡ 1400 = length-replicate {A = ℕ} 1400 0 in record { max = refl; lent = l; valid = refl }

record OpenedSound (w : Option ErrorCommand) : Type 0 where
  answer : (opened_by w).0.answer ≡ Ok tt
  room : Room (opened_by w).0.payload (opened_by w).1
  short : (opened_by w).0.payload.len ≤ 12

opened_sound : (w : Option ErrorCommand) → Defined w → OpenedSound w
unfolding error_written
opened_sound None d = record { answer = refl; room = opened_empty; short = omega arith }
opened_sound (Some e) d =
    let f = one_fits empty blank (error_packet e) opened_empty (omega arith) (omega arith) in
    let g : error_written e empty blank ≡ written_of empty blank (error_packet e) = rw (opened_empty.valid, d) in
    let h = g ∙ f in
    record { answer = rw h; room = rw g (written_room empty blank (error_packet e) opened_empty); short = rw h (omega arith) }

-- ---- a step

module _ (cfg : StreamConfig) (ok : check_of cfg ≡ Ok tt) (typed : TypedConfig cfg) (c q figure : ℕ) where
  record Sane (e : Ends) : Type 0 where
    console : Sound c q e.console e.console_ring
    chamber : Sound c q e.chamber e.chamber_ring
    waiting : Defined e.waiting
    -- 16 words of the console's history are free of unwritten ones
    calm : e.console.sender.unsent_words + 16 ≤ c

  queued_sound : (s : DataStream) (ring : List ℕ) → Sound c q s ring → s.sender.unsent_words + 16 ≤ c → (x : ℕ)
      → (let a = send_answer s cfg ring (words_of x) in Sound c q a.0.stream a.1 × (a.0.answer ≡ Ok tt))
  unfolding send_answer
  queued_sound s ring i calm x = (
    record { book = _; follows = (send_follows c q s.sender ring i.book i.follows cfg (words_of x)).0; window = i.window },
    sent_sound cfg ok c q s.sender ring i.book i.follows x calm,
  )

  step_sane : (e : Ends) → Sane e → Taken (calls_of cfg figure e) × Sane (step_of cfg figure e)
  unfolding calls_of step_of poll_answer
  step_sane e i =
      let time : ℕ = e.steps in
      let k = calls_of cfg figure e in
      let queued = queued_sound e.console e.console_ring i.console i.calm (next e.load) in
      let opened = opened_sound e.waiting i.waiting in
      let wrote = written_sound cfg ok typed c q time k.queued.0.stream k.queued.1 queued.0 k.opened.0.payload k.opened.1 opened.room opened.short in
      let heard = arrived_sound cfg ok c q time e.chamber_ring (carried figure (next e.line) (payload_of k.wrote)) e.chamber i.chamber in
      let polled = polled_sound cfg ok k.heard.stream.receiver heard.stream.window time in
      let after : Sound c q k.polled.stream e.chamber_ring = record { book = heard.stream.book; follows = heard.stream.follows; window = polled.0 } in
      let replied = written_sound cfg ok typed c q time k.polled.stream e.chamber_ring after empty blank opened_empty (omega arith) in
      let read = arrived_sound cfg ok c q time k.wrote.2 (items_of (payload_of k.replied)) k.wrote.0.stream wrote.stream in (
        record {
          queued = queued.1;
          opened = opened.answer;
          wrote = wrote.answer;
          heard = fine_none k.heard.answers heard.fine;
          polled = polled.1;
          replied = replied.answer;
          read = fine_none k.read.answers read.fine;
        },
        record { console = read.stream; chamber = replied.stream; waiting = errors_defined k.read.answers None tt read.fine; calm = omega (arith, read.same, wrote.calm) },
      )

  run_sane : (e : Ends) → Sane e → (n : ℕ) → Sane (run_of cfg figure e n)
  unfolding run_of
  run_sane e i zero = i
  run_sane e i (suc n) = (step_sane (run_of cfg figure e n) (run_sane e i n)).1

-- ---- a start

start_sound : (window words places : ℕ) (ring : List ℕ) → sizes_out window words places ring ≡ false → Sound words places (fresh window words places) (replicate words 0)
unfolding sender.new_answer
start_sound window words places ring e =
    let o = or_right (outside 1 max_window window) _ e in
    let w = not-false (within 1 max_window window) (or_left _ _ e) in
    let l : length ring ≡ words = eqb-true _ _ (not-false _ (or_left (not (eqb (length ring) words)) _ (or_right (outside 65 32768 words) _ o))) in
    let f = start_follows words places ring (rw o) in
    record {
      book = nothing;
      follows = rw (o, l) at f;
      window = valid_fresh window (turn - 1) (leb-true _ _ (and_left (leb 1 window) _ w)) (leb-true _ _ (and_right (leb 1 window) _ w));
    }

pub none_refused : NoneRefused
none_refused cfg window words places seed drop figure ring ok typed sizes n =
    let s = start_sound window words places ring sizes in
    let i = run_sane cfg ok typed words places figure (start_of window words places seed drop) record { console = s; chamber = s; waiting = tt; calm = omega (arith, s.follows.least) } n in
    (step_sane cfg ok typed words places figure (run_of cfg figure (start_of window words places seed drop) n) i).0
