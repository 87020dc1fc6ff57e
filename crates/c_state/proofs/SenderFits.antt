-- What a request leaves of a sender that was loaded has words that fit: its idle timer is as it was.
use mathlib.Core.Path.{◌≡◌, refl, sym, ap, ◌∙◌}
use Rattle.std.proofs.Common.{Option, Some, None}
use Rattle.idle.specs.declared.idle.Idle.{Idle}
use Rattle.sender.specs.declared.sender.RequestOutcome.{RequestOutcome}
use Rattle.sender.specs.declared.sender.SenderAnswer.{SenderAnswer}
use mathlib.Core.Bool.{Bool, true, false, not}
use mathlib.Core.List.{List}
use Prim.Native.Nat.{ℕ, ◌<◌}
use native.Mathlib.Omega.{arith}
use lib.ListN.{length, get_or, drop}
use lib.Dec.{eqb}
use borrow.Author.Tests.{le-leb}
use Rattle.config.specs.Settings.{check_of}
use Rattle.config.specs.declared.settings.StreamConfig.{StreamConfig}
use Rattle.command.specs.declared.retransmit.RetransmitRequest.{RetransmitRequest}
use Rattle.packet.proofs.Splice.{length_spliced}
use Rattle.sender.specs.State.{valid_of}
use Rattle.sender.specs.Requests.{not_written, requested_of}
use Rattle.sender.specs.Answers.{request_answer}
use Rattle.sender.specs.declared.sender.Sender.{Sender}
use Rattle.c_answers.specs.Answers.{bit}
use Rattle.c_state.specs.Pack.{four_in, word, two_in, pair, held}
use Rattle.c_state.specs.Receiver.{receiver_holds}
use Rattle.c_state.specs.Sender.{NarrowSender, idle_in, idle_words, figure_words, sender_words, sender_of, sender_holds}
use Rattle.c_state.specs.Stream.{receiver_fits, fits, sender_in, sender_part, with_sender}
use Rattle.c_state.specs.declared.sender_part.IdleWords.{IdleWords}
use Rattle.c_state.proofs.Choices.{by_test, by_entry}
use Rattle.c_state.proofs.Ends.{both_receiver, both_whole, receiver_stays}
use Rattle.c_state.proofs.Packed.{four_word, two_pair, bit_back, bit_small}
use Rattle.c_state.proofs.Parts.{rest_spliced}
use Rattle.c_state.proofs.Senders.{length_sender}
use Rattle.c_state.proofs.Streams.{sender_long, receiver_long, fits_sender}

-- ---- the idle timer
idle_held : (i : Option Idle) → let w = idle_words i in held w.on w.due w.interval w.step ≡ true
unfolding held
idle_held None = refl
idle_held (Some i) = refl

idle_in_lem : (on : Bool) (due step interval : ℕ) → step < 65536 → (idle_words (idle_in on due step interval)).step < 65536
idle_in_lem true due step interval h = h
idle_in_lem false due step interval h = omega arith

third_narrow : (w : ℕ) → (four_in w).c < 65536
unfolding four_in
third_narrow w = omega arith

loaded_step : (ws : List ℕ) → (idle_words (sender_of ws).idle).step < 65536
unfolding sender_of
loaded_step ws =
    let q = four_in (get_or ws 2 0) in
    idle_in_lem (eqb (two_in q.d).high 1) (get_or ws 3 0) q.c (get_or ws 4 0) (third_narrow (get_or ws 2 0))

-- ---- a sender, stored
module _ (s : Sender) (n : NarrowSender s) (step : (idle_words s.idle).step < 65536) where
  abbrev i : IdleWords
  i = idle_words s.idle

  third : four_in (word s.queue.head s.queue.len i.step (pair s.queue.size (bit i.on)))
      ≡ record { a = s.queue.head; b = s.queue.len; c = i.step; d = pair s.queue.size (bit i.on) }
  third = four_word _ _ _ _ n.front n.waiting step

  size_and_flag : two_in (pair s.queue.size (bit i.on)) ≡ record { low = s.queue.size; high = bit i.on }
  size_and_flag = two_pair _ _ n.places

  holds : sender_holds (sender_words s) ≡ true
  unfolding sender_holds sender_words figure_words
  holds = rw (third, size_and_flag, bit_back i.on, le-leb (bit i.on) 1 (bit_small i.on), idle_held s.idle)

-- ---- a request
requested_idle : (s : Sender) (ring : List ℕ) (cfg : StreamConfig) (r : RetransmitRequest) → (request_answer s cfg ring r).sender.idle ≡ s.idle
unfolding request_answer requested_of
requested_idle s ring cfg r =
    by_entry (λ (x : SenderAnswer RequestOutcome). x.sender.idle ≡ s.idle) (check_of cfg) (valid_of s ring) _ _ (λ _. refl)
    (λ _ _. by_test (λ (x : SenderAnswer RequestOutcome). x.sender.idle ≡ s.idle) (not cfg.retransmit) _ _ refl
    (λ _. by_test (λ (x : SenderAnswer RequestOutcome). x.sender.idle ≡ s.idle) (not_written s r.seq) _ _ refl (λ _. refl)))

-- ---- the words
module _ (st : List ℕ) (all : fits st ≡ true) where
  with_fits : (s : Sender) → NarrowSender s → (idle_words s.idle).step < 65536 → fits (with_sender st s) ≡ true
  with_fits s n step =
      let l = both_whole st all in
      let k = length_sender s in
      let m : length (with_sender st s) ≡ 20 = length_spliced st 7 (sender_words s) (omega arith) ∙ l in
      let part : sender_part (with_sender st s) ≡ sender_words s = rest_spliced st (sender_words s) 7 (omega arith) (omega arith) in
      let front : receiver_fits (with_sender st s) ≡ true
      = sym (receiver_long (with_sender st s) m) ∙ ap receiver_holds (receiver_stays st l s) ∙ receiver_long st l ∙ both_receiver st all in
      sym (fits_sender (with_sender st s) front)
      ∙ sym (sender_long (with_sender st s) m)
      ∙ ap sender_holds part
      ∙ holds s n step

  pub request_fits : (cfg : StreamConfig) (ring : List ℕ) (r : RetransmitRequest) → let s = (request_answer (sender_in st) cfg ring r).sender in NarrowSender s → fits (with_sender st s) ≡ true
  request_fits cfg ring r n =
      let e = requested_idle (sender_in st) ring cfg r in
      with_fits _ n (rw e (loaded_step (drop 7 st)))
