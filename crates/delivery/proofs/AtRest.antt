-- A receiver with nothing missing, through every call that leaves it so.
use Prim.Native.Nat.{ℕ, ◌-◌, ◌^◌, ◌≤◌, ◌<◌}
use Rattle.std.proofs.Common.{Option, None, Ok}
use Rattle.receiver.specs.declared.receiver.ReceiverAnswer.{ReceiverAnswer}
use Rattle.receiver.specs.declared.receiver.StreamEvent.{StreamEvent}
use mathlib.Core.Path.{◌≡◌, refl}
use mathlib.Core.Bool.{Bool, true, false}
use mathlib.Core.List.{List}
use native.Mathlib.Nat.{mod-lt, div-add-mod'}
use native.Mathlib.Omega.{arith}
use lib.Pow.{pow_pos}
use lib.ListN.{length}
use Rattle.config.specs.Settings.{check_of}
use Rattle.config.specs.Sequence.{ahead}
use Rattle.config.specs.Range.{within}
use Rattle.config.specs.declared.settings.StreamConfig.{StreamConfig}
use Rattle.packet.specs.Write.{valid_of as payload_valid}
use Rattle.packet.specs.declared.writer.PayloadWriter.{PayloadWriter}
use Rattle.command.specs.declared.retransmit.RetransmitError.{RetransmitError}
use Rattle.window.specs.Set.{max_window, val, set_of}
use Rattle.window.specs.Window.{fresh_of as all_processed, missing_of}
use Rattle.window.specs.Arrival.{reach, in_order}
use Rattle.window.specs.declared.window.Class.{Class}
use Rattle.window.specs.declared.window.Class.TheVariants.{New, Duplicate}
use Rattle.window.proofs.Positions.{processed_fresh}
use Rattle.window.proofs.Preserved.{valid_fresh}
use Rattle.window.proofs.Accepts.{accept_as_duplicate}
use Rattle.window.proofs.InOrder.{accept_in_order}
use Rattle.receiver.specs.Receiver.{valid_of, rest_of, settled_of, heard_of, polled_of, error_of, nak_of, taken_of}
use Rattle.receiver.specs.Answers.{poll_answer, event_refused, error_answer, nak_answer, take_answer, request_refused}
use Rattle.receiver.specs.declared.receiver.Receiver.{Receiver}
use Rattle.receiver.specs.declared.receiver.RequestWritten.{RequestWritten}
use Rattle.receiver_log.specs.Log.{loss_in}
use Rattle.config.specs.inner.Choices.{by_cond, by_check}
use Rattle.receiver_log.proofs.Follows.{passes}

none_missing_lem : (W h : ℕ) → missing_of (all_processed W h) ≡ 0
unfolding missing_of val set_of
none_missing_lem W h = rw (div-add-mod' (2 ^ W - 1) (2 ^ 64)) (self (2 ^ W - 1))
  where
    self : (n : ℕ) → n - n ≡ 0
    self n = omega arith

module _ (W : ℕ) (least : 1 ≤ W) (most : W ≤ max_window) (off : Bool) (h : ℕ) where
  abbrev rest : Receiver
  rest = rest_of off (all_processed W h)

  pub rest_valid : valid_of rest ≡ true
  rest_valid = passes rest (valid_fresh W h least most)

  -- ---- calls that hear nothing

  pub rest_polled : (s : StreamConfig) (time : ℕ) → ((poll_answer rest s time).receiver ≡ rest) × (loss_in (poll_answer rest s time).answer ≡ None)
  unfolding poll_answer polled_of
  rest_polled s time =
      rw rest_valid (by_check (λ (x : ReceiverAnswer (Option StreamEvent)). (x.receiver ≡ rest) × (loss_in x.answer ≡ None)) (check_of s) (event_refused rest) _ (λ why. (refl, refl)) (λ e. (refl, refl)))

  pub rest_error : (e : RetransmitError) → ((error_answer rest e).receiver ≡ rest) × (loss_in (error_answer rest e).answer ≡ None)
  unfolding error_answer error_of
  rest_error e = rw rest_valid (refl, refl)

  pub rest_nak : ((nak_answer rest).receiver ≡ rest_of true (all_processed W h)) × (loss_in (nak_answer rest).answer ≡ None)
  unfolding nak_answer nak_of
  rest_nak = rw rest_valid (refl, refl)

  pub rest_taken : (s : StreamConfig) (p : PayloadWriter) (b : List ℕ) → (take_answer rest s p b).0.receiver ≡ rest
  unfolding take_answer taken_of
  rest_taken s p b =
      rw rest_valid (by_check (λ (x : RequestWritten × List ℕ). x.0.receiver ≡ rest) (check_of s) (request_refused rest p b) _ (λ why. refl)
      (λ k. by_cond (λ (x : RequestWritten × List ℕ). x.0.receiver ≡ rest) (payload_valid p (length b)) _ _ (λ e. refl) (λ e. refl)))

  -- ---- a data command

  settled : (s : StreamConfig) (time g : ℕ) (c : Class) → settled_of rest s time (all_processed W g) c ≡ rest_of off (all_processed W g)
  unfolding settled_of
  settled s time g c = rw (none_missing_lem W g)

  next : (seq : ℕ) → ahead h seq ≡ 1 → in_order (all_processed W h) seq ≡ true
  unfolding in_order
  next seq e = rw (e, none_missing_lem W h)

  low : (all_processed W h).bits.low < 2 ^ 64
  unfolding set_of
  low = mod-lt (2 ^ W - 1) (pow_pos 64)

  -- the next number
  pub rest_next : (s : StreamConfig) (time seq : ℕ) → ahead h seq ≡ 1
      → heard_of rest s time seq ≡ record { receiver = rest_of off (all_processed W seq); answer = Ok record { seq = seq; class = New 0; gap = None; lost = None } }
  unfolding heard_of
  rest_next s time seq e = rw (← accept_in_order (all_processed W h) (valid_fresh W h least most) seq (next seq e) low) (rw (settled s time seq (New 0)))

  -- a number that is read as behind
  pub rest_behind : (s : StreamConfig) (time seq : ℕ) → within 1 reach (ahead h seq) ≡ false
      → heard_of rest s time seq ≡ record { receiver = rest; answer = Ok record { seq = seq; class = Duplicate; gap = None; lost = None } }
  unfolding heard_of
  rest_behind s time seq e = rw (accept_as_duplicate (all_processed W h) seq e (processed_fresh W h (ahead seq h)), settled s time h Duplicate)
