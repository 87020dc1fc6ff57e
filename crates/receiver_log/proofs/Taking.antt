-- Taking a due request.
use Prim.Native.Nat.{ℕ, ◌-◌, ◌%◌, ◌≤◌}
use Rattle.std.proofs.Common.{Option, Some, Result, Ok, Err}
use Rattle.window.specs.declared.window.SeqRange.{SeqRange}
use Rattle.std.specs.Bool.{⊤}
use mathlib.Core.Path.{◌≡◌, refl, ap, sym, ◌∙◌, subst}
use mathlib.Core.Logic.{inl, inr}
use mathlib.Core.Bool.{Bool, true, false, cond, not, ◌&&◌}
use mathlib.Core.List.{List, ◌∷◌}
use native.Mathlib.Omega.{arith}
use lib.Dec.{eqb}
use lib.ListN.{length}
use Rattle.config.specs.Sequence.{turn}
use Rattle.config.specs.Settings.{check_of}
use Rattle.config.specs.inner.Tests.{split}
use Rattle.config.specs.declared.refusal.Refusal.{Refusal}
use Rattle.config.specs.declared.refusal.Refusal.TheVariants.{TooLarge, InvalidState}
use Rattle.config.specs.declared.settings.StreamConfig.{StreamConfig}
use Rattle.packet.specs.Write.{written_of, valid_of as payload_valid}
use Rattle.packet.specs.declared.writer.PayloadWriter.{PayloadWriter}
use Rattle.packet.specs.declared.writer.Wrote.{Wrote}
use Rattle.command.specs.Write.{request_packet}
use Rattle.command.specs.declared.retransmit.RetransmitRequest.{RetransmitRequest}
use Rattle.window.specs.Window.{request_of}
use Rattle.receiver.specs.Receiver.{enabled_of, with_asked, not_due, taken_by, offered_of, taken_span, taken_of}
use Rattle.receiver.specs.Answers.{take_answer, request_refused}
use Rattle.receiver.specs.declared.receiver.Receiver.{Receiver}
use Rattle.receiver.specs.declared.receiver.Request.TheVariants.{Nothing as NotDue, More}
use Rattle.receiver.specs.declared.receiver.RequestWritten.{RequestWritten}
use Rattle.receiver_log.specs.Calls.{take_request, Entry, take_entry, Step, step_of}
use Rattle.receiver_log.specs.Log.{Report, reports, high, unprocessed}
use Rattle.receiver_log.specs.Spans.{Ends, none, ends, is_none, request_from, missing_ends, nothing_missing, request_in}
use Rattle.receiver_log.specs.Timing.{enabled_in, due_taken, due_in, asking, asked_taken, asked_in}
use Rattle.receiver_log.specs.Answers.{write_answer, offered, answer_of}
use Rattle.receiver_log.proofs.EndsOf.{EndsOk, ends_ok}
use Rattle.config.specs.inner.Choices.{never, unless, by_cond}
use Rattle.receiver_log.proofs.Held.{held_quiet}
use Rattle.receiver_log.proofs.SpanIs.{request_is}
use Rattle.receiver_log.proofs.Follows.{Follows, StepOk, passes, quiet_ends, idle, follows_on, follows_same}

-- the oldest missing position is in the window
ends_within : (W : ℕ) (t : List Report) (x y : ℕ) → missing_ends W t ≡ ends x y → y ≤ W
unfolding missing_ends
ends_within W t x y e =
    let h : EndsOk (λ b. unprocessed t (high t - b)) 1 W (ends x y) = subst (EndsOk (λ b. unprocessed t (high t - b)) 1 W) e (ends_ok (λ b. unprocessed t (high t - b)) 1 W) in
    omega (arith, h.to)

module _ (r : Receiver) (t : List Entry) (s : StreamConfig) (p : PayloadWriter) (b : List ℕ) (i : Follows r.window.size r t) where
  abbrev W : ℕ
  W = r.window.size

  abbrev step_from : RequestWritten × List ℕ → Step
  step_from h = record { receiver = h.0.receiver; entry = take_entry s p b h.0.answer h.0.payload h.1 }

  abbrev Fine : RequestWritten × List ℕ → Type 0
  Fine h = StepOk W t (take_request s p b) (step_from h)

  -- ---- refused

  settings_answer : (why : Refusal) → check_of s ≡ Err why → take_answer r s p b ≡ request_refused r p b why
  unfolding take_answer
  settings_answer why e = rw e

  settings_ok : (why : Refusal) → check_of s ≡ Err why → Fine (request_refused r p b why)
  unfolding answer_of
  settings_ok why e = record { follows = follows_same W r _ t i refl refl refl refl refl; says = rw e }

  module _ (e : check_of s ≡ Ok tt) where
    payload_answer : payload_valid p (length b) ≡ false → take_answer r s p b ≡ request_refused r p b InvalidState
    unfolding take_answer
    payload_answer v = rw (e, passes r i.held.valid, v)

    payload_ok : payload_valid p (length b) ≡ false → Fine (request_refused r p b InvalidState)
    unfolding answer_of
    payload_ok v = record { follows = follows_same W r _ t i refl refl refl refl refl; says = rw (e, v) }

    -- ---- taken

    module _ (v : payload_valid p (length b) ≡ true) where
      taken_answer : take_answer r s p b ≡ taken_of r s p b
      unfolding take_answer
      taken_answer = rw (e, passes r i.held.valid, v)

      answers : (offers : Bool) → (due_in W t && enabled_in t s) ≡ offers
          → cond offers (offered s p b (request_in W (reports t))) (take_entry s p b (Ok NotDue) p b) ≡ answer_of W t (take_request s p b)
      unfolding answer_of
      answers offers k = ap (λ (x : Bool). cond x (offered s p b (request_in W (reports t))) (take_entry s p b (Ok NotDue) p b)) (sym k) ∙ rw (e, v)

      not_due_ok : r.request_due ≡ false → Fine (not_due r p, b)
      not_due_ok d =
          let n : due_in W t ≡ false = sym i.due ∙ d in
          record {
            follows = follows_same W r (take_entry s p b (Ok NotDue) p b) t i refl refl (sym n) refl refl;
            says = answers false (rw n);
          }

      module _ (d : r.request_due ≡ true) where
        due : due_in W t ≡ true
        due = sym i.due ∙ d

        -- a request is due only while something is missing
        missing_some : nothing_missing W (reports t) ≡ false
        missing_some = unless (nothing_missing W (reports t)) (λ n. never due (idle W t n).1)

        still : nothing_missing W (reports (take_entry s p b (Ok NotDue) p b ∷ t)) ≡ false
        still = ap is_none (quiet_ends W (reports t)) ∙ missing_some

        -- dropped
        dropped_ok : enabled_of r s ≡ false → Fine (not_due (with_asked r r.asked) p, b)
        dropped_ok f =
            let off : enabled_in t s ≡ false = ap (λ (x : Bool). s.retransmit && not x) (sym i.refused) ∙ f in
            record {
              follows =
                  follows_on W r.window (take_entry s p b (Ok NotDue) p b) t (held_quiet i.held) refl r.timer false r.refused r.asked still
                  i.timer refl i.refused i.asked i.few;
              says = answers false (rw (due, off));
            }

        -- offered to the payload
        module _ (f : enabled_of r s ≡ true) (x y : ℕ) (m : missing_ends W (reports t) ≡ ends x y) where
          on : (due_in W t && enabled_in t s) ≡ true
          on = rw due (ap (λ (z : Bool). s.retransmit && not z) (sym i.refused) ∙ f)

          abbrev q : RetransmitRequest
          q = record { seq = (high (reports t) - y) % turn; count = y }

          abbrev w : Wrote × List ℕ
          w = written_of p b (request_packet q)

          abbrev entry_for : Result ⊤ Refusal → Entry
          entry_for a = take_entry s p b (write_answer w.0.payload a) w.0.payload w.1

          offer_says : (a : Result ⊤ Refusal) → w.0.answer ≡ a → entry_for a ≡ answer_of W t (take_request s p b)
          offer_says a k =
              ap entry_for (sym k) ∙ ap (λ (z : Ends). offered s p b (request_from (high (reports t)) z)) (sym m) ∙ answers true on

          offered_ok : (a : Result ⊤ Refusal) → w.0.answer ≡ a → Fine (taken_by r q w.0.payload a, w.1)
          offered_ok (Ok _) k = record {
            follows =
                follows_on W r.window (entry_for (Ok tt)) t (held_quiet i.held) refl r.timer false r.refused (Some q)
                (ap is_none (quiet_ends W (reports t)) ∙ missing_some) i.timer refl i.refused
                (ap (λ (z : Ends). asking (request_from (high (reports t)) z)) (sym m)) (omega arith, ends_within W (reports t) x y m);
            says = offer_says (Ok tt) k;
          }
          offered_ok (Err why) k = record {
            follows =
                follows_same W r (entry_for (Err why)) t i refl refl
                (by_cond (λ z. due_taken (due_in W t) z ≡ due_in W t) (eqb w.0.payload.len 0) (Err TooLarge) (Ok More) (λ n. refl) (λ n. refl)) refl
                (by_cond (λ z. asked_taken (asked_in W t) (request_in W (reports t)) z ≡ asked_in W t) (eqb w.0.payload.len 0) (Err TooLarge) (Ok More) (λ n. refl) (λ n. refl));
            says = offer_says (Err why) k;
          }

        span_ok : enabled_of r s ≡ true → (z : Ends) → missing_ends W (reports t) ≡ z → Fine (taken_span r p b (request_from (high (reports t)) z))
        unfolding offered_of
        span_ok f none m = absurd (never (ap is_none m) missing_some)
        span_ok f (ends x y) m = offered_ok f x y m (written_of p b (request_packet (q f x y m))).0.answer refl

        enabled_ok : enabled_of r s ≡ true → Fine (taken_span r p b (request_of r.window))
        enabled_ok f = subst (λ (z : Option SeqRange). Fine (taken_span r p b z)) (sym (request_is i.held)) (span_ok f (missing_ends W (reports t)) refl)

      taken_ok : Fine (taken_of r s p b)
      unfolding taken_of
      taken_ok = go r.request_due refl (enabled_of r s) refl
        where
          go : (d : Bool) → r.request_due ≡ d → (f : Bool) → enabled_of r s ≡ f
              → Fine (cond (not d) (not_due r p, b) (cond (not f) (not_due (with_asked r r.asked) p, b) (taken_span r p b (request_of r.window))))
          go false d f k = not_due_ok d
          go true d false k = dropped_ok d k
          go true d true k = enabled_ok d k

  pub take_ok : StepOk W t (take_request s p b) (step_of r (take_request s p b))
  unfolding step_of
  take_ok = go (check_of s) refl
    where
      go : (k : Result ⊤ Refusal) → check_of s ≡ k → Fine (take_answer r s p b)
      go (Err why) e = subst Fine (sym (settings_answer why e)) (settings_ok why e)
      go (Ok _) e = elim (split (payload_valid p (length b))) [
        | inl v ↦ subst Fine (sym (taken_answer e v)) (taken_ok e v)
        | inr v ↦ subst Fine (sym (payload_answer e v)) (payload_ok e v)
      ]
