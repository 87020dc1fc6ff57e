-- A receiver that a poll leaves as it is.
use mathlib.Core.Path.{◌≡◌, refl, sym, ap, ◌∙◌}
use Rattle.std.proofs.Common.{Option, Some, None, Result, Ok}
use Rattle.config.specs.declared.refusal.Refusal.{Refusal}
use Rattle.receiver.specs.declared.receiver.RequestTimer.{RequestTimer}
use mathlib.Core.Bool.{Bool, true, false, ◌&&◌}
use mathlib.Core.List.{List}
use Prim.Native.Nat.{ℕ}
use lib.ListN.{length}
use borrow.Author.Tests.{ltb-true}
use Rattle.config.specs.inner.Tests.{and_left, and_right}
use Rattle.config.specs.Settings.{check_of}
use Rattle.config.specs.declared.settings.StreamConfig.{StreamConfig}
use Rattle.window.specs.Window as window
use Rattle.window.specs.declared.window.ReceiveWindow.{ReceiveWindow}
use Rattle.receiver.specs.Receiver.{valid_of, polled_of}
use Rattle.receiver.specs.Answers.{poll_answer}
use Rattle.receiver.specs.declared.receiver.StreamEvent.{StreamEvent}
use Rattle.c_words.proofs.Within.{and_false}
use Rattle.c_state.specs.Receiver.{receiver_holds}
use Rattle.c_state.specs.Stream.{receiver_part, receiver_fits, receiver_in}
use Rattle.c_state.specs.Receiving.{told_into, not_due, waits_of}
use Rattle.c_state.proofs.Streams.{receiver_short, receiver_long}
use Rattle.c_state.proofs.Hearings.{told_tested, polled_stopped, polled_early}

module _ (time : ℕ) (ws : List ℕ) where
  abbrev early : Bool
  early = not_due (receiver_in ws).timer time

  -- ---- the tests, one by one
  pub waits_short : (length ws ≡ 20 → ⊥) → false ≡ waits_of time ws
  unfolding waits_of
  waits_short h = ap (λ (b : Bool). b && (valid_of (receiver_in ws) && early)) (receiver_short ws h)

  module _ (w : ReceiveWindow) (e : w ≡ (receiver_in ws).window) where
    tested : {b : Bool} → window.valid_of w ≡ b → valid_of (receiver_in ws) ≡ b
    unfolding valid_of
    tested v = ap window.valid_of (sym e) ∙ v

    pub waits_invalid : window.valid_of w ≡ false → false ≡ waits_of time ws
    unfolding waits_of
    waits_invalid v = and_false (receiver_fits ws) _ (ap (λ (b : Bool). b && early) (sym (tested v)))

    pub waits_made : length ws ≡ 20 → window.valid_of w ≡ true → (b : Bool) → b ≡ (receiver_holds (receiver_part ws) && early) → b ≡ waits_of time ws
    unfolding waits_of
    waits_made l v b k =
        k
        ∙ ap (λ (x : Bool). x && early) (receiver_long ws l)
        ∙ ap (λ (x : Bool). receiver_fits ws && (x && early)) (sym (tested v))

  -- ---- what they say
  pub waits_fit : waits_of time ws ≡ true → receiver_fits ws ≡ true
  unfolding waits_of
  waits_fit e = and_left (receiver_fits ws) _ e

  waits_valid : waits_of time ws ≡ true → valid_of (receiver_in ws) ≡ true
  unfolding waits_of
  waits_valid e = and_left (valid_of (receiver_in ws)) _ (and_right (receiver_fits ws) _ e)

  waits_early : waits_of time ws ≡ true → early ≡ true
  unfolding waits_of
  waits_early e = and_right (valid_of (receiver_in ws)) _ (and_right (receiver_fits ws) _ e)

  -- nothing is answered, and the words stay
  pub waits_same : waits_of time ws ≡ true → (cfg : StreamConfig) → check_of cfg ≡ Ok tt → ◌≡◌ {A = Result (Option StreamEvent) Refusal × List ℕ} (Ok None, ws) (told_into ws (poll_answer (receiver_in ws) cfg time))
  waits_same e cfg p = told_tested ws (receiver_in ws) cfg time refl p (waits_valid e) _ (by (receiver_in ws).timer refl (waits_early e))
    where
      by : (t : Option RequestTimer) → (receiver_in ws).timer ≡ t → not_due t time ≡ true → ◌≡◌ {A = Result (Option StreamEvent) Refusal × List ℕ} (Ok None, ws) (told_into ws (polled_of (receiver_in ws) cfg time))
      by None s n = polled_stopped ws (receiver_in ws) (waits_fit e) refl cfg time s
      by (Some t) s n = polled_early ws (receiver_in ws) (waits_fit e) refl cfg time t s (ltb-true time t.due n)
