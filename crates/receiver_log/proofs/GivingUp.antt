-- The missing span is reported, and all is processed.
use mathlib.Core.Path.{◌≡◌, refl, ap, sym, ◌∙◌, subst}
use Rattle.std.proofs.Common.{Option, Some, None}
use Rattle.window.specs.declared.window.SeqRange.{SeqRange}
use mathlib.Core.Bool.{Bool}
use mathlib.Core.List.{List, ◌∷◌}
use Rattle.command.specs.declared.retransmit.RetransmitError.{RetransmitError}
use Rattle.window.specs.Window.{fresh_of as all_processed, missing_span}
use Rattle.window.specs.declared.window.ReceiveWindow.{ReceiveWindow}
use Rattle.receiver.specs.Receiver.{rest_of, loss_of, error_event}
use Rattle.receiver.specs.declared.receiver.Receiver.{Receiver}
use Rattle.receiver_log.specs.Calls.{Entry}
use Rattle.receiver_log.specs.Log.{Report, told, loss_in, report_of, reports}
use Rattle.receiver_log.specs.Timing.{nak_in, unless_refused}
use Rattle.receiver_log.proofs.Held.{Held}
use Rattle.receiver_log.proofs.Marks.{held_all}
use Rattle.receiver_log.proofs.SpanIs.{missing_span_lem}
use Rattle.receiver_log.proofs.Follows.{Follows, all_none, follows_rest}

-- ---- events and their losses

pub loss_in_lem : (s : Option SeqRange) → loss_in (loss_of s) ≡ s
loss_in_lem None = refl
loss_in_lem (Some range) = refl

pub loss_taken : {A : Type 0} (s : Option SeqRange) (a b : A) → unless_refused (loss_of s) a b ≡ b
loss_taken None a b = refl
loss_taken (Some range) a b = refl

pub error_in_lem : (e : RetransmitError) (s : Option SeqRange) → loss_in (error_event e s) ≡ s
error_in_lem e None = refl
error_in_lem e (Some range) = refl

pub error_taken : {A : Type 0} (e : RetransmitError) (s : Option SeqRange) (a b : A) → unless_refused (error_event e s) a b ≡ b
error_taken e None a b = refl
error_taken e (Some range) a b = refl

-- ---- the receiver after it

pub gave_up_lem : (r : Receiver) (t : List Entry) → Follows r.window.size r t → (e : Entry) (off : Bool) → report_of e ≡ told (loss_in (loss_of (missing_span r.window)))
    → off ≡ nak_in (e ∷ t) → Follows r.window.size (rest_of off (all_processed r.window.size r.window.highest)) (e ∷ t)
gave_up_lem r t i e off q f =
    follows_rest r.window.size all e t held refl off (all_none r.window.size r.window.highest (reports (e ∷ t)) held) f
  where
    all : ReceiveWindow
    all = all_processed r.window.size r.window.highest

    held : Held all (reports (e ∷ t))
    held =
        subst (λ (x : Report). Held all (x ∷ reports t)) (sym (q ∙ ap told (loss_in_lem (missing_span r.window) ∙ missing_span_lem i.held))) (held_all i.held)
