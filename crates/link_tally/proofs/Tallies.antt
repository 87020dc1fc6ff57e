-- What one command adds to what is counted.
use Prim.Native.Nat.{ℕ, ◌+◌, ◌≤◌}
use Rattle.std.proofs.Common.{Option, Some, None, Result, Ok, Err}
use Rattle.sender.specs.declared.sender.RequestOutcome.{RequestOutcome}
use Rattle.stream.specs.declared.stream.StreamAnswer.{StreamAnswer}
use Rattle.window.specs.declared.window.SeqRange.{SeqRange}
use mathlib.Core.Path.{◌≡◌, refl, sym, ap, ◌∙◌}
use mathlib.Core.Bool.{cond}
use mathlib.Core.List.{List}
use native.Mathlib.Omega.{arith}
use Rattle.config.specs.declared.refusal.Refusal.{Refusal}
use Rattle.config.specs.declared.settings.StreamConfig.{StreamConfig}
use Rattle.command.specs.declared.data.UmpData.{UmpData}
use Rattle.command.specs.declared.parse.Command.{Command}
use Rattle.command.specs.declared.parse.Command.TheVariants.{UmpData as UmpDataOf, RetransmitRequest as RequestOf, RetransmitError as ErrorOf, Raw}
use Rattle.command.specs.declared.retransmit.RetransmitRequest.{RetransmitRequest}
use Rattle.command.specs.declared.retransmit.RetransmitError.{RetransmitError}
use Rattle.packet.specs.declared.cursor.Header.{Header}
use Rattle.window.specs.declared.window.Class.{Class}
use Rattle.window.specs.declared.window.Class.TheVariants.{New, Late, Duplicate}
use Rattle.receiver.specs.Messages.{hands_on}
use Rattle.receiver.specs.declared.receiver.Delivery.{Delivery}
use Rattle.receiver.specs.declared.receiver.StreamEvent.{StreamEvent}
use Rattle.receiver.specs.declared.receiver.StreamEvent.TheVariants.{DataLoss, ErrorLoss, RetransmitError as ErrorOnly}
use Rattle.stream.specs.Ends.{data_answer, request_answer, error_answer}
use Rattle.stream.specs.declared.stream.DataStream.{DataStream}
use Rattle.link_rules.specs.Arriving.{heard, requested, Arrived, nothing, arrived_by, handed_by, handed_in, span_loss, event_loss, loss_by, losses_in, error_by, error_in}
use Rattle.link_tally.specs.Tally.{tallied}
use Rattle.link_tally.specs.declared.arriving.Tally.{Tally}

tally_is : (a : Tally) (x : Arrived) {s : DataStream} {w : Option RetransmitError} {h l : ℕ} → s ≡ x.stream → w ≡ error_in a.waiting x.answers
    → h ≡ a.handed + handed_in x.answers → l ≡ a.losses + losses_in x.answers → ◌≡◌ {A = Tally} (record { stream = s; waiting = w; handed = h; losses = l }) (tallied a x)
tally_is a x p q m n = cc

none : (x y : ℕ) → y ≡ 0 → x ≡ x + (y + 0)
none x y e = omega arith

some : (x y n : ℕ) → n ≡ y → x + n ≡ x + (y + 0)
some x y n e = omega arith

module _ (a : Tally) (cfg : StreamConfig) (time : ℕ) (ring : List ℕ) where
  abbrev by : Result Command Refusal → Arrived
  by c = arrived_by a.stream cfg time ring c

  module _ (d : UmpData) (h : StreamAnswer Delivery) (e : h ≡ data_answer a.stream cfg time d.seq) where
    answer_is : {x : Result Delivery Refusal} → h.answer ≡ x → (data_answer a.stream cfg time d.seq).answer ≡ x
    answer_is f = sym (ap (λ (y : StreamAnswer Delivery). y.answer) e) ∙ f

    pub hear_refused : (why : Refusal) → h.answer ≡ Err why
        → ◌≡◌ {A = Tally} (record { stream = h.stream; waiting = a.waiting; handed = a.handed; losses = a.losses }) (tallied a (by (Ok (UmpDataOf d))))
    unfolding handed_in losses_in error_in
    hear_refused why f =
        tally_is a (by (Ok (UmpDataOf d))) (ap (λ (y : StreamAnswer Delivery). y.stream) e) refl (none _ _ (ap (λ (y : Result Delivery Refusal). handed_by (heard y)) (answer_is f))) (none _ _ (ap (λ (y : Result Delivery Refusal). loss_by (heard y)) (answer_is f)))

    pub hear_delivered : (x : Delivery) → h.answer ≡ Ok x → (n m : ℕ) → n ≡ cond (hands_on x.class) 1 0 → m ≡ span_loss x.lost
        → ◌≡◌ {A = Tally} (record { stream = h.stream; waiting = a.waiting; handed = a.handed + n; losses = a.losses + m }) (tallied a (by (Ok (UmpDataOf d))))
    unfolding handed_in losses_in error_in
    hear_delivered x f n m p q =
        tally_is a (by (Ok (UmpDataOf d))) (ap (λ (y : StreamAnswer Delivery). y.stream) e) refl (some _ _ _ (p ∙ sym (ap (λ (y : Result Delivery Refusal). handed_by (heard y)) (answer_is f))))
        (some _ _ _ (q ∙ sym (ap (λ (y : Result Delivery Refusal). loss_by (heard y)) (answer_is f))))

  pub request_answered : (q : RetransmitRequest) (h : StreamAnswer RequestOutcome) → h ≡ request_answer a.stream cfg ring q → (w : Option RetransmitError) → w ≡ error_by a.waiting (requested h.answer)
      → ◌≡◌ {A = Tally} (record { stream = h.stream; waiting = w; handed = a.handed; losses = a.losses }) (tallied a (by (Ok (RequestOf q))))
  unfolding handed_in losses_in error_in
  request_answered q h e w f =
      tally_is a (by (Ok (RequestOf q))) (ap (λ (y : StreamAnswer RequestOutcome). y.stream) e) (f ∙ ap (λ (y : StreamAnswer RequestOutcome). error_by a.waiting (requested y.answer)) e) (none _ 0 refl) (none _ 0 refl)

  pub error_told : (x : RetransmitError) (h : StreamAnswer (Option StreamEvent)) → h ≡ error_answer a.stream x → (m : ℕ) → m ≡ event_loss h.answer
      → ◌≡◌ {A = Tally} (record { stream = h.stream; waiting = a.waiting; handed = a.handed; losses = a.losses + m }) (tallied a (by (Ok (ErrorOf x))))
  unfolding handed_in losses_in error_in
  error_told x h e m f =
      tally_is a (by (Ok (ErrorOf x))) (ap (λ (y : StreamAnswer (Option StreamEvent)). y.stream) e) refl (none _ 0 refl) (some _ _ _ (f ∙ ap (λ (y : StreamAnswer (Option StreamEvent)). event_loss y.answer) e))

  pub passes_by : (c : Result Command Refusal) → by c ≡ nothing a.stream → a ≡ tallied a (by c)
  unfolding handed_in losses_in error_in
  passes_by c e = zeros a.handed a.losses ∙ ap (tallied a) (sym e)
    where
      zeros : (h l : ℕ) → ◌≡◌ {A = Tally} (record { stream = a.stream; waiting = a.waiting; handed = h; losses = l }) (record { stream = a.stream; waiting = a.waiting; handed = h + 0; losses = l + 0 })
      zeros h l = let p : h ≡ h + 0 = omega arith in let q : l ≡ l + 0 = omega arith in cc

  pub command_is : (c k : Result Command Refusal) (r : Tally) → c ≡ k → r ≡ tallied a (by k) → r ≡ tallied a (by c)
  command_is c k r e f = f ∙ ap (λ (x : Result Command Refusal). tallied a (by x)) (sym e)

  pub raw_passes : (c : Result Command Refusal) {h : Header} → c ≡ Ok (Raw h) → a ≡ tallied a (by c)
  raw_passes c e = passes_by c (ap by e)

  pub malformed_passes : (c : Result Command Refusal) {why : Refusal} → c ≡ Err why → a ≡ tallied a (by c)
  malformed_passes c e = passes_by c (ap by e)

-- one command, at most one of each
pub span_few : (s : Option SeqRange) → span_loss s ≤ 1
span_few None = omega arith
span_few (Some range) = omega arith

pub event_few : (e : Result (Option StreamEvent) Refusal) → event_loss e ≤ 1
event_few (Ok None) = omega arith
event_few (Ok (Some (DataLoss range))) = omega arith
event_few (Ok (Some (ErrorLoss range e))) = omega arith
event_few (Ok (Some (ErrorOnly e))) = omega arith
event_few (Err why) = omega arith

pub hands_few : (c : Class) → cond (hands_on c) 1 0 ≤ 1
hands_few (New gap) = omega arith
hands_few Late = omega arith
hands_few Duplicate = omega arith

pub handed_few : (s : DataStream) (cfg : StreamConfig) (time : ℕ) (ring : List ℕ) (c : Result Command Refusal) → (handed_in (arrived_by s cfg time ring c).answers ≤ 1) × (losses_in (arrived_by s cfg time ring c).answers ≤ 1)
unfolding handed_in losses_in
handed_few s cfg time ring (Ok (UmpDataOf d)) = by (data_answer s cfg time d.seq).answer
  where
    by : (x : Result Delivery Refusal) → (handed_by (heard x) + 0 ≤ 1) × (loss_by (heard x) + 0 ≤ 1)
    by (Ok x) = (omega (arith, hands_few x.class), omega (arith, span_few x.lost))
    by (Err why) = (omega arith, omega arith)
handed_few s cfg time ring (Ok (RequestOf q)) = (omega arith, omega arith)
handed_few s cfg time ring (Ok (ErrorOf x)) = (omega arith, omega (arith, event_few (error_answer s x).answer))
handed_few s cfg time ring (Ok (Raw h)) = (omega arith, omega arith)
handed_few s cfg time ring (Err why) = (omega arith, omega arith)
