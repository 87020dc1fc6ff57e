-- A payload arrives at the chamber.
use mathlib.Core.Path.{◌≡◌, refl, sym, ap, ◌∙◌, subst}
use Rattle.std.proofs.Common.{Option, Result, Ok, Err}
use Rattle.config.specs.declared.refusal.Refusal.{Refusal}
use Rattle.receiver.specs.declared.receiver.Delivery.{Delivery}
use Rattle.receiver.specs.declared.receiver.ReceiverAnswer.{ReceiverAnswer}
use Rattle.receiver.specs.declared.receiver.StreamEvent.{StreamEvent}
use mathlib.Core.Bool.{Bool, true, false, ◌||◌}
use mathlib.Core.List.{List, [], ◌∷◌, ◌++◌}
use Prim.Native.Nat.{ℕ, ◌≤◌, ◌<◌}
use Rattle.config.specs.Settings.{check_of}
use Rattle.config.specs.Time.{last_time}
use Rattle.config.specs.declared.settings.StreamConfig.{StreamConfig}
use Rattle.packet.specs.Read.{Item, whole, cut}
use Rattle.command.specs.declared.parse.Command.{Command}
use Rattle.command.specs.declared.parse.Command.TheVariants.{UmpData, RetransmitRequest, RetransmitError, Raw}
use Rattle.command.specs.declared.retransmit.RetransmitError.{RetransmitError as ErrorCommand}
use Rattle.receiver.specs.Receiver.{valid_of, heard_of, error_of}
use Rattle.receiver.specs.Answers as receiver
use Rattle.receiver_log.proofs.Follows.{passes}
use Rattle.stream.specs.Ends.{data_answer, request_answer, error_answer}
use Rattle.stream.specs.declared.stream.DataStream.{DataStream}
use Rattle.link_rules.specs.Arriving.{Answer, heard, gap_by, gap_in, command_of, arrived_by, item_by, arrived_of}
use Rattle.link_rules.proofs.Timed.{Timed, heard_timed, error_of_timed}

or_left : (a b : Bool) → a ≡ true → (a || b) ≡ true
or_left a b e = rw e

gaps_behind : (xs ys : List Answer) → gap_in (xs ++ ys) ≡ (gap_in xs || gap_in ys)
unfolding gap_in
gaps_behind [] ys = refl
gaps_behind (x ∷ xs) ys = ap (λ (b : Bool). gap_by x || b) (gaps_behind xs ys) ∙ assoc (gap_by x) (gap_in xs) (gap_in ys)
  where
    assoc : (a b c : Bool) → (a || (b || c)) ≡ ((a || b) || c)
    assoc true b c = refl
    assoc false b c = refl

or_right : (a b : Bool) → b ≡ true → (a || b) ≡ true
or_right true b e = refl
or_right false b e = e

module _ (cfg : StreamConfig) (ok : check_of cfg ≡ Ok tt) (on : cfg.retransmit ≡ true) (delayed : 1 ≤ cfg.request_delay_ms) (g time : ℕ) (in_time : time < last_time) (ring : List ℕ) where
  abbrev T : DataStream → Type 0
  T s = Timed cfg g time s.receiver

  abbrev Gaps : List Answer → Type 0
  Gaps a = gap_in a ≡ true → time ≤ g

  module _ (s : DataStream) (i : T s) where
    valid : valid_of s.receiver ≡ true
    valid = passes s.receiver i.valid

    data_timed : (seq : ℕ) → (gap_by (heard (data_answer s cfg time seq).answer) ≡ true → time ≤ g) → T (data_answer s cfg time seq).stream
    unfolding data_answer receiver.data_answer heard_of
    data_timed seq gaps =
        let e : receiver.data_answer s.receiver cfg time seq ≡ heard_of s.receiver cfg time seq = rw (ok, valid) in
        subst (λ (h : ReceiverAnswer Delivery). Timed cfg g time h.receiver) (sym e)
        (heard_timed cfg on delayed g time in_time s.receiver i seq (subst (λ (h : ReceiverAnswer Delivery). gap_by (heard h.answer) ≡ true → time ≤ g) e gaps))

    error_timed : (e : ErrorCommand) → T (error_answer s e).stream
    unfolding error_answer receiver.error_answer
    error_timed x =
        let e : receiver.error_answer s.receiver x ≡ error_of s.receiver x = rw valid in
        subst (λ (h : ReceiverAnswer (Option StreamEvent)). Timed cfg g time h.receiver) (sym e) (error_of_timed cfg on delayed g time in_time s.receiver i x)

    command_timed : (c : Result Command Refusal) → Gaps (arrived_by s cfg time ring c).answers → T (arrived_by s cfg time ring c).stream
    unfolding gap_in request_answer
    command_timed (Ok (UmpData d)) gaps = data_timed d.seq (λ f. gaps (or_left _ false f))
    command_timed (Ok (RetransmitRequest q)) gaps = i
    command_timed (Ok (RetransmitError x)) gaps = error_timed x
    command_timed (Ok (Raw h)) gaps = i
    command_timed (Err why) gaps = i

    item_timed : (x : Item) → Gaps (item_by s cfg time ring x).answers → T (item_by s cfg time ring x).stream
    item_timed (whole at c) gaps = command_timed (command_of c) gaps
    item_timed (cut h) gaps = i

  pub arrived_timed : (items : List Item) (s : DataStream) → T s → Gaps (arrived_of s cfg time ring items).answers → T (arrived_of s cfg time ring items).stream
  unfolding arrived_of
  arrived_timed [] s i gaps = i
  arrived_timed (x ∷ items) s i gaps =
      let a = item_by s cfg time ring x in
      let rest = arrived_of a.stream cfg time ring items in
      arrived_timed items a.stream (item_timed s i x (λ f. gaps (gaps_behind a.answers rest.answers ∙ or_left _ _ f)))
      (λ f. gaps (gaps_behind a.answers rest.answers ∙ or_right (gap_in a.answers) _ f))
