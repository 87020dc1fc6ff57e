-- What repeats alone guarantee: the receiver hears in step, so it is always at rest, and hands each command on as the next.
use Prim.Native.Nat.{ℕ, suc, ◌+◌, ◌-◌, ◌%◌, ◌≤◌, ◌<◌, min, max}
use Rattle.std.proofs.Common.{None}
use Rattle.receiver.specs.declared.receiver.Delivery.{Delivery}
use Rattle.receiver.specs.declared.receiver.ReceiverAnswer.{ReceiverAnswer}
use mathlib.Core.Path.{◌≡◌, refl, ap, ap₂, ◌∙◌}
use mathlib.Core.Logic.{inl, inr}
use mathlib.Core.Bool.{Bool, true, false}
use mathlib.Core.List.{List, [], ◌∷◌, ◌++◌}
use native.Mathlib.Omega.{arith}
use lib.Dec.{leb, ltb, eqb}
use lib.ListN.{length, get_or, take, length-append}
use lib.Seq.{take-suc, take_all, length-take-le}
use Rattle.config.specs.Range.{within}
use Rattle.config.specs.Sequence.{turn, ahead}
use Rattle.config.specs.Settings.{check_of}
use Rattle.config.specs.declared.settings.StreamConfig.{StreamConfig}
use Rattle.config.specs.inner.Tests.{split, tests}
use Rattle.window.specs.Set.{max_window}
use Rattle.window.specs.Window.{fresh_of as all_processed}
use Rattle.window.specs.Arrival.{reach}
use Rattle.window.specs.declared.window.Class.TheVariants.{New}
use Rattle.config.specs.inner.Ranges.{within_below, within_above}
use Rattle.config.specs.inner.Choices.{by_check}
use Rattle.receiver.specs.Receiver.{fresh_of, rest_of, heard_of}
use Rattle.receiver.specs.Answers.{data_answer, hearing_refused, poll_answer, error_answer, nak_answer, take_answer}
use Rattle.receiver.specs.declared.receiver.Receiver.{Receiver}
use Rattle.receiver_log.specs.Calls.{Call, data_command, poll, retransmit_error, nak, take_request, Entry, data_entry, step_of, run_from, run, AllTyped}
use Rattle.receiver_log.specs.Log.{told, report_of, reports, origin, place, high}
use Rattle.receiver_log.proofs.Follows.{Follows, passes}
use Rattle.receiver_log.proofs.Runs.{step_ok, run_ok}
use Rattle.delivery.specs.Commands.{Command, data_of}
use Rattle.delivery.specs.Positions.{numbered}
use Rattle.delivery.specs.Console.{Lent, bytes, Entry as Sending, queued, wrote, stood, noted, held, written, positions, Was, was_wrote, was}
use Rattle.delivery.specs.Sentence.{NoLoss, Run, sent_log, heard_log, heard_in}
use Rattle.delivery.specs.Repeats.{commands_from, last_of, Brought, nothing, one, Brings, written_payloads, SentAs, Arrives, none, next, again, heard_commands, RepeatsOnly, handed, each_in_order, AllHandedOn, RepeatsAlone}
use Rattle.delivery.proofs.Payloads.{holds_few}
use Rattle.delivery.proofs.Tags.{on}
use Rattle.delivery.proofs.Lent.{Payloads}
use Rattle.delivery.proofs.Chambers.{read_position}
use Rattle.delivery.proofs.Brought.{length_from, one_each, written_many, sent_holds}
use Rattle.delivery.proofs.Steady.{Steady, still, steady_from, Last, was_up, was_back, last_of_lem, none_heard}
use Rattle.delivery.proofs.AtRest.{rest_polled, rest_error, rest_nak, rest_taken, rest_next, rest_behind}
use Rattle.delivery.proofs.Delivery.{good}
use Rattle.delivery.proofs.InTime.{all_handed_on}

-- ---- the receiver

each_last : (C : List (List ℕ)) (ws : List ℕ) (p n : ℕ) → length C ≡ n → each_in_order p (C ++ (ws ∷ [])) ≡ each_in_order p C ++ (record { at = origin + (p + n); class = New 0; words = ws } ∷ [])
each_last [] ws p n e = let z : p + n ≡ p = omega arith in rw z
each_last (a ∷ C) ws p n e =
    let z : p + n ≡ suc p + (n - 1) = omega arith in
    rw (each_last C ws (suc p) (n - 1) (omega arith), z)

-- a position that was reached, not over 32,768 behind, is read as behind
read_back : (n p : ℕ) → p < n → n ≤ p + (reach + 2) → within 1 reach (ahead ((origin - 1 + n) % turn) (p % turn)) ≡ false
read_back n p l m = elim (split (eqb n (p + 1))) [
  | inl k ↦ within_below 1 reach (ahead ((origin - 1 + n) % turn) (p % turn)) (omega (arith, tests))
  | inr k ↦
      let d : ahead ((origin - 1 + n) % turn) (p % turn) ≡ turn - (n - 1 - p) = omega (arith, tests) in
      within_above 1 reach (ahead ((origin - 1 + n) % turn) (p % turn)) (rw d (omega arith))
]

module _ (W : ℕ) (least : 1 ≤ W) (most : W ≤ max_window) (C : List (List ℕ)) where
  -- the first n positions are handed on, and nothing is missing
  record AtRest (n : ℕ) (r : Receiver) (t : List Entry) : Type 0 where
    off : Bool
    is : r ≡ rest_of off (all_processed W ((origin - 1 + n) % turn))
    top : high (reports t) ≡ origin - 1 + n
    all : handed (reports t) ≡ each_in_order 0 (take n C)
    no_loss : NoLoss (reports t)

  -- a call that reports nothing
  rest_quiet : (n : ℕ) (r x : Receiver) (t : List Entry) (e : Entry) → AtRest n r t
      → (off : Bool) → x ≡ rest_of off (all_processed W ((origin - 1 + n) % turn)) → report_of e ≡ told None → AtRest n x (e ∷ t)
  rest_quiet n r x t e a off is q = record { off = off; is = is; top = rw q a.top; all = rw q a.all; no_loss = rw q (refl, a.no_loss) }

  -- a data command that isn't refused
  module _ (r : Receiver) (t : List Entry) (s : StreamConfig) (time seq : ℕ) (ws : List ℕ) where
    abbrev Next : ℕ → ReceiverAnswer Delivery → Type 0
    Next n x = AtRest n x.receiver (data_entry s time seq ws x.answer ∷ t)

    rest_up : (n : ℕ) → AtRest n r t → n < length C → seq ≡ n % turn → ws ≡ get_or C n [] → Next (suc n) (heard_of r s time seq)
    rest_up n a l es ew =
        let h : ℕ = (origin - 1 + n) % turn in
        let here : place (high (reports t)) seq ≡ origin + n = rw (a.top, es) (read_position (origin - 1 + n) n (omega arith) (omega arith)) in
        rw (a.is, rest_next W least most a.off h s time seq (rw es (omega arith))) record {
          off = a.off;
          is = let e : seq ≡ (origin - 1 + suc n) % turn = omega arith in rw e;
          top = rw (here, a.top) (omega arith);
          all = let z : 0 + n ≡ n = omega arith in
              rw (here, a.all, take-suc C n [] l, each_last (take n C) (get_or C n []) 0 n (length-take-le n C (omega arith)), ew, z);
          no_loss = (refl, a.no_loss);
        }

    rest_back : (n : ℕ) → AtRest n r t → (p : ℕ) → p < n → n ≤ p + (reach + 2) → seq ≡ p % turn → Next n (heard_of r s time seq)
    rest_back n a p l m es =
        let h : ℕ = (origin - 1 + n) % turn in
        let here : place (high (reports t)) seq ≡ origin + p = rw (a.top, es) (read_position (origin - 1 + n) p (omega arith) (omega arith)) in
        rw (a.is, rest_behind W least most a.off h s time seq (rw es (read_back n p l m))) record { off = a.off; is = refl; top = rw (here, a.top) (omega arith); all = a.all; no_loss = (refl, a.no_loss) }

  -- ---- every call

  -- after commands in step, at rest
  abbrev Keeps : Receiver → List Entry → Type 0
  Keeps r t = (n : ℕ) → Steady C (heard_commands t) n → AtRest n r t

  heard_kept : (r : Receiver) (t : List Entry) (s : StreamConfig) (time seq : ℕ) (ws : List ℕ) → Keeps r t
      → Keeps (heard_of r s time seq).receiver (data_entry s time seq ws (heard_of r s time seq).answer ∷ t)
  unfolding heard_of
  heard_kept r t s time seq ws k n st = by (last_of_lem C _ (heard_commands t) record { number = seq; words = ws } n st refl)
    where
      by : {m : ℕ} → Last C (heard_commands t) record { number = seq; words = ws } m → Next r t s time seq ws m (heard_of r s time seq)
      by (was_up {n = m} b l e) = rest_up r t s time seq ws m (k m b) l (ap (λ (c : Command). c.number) e) (ap (λ (c : Command). c.words) e)
      by (was_back {n = m} b p l d e) = rest_back r t s time seq ws m (k m b) p l d (ap (λ (c : Command). c.number) e)

  data_kept : (r : Receiver) (t : List Entry) (s : StreamConfig) (time seq : ℕ) (ws : List ℕ) → Follows W r t → Keeps r t
      → Keeps (data_answer r s time seq).receiver (data_entry s time seq ws (data_answer r s time seq).answer ∷ t)
  unfolding data_answer
  data_kept r t s time seq ws i k =
      rw (passes r i.held.valid) (by_check (λ (x : ReceiverAnswer Delivery). Keeps x.receiver (data_entry s time seq ws x.answer ∷ t)) (check_of s) (hearing_refused r) (heard_of r s time seq)
      (λ why n st. let a = k n st in rest_quiet n r r t _ a a.off a.is refl)
      (λ e. heard_kept r t s time seq ws k))

  step_kept : (r : Receiver) (t : List Entry) (c : Call) → Follows W r t → Keeps r t → Keeps (step_of r c).receiver ((step_of r c).entry ∷ t)
  unfolding step_of
  step_kept r t (data_command s time seq ws) i k = data_kept r t s time seq ws i k
  step_kept r t (poll s time) i k = λ n st.
      let a = k n st in
      let q = rw (← a.is) at (rest_polled W least most a.off ((origin - 1 + n) % turn) s time) in
      rest_quiet n r (poll_answer r s time).receiver t _ a a.off (q.0 ∙ a.is) (ap told q.1)
  step_kept r t (retransmit_error e) i k = λ n st.
      let a = k n st in
      let q = rw (← a.is) at (rest_error W least most a.off ((origin - 1 + n) % turn) e) in
      rest_quiet n r (error_answer r e).receiver t _ a a.off (q.0 ∙ a.is) (ap told q.1)
  step_kept r t nak i k = λ n st.
      let a = k n st in
      let q = rw (← a.is) at (rest_nak W least most a.off ((origin - 1 + n) % turn)) in
      rest_quiet n r (nak_answer r).receiver t _ a true q.0 (ap told q.1)
  step_kept r t (take_request s p b) i k = λ n st.
      let a = k n st in
      let q = rw (← a.is) at (rest_taken W least most a.off ((origin - 1 + n) % turn) s p b) in
      rest_quiet n r (take_answer r s p b).0.receiver t _ a a.off (q ∙ a.is) refl

  from_kept : (calls : List Call) (r : Receiver) (t : List Entry) → Follows W r t → AllTyped calls → Keeps r t → Keeps (run_from r t calls).receiver (run_from r t calls).log
  unfolding run_from
  from_kept [] r t i l k = k
  from_kept (c ∷ calls) r t i l k = from_kept calls (step_of r c).receiver ((step_of r c).entry ∷ t) (step_ok W r t c i l.0).follows l.1 (step_kept r t c i k)

  fresh_kept : Keeps (fresh_of W) []
  fresh_kept n st = let e : n ≡ 0 = none_heard C [] n st refl in rw e record { off = false; is = refl; top = refl; all = refl; no_loss = tt }

  all_kept : (calls : List Call) → AllTyped calls → Keeps (run W calls).receiver (run W calls).log
  unfolding run run_from
  all_kept calls l = from_kept calls (fresh_of W) [] (run_ok W least most [] tt) l fresh_kept

-- ---- the line

module _ (R : ℕ) (few : R ≤ reach + 1) (vs : List Lent) (t : List Sending) (i : Payloads vs (written t) t) (brings : Brings R t) where
  abbrev C : List (List ℕ)
  C = positions t

  within_count : (j : ℕ) (v : Lent) → SentAs t j v → j - R + suc (min R j) ≤ length C
  within_count j v s = omega (arith, s.is_written, one_each R few vs t i brings)

  steady : {n : ℕ} {cs : List Command} → Arrives R t n cs → Steady C cs n
  steady none = still
  steady (next {n = n} {cs = cs} h lost m v s) =
      let j : ℕ = n + lost in
      let e : max n (j - R + suc (min R j)) ≡ suc j = omega arith in
      rw (sent_holds R few vs t i brings j v s) (rw e at (steady_from C (suc (min R j)) (j - R) n cs (steady h) (omega arith) (omega arith) (within_count j v s)))
  steady (again {j = j} {cs = cs} h v s) =
      let e : max (suc j) (j - R + suc (min R j)) ≡ suc j = omega arith in
      rw (sent_holds R few vs t i brings j v s) (rw e at (steady_from C (suc (min R j)) (j - R) (suc j) cs (steady h) (omega arith) (omega arith) (within_count j v s)))

-- ---- however large R is

module _ (vs : List Lent) (t : List Sending) (i : Payloads vs (written t) t) where
  -- a payload holds at most 1,400 bytes, so no more commands
  on_few : (k : ℕ) → length (on k (written t)) ≤ 1400
  on_few k = elim (split (ltb k (length vs))) [
    | inl e ↦ let r = i.open_ones k (omega (arith, tests)) in rw (← r.data_are) (holds_few _ _ r.packets r.holds)
    | inr e ↦ omega (arith, ap length (i.unopened k (omega (arith, tests))))
  ]

  was_few : (k : ℕ) (v : Lent) → Was t k v → held v ≤ 1400
  was_few k v h = let p = i.past k v h in omega (arith, on_few k, ap length p.1, length-append (data_of (bytes v)) p.0)

module _ (R : ℕ) (over : reach + 1 < R) where
  last_all : (C : List (List ℕ)) → length C ≤ 1400 → last_of R C ≡ last_of (reach + 1) C
  last_all C l =
      let a : length C - R ≡ length C - (reach + 1) = omega arith in
      let b : min R (length C) ≡ min (reach + 1) (length C) = omega arith in
      ap₂ (commands_from C) a b

  brings_less : (t : List Sending) → ((k : ℕ) (v : Lent) → Was t k v → held v ≤ 1400) → Brings R t → Brings (reach + 1) t
  brings_less [] few b = tt
  brings_less (queued cfg ws a ∷ t) few b = brings_less t (λ k v h. few k v (was _ h)) b
  brings_less (stood k v ∷ t) few b = brings_less t (λ j x h. few j x (was _ h)) b
  brings_less (noted ∷ t) few b = brings_less t (λ k v h. few k v (was _ h)) b
  brings_less (wrote k u v a ∷ t) few b = (by b.0, brings_less t (λ j x h. few j x (was _ h)) b.1)
    where
      by : Brought R (positions t) u v → Brought (reach + 1) (positions t) u v
      by (nothing z) = nothing z
      by (one empty ws d) =
          let C : List (List ℕ) = positions t in
          let n = length_from C (min R (length C)) (length C - R) in
          let l : length C ≤ 1400 = omega (arith, few k v (was_wrote t k u v a), ap length d, length-append (last_of R C) (numbered (length C) ws ∷ [])) in
          one empty ws (d ∙ ap (λ (cs : List Command). cs ++ (numbered (length C) ws ∷ [])) (last_all C l))

  arrives_less : (t : List Sending) → ((j : ℕ) → j < length (written_payloads t) → j ≤ 1400) → {n : ℕ} {cs : List Command} → Arrives R t n cs → Arrives (reach + 1) t n cs
  arrives_less t few none = none
  arrives_less t few (next {n = n} h lost m v s) = next (arrives_less t few h) lost (omega (arith, few (n + lost) s.is_written)) v s
  arrives_less t few (again h v s) = again (arrives_less t few h) v s

-- ---- the sentence

repeats_within : (u : Run) (R : ℕ) → R ≤ reach + 1 → RepeatsOnly R (sent_log u) (heard_log u) → AllHandedOn (positions (sent_log u)) (heard_in u)
repeats_within u R few o =
    let t : List Sending = sent_log u in
    let g = good u in
    let vs : List Lent = g.0.payloads in
    let r = all_kept u.window u.least u.most (positions t) u.arrivals u.typed o.gone (steady R few vs t g.1.payloads o.brings o.arrives) in
    let n : o.gone ≡ length (positions t) = omega (arith, o.last, one_each R few vs t g.1.payloads o.brings) in
    all_handed_on (positions t) (heard_in u) (r.top ∙ ap (λ (m : ℕ). origin - 1 + m) n) (r.all ∙ ap (each_in_order 0) (take_all o.gone (positions t) (omega arith))) r.no_loss

pub repeats_alone : RepeatsAlone
repeats_alone u R o = elim (split (leb R (reach + 1))) [
  | inl e ↦ repeats_within u R (omega (arith, tests)) o
  | inr e ↦
      let over : reach + 1 < R = omega (arith, tests) in
      let t : List Sending = sent_log u in
      let g = good u in
      let vs : List Lent = g.0.payloads in
      let i = g.1.payloads in
      let b : Brings (reach + 1) t = brings_less R over t (was_few vs t i) o.brings in
      let few : (j : ℕ) → j < length (written_payloads t) → j ≤ 1400 =
      λ j l. omega (arith, on_few vs t i (get_or (written_payloads t) j 0), written_many (reach + 1) (omega arith) vs t i b j l) in
      repeats_within u (reach + 1) (omega arith) record { brings = b; gone = o.gone; arrives = arrives_less R over t few o.arrives; last = o.last }
]
