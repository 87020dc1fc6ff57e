-- Nothing is missing D × (2^(M+1) - 1) steps after the last new gap.
use mathlib.Core.Path.{◌≡◌, refl, sym, subst}
use Rattle.std.proofs.Common.{Ok}
use mathlib.Core.Bool.{true, false}
use mathlib.Core.Logic.{inl, inr}
use Prim.Native.Nat.{ℕ, zero, suc, ◌+◌, ◌-◌, ◌≤◌, ◌<◌}
use native.Mathlib.Omega.{arith}
use lib.Dec.{leb}
use borrow.Author.Tests.{leb-true, leb-false}
use Rattle.config.specs.Range.{within}
use Rattle.config.specs.Settings.{check_of}
use Rattle.config.specs.Sequence.{turn}
use Rattle.config.specs.declared.settings.StreamConfig.{StreamConfig}
use Rattle.config.specs.inner.Tests.{split}
use Rattle.config.specs.Time.{last_time}
use Rattle.window.specs.Set.{max_window}
use Rattle.config.specs.inner.Ranges.{within_range}
use Rattle.window.proofs.Preserved.{valid_fresh}
use Rattle.link_rules.specs.Arriving.{gap_in}
use Rattle.link_rules.specs.Link.{Ends, start_of, calls_of, step_of, run_of, most_steps}
use Rattle.link_rules.specs.Cleared.{new_gap, none_missing, bound_of, Cleared}
use Rattle.link_rules.proofs.Steps.{steps_are}
use Rattle.link_rules.proofs.Window.{full_missing}
use Rattle.link_rules.proofs.Timed.{Timed, quiet, timed_gap, timed_done}
use Rattle.link_rules.proofs.Stepping.{step_polls, step_timed}

module _
    (cfg : StreamConfig) (window words places seed drop figure : ℕ)
    (ok : check_of cfg ≡ Ok tt) (on : cfg.retransmit ≡ true) (delayed : 1 ≤ cfg.request_delay_ms) (size : within 1 max_window window ≡ true) where
  abbrev start : Ends
  start = start_of window words places seed drop

  abbrev at : ℕ → Ends
  at n = run_of cfg figure start n

  -- before step n, with no new gap since step g
  abbrev Before : ℕ → ℕ → Type 0
  Before g n = Timed cfg g n (at n).chamber.receiver

  module _ (g n : ℕ) (l : n < most_steps) (gaps : new_gap cfg figure start n ≡ true → n ≤ g) (i : Before g n) where
    time : (at n).steps ≡ n
    time = steps_are cfg figure window words places seed drop n

    in_time : (at n).steps + 1 < last_time
    in_time = omega (arith, time)

    late : gap_in (calls_of cfg figure (at n)).heard.answers ≡ true → (at n).steps ≤ g
    late f = omega (arith, time, gaps f)

    here : Timed cfg g (at n).steps (at n).chamber.receiver
    here = subst (λ (t : ℕ). Timed cfg g t (at n).chamber.receiver) (sym time) i

    next : Before g (suc n)
    unfolding run_of
    next =
        subst (λ (t : ℕ). Timed cfg g t (step_of cfg figure (at n)).chamber.receiver) (omega (arith, time)) (step_timed cfg ok on delayed g figure (at n) in_time late here)

    polls : Timed cfg g (suc n) (calls_of cfg figure (at n)).polled.stream.receiver
    polls =
        subst (λ (t : ℕ). Timed cfg g t (calls_of cfg figure (at n)).polled.stream.receiver) (omega (arith, time)) (step_polls cfg ok on delayed g figure (at n) in_time late here)

  fresh : (g : ℕ) → Before g 0
  unfolding run_of
  fresh g =
      let r = within_range 1 max_window window size in
      record { valid = valid_fresh window (turn - 1) r.0 r.1; able = refl; stage = quiet record { none = full_missing window (turn - 1); rest = refl } }

  -- whatever the gaps so far
  anyway : (n : ℕ) → n < most_steps → Before n n
  anyway zero l = fresh 0
  anyway (suc n) l = timed_gap cfg n (suc n) (suc n) (omega arith) (at (suc n)).chamber.receiver (next n n (omega arith) (λ _. omega arith) (anyway n (omega arith)))

  module _ (g k : ℕ) (lasts : k < most_steps) (none : (j : ℕ) → g < j → j ≤ k → new_gap cfg figure start j ≡ false) where
    last : (n : ℕ) → n ≤ k → new_gap cfg figure start n ≡ true → n ≤ g
    last n l f = elim (split (leb n g)) [
      | inl t ↦ leb-true n g t
      | inr t ↦ absurd (let e = none n (leb-false n g t) l in let z : ◌≡◌ {A = ℕ} 0 1 = cc in omega arith)
    ]

    since : (m : ℕ) → g + m ≤ k → Before g (g + m)
    since zero l = subst (Before g) (omega arith) (anyway g (omega arith))
    since (suc m) l = subst (Before g) (omega arith) (next g (g + m) (omega arith) (last (g + m) (omega arith)) (since m (omega arith)))

    done : g + bound_of cfg ≤ k → none_missing cfg figure start k ≡ true
    done b =
        let e : g + (k - g) ≡ k = omega arith in
        let i : Before g k = subst (Before g) e (since (k - g) (omega arith)) in
        timed_done cfg g (suc k) (omega arith) (calls_of cfg figure (at k)).polled.stream.receiver (polls g k lasts (last k (omega arith)) i)

pub cleared : Cleared
cleared cfg window words places seed drop figure ok size on delayed g k b l none = done cfg window words places seed drop figure ok on delayed size g k l none b
