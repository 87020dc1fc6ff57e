-- A run, step by step, and its refusals.
use Prim.Native.Nat.{ℕ, ◌+◌, ◌≤◌, ◌<◌}
use Rattle.std.proofs.Common.{None, Result, Ok, Err}
use Rattle.link_rules.specs.declared.run.Report.{Report}
use Rattle.stream.specs.declared.stream.StreamAnswer.{StreamAnswer}
use Rattle.std.specs.Bool.{⊤}
use mathlib.Core.Path.{◌≡◌, refl, sym, ap, ap₂, ◌∙◌}
use mathlib.Core.Bool.{Bool, true, false, cond, not, ◌||◌}
use mathlib.Core.List.{List}
use native.Mathlib.Numerals.{add-one}
use native.Mathlib.Omega.{arith}
use lib.ListN.{length, replicate}
use lib.Dec.{eqb, ltb}
use borrow.Author.Tests.{lt-ltb, le-ltb, eqb-true}
use Rattle.config.specs.Range.{outside}
use Rattle.config.specs.Settings.{check_of}
use Rattle.config.specs.declared.refusal.Refusal.{Refusal}
use Rattle.config.specs.declared.refusal.Refusal.TheVariants.{SizeNotAllowed}
use Rattle.config.specs.declared.settings.StreamConfig.{StreamConfig}
use Rattle.window.specs.Set.{max_window}
use Rattle.stream.specs.State.{fresh}
use Rattle.stream.specs.Answers.{not_started, sizes_out, new_answer}
use Rattle.stream.specs.declared.stream.DataStream.{DataStream}
use Rattle.link_rules.specs.Link.{Ends, step_of, run_of, start_of, most_steps, refuses_sizes, report_of, run_answer}
use Rattle.link.specs.Turns.{ends_of}
use Rattle.link.specs.declared.link.State.{State}

-- ---- the steps

module _ (cfg : StreamConfig) (figure : ℕ) (e : Ends) where
  pub run_none : e ≡ run_of cfg figure e 0
  unfolding run_of
  run_none = refl

  pub run_more : (n : ℕ) (x r : Ends) → x ≡ run_of cfg figure e n → r ≡ step_of cfg figure x → r ≡ run_of cfg figure e (n + 1)
  unfolding run_of
  run_more n x r p q = q ∙ ap (step_of cfg figure) p ∙ ap (λ (k : ℕ). run_of cfg figure e k) (sym (add-one n))

  pub run_end : (s : State) (done budget : ℕ) (ring other : List ℕ) → done ≡ budget → ends_of s done ring other ≡ run_of cfg figure e done
      → ◌≡◌ {A = Result Report Refusal × List ℕ × List ℕ} (Ok record { steps = done; handed = s.handed; losses = s.losses }, ring, other) (report_of (run_of cfg figure e budget))
  run_end s done budget ring other p q = ap report_of (q ∙ ap (run_of cfg figure e) p)

-- ---- refusals

-- an outcome is one of both
refused_done : {A : Type 0} (why : Refusal) → ◌≡◌ {A = Result ⊤ Refusal} (Err why) (Ok tt) → A
refused_done why e = absurd (let z : ◌≡◌ {A = ℕ} 0 1 = cc in let y : ⊥ = omega arith in y)

same_why : (why other : Refusal) → ◌≡◌ {A = Result ⊤ Refusal} (Err why) (Err other) → why ≡ other
same_why why other e = cc

or_last : (a b : Bool) → (a || (b || true)) ≡ true
or_last true b = refl
or_last false true = refl
or_last false false = refl

-- of sizes that are taken
sizes_length : (window words places : ℕ) (ring : List ℕ) → sizes_out window words places ring ≡ false → length ring ≡ words
sizes_length window words places ring e =
    eqb-true (length ring) words (second (outside 1 max_window window) (outside 65 32768 words) (eqb (length ring) words) (outside 1 16 places) e)
  where
    second : (a b c d : Bool) → (a || (b || (not c || d))) ≡ false → c ≡ true
    second true b c d f = absurd (let z : ◌≡◌ {A = ℕ} 0 1 = cc in let y : ⊥ = omega arith in y)
    second false true c d f = absurd (let z : ◌≡◌ {A = ℕ} 0 1 = cc in let y : ⊥ = omega arith in y)
    second false false true d f = refl
    second false false false d f = absurd (let z : ◌≡◌ {A = ℕ} 0 1 = cc in let y : ⊥ = omega arith in y)

sizes_same : (window words places : ℕ) (ring other : List ℕ) → length ring ≡ length other → sizes_out window words places ring ≡ sizes_out window words places other
sizes_same window words places ring other e = ap (λ (n : ℕ). outside 1 max_window window || (outside 65 32768 words || (not (eqb n words) || outside 1 16 places))) e

module _ (cfg : StreamConfig) (window words places seed drop figure budget : ℕ) (ring other : List ℕ) where
  abbrev answer : Result Report Refusal × List ℕ × List ℕ
  answer = run_answer cfg window words places seed drop figure budget ring other

  -- both ends as they are at a start
  abbrev starting : DataStream → DataStream → State
  starting console chamber =
      record { console = console; chamber = chamber; waiting = None; load = record { last = seed }; line = record { last = drop }; handed = 0; losses = 0 }

  pub run_settings : (why : Refusal) → check_of cfg ≡ Err why → (Err why, ring, other) ≡ answer
  unfolding run_answer
  run_settings why e = rw e

  module _ (ok : check_of cfg ≡ Ok tt) where
    refused_sizes : refuses_sizes window words places budget ring other ≡ true → (Err SizeNotAllowed, ring, other) ≡ answer
    unfolding run_answer
    refused_sizes e = rw (ok, e)

    pub run_over : most_steps < budget → (Err SizeNotAllowed, ring, other) ≡ answer
    run_over l = refused_sizes (rw (lt-ltb most_steps budget l) (or_last (sizes_out window words places ring) (sizes_out window words places other)))

    pub run_lengths : (length ring ≡ length other → ⊥) → (Err SizeNotAllowed, ring, other) ≡ answer
    run_lengths f = refused_sizes (by (sizes_out window words places ring) (sizes_out window words places other) refl refl)
      where
        by : (a b : Bool) → sizes_out window words places ring ≡ a → sizes_out window words places other ≡ b → (a || (b || ltb most_steps budget)) ≡ true
        by true b p q = refl
        by false true p q = refl
        by false false p q = absurd (f (sizes_length window words places ring p ∙ sym (sizes_length window words places other q)))

    new_is : (r : List ℕ) → new_answer cfg window words places r ≡ cond (sizes_out window words places r) (not_started SizeNotAllowed, r) (record { stream = fresh window words places; answer = Ok tt }, replicate (length r) 0)
    unfolding new_answer
    new_is r = rw ok

    module _ (first : StreamAnswer ⊤) (after : List ℕ) (e : (first, after) ≡ new_answer cfg window words places ring) where
      -- a start that is refused
      pub run_start : (why : Refusal) → first.answer ≡ Err why → (Err why, after, other) ≡ answer
      run_start why f = by (sizes_out window words places ring) refl
        where
          by : (a : Bool) → sizes_out window words places ring ≡ a → (Err why, after, other) ≡ answer
          by true p =
              let q : ◌≡◌ {A = StreamAnswer ⊤ × List ℕ} (first, after) (not_started SizeNotAllowed, ring) = e ∙ new_is ring ∙ rw p in
              let w : why ≡ SizeNotAllowed = same_why why SizeNotAllowed (sym f ∙ ap (λ (x : StreamAnswer ⊤ × List ℕ). x.0.answer) q) in
              ◌∙◌ {b = (Err SizeNotAllowed, ring, other)} (ap₂ (λ (x : Refusal) (y : List ℕ). (Err x, y, other)) w (ap (λ (x : StreamAnswer ⊤ × List ℕ). x.1) q)) (refused_sizes (rw p))
          by false p =
              let q : ◌≡◌ {A = StreamAnswer ⊤ × List ℕ} (first, after) (record { stream = fresh window words places; answer = Ok tt }, replicate (length ring) 0) = e ∙ new_is ring ∙ rw p in
              refused_done why (sym f ∙ ap (λ (x : StreamAnswer ⊤ × List ℕ). x.0.answer) q)

      -- both ends start
      pub run_starts : first.answer ≡ Ok tt → budget ≤ most_steps → length ring ≡ length other
          → (second : StreamAnswer ⊤) (last : List ℕ) → (second, last) ≡ new_answer cfg window words places other
          → (s : State) → s ≡ starting first.stream second.stream
          → (r : Result Report Refusal × List ℕ × List ℕ) → r ≡ report_of (run_of cfg figure (ends_of s 0 after last) budget) → r ≡ answer
      unfolding run_answer
      run_starts f l m second last g s h r k = by (sizes_out window words places ring) refl
        where
          by : (a : Bool) → sizes_out window words places ring ≡ a → r ≡ answer
          by true p =
              let q : ◌≡◌ {A = StreamAnswer ⊤ × List ℕ} (first, after) (not_started SizeNotAllowed, ring) = e ∙ new_is ring ∙ rw p in
              let w : first.answer ≡ Err SizeNotAllowed = ap (λ (x : StreamAnswer ⊤ × List ℕ). x.0.answer) q in
              refused_done SizeNotAllowed (sym w ∙ f)
          by false p =
              let p' : sizes_out window words places other ≡ false = sym (sizes_same window words places ring other m) ∙ p in
              let q : ◌≡◌ {A = StreamAnswer ⊤ × List ℕ} (first, after) (record { stream = fresh window words places; answer = Ok tt }, replicate (length ring) 0) = e ∙ new_is ring ∙ rw p in
              let q' : ◌≡◌ {A = StreamAnswer ⊤ × List ℕ} (second, last) (record { stream = fresh window words places; answer = Ok tt }, replicate (length other) 0) = g ∙ new_is other ∙ rw p' in
              let a : length ring ≡ words = sizes_length window words places ring p in
              let b : length other ≡ words = sizes_length window words places other p' in
              let start : ends_of s 0 after last ≡ start_of window words places seed drop =
              ap (λ (x : State). ends_of x 0 after last) h
              ∙ ap₂ (λ (x y : StreamAnswer ⊤ × List ℕ). ends_of (starting x.0.stream y.0.stream) 0 x.1 y.1) q q'
              ∙ ap₂ (λ (n n' : ℕ). ends_of (starting (fresh window words places) (fresh window words places)) 0 (replicate n 0) (replicate n' 0)) a b in
              let few : ltb most_steps budget ≡ false = le-ltb most_steps budget l in
              k ∙ ap (λ (x : Ends). report_of (run_of cfg figure x budget)) start ∙ rw (ok, p, p', few)
