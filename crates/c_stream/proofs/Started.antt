-- A start, done or refused: what it stores.
use mathlib.Core.Path.{◌≡◌, refl, sym, ap, ◌∙◌}
use Rattle.std.proofs.Common.{Result, Ok, Err}
use Rattle.stream.specs.declared.stream.StreamAnswer.{StreamAnswer}
use Rattle.std.specs.Bool.{⊤}
use mathlib.Core.Bool.{Bool, true, false, cond}
use mathlib.Core.List.{List}
use Prim.Native.Nat.{ℕ}
use lib.ListN.{length}
use Rattle.config.specs.Refusals.{number_of}
use Rattle.config.specs.Settings.{check_of, tested}
use Rattle.config.specs.declared.refusal.Refusal.{Refusal}
use Rattle.config.specs.declared.refusal.Refusal.TheVariants.{SizeNotAllowed}
use Rattle.config.specs.declared.settings.StreamConfig.{StreamConfig}
use Rattle.stream.specs.Answers.{not_started, sizes_out, new_answer}
use Rattle.c_stream.specs.Exports.{started_into}
use Rattle.c_state.specs.Stream.{stored}

-- one that is not started leaves the history
module _ (ring : List ℕ) (why : Refusal) where
  kept_by : (c : Result ⊤ Refusal) (out : Bool) (go : StreamAnswer ⊤ × List ℕ) → (go.0.answer ≡ Err why → go.1 ≡ ring)
      → let e = tested c (λ (w : Refusal). (not_started w, ring)) (cond out (not_started SizeNotAllowed, ring) go) in e.0.answer ≡ Err why → e.1 ≡ ring
  kept_by (Err w) out go f = λ h. refl
  kept_by (Ok _) true go f = λ h. refl
  kept_by (Ok _) false go f = f

  answer_kept : (k : StreamConfig) (window places : ℕ) → let e = new_answer k window (length ring) places ring in e.0.answer ≡ Err why → e.1 ≡ ring
  unfolding new_answer
  answer_kept k window places = kept_by (check_of k) (sizes_out window (length ring) places ring) _ (λ h. cc)

  pub new_kept : (k : StreamConfig) (window places : ℕ) (e : StreamAnswer ⊤) (after : List ℕ) → (e, after) ≡ new_answer k window (length ring) places ring
      → e.answer ≡ Err why → after ≡ ring
  new_kept k window places e after q d =
      ap (λ (x : StreamAnswer ⊤ × List ℕ). x.1) q ∙ answer_kept k window places (ap (λ (x : StreamAnswer ⊤ × List ℕ). x.0.answer) (sym q) ∙ d)

module _ (st ring : List ℕ) (e : StreamAnswer ⊤) (after : List ℕ) (a : StreamAnswer ⊤ × List ℕ) (q : (e, after) ≡ a) where
  abbrev into : ℕ × List ℕ × List ℕ
  into = started_into a.0.answer a.0.stream a.1 st ring

  pub new_started : e.answer ≡ Ok tt → (st' : List ℕ) → st' ≡ stored e.stream → (0, st', after) ≡ into
  new_started d st' h = rw (← q, d, h)

  pub new_refused : (why : Refusal) → e.answer ≡ Err why → after ≡ ring → (r : ℕ) → r ≡ number_of why → (r, st, after) ≡ into
  new_refused why d s r n = rw (← q, d, s, n)
