-- The answers of the calls that use both ends, each from the tests that lead to it.
use mathlib.Core.Path.{◌≡◌, refl, ap}
use Rattle.std.proofs.Common.{Result, Ok, Err}
use Rattle.stream.specs.declared.stream.StreamAnswer.{StreamAnswer}
use Rattle.std.specs.Bool.{⊤}
use mathlib.Core.Bool.{Bool, true, false, cond}
use mathlib.Core.List.{List}
use Prim.Native.Nat.{ℕ}
use native.Mathlib.Omega.{arith}
use lib.ListN.{length, replicate}
use Rattle.config.specs.Entry.{on_state}
use Rattle.config.specs.Settings.{check_of, tested}
use Rattle.config.specs.declared.refusal.Refusal.{Refusal}
use Rattle.config.specs.declared.refusal.Refusal.TheVariants.{SizeNotAllowed}
use Rattle.config.specs.declared.settings.StreamConfig.{StreamConfig}
use Rattle.stream.specs.State.{fresh}
use Rattle.stream.specs.Answers.{not_started, sizes_out, started_of, new_answer}
use Rattle.stream.specs.declared.stream.DataStream.{DataStream}

-- ---- starting
pub start_refused : (cfg : StreamConfig) (window words places : ℕ) (ring after : List ℕ) (t : Result DataStream Refusal) (why : Refusal) {n : StreamAnswer ⊤}
    → n ≡ not_started why → ◌≡◌ {A = Result DataStream Refusal × List ℕ} (t, after) (started_of cfg window words places ring) → t ≡ Err why → ◌≡◌ {A = StreamAnswer ⊤ × List ℕ} (n, after) (new_answer cfg window words places ring)
unfolding new_answer
start_refused cfg window words places ring after t why {n} m q e = rw m (by (check_of cfg) (sizes_out window words places ring) q)
  where
    by : (k : Result ⊤ Refusal) (out : Bool)
        → ◌≡◌ {A = Result DataStream Refusal × List ℕ} (t, after) (tested k (λ (w : Refusal). (Err w, ring)) (cond out (Err SizeNotAllowed, ring) (Ok (fresh window words places), replicate (length ring) 0)))
        → ◌≡◌ {A = StreamAnswer ⊤ × List ℕ} (not_started why, after) (tested k (λ (w : Refusal). (not_started w, ring)) (cond out (not_started SizeNotAllowed, ring) (record { stream = fresh window words places; answer = Ok tt }, replicate (length ring) 0)))
    by (Err w) out r =
        let a = ap (λ (x : Result DataStream Refusal × List ℕ). x.0) r in
        let b = ap (λ (x : Result DataStream Refusal × List ℕ). x.1) r in
        let same : why ≡ w = cc in
        rw (same, b)
    by (Ok _) true r =
        let a = ap (λ (x : Result DataStream Refusal × List ℕ). x.0) r in
        let b = ap (λ (x : Result DataStream Refusal × List ℕ). x.1) r in
        let same : why ≡ SizeNotAllowed = cc in
        rw (same, b)
    by (Ok _) false r =
        let a = ap (λ (x : Result DataStream Refusal × List ℕ). x.0) r in
        absurd (let z : ◌≡◌ {A = ℕ} 0 1 = cc in omega arith)

-- ---- the state test
pub passed : (valid : Bool) → ◌≡◌ {A = Result ⊤ Refusal} (on_state valid Err (Ok tt)) (Ok tt) → valid ≡ true
passed true e = refl
passed false e = absurd (let z : ◌≡◌ {A = ℕ} 0 1 = cc in omega arith)
