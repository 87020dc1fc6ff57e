-- Lists of calls and of values: one draw after the other.
use Rattle.std.proofs.Common.{◌≡◌, ℕ, zero, suc, ◌+◌, ◌*◌, ◌^◌, ◌<◌, List, [], ◌∷◌, ◌++◌, get_or, refl, ap, ◌∙◌, not-suc-le-zero, mod-lt, arith, pow_pos}
use Rattle.load.specs.Load.{next, iterate, drawn, values_of}
use Rattle.load.specs.Theorems.{Call, draw, jump, after, draws, run, total}

pub in_turn : (n m x : ℕ) → drawn m (drawn n x) ≡ drawn (n + m) x
unfolding iterate
in_turn zero m x = ap (λ (k : ℕ). drawn k x) (let e : m ≡ 0 + m = omega arith in e)
in_turn (suc n) m x = in_turn n m (next x) ∙ ap (λ (k : ℕ). drawn k x) (let e : suc (n + m) ≡ suc n + m = omega arith in e)

after_is : (c : Call) (x : ℕ) → after c record { last = x } ≡ record { last = drawn (draws c) x }
unfolding iterate
after_is draw x = refl
after_is (jump n) x = refl

pub calls : (cs : List Call) (x : ℕ) → run cs record { last = x } ≡ record { last = drawn (total cs) x }
unfolding run total iterate
calls [] x = refl
calls (c ∷ cs) x =
    ap (run cs) (after_is c x) ∙ calls cs (drawn (draws c) x) ∙ ap (λ (z : ℕ). record { last = z }) (in_turn (draws c) (total cs) x)

pub value : (n k x : ℕ) → k < n → get_or (values_of n x) k 0 ≡ drawn (k + 1) x
unfolding values_of iterate
value zero k x h = absurd (not-suc-le-zero h)
value (suc n) zero x h = refl
value (suc n) (suc k) x h = value n k (next x) (omega arith) ∙ ap (λ (j : ℕ). drawn j x) (let e : suc (k + 1) ≡ suc k + 1 = omega arith in e)

pub goes_on : (n m x : ℕ) → values_of (n + m) x ≡ values_of n x ++ values_of m (drawn n x)
unfolding values_of iterate
goes_on zero m x = ap (λ (k : ℕ). values_of k x) (let e : 0 + m ≡ m = omega arith in e)
goes_on (suc n) m x =
    ap (λ (k : ℕ). values_of k x) (let e : suc n + m ≡ suc (n + m) = omega arith in e) ∙ ap (λ l. next x ∷ l) (goes_on n m (next x))

pub small : (x : ℕ) → next x < 2 ^ 32
unfolding next
small x = mod-lt (x * 1664525 + 1013904223) (pow_pos 32)
