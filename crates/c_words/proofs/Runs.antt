-- Words by their places.
use mathlib.Core.Path.{◌≡◌, refl, ap, sym, ◌∙◌}
use mathlib.Core.List.{List, [], ◌∷◌, ◌++◌, append-nil, append_assoc}
use Prim.Native.Nat.{ℕ, zero, suc, ◌+◌, ◌≤◌, ◌<◌}
use native.Mathlib.Omega.{arith}
use native.Mathlib.Numerals.{add-one}
use lib.ListN.{length, get_or, take, drop, take-append-drop, drop_of_length-le}
use lib.Seq.{drop-cons}
use Rattle.packet.specs.Bytes.{spliced}

-- n words from word k on
abbrev pub run : List ℕ → ℕ → ℕ → List ℕ
run ws k zero = []
run ws k (suc n) = get_or ws k 0 ∷ run ws (k + 1) n

length_run : (ws : List ℕ) (k n : ℕ) → length (run ws k n) ≡ n
length_run ws k zero = refl
length_run ws k (suc n) = ap suc (length_run ws (k + 1) n)

pub run_drop : (ws : List ℕ) (k n : ℕ) → k + n ≤ length ws → run ws k n ++ drop (k + n) ws ≡ drop k ws
run_drop ws k zero h = let e : k + 0 ≡ k = omega arith in rw e
run_drop ws k (suc n) h =
    let g : k < length ws = omega arith in
    let i : k + 1 + n ≤ length ws = omega arith in
    let e : k + suc n ≡ k + 1 + n = omega arith in
    rw (e, run_drop ws (k + 1) n i, drop-cons ws k 0 g, add-one k)

pub spliced_same : (ws : List ℕ) (k n : ℕ) → k + n ≤ length ws → spliced ws k (run ws k n) ≡ ws
unfolding spliced
spliced_same ws k n h =
    rw (length_run ws k n)
    (append_assoc (take k ws) (run ws k n) (drop (k + n) ws)
    ∙ ap (λ (x : List ℕ). take k ws ++ x) (run_drop ws k n h)
    ∙ take-append-drop k ws)

pub run_all : (ws : List ℕ) (n : ℕ) → n ≡ length ws → run ws 0 n ≡ ws
run_all ws n e =
    let h : length ws ≤ 0 + n = omega arith in
    let g : 0 + n ≤ length ws = omega arith in
    sym (append-nil (run ws 0 n)) ∙ ap (λ (x : List ℕ). run ws 0 n ++ x) (sym (drop_of_length-le ws h)) ∙ run_drop ws 0 n g
