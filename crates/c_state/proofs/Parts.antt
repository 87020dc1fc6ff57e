-- Parts of lists: the words of one end, and words that are stored.
use mathlib.Core.Path.{◌≡◌, ap, sym, ◌∙◌}
use mathlib.Core.List.{List, [], ◌∷◌, ◌++◌, append-nil}
use Prim.Native.Nat.{ℕ, ◌+◌, ◌-◌, ◌≤◌, ◌<◌}
use native.Mathlib.Omega.{arith}
use lib.ListN.{length, set, take, drop, take-append-drop, drop_of_length-le, length-drop}
use lib.Seq.{take_all, length-take-le, take_at, drop_at}
use Rattle.packet.specs.Bytes.{spliced}
use Rattle.packet.proofs.Splice.{spliced_sets, spliced_append, length_spliced}

-- ---- a part to the end, as code takes it
pub rest_whole : (n : ℕ) (ws : List ℕ) → take (length ws - n) (drop n ws) ≡ drop n ws
rest_whole n ws = take_all (length ws - n) (drop n ws) (omega (arith, length-drop n ws))

pub rest_length : (n k : ℕ) (ws : List ℕ) → length ws ≡ n + k → length (take (length ws - n) (drop n ws)) ≡ k
rest_length n k ws e = ap length (rest_whole n ws) ∙ (let l : length (drop n ws) ≡ k = omega (arith, length-drop n ws) in l)

-- ---- words that are stored
-- one more behind those that are stored from place `at` on
pub spliced_next : (to xs : List ℕ) (at k x : ℕ) → length xs ≡ k → at + k < length to → set (spliced to at xs) (at + k) x ≡ spliced to at (xs ++ (x ∷ []))
spliced_next to xs at k x e h =
    let w : at + k + 1 ≤ length (spliced to at xs) = omega (arith, length_spliced to at xs (omega arith)) in
    sym (spliced_sets (spliced to at xs) (at + k) (x ∷ []) w)
    ∙ spliced_append to at (at + k) xs (x ∷ []) (omega arith) (omega arith)

-- as many as there are
pub spliced_whole : (to from : List ℕ) → length to ≡ length from → spliced to 0 from ≡ from
unfolding spliced
spliced_whole to from e =
    let h : length to ≤ 0 + length from = omega arith in
    rw (drop_of_length-le to h) (append-nil from)

-- what stands there already
pub spliced_front : (ws : List ℕ) (n : ℕ) → n ≤ length ws → spliced ws 0 (take n ws) ≡ ws
unfolding spliced
spliced_front ws n h = let e : 0 + n ≡ n = omega arith in rw (length-take-le n ws h, e) (take-append-drop n ws)

pub spliced_rest : (ws : List ℕ) (n : ℕ) → n ≤ length ws → spliced ws n (drop n ws) ≡ ws
unfolding spliced
spliced_rest ws n h =
    let l : length ws ≤ n + length (drop n ws) = omega (arith, length-drop n ws) in
    rw (drop_of_length-le ws l, append-nil (take n ws ++ drop n ws)) (take-append-drop n ws)

-- and each part, read again
pub front_spliced : (ws xs : List ℕ) (n : ℕ) → length xs ≡ n → take n (spliced ws 0 xs) ≡ xs
unfolding spliced
front_spliced ws xs n e = take_at xs _ n e

pub rest_spliced : (ws xs : List ℕ) (n : ℕ) → n ≤ length ws → length ws ≤ n + length xs → drop n (spliced ws n xs) ≡ xs
unfolding spliced
rest_spliced ws xs n h g = rw (drop_of_length-le ws g, append-nil (take n ws ++ xs)) (drop_at (take n ws) xs n (length-take-le n ws h))
