-- Elements stored one after the other into a list.
use mathlib.Core.Path.{◌≡◌, sym, ap, ◌∙◌}
use mathlib.Core.List.{List, [], ◌∷◌}
use Prim.Native.Nat.{ℕ, ◌+◌, ◌≤◌, ◌<◌}
use native.Mathlib.Numerals.{add-one}
use native.Mathlib.Omega.{arith}
use lib.ListN.{length, get_or, take, set}
use lib.Seq.{take-suc, length-take-le}
use Rattle.packet.specs.Bytes.{spliced}
use Rattle.packet.proofs.Splice.{spliced_sets, spliced_append, length_spliced}

-- one more of a list that is stored from place `at` on
pub put_turn : (to from : List ℕ) (at k : ℕ) → at + length from ≤ length to → k < length from
    → set (spliced to at (take k from)) (at + k) (get_or from k 0) ≡ spliced to at (take (k + 1) from)
put_turn to from at k h g =
    let l : length (take k from) ≡ k = length-take-le k from (omega arith) in
    let e : at + length (take k from) ≡ at + k = omega arith in
    let w : at + k + 1 ≤ length (spliced to at (take k from)) = omega (arith, length_spliced to at (take k from) (omega arith)) in
    sym (spliced_sets (spliced to at (take k from)) (at + k) (get_or from k 0 ∷ []) w)
    ∙ spliced_append to at (at + k) (take k from) (get_or from k 0 ∷ []) e (omega arith)
    ∙ ap (spliced to at) (sym (rw (add-one k) (take-suc from k 0 g)))

-- the first of what is still to be stored
pub store_first : (to : List ℕ) (k x : ℕ) (xs : List ℕ) → k + 1 + length xs ≤ length to → spliced (set to k x) (k + 1) xs ≡ spliced to k (x ∷ xs)
store_first to k x xs h =
    let one : set to k x ≡ spliced to k (x ∷ []) = sym (spliced_sets to k (x ∷ []) (omega arith)) in
    rw one (spliced_append to k (k + 1) (x ∷ []) xs (omega arith) (omega arith))
