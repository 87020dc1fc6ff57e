-- The commands that words divide into: they are short, and hold all the words in order.
use mathlib.Core.Path.{◌≡◌, refl, ap, ◌∙◌}
use mathlib.Core.List.{List, [], ◌∷◌, ◌++◌}
use Prim.Native.Nat.{ℕ, zero, suc, ◌+◌, ◌≤◌}
use native.Mathlib.Omega.{arith}
use lib.ListN.{length, drop, length-drop, take-append-drop}
use Rattle.history.specs.Entries.{size, Short}
use Rattle.fronts.specs.Commands.{front, behind, commands_of}
use Rattle.command.specs.Messages.{words_in}
use Rattle.fronts.proofs.Fronts.{Divides, part_of, divides_behind, behind_less, commands_nil, commands_cons}

-- a front and what is behind it
pub front_behind : (max n : ℕ) (ws : List ℕ) → Divides max ws → front n ws ++ behind n ws ≡ ws
unfolding behind
front_behind max n ws d =
    ap (λ (x : List ℕ). x ++ drop (length (front n ws)) ws) (part_of n ws d.whole).part ∙ take-append-drop (length (front n ws)) ws

-- each has at most 64 words; with their headers they take a word more for each; joined they are the words
abbrev Parts : ℕ → List ℕ → Type 0
Parts max ws = (size (commands_of max ws) ≡ length (commands_of max ws) + length ws) × Short (commands_of max ws) × (words_in (commands_of max ws) ≡ ws)

parts_nil : (max : ℕ) → Parts max []
unfolding size Short words_in
parts_nil max = rw commands_nil (refl, tt, refl)

parts_cons : (max w : ℕ) (ws : List ℕ) → Divides max (w ∷ ws) → max ≤ 64 → Parts max (behind max (w ∷ ws)) → Parts max (w ∷ ws)
unfolding size Short words_in behind
parts_cons max w ws d few p =
    let f = part_of max (w ∷ ws) d.whole in
    let l = length-drop (length (front max (w ∷ ws))) (w ∷ ws) in
    rw (commands_cons max w ws d)
    (omega (arith, p.0, f.fits), (omega (arith, f.few), p.1), ap (λ (x : List ℕ). front max (w ∷ ws) ++ x) p.2 ∙ front_behind max max (w ∷ ws) d)

parts_in : (f max : ℕ) (ws : List ℕ) → length ws ≤ f → Divides max ws → max ≤ 64 → Parts max ws
parts_in zero max [] l d few = parts_nil max
parts_in zero max (w ∷ ws) l d few = absurd (let z : ⊥ = omega arith in z)
parts_in (suc f) max [] l d few = parts_nil max
parts_in (suc f) max (w ∷ ws) l d few =
    parts_cons max w ws d few (parts_in f max (behind max (w ∷ ws)) (omega (arith, behind_less max w ws d)) (divides_behind max max (w ∷ ws) d) few)

pub commands_parts : (max : ℕ) (ws : List ℕ) → Divides max ws → max ≤ 64
    → (size (commands_of max ws) ≡ length (commands_of max ws) + length ws) × Short (commands_of max ws) × (words_in (commands_of max ws) ≡ ws)
commands_parts max ws d few = parts_in (length ws) max ws (omega arith) d few
