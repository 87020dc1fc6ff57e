-- The answers of the entry points, each from the tests that lead to it.
use mathlib.Core.Path.{◌≡◌, ap}
use Rattle.std.proofs.Common.{Ok}
use Rattle.sender.specs.declared.sender.SenderAnswer.{SenderAnswer}
use Rattle.std.specs.Bool.{⊤}
use mathlib.Core.Bool.{true, false}
use mathlib.Core.List.{List}
use Prim.Native.Nat.{ℕ, ◌≤◌}
use lib.ListN.{length}
use borrow.Author.Tests.{eq-eqb, ne_eqb}
use Rattle.config.specs.Range.{outside}
use Rattle.config.specs.declared.refusal.Refusal.TheVariants.{InvalidState}
use Rattle.config.specs.inner.Ranges.{not_outside}
use Rattle.sender.specs.State.{valid_of, start_of, reset_of}
use Rattle.sender.specs.Answers.{not_started, new_answer, reset_refused, reset_answer}
use Rattle.sender.specs.declared.sender.Sender.{Sender}

-- ---- starting
module _ (words places : ℕ) (ring : List ℕ) (r : SenderAnswer ⊤) where
  module _ (n : r ≡ not_started) where
    pub new_words : outside 65 32768 words ≡ true → (r, ring) ≡ new_answer words places ring
    unfolding new_answer
    new_words w = rw (w, n)

    pub new_length : outside 65 32768 words ≡ false → (length ring ≡ words → ⊥) → (r, ring) ≡ new_answer words places ring
    unfolding new_answer
    new_length w l = rw (w, ne_eqb _ _ l, n)

    pub new_places : outside 65 32768 words ≡ false → length ring ≡ words → outside 1 16 places ≡ true → (r, ring) ≡ new_answer words places ring
    unfolding new_answer
    new_places w l p = rw (w, eq-eqb _ _ l, p, n)

-- sizes that pass the tests are those that a start asks for
pub sizes_fit : (words places n : ℕ) → outside 65 32768 words ≡ false → n ≡ words → outside 1 16 places ≡ false
    → (65 ≤ words) × (words ≤ 32768) × (n ≡ words) × (1 ≤ places) × (places ≤ 16)
sizes_fit words places n w l p =
    let x = not_outside 65 32768 words w in
    let y = not_outside 1 16 places p in
    (x.0, x.1, l, y.0, y.1)

pub new_done : (words places : ℕ) (ring after : List ℕ) (s : Sender) → outside 65 32768 words ≡ false → length ring ≡ words → outside 1 16 places ≡ false
    → (s, after) ≡ start_of words places ring
    → ◌≡◌ {A = SenderAnswer ⊤ × List ℕ} (record { sender = s; answer = Ok tt }, after) (new_answer words places ring)
unfolding new_answer
new_done words places ring after s w l p e =
    let one = ap (λ (x : Sender × List ℕ). x.0) e in
    let two = ap (λ (x : Sender × List ℕ). x.1) e in
    rw (w, eq-eqb _ _ l, p, one, two)

-- ---- a reset
module _ (s : Sender) (ring : List ℕ) where
  module _ (v : valid_of s ring ≡ false) where
    pub reset_refused_lem : reset_refused s ring InvalidState ≡ reset_answer s ring
    unfolding reset_answer
    reset_refused_lem = rw v

  module _ (v : valid_of s ring ≡ true) where
    pub reset_done : (next : Sender) (after : List ℕ) → (next, after) ≡ reset_of s ring
        → ◌≡◌ {A = SenderAnswer ⊤ × List ℕ} (record { sender = next; answer = Ok tt }, after) (reset_answer s ring)
    unfolding reset_answer
    reset_done next after e =
        let one = ap (λ (x : Sender × List ℕ). x.0) e in
        let two = ap (λ (x : Sender × List ℕ). x.1) e in
        rw (v, one, two)
