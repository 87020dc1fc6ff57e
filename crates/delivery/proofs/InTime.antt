-- What is handed on in order of time, each command at the next place, is so position by position.
use Prim.Native.Nat.{ℕ, zero, suc, ◌+◌, ◌-◌, ◌≤◌, ◌<◌}
use mathlib.Core.Path.{◌≡◌, refl, ap, sym, ◌∙◌}
use mathlib.Core.Logic.{◌⊎◌, inl, inr}
use mathlib.Core.Bool.{true, false, cond}
use mathlib.Core.List.{List, [], ◌∷◌, ◌++◌, append_assoc, append-nil}
use native.Mathlib.Omega.{arith}
use lib.Dec.{eqb}
use lib.ListN.{length, get_or}
use Rattle.config.specs.inner.Tests.{split, lifts}
use Rattle.receiver_log.specs.Log.{Report, heard, told, origin, place, high, hands, times}
use Rattle.delivery.specs.Chamber.{delivered}
use Rattle.delivery.specs.Sentence.{NoLoss, ByPosition}
use Rattle.delivery.specs.Repeats.{Handed, handed, each_in_order, AllHandedOn}
use Rattle.delivery.proofs.Delivery.{handed_listed}

-- ---- at one place

abbrev count_at : List Handed → ℕ → ℕ
count_at [] x = 0
count_at (h ∷ hs) x = cond (eqb x h.at) (suc (count_at hs x)) (count_at hs x)

abbrev words_at : List Handed → ℕ → List ℕ
words_at [] x = []
words_at (h ∷ hs) x = cond (eqb x h.at) (h.words ++ words_at hs x) (words_at hs x)

count_last : (hs : List Handed) (h : Handed) (x : ℕ) → count_at (hs ++ (h ∷ [])) x ≡ cond (eqb x h.at) (suc (count_at hs x)) (count_at hs x)
count_last [] h x = refl
count_last (g ∷ hs) h x = elim (split (eqb x g.at)) [
  | inl e ↦ rw (e, count_last hs h x) (elim (split (eqb x h.at)) [ inl f ↦ rw f | inr f ↦ rw f ])
  | inr e ↦ rw e (count_last hs h x)
]

words_last : (hs : List Handed) (h : Handed) (x : ℕ) → words_at (hs ++ (h ∷ [])) x ≡ cond (eqb x h.at) (words_at hs x ++ h.words) (words_at hs x)
words_last [] h x = rw append-nil
words_last (g ∷ hs) h x = elim (split (eqb x g.at)) [
  | inl e ↦ rw (e, words_last hs h x) (elim (split (eqb x h.at)) [ inl f ↦ rw f (sym (append_assoc g.words (words_at hs x) h.words)) | inr f ↦ rw f ])
  | inr e ↦ rw e (words_last hs h x)
]

times_handed : (t : List Report) (x : ℕ) → times t x ≡ count_at (handed t) x
times_handed [] x = refl
times_handed (told l ∷ t) x = times_handed t x
times_handed (heard seq ws c l ∷ t) x = elim (split (hands c)) [
  | inl e ↦ rw (e, count_last (handed t) record { at = place (high t) seq; class = c; words = ws } x, times_handed t x)
  | inr e ↦ rw e (times_handed t x)
]

words_handed : (t : List Report) (x : ℕ) → delivered t x ≡ words_at (handed t) x
words_handed [] x = refl
words_handed (told l ∷ t) x = words_handed t x
words_handed (heard seq ws c l ∷ t) x = elim (split (hands c)) [
  | inl e ↦ rw (e, words_last (handed t) record { at = place (high t) seq; class = c; words = ws } x, words_handed t x)
  | inr e ↦ rw e (words_handed t x)
]

-- ---- each at the next place

each_elsewhere : (C : List (List ℕ)) (p x : ℕ) → (x < origin + p) ⊎ (origin + p + length C ≤ x) → (count_at (each_in_order p C) x ≡ 0) × (words_at (each_in_order p C) x ≡ [])
each_elsewhere [] p x h = (refl, refl)
each_elsewhere (ws ∷ C) p x h = rw (other h) (each_elsewhere C (suc p) x (further h))
  where
    other : (x < origin + p) ⊎ (origin + p + suc (length C) ≤ x) → eqb x (origin + p) ≡ false
    other (inl l) = omega (arith, lifts)
    other (inr l) = omega (arith, lifts)

    further : (x < origin + p) ⊎ (origin + p + suc (length C) ≤ x) → (x < origin + suc p) ⊎ (origin + suc p + length C ≤ x)
    further (inl l) = inl (omega arith)
    further (inr l) = inr (omega arith)

each_at : (C : List (List ℕ)) (p j : ℕ) → j < length C → (count_at (each_in_order p C) (origin + (p + j)) ≡ 1) × (words_at (each_in_order p C) (origin + (p + j)) ≡ get_or C j [])
each_at [] p j l = absurd (let z : ⊥ = omega arith in z)
each_at (ws ∷ C) p zero l =
    let here : eqb (origin + (p + 0)) (origin + p) ≡ true = omega (arith, lifts) in
    let rest = each_elsewhere C (suc p) (origin + (p + 0)) (inl (omega arith)) in
    rw (here, rest.0, rest.1, append-nil) (refl, refl)
each_at (ws ∷ C) p (suc j) l =
    let other : eqb (origin + (p + suc j)) (origin + p) ≡ false = omega (arith, lifts) in
    let n : p + suc j ≡ suc p + j = omega arith in
    rw other (rw n (each_at C (suc p) j (omega arith)))

-- ---- so position by position

module _ (C : List (List ℕ)) (t : List Report) (top : high t ≡ origin - 1 + length C) (e : handed t ≡ each_in_order 0 C) (none : NoLoss t) where
  by_position : ByPosition C t
  by_position = record {
    top = top;
    once = λ p l. times_handed t (origin + p) ∙ ap (λ (hs : List Handed). count_at hs (origin + p)) e ∙ (let z : 0 + p ≡ p = omega arith in rw z at (each_at C 0 p l)).0;
    same = λ p l. words_handed t (origin + p) ∙ ap (λ (hs : List Handed). words_at hs (origin + p)) e ∙ (let z : 0 + p ≡ p = omega arith in rw z at (each_at C 0 p l)).1;
    nowhere_else = λ x h. times_handed t x ∙ ap (λ (hs : List Handed). count_at hs x) e ∙ (each_elsewhere C 0 x (from_0 x h)).0;
  }
    where
      from_0 : (x : ℕ) → (x < origin) ⊎ (origin + length C ≤ x) → (x < origin + 0) ⊎ (origin + 0 + length C ≤ x)
      from_0 x (inl l) = inl (omega arith)
      from_0 x (inr l) = inr (omega arith)

  -- nothing is handed on that isn't counted
  unhanded : (x : ℕ) → times t x ≡ 0 → delivered t x ≡ []
  unhanded x z = words_handed t x ∙ uncounted (handed t) (sym (times_handed t x) ∙ z)
    where
      uncounted : (hs : List Handed) → count_at hs x ≡ 0 → words_at hs x ≡ []
      uncounted [] = λ q. refl
      uncounted (h ∷ hs) = elim (split (eqb x h.at)) [
        | inl f ↦ rw f (λ q. absurd (let y : ⊥ = omega arith in y))
        | inr f ↦ rw f (uncounted hs)
      ]

  pub all_handed_on : AllHandedOn C t
  all_handed_on = record { in_order = e; no_loss = none; by_position = by_position; listed = handed_listed C t by_position unhanded }
