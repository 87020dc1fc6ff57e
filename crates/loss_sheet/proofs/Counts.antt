-- Laws of figures: one word more, one less, one in another's place; and their bounds.
use mathlib.Core.Path.{◌≡◌, refl, sym, ◌∙◌}
use mathlib.Core.Bool.{Bool, true, false, cond}
use mathlib.Core.List.{List, [], ◌∷◌, ◌++◌}
use Prim.Native.Nat.{ℕ, zero, suc, ◌+◌, ◌*◌, ◌/◌, ◌%◌, ◌≤◌, ◌<◌}
use native.Mathlib.Omega.{arith}
use native.Mathlib.Numerals.{add-one}
use lib.ListN.{length, set, take, get_or, length-set}
use lib.Seq.{take-suc-set, take_all}
use lib.Dec.{eqb}
use Rattle.sheet_blocks.specs.Bytes.{spliced, word_bytes}
use Rattle.sheet_blocks.proofs.Splice.{spliced_append}
use Rattle.loss_sheet.specs.Figures.{classes, losses, figures, figure_bytes, is_of, plus, minus}
use Rattle.loss_sheet.specs.inner.Fits.{Few, Within}
use Rattle.loss_sheet.specs.declared.figures.Figures.{Figures}

same : (a b c d a' b' c' d' : ℕ) → a ≡ a' → b ≡ b' → c ≡ c' → d ≡ d'
    → ◌≡◌ {A = Figures} (record { new = a; late = b; duplicate = c; lost = d }) (record { new = a'; late = b'; duplicate = c'; lost = d' })
same a b c d a' b' c' d' p q r s = rw (p, q, r, s)

-- ---- bounds

cond_one : (t : Bool) → cond t 1 0 ≤ 1
cond_one true = omega arith
cond_one false = omega arith

classes_most : (c : ℕ) (ws : List ℕ) → classes c ws ≤ length ws
unfolding classes
classes_most c [] = omega arith
classes_most c (w ∷ ws) = omega (arith, classes_most c ws, cond_one (eqb (w / 65536) c))

losses_most : (ws : List ℕ) → losses ws ≤ 65535 * length ws
unfolding losses
losses_most [] = omega arith
losses_most (w ∷ ws) = omega (arith, losses_most ws)

pub few : (ws : List ℕ) → length ws ≤ 4096 → Few (figures ws)
unfolding figures
few ws h =
    record {
      new = omega (arith, classes_most 0 ws);
      late = omega (arith, classes_most 1 ws);
      duplicate = omega (arith, classes_most 2 ws);
      lost = omega (arith, losses_most ws);
    }

pub few_less : (f : Figures) (w : ℕ) → Few f → Few (minus f w)
unfolding minus
few_less f w h =
    record {
      new = omega (arith, h.new);
      late = omega (arith, h.late);
      duplicate = omega (arith, h.duplicate);
      lost = omega (arith, h.lost);
    }

-- ---- one word more

pub figures_cons : (w : ℕ) (ws : List ℕ) → figures (w ∷ ws) ≡ plus (figures ws) w
unfolding figures plus classes losses
figures_cons w ws = same _ _ _ _ _ _ _ _ (omega arith) (omega arith) (omega arith) (omega arith)

classes_append : (c : ℕ) (xs ys : List ℕ) → classes c (xs ++ ys) ≡ classes c xs + classes c ys
unfolding classes
classes_append c [] ys = omega arith
classes_append c (x ∷ xs) ys = omega (arith, classes_append c xs ys)

losses_append : (xs ys : List ℕ) → losses (xs ++ ys) ≡ losses xs + losses ys
unfolding losses
losses_append [] ys = omega arith
losses_append (x ∷ xs) ys = omega (arith, losses_append xs ys)

-- the order of two parts makes no difference
pub figures_swap : (xs ys : List ℕ) → figures (xs ++ ys) ≡ figures (ys ++ xs)
unfolding figures
figures_swap xs ys =
    same _ _ _ _ _ _ _ _
    (omega (arith, classes_append 0 xs ys, classes_append 0 ys xs))
    (omega (arith, classes_append 1 xs ys, classes_append 1 ys xs))
    (omega (arith, classes_append 2 xs ys, classes_append 2 ys xs))
    (omega (arith, losses_append xs ys, losses_append ys xs))

pub figures_behind : (xs : List ℕ) (w : ℕ) → figures (xs ++ w ∷ []) ≡ plus (figures xs) w
figures_behind xs w = figures_swap xs (w ∷ []) ∙ figures_cons w xs

-- ---- one word in another's place

classes_set : (c : ℕ) (b : List ℕ) (i w : ℕ) → i < length b
    → (classes c (set b i w) + is_of c (get_or b i 0) ≡ classes c b + is_of c w) × (is_of c (get_or b i 0) ≤ classes c b)
unfolding classes
classes_set c [] i w h = absurd (let z : ⊥ = omega arith in z)
classes_set c (x ∷ b) zero w h = (omega arith, omega arith)
classes_set c (x ∷ b) (suc i) w h = let r = classes_set c b i w (omega arith) in (omega arith, omega arith)

losses_set : (b : List ℕ) (i w : ℕ) → i < length b
    → (losses (set b i w) + get_or b i 0 % 65536 ≡ losses b + w % 65536) × (get_or b i 0 % 65536 ≤ losses b)
unfolding losses
losses_set [] i w h = absurd (let z : ⊥ = omega arith in z)
losses_set (x ∷ b) zero w h = (omega arith, omega arith)
losses_set (x ∷ b) (suc i) w h = let r = losses_set b i w (omega arith) in (omega arith, omega arith)

module _ (b : List ℕ) (i w : ℕ) (h : i < length b) where
  pub among : Within (figures b) (get_or b i 0)
  unfolding figures
  among =
      record {
        new = (classes_set 0 b i w h).1;
        late = (classes_set 1 b i w h).1;
        duplicate = (classes_set 2 b i w h).1;
        lost = (losses_set b i w h).1;
      }

  pub figures_set : figures (set b i w) ≡ plus (minus (figures b) (get_or b i 0)) w
  unfolding figures plus minus
  figures_set =
      same _ _ _ _ _ _ _ _
      (omega (arith, classes_set 0 b i w h))
      (omega (arith, classes_set 1 b i w h))
      (omega (arith, classes_set 2 b i w h))
      (omega (arith, losses_set b i w h))

-- ---- their bytes

pub length_figures : (f : Figures) → length (figure_bytes f) ≡ 16
unfolding figure_bytes
length_figures f = refl

pub four_words : (b b₁ b₂ b₃ b₄ : List ℕ) (i : ℕ) (f : Figures) → i + 16 ≤ length b
    → b₁ ≡ spliced b i (word_bytes f.new [])
    → b₂ ≡ spliced b₁ (i + 4) (word_bytes f.late [])
    → b₃ ≡ spliced b₂ (i + 8) (word_bytes f.duplicate [])
    → b₄ ≡ spliced b₃ (i + 12) (word_bytes f.lost [])
    → b₄ ≡ spliced b i (figure_bytes f)
unfolding figure_bytes
four_words b b₁ b₂ b₃ b₄ i f h p q r s =
    let two : b₂ ≡ spliced b i (word_bytes f.new (word_bytes f.late [])) =
    q ∙ rw p (spliced_append b i (i + 4) (word_bytes f.new []) (word_bytes f.late []) (omega arith) (omega arith)) in
    let three : b₃ ≡ spliced b i (word_bytes f.new (word_bytes f.late (word_bytes f.duplicate []))) =
    r ∙ rw two (spliced_append b i (i + 8) (word_bytes f.new (word_bytes f.late [])) (word_bytes f.duplicate []) (omega arith) (omega arith)) in
    s ∙ rw three (spliced_append b i (i + 12) (word_bytes f.new (word_bytes f.late (word_bytes f.duplicate []))) (word_bytes f.lost []) (omega arith) (omega arith))

-- ---- a turn of the loop that sums up from the end

pub few_of : (ws : List ℕ) (f : Figures) → f ≡ figures ws → length ws ≤ 4096 → Few f
few_of ws f e h = rw e (few ws h)

pub few_after : (f g : Figures) (w : ℕ) → Few f → g ≡ minus f w → Few g
few_after f g w h e = rw e (few_less f w h)

-- ---- one arrival more in a ring of which the first len words are held

pub grow_figures : (b : List ℕ) (len w : ℕ) (f g : Figures) → len < length b → f ≡ figures (take len b) → g ≡ plus f w
    → g ≡ figures (take (len + 1) (set b len w))
grow_figures b len w f g h e p = rw (add-one, take-suc-set b len w h) (p ∙ rw e (sym (figures_behind (take len b) w)))

pub over_within : (b : List ℕ) (len i : ℕ) (f : Figures) → i < length b → length b ≤ len → f ≡ figures (take len b) → Within f (get_or b i 0)
over_within b len i f h k e = rw (e, take_all len b k) (among b i 0 h)

pub over_figures : (b : List ℕ) (len i w : ℕ) (f l g : Figures) → i < length b → length b ≤ len → f ≡ figures (take len b)
    → l ≡ minus f (get_or b i 0) → g ≡ plus l w → g ≡ figures (take len (set b i w))
over_figures b len i w f l g h k e p q =
    let m : length (set b i w) ≤ len = rw length-set k in
    rw (take_all len (set b i w) m) (q ∙ rw (p, e, take_all len b k) (sym (figures_set b i w h)))
