-- Hearing with more room: what stands behind the room that there was is heard from where hearing stopped.
use mathlib.Core.Path.{◌≡◌, refl, sym, ap, subst, ◌∙◌}
use mathlib.Core.Logic.{inl, inr}
use mathlib.Core.Bool.{Bool, true, false, cond}
use mathlib.Core.List.{List, [], ◌∷◌, ◌++◌, append_assoc}
use Prim.Native.Nat.{ℕ, zero, suc, ◌+◌, ◌-◌, ◌*◌, ◌/◌, ◌≤◌, ◌<◌}
use native.Mathlib.Omega.{arith}
use lib.ListN.{length, take, drop, length-append}
use lib.Seq.{take-append-le, drop-append-le, take-append-add, drop-append-add}
use lib.Dec.{leb}
use borrow.Author.Tests.{le-leb, lt-leb, leb-true, leb-false}
use Rattle.config.specs.inner.Tests.{split}
use Rattle.config.specs.declared.settings.StreamConfig.{StreamConfig}
use Rattle.packet.specs.Bytes.{words_of, spliced}
use Rattle.packet.specs.Read.{csd_of, next_of, body_of}
use Rattle.packet.specs.declared.cursor.Cursor.{Cursor}
use Rattle.packet.specs.declared.cursor.Header.{Header}
use Rattle.packet.specs.declared.cursor.PacketItem.{PacketItem}
use Rattle.packet.specs.declared.cursor.PacketItem.TheVariants.{Command as WholeCommand, Truncated, End}
use Rattle.packet.proofs.Reading.{next_found}
use Rattle.packet.proofs.Splice.{length_spliced}
use Rattle.command.specs.Parse.{parsed_of}
use Rattle.read_command.specs.Next.{read_of, command_read}
use Rattle.c_hearing.specs.Figures.{read_word, number_figures}
use Rattle.c_hearing.specs.Given.{given_of}
use Rattle.c_hearing.specs.Walk.{answered, full, ended, goes_on, cut_turn, whole_turn, turn_at, heard_to, hear_from}
use Rattle.c_hearing.specs.Theorems.{GoesOn}
use Rattle.c_hearing.specs.declared.figures.Figures.{Figures}
use Rattle.c_hearing.specs.declared.walk.Turn.{Turn}
use Rattle.c_hearing.specs.declared.walk.CHeard.{CHeard}
use Rattle.c_hearing.proofs.Refusals.{never_refused}

abbrev Turned : Type 0
Turned = Turn × List ℕ × List ℕ

abbrev Answer : Type 0
Answer = CHeard × List ℕ × List ℕ

-- ---- words that are stored into the second or the first of two runs
spliced_right : (pre out : List ℕ) (i : ℕ) (xs : List ℕ) → spliced (pre ++ out) (length pre + i) xs ≡ pre ++ spliced out i xs
unfolding spliced
spliced_right pre out i xs =
    let e : length pre + i + length xs ≡ length pre + (i + length xs) = omega arith in
    ap (λ (n : ℕ). take (length pre + i) (pre ++ out) ++ xs ++ drop n (pre ++ out)) e
    ∙ ap (λ (l : List ℕ). take (length pre + i) (pre ++ out) ++ xs ++ l) (drop-append-add pre out (i + length xs))
    ∙ ap (λ (l : List ℕ). l ++ xs ++ drop (i + length xs) out) (take-append-add pre out i)
    ∙ ap (λ (l : List ℕ). l ++ drop (i + length xs) out) (append_assoc pre (take i out) xs)
    ∙ append_assoc pre (take i out ++ xs) (drop (i + length xs) out)

spliced_left : (out more : List ℕ) (i : ℕ) (xs : List ℕ) → i + length xs ≤ length out → spliced (out ++ more) i xs ≡ spliced out i xs ++ more
unfolding spliced
spliced_left out more i xs h =
    let g : i ≤ length out = omega arith in
    ap (λ (l : List ℕ). l ++ xs ++ drop (i + length xs) (out ++ more)) (take-append-le i out more g)
    ∙ ap (λ (l : List ℕ). take i out ++ xs ++ l) (drop-append-le (i + length xs) out more h)
    ∙ sym (append_assoc (take i out ++ xs) (drop (i + length xs) out) more)

-- ---- an answer
answered_left : (out more : List ℕ) (k place read : ℕ) (f : Figures) → k < length out / 4 → answered (out ++ more) k place read f ≡ answered out k place read f ++ more
unfolding answered
answered_left out more k place read f h = spliced_left out more (4 * k) (place ∷ read ∷ f.first ∷ f.second ∷ []) (omega arith)

length_answered : (out : List ℕ) (k place read : ℕ) (f : Figures) → k < length out / 4 → length (answered out k place read f) ≡ length out
unfolding answered
length_answered out k place read f h = length_spliced out (4 * k) (place ∷ read ∷ f.first ∷ f.second ∷ []) (omega arith)

full_left : (out more : List ℕ) (k : ℕ) → k < length out / 4 → full (out ++ more) k ≡ false
full_left out more k h = let l = length-append out more in lt-leb (length (out ++ more) / 4) k (omega arith)

module _ (pre : List ℕ) (m : ℕ) (l : length pre ≡ 4 * m) where
  answered_right : (out : List ℕ) (j place read : ℕ) (f : Figures) → answered (pre ++ out) (m + j) place read f ≡ pre ++ answered out j place read f
  unfolding answered
  answered_right out j place read f =
      let e : 4 * (m + j) ≡ length pre + 4 * j = omega arith in
      ap (λ (n : ℕ). spliced (pre ++ out) n (place ∷ read ∷ f.first ∷ f.second ∷ [])) e
      ∙ spliced_right pre out (4 * j) (place ∷ read ∷ f.first ∷ f.second ∷ [])

  full_right : (out : List ℕ) (j : ℕ) → full (pre ++ out) (m + j) ≡ full out j
  full_right out j =
      let a = length-append pre out in
      elim (split (leb (length out / 4) j)) [
        | inl e ↦ let h = leb-true (length out / 4) j e in le-leb (length (pre ++ out) / 4) (m + j) (omega arith) ∙ sym e
        | inr e ↦ let h = leb-false (length out / 4) j e in lt-leb (length (pre ++ out) / 4) (m + j) (omega arith) ∙ sym e
      ]

  -- ---- behind answers that stand there
  abbrev behind_t : Turned → Turned
  behind_t t = (record { ends = t.0.ends; next = t.0.next; count = m + t.0.count }, t.1, pre ++ t.2)

  abbrev behind : Answer → Answer
  behind x = (record { next = x.0.next; count = m + x.0.count; refusal = x.0.refusal }, x.1, pre ++ x.2)

  by_full : (t : Bool) (a b c d : Turned) → a ≡ behind_t c → b ≡ behind_t d → cond t a b ≡ behind_t (cond t c d)
  by_full true a b c d f g = f
  by_full false a b c d f g = g

  by_ends : (t : Bool) (a b c d : Answer) → a ≡ behind c → b ≡ behind d → cond t a b ≡ behind (cond t c d)
  by_ends true a b c d f g = f
  by_ends false a b c d f g = g

  module _ (cfg : StreamConfig) (time : ℕ) (ring b : List ℕ) where
    cut_right : (h : Header) (at j : ℕ) (st out : List ℕ) → turn_at (Truncated h) cfg time ring b at (m + j) st (pre ++ out) ≡ behind_t (turn_at (Truncated h) cfg time ring b at j st out)
    unfolding cut_turn
    cut_right h at j st out =
        let r = read_word (read_of 0 1 h.code h.len (csd_of h) 0) in
        let c : m + j + 1 ≡ m + (j + 1) = omega arith in
        ap (λ (t : Bool). let x = cond {A = Turn × List ℕ} t (ended at (m + j), pre ++ out) (ended 0 (m + j + 1), answered (pre ++ out) (m + j) at r (number_figures 0)) in (x.0, st, x.1)) (full_right out j)
        ∙ by (full out j) (ap (λ (x : ℕ). (ended 0 x, st, answered (pre ++ out) (m + j) at r (number_figures 0))) c ∙ ap (λ (x : List ℕ). (ended 0 (m + (j + 1)), st, x)) (answered_right out j at r (number_figures 0)))
      where
        by : (t : Bool) → let r = read_word (read_of 0 1 h.code h.len (csd_of h) 0) in
            ◌≡◌ {A = Turned} (ended 0 (m + j + 1), st, answered (pre ++ out) (m + j) at r (number_figures 0)) (ended 0 (m + (j + 1)), st, pre ++ answered out j at r (number_figures 0))
            → let x = cond {A = Turn × List ℕ} t (ended at (m + j), pre ++ out) (ended 0 (m + j + 1), answered (pre ++ out) (m + j) at r (number_figures 0)) in
            let y = cond {A = Turn × List ℕ} t (ended at j, out) (ended 0 (j + 1), answered out j at r (number_figures 0)) in
            ◌≡◌ {A = Turned} (x.0, st, x.1) (behind_t (y.0, st, y.1))
        by true e = refl
        by false e = e

    whole_right : (h : Header) (at n : ℕ) (ws : List ℕ) (j : ℕ) (st out : List ℕ) → whole_turn cfg time ring h at n ws (m + j) st (pre ++ out) ≡ behind_t (whole_turn cfg time ring h at n ws j st out)
    unfolding whole_turn
    whole_right h at n ws j st out =
        let p = parsed_of h ws in
        let g = given_of st cfg time ring p in
        let r = read_word (command_read h.len 0 0 p) in
        let c : m + j + 1 ≡ m + (j + 1) = omega arith in
        ap (λ (t : Bool). cond t (ended at (m + j), st, pre ++ out) (goes_on n (m + j + 1), g.1, answered (pre ++ out) (m + j) at r g.0)) (full_right out j)
        ∙ by_full (full out j) _ _ _ _ refl
        (ap (λ (x : ℕ). (goes_on n x, g.1, answered (pre ++ out) (m + j) at r g.0)) c ∙ ap (λ (x : List ℕ). (goes_on n (m + (j + 1)), g.1, x)) (answered_right out j at r g.0))

    turn_right : (i : PacketItem) (at j : ℕ) (st out : List ℕ) → turn_at i cfg time ring b at (m + j) st (pre ++ out) ≡ behind_t (turn_at i cfg time ring b at j st out)
    turn_right End at j st out = refl
    turn_right (Truncated h) at j st out = cut_right h at j st out
    turn_right (WholeCommand h place next) at j st out = whole_right h place next.at (words_of (body_of b place h)) j st out

    hear_right : (f at j : ℕ) (st out : List ℕ) → hear_from f cfg time ring b at (m + j) st (pre ++ out) ≡ behind (hear_from f cfg time ring b at j st out)
    unfolding hear_from
    hear_right zero at j st out = refl
    hear_right (suc f) at j st out =
        let t = turn_at (next_of b at) cfg time ring b at j st out in
        ap (λ (x : Turned). cond x.0.ends (heard_to x.0.next x.0.count, x.1, x.2) (hear_from f cfg time ring b x.0.next x.0.count x.1 x.2)) (turn_right (next_of b at) at j st out)
        ∙ by_ends t.0.ends _ _ _ _ refl (hear_right f t.0.next t.0.count t.1 t.2)

-- ---- two calls
abbrev joined : ℕ → List ℕ → Answer → Answer
joined m pre x = (record { next = x.0.next; count = m + x.0.count; refusal = x.0.refusal }, x.1, pre ++ x.2)

refused_none : (m : ℕ) (pre : List ℕ) (x : Answer) → x.0.refusal ≡ 0 → joined m pre x ≡ (heard_to x.0.next (m + x.0.count), x.1, pre ++ x.2)
refused_none m pre x e = ap (λ (n : ℕ). (record { next = x.0.next; count = m + x.0.count; refusal = n }, x.1, pre ++ x.2)) e

module _ (cfg : StreamConfig) (time : ℕ) (ring b more : List ℕ) (m : ℕ) where
  abbrev item_of : ℕ → PacketItem → ℕ → ℕ → List ℕ → List ℕ → Answer
  item_of f i at k st out =
      let t = turn_at i cfg time ring b at k st out in
      cond t.0.ends (heard_to t.0.next t.0.count, t.1, t.2) (hear_from f cfg time ring b t.0.next t.0.count t.1 t.2)

  -- with more room, where the small room ended
  abbrev Goal : ℕ → Answer → Answer → Type 0
  Goal f x y = (x.0.next ≡ 0 → ⊥) → y ≡ joined m x.2 (hear_from f cfg time ring b x.0.next 0 x.1 more)

  goal_by : (f g : ℕ) (x u y v : Answer) → f ≡ g → x ≡ u → y ≡ v → Goal g u v → Goal f x y
  goal_by f g x u y v ef ex ey h =
      subst (λ (n : ℕ). Goal n x y) (sym ef) (subst (λ (z : Answer). Goal g z y) (sym ex) (subst (λ (z : Answer). Goal g u z) (sym ey) h))

  module _ (f at k : ℕ) (st out : List ℕ) (l : length out ≡ 4 * m) where
    -- there is no room: the command is the first of the second call
    stop : k ≡ m → (i : PacketItem) → next_of b at ≡ i → item_of f i at k st out ≡ (heard_to at k, st, out) → Goal (suc f - (m - k)) (item_of f i at k st out) (item_of f i at k st (out ++ more))
    unfolding hear_from
    stop e i n x =
        let g : suc f - (m - k) ≡ suc f = omega arith in
        let j : k ≡ m + 0 = omega arith in
        goal_by _ (suc f) _ _ _ _ g x
        (ap (λ (c : PacketItem). item_of f c at k st (out ++ more)) (sym n) ∙ ap (λ (c : ℕ). hear_from (suc f) cfg time ring b at c st (out ++ more)) j)
        (λ _. hear_right out m l cfg time ring b (suc f) at 0 st more)

    full_at : k ≡ m → full out k ≡ true
    full_at e = le-leb (length out / 4) k (omega arith)

    cut_stops : k ≡ m → (h : Header) → item_of f (Truncated h) at k st out ≡ (heard_to at k, st, out)
    unfolding cut_turn
    cut_stops e h = rw (full_at e)

    whole_stops : k ≡ m → (h : Header) (place : ℕ) (next : Cursor) → place ≡ at → item_of f (WholeCommand h place next) at k st out ≡ (heard_to at k, st, out)
    unfolding whole_turn
    whole_stops e h place next p = rw (full_at e, p)

    module _ (room : k < m) where
      few : k < length out / 4
      few = omega arith

      cut_ends : (h : Header) → (item_of f (Truncated h) at k st out).0.next ≡ 0
      unfolding cut_turn
      cut_ends h = rw (lt-leb (length out / 4) k few)

      module _ (h : Header) (place : ℕ) (next : Cursor) where
        abbrev given : Figures × List ℕ
        given = given_of st cfg time ring (parsed_of h (words_of (body_of b place h)))

        abbrev read : ℕ
        read = read_word (command_read h.len 0 0 (parsed_of h (words_of (body_of b place h))))

        whole_small : item_of f (WholeCommand h place next) at k st out ≡ hear_from f cfg time ring b next.at (k + 1) given.1 (answered out k place read given.0)
        unfolding whole_turn
        whole_small = rw (lt-leb (length out / 4) k few)

        whole_large : item_of f (WholeCommand h place next) at k st (out ++ more) ≡ hear_from f cfg time ring b next.at (k + 1) given.1 (answered out k place read given.0 ++ more)
        unfolding whole_turn
        whole_large =
            rw (full_left out more k few)
            (ap (λ (x : List ℕ). hear_from f cfg time ring b next.at (k + 1) given.1 x) (answered_left out more k place read given.0 few))

  abbrev Left : ℕ → Type 0
  Left f = (at k : ℕ) (st out : List ℕ) → length out ≡ 4 * m → k ≤ m → Goal (f - (m - k)) (hear_from f cfg time ring b at k st out) (hear_from f cfg time ring b at k st (out ++ more))

  hear_left : (f : ℕ) → Left f
  unfolding hear_from
  hear_left zero at k st out l h = λ no. absurd (no refl)
  hear_left (suc f) at k st out l h = by (λ at' k' st' out' l' h'. hear_left f at' k' st' out' l' h') (next_of b at) refl
    where
      by : Left f → (i : PacketItem) → next_of b at ≡ i → Goal (suc f - (m - k)) (item_of f i at k st out) (item_of f i at k st (out ++ more))
      by go End e = λ no. absurd (no refl)
      by go (Truncated c) e = elim (split (leb m k)) [
        | inl t ↦ let q = leb-true m k t in let s : k ≡ m = omega arith in stop f at k st out l s (Truncated c) e (cut_stops f at k st out l s c)
        | inr t ↦ let q = leb-false m k t in λ no. absurd (no (cut_ends f at k st out l q c))
      ]
      by go (WholeCommand c place next) e = elim (split (leb m k)) [
        | inl t ↦ let q = leb-true m k t in let s : k ≡ m = omega arith in stop f at k st out l s (WholeCommand c place next) e (whole_stops f at k st out l s c place next (next_found b at c place next e).0)
        | inr t ↦ let q = leb-false m k t in
            let n = length_answered out k place (read f at k st out l q c place next) (given f at k st out l q c place next).0 (few f at k st out l q) in
            let g : suc f - (m - k) ≡ f - (m - (k + 1)) = omega arith in
            goal_by _ _ _ _ _ _ g (whole_small f at k st out l q c place next) (whole_large f at k st out l q c place next)
            (go next.at (k + 1) (given f at k st out l q c place next).1 (answered out k place (read f at k st out l q c place next) (given f at k st out l q c place next).0) (n ∙ l) (omega arith))
      ]

pub goes_on_lem : GoesOn
goes_on_lem = record {
  two = λ f cfg time ring b at st out more m l no.
      let e = hear_from f cfg time ring b at 0 st out in
      let g : f - (m - 0) ≡ f - m = omega arith in
      hear_left cfg time ring b more m f at 0 st out l (omega arith) no
      ∙ ap (λ (n : ℕ). joined m e.2 (hear_from n cfg time ring b e.0.next 0 e.1 more)) g
      ∙ refused_none m e.2 (hear_from (f - m) cfg time ring b e.0.next 0 e.1 more) (never_refused (f - m) cfg time ring b e.0.next 0 e.1 more);
}
