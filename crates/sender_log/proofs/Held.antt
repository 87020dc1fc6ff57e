-- The history holds the book's commands: after a command comes in behind the newest, and after words join it.
use mathlib.Core.Path.{◌≡◌, refl, sym, ap, ◌∙◌, subst}
use mathlib.Core.Bool.{Bool, true, false, cond}
use mathlib.Core.List.{List, [], ◌∷◌, ◌++◌, append_assoc, append-nil}
use Prim.Native.Nat.{ℕ, zero, suc, ◌+◌, ◌-◌, ◌%◌, ◌≤◌, ◌<◌}
use native.Mathlib.Omega.{arith}
use borrow.Author.Tests.{le-ltb}
use lib.Dec.{ltb}
use lib.ListN.{length, length-append}
use Rattle.config.specs.Sequence.{turn, after}
use Rattle.history.specs.Push.{pop_one, popped, grown, pushed, longer, appended}
use Rattle.history.specs.Entries.{size, Short, Holds, kept}
use Rattle.history.specs.declared.history.SendHistory.{SendHistory}
use Rattle.history.proofs.Flat.{size_append, size_one, kept_stays}
use Rattle.history.proofs.Effects.{popped_size, holds_pushed, holds_appended}
use Rattle.sender.specs.Queueing.{joined_to, pushed_all}
use Rattle.sender.proofs.Kept.{pushed_size}
use Rattle.sender_log.specs.Book.{Book, freed, pushed_in, pushed_all_in, joined_last, joined_in}
use Rattle.sender_log.proofs.Newest.{joined_newest, joined_nothing, length_joined}

-- a history of c words holds the written commands and the unwritten ones, the first of them at position `first`
pub record Commands (c : ℕ) (h : SendHistory) (ring : List ℕ) (first : ℕ) (written unwritten : List (List ℕ)) : Type 0 where
  pub words : h.size ≡ c
  pub holds : Holds h ring (written ++ unwritten)
  pub oldest : h.oldest ≡ first % turn

abbrev pub Held : ℕ → SendHistory → List ℕ → Book → Type 0
Held c h ring b = Commands c h ring b.first b.written b.unwritten

-- ---- the oldest number after entries have left

-- the number behind the newest stays
popped_next : (k need : ℕ) (b : List ℕ) (h : SendHistory) → k ≤ h.count
    → ((popped k need b h).count ≤ h.count) × (after (popped k need b h).oldest (popped k need b h).count ≡ after h.oldest h.count)
unfolding popped pop_one
popped_next zero need b h l = (omega arith, refl)
popped_next (suc k) need b h l = by (ltb (h.size - h.used) need) (popped_next k need b (pop_one b h) (omega arith))
  where
    by : (t : Bool)
        → ((popped k need b (pop_one b h)).count ≤ h.count - 1) × (after (popped k need b (pop_one b h)).oldest (popped k need b (pop_one b h)).count ≡ after (after h.oldest 1) (h.count - 1))
        → ((cond t (popped k need b (pop_one b h)) h).count ≤ h.count) × (after (cond t (popped k need b (pop_one b h)) h).oldest (cond t (popped k need b (pop_one b h)) h).count ≡ after h.oldest h.count)
    by true r = let e : ((h.oldest + 1) % 65536 + (h.count - 1)) % 65536 ≡ (h.oldest + h.count) % 65536 = omega arith in (omega (arith, r.0), r.1 ∙ e)
    by false r = (omega arith, refl)

-- by it the oldest moves as many on as have left
oldest_moved : (o n o₁ n₁ first gone : ℕ) → o₁ < turn → after o₁ n₁ ≡ after o n → n₁ + gone ≡ n → o ≡ first % turn → o₁ ≡ (first + gone) % turn
oldest_moved o n o₁ n₁ first gone l e g f = omega arith

-- ---- a command comes in behind the newest

module _ (c : ℕ) (h : SendHistory) (ring : List ℕ) (first : ℕ) (ws us : List (List ℕ)) (a : Commands c h ring first ws us) where
  many : h.count ≡ length ws + length us
  many = a.holds.many ∙ length-append ws us

  -- what stays settles the oldest number
  oldest_left : (k need : ℕ) (stay : List (List ℕ)) → k ≤ h.count → (popped k need ring h).oldest < turn → (popped k need ring h).count ≡ length stay + length us
      → (popped k need ring h).oldest ≡ (first + (length ws - length stay)) % turn
  oldest_left k need stay l o n =
      let p = popped_next k need ring h l in
      let m = many in
      oldest_moved h.oldest h.count (popped k need ring h).oldest (popped k need ring h).count first (length ws - length stay) o p.1 (omega (arith, p.0)) a.oldest

  pushed_oldest : (xs : List ℕ) (stay : List (List ℕ)) → Holds (pushed h ring xs).0 (pushed h ring xs).1 (stay ++ (us ++ (xs ∷ [])))
      → (pushed h ring xs).0.oldest ≡ (first + (length ws - length stay)) % turn
  unfolding pushed grown
  pushed_oldest xs stay n =
      let l = length-append stay (us ++ (xs ∷ [])) in
      let m = length-append us (xs ∷ []) in
      oldest_left h.count (1 + length xs) stay (omega arith) n.number (omega (arith, n.many))

  pushed_commands : (xs : List ℕ) → length xs ≤ 64 → 1 + length xs + size us ≤ c
      → Commands c (pushed h ring xs).0 (pushed h ring xs).1 (first + (length ws - length (kept (c - size us) (1 + length xs) ws))) (kept (c - size us) (1 + length xs) ws) (us ++ (xs ∷ []))
  pushed_commands xs k l =
      let need : ℕ = 1 + length xs in
      let stay : List (List ℕ) = kept (c - size us) need ws in
      let z = a.words in
      let e : kept h.size need (ws ++ us) ++ (xs ∷ []) ≡ stay ++ (us ++ (xs ∷ [])) =
      ap (λ (l : List (List ℕ)). l ++ (xs ∷ [])) (ap (λ (n : ℕ). kept n need (ws ++ us)) z ∙ kept_stays c need ws us l)
      ∙ append_assoc stay us (xs ∷ []) in
      let n = subst (Holds (pushed h ring xs).0 (pushed h ring xs).1) e (holds_pushed h ring xs (ws ++ us) a.holds k) in
      record {
        words = pushed_size h ring xs ∙ z;
        holds = n;
        oldest = pushed_oldest xs stay n;
      }

  -- ---- words join the newest

  module _ (vs : List (List ℕ)) (w xs : List ℕ) (p : us ≡ vs ++ (w ∷ [])) where
    abbrev stayed : List (List ℕ)
    stayed = kept (c - size us) (length xs) ws

    appended_size : (appended h ring xs).0.size ≡ h.size
    unfolding appended longer
    appended_size = popped_size (h.count - 1) (length xs) ring h

    appended_oldest : Holds (appended h ring xs).0 (appended h ring xs).1 (stayed ++ joined_last us xs) → (appended h ring xs).0.oldest ≡ (first + (length ws - length stayed)) % turn
    unfolding appended longer
    appended_oldest n =
        let l = length-append stayed (joined_last us xs) in
        let m = length_joined us xs in
        oldest_left (h.count - 1) (length xs) stayed (omega arith) n.number (omega (arith, n.many))

    unwritten_size : size vs + size (w ∷ []) ≡ size us
    unwritten_size = sym (ap size p ∙ size_append vs (w ∷ []))

    appended_parts : length xs + size us ≤ c → kept (h.size - size (w ∷ [])) (length xs) (ws ++ vs) ++ ((w ++ xs) ∷ []) ≡ stayed ++ joined_last us xs
    appended_parts l =
        let z = unwritten_size in
        let e : h.size - size (w ∷ []) - size vs ≡ c - size us = omega (arith, a.words) in
        ap (λ (x : List (List ℕ)). x ++ ((w ++ xs) ∷ [])) (kept_stays (h.size - size (w ∷ [])) (length xs) ws vs (omega (arith, a.words)) ∙ ap (λ (n : ℕ). kept n (length xs) ws ++ vs) e)
        ∙ append_assoc stayed vs ((w ++ xs) ∷ [])
        ∙ ap (λ (x : List (List ℕ)). stayed ++ x) (sym (ap (λ (x : List (List ℕ)). joined_last x xs) p ∙ joined_newest vs w xs))

    appended_commands : length w + length xs ≤ 64 → length xs + size us ≤ c
        → Commands c (appended h ring xs).0 (appended h ring xs).1 (first + (length ws - length stayed)) stayed (joined_last us xs)
    appended_commands k l =
        let e : ws ++ us ≡ (ws ++ vs) ++ (w ∷ []) = ap (λ (x : List (List ℕ)). ws ++ x) p ∙ sym (append_assoc ws vs (w ∷ [])) in
        let n = subst (Holds (appended h ring xs).0 (appended h ring xs).1) (appended_parts l) (holds_appended h ring w xs (ws ++ vs) (subst (Holds h ring) e a.holds) k) in
        record { words = appended_size ∙ a.words; holds = n; oldest = appended_oldest n }

-- ---- the book

pub pushed_held : (c : ℕ) (h : SendHistory) (ring : List ℕ) (b : Book) → Held c h ring b → (xs : List ℕ) → length xs ≤ 64 → 1 + length xs + size b.unwritten ≤ c
    → Held c (pushed h ring xs).0 (pushed h ring xs).1 (pushed_in c xs b)
unfolding pushed_in freed
pushed_held c h ring b a xs k l = pushed_commands c h ring b.first b.written b.unwritten a xs k l

-- the newest command takes n words
pub record Takes (us : List (List ℕ)) (n : ℕ) : Type 0 where
  pub before : List (List ℕ)
  pub newest : List ℕ
  pub parts : us ≡ before ++ (newest ∷ [])
  pub few : length newest + n ≤ 64

-- all stay when no words are needed
pub kept_all : (c : ℕ) (ws : List (List ℕ)) → kept c 0 ws ≡ ws
unfolding kept
kept_all c [] = refl
kept_all c (w ∷ ws) = rw (le-ltb (c - size (w ∷ ws)) 0 (omega arith))

nothing_left : (first : ℕ) (ws : List (List ℕ)) → first + (length ws - length ws) ≡ first
nothing_left first ws = omega arith

-- words that join, if there are any, and there is a command that takes them
pub joined_held : (c : ℕ) (h : SendHistory) (ring : List ℕ) (b : Book) → Held c h ring b → (xs : List ℕ)
    → (0 < length xs → Takes b.unwritten (length xs))
    → length xs + size b.unwritten ≤ c
    → Held c (joined_to h ring xs).0 (joined_to h ring xs).1 (joined_in c xs b)
unfolding joined_to joined_in freed
joined_held c h ring b a [] t l =
    rw (kept_all (c - size b.unwritten) b.written, nothing_left b.first b.written, joined_nothing b.unwritten) a
joined_held c h ring b a (x ∷ xs) t l =
    let n = t (omega arith) in
    appended_commands c h ring b.first b.written b.unwritten a n.before n.newest (x ∷ xs) n.parts n.few l

-- ---- further commands

pub pushed_all_held : (cs : List (List ℕ)) (c : ℕ) (h : SendHistory) (ring : List ℕ) (b : Book) → Held c h ring b → Short cs → size cs + size b.unwritten ≤ c
    → Held c (pushed_all h ring cs).0 (pushed_all h ring cs).1 (pushed_all_in c cs b)
unfolding pushed_all pushed_all_in pushed_in freed Short size
pushed_all_held [] c h ring b a k l = a
pushed_all_held (xs ∷ cs) c h ring b a k l =
    let m = size_append b.unwritten (xs ∷ []) in
    pushed_all_held cs c (pushed h ring xs).0 (pushed h ring xs).1 (pushed_in c xs b) (pushed_held c h ring b a xs k.0 (omega arith)) k.1 (omega (arith, size_one xs))

pub pushed_all_unwritten : (cs : List (List ℕ)) (c : ℕ) (b : Book) → (pushed_all_in c cs b).unwritten ≡ b.unwritten ++ cs
unfolding pushed_all_in pushed_in freed
pushed_all_unwritten [] c b = sym (append-nil b.unwritten)
pushed_all_unwritten (xs ∷ cs) c b = pushed_all_unwritten cs c (pushed_in c xs b) ∙ append_assoc b.unwritten (xs ∷ []) cs

pub pushed_all_waiting : (cs : List (List ℕ)) (c : ℕ) (b : Book) → (pushed_all_in c cs b).waiting ≡ b.waiting
unfolding pushed_all_in pushed_in freed
pushed_all_waiting [] c b = refl
pushed_all_waiting (xs ∷ cs) c b = pushed_all_waiting cs c (pushed_in c xs b)

pub pushed_all_idle : (cs : List (List ℕ)) (c : ℕ) (b : Book) → (pushed_all_in c cs b).idle ≡ b.idle
unfolding pushed_all_in pushed_in freed
pushed_all_idle [] c b = refl
pushed_all_idle (xs ∷ cs) c b = pushed_all_idle cs c (pushed_in c xs b)
