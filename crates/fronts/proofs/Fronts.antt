-- Words divided into messages and commands: the front of a list of words, and what is left behind it.
use mathlib.Core.Path.{◌≡◌, refl, sym, ap, ◌∙◌}
use mathlib.Core.Bool.{Bool, true, false, not}
use mathlib.Core.Logic.{inl, inr}
use mathlib.Core.List.{List, [], ◌∷◌, ◌++◌}
use Prim.Native.Nat.{ℕ, zero, suc, ◌+◌, ◌-◌, ◌/◌, ◌≤◌, ◌<◌}
use native.Mathlib.Omega.{arith}
use lib.Dec.{leb, ltb}
use lib.ListN.{length, take, drop, get_or, length-append, length-drop, drop_of_length-le}
use lib.Seq.{length-take-le, take-length, take-take, take-add, drop-drop, drop-cons}
use borrow.Author.Tests.{leb-true, leb-false, le-leb, lt-leb, lt-ltb, le-ltb, ltb-true, ltb-false}
use Rattle.config.specs.inner.Tests.{split}
use Rattle.command.specs.Messages.{message_words, messages_of, whole_of, whole_words}
use Rattle.command.specs.inner.Lists.{drop_taken}
use Rattle.command.specs.inner.Messages.{type_words_range, messages_nil, messages_cons, messages_cut, whole_nil, whole_cons, whole_cut}
use Rattle.fronts.specs.Commands.{fitting, front, behind, commands_in, commands_of, longer, above}

-- ---- the first message of whole messages

-- a first message of m words, and whole messages behind it
pub record First (ws : List ℕ) (m : ℕ) : Type 0 where
  pub some : 1 ≤ m
  pub fits : m ≤ length ws
  pub parts : (messages_of ws).whole ≡ take m ws ∷ (messages_of (drop m ws)).whole
  pub rest : whole_of (drop m ws) ≡ true

not_cut : (ws : List ℕ) → (messages_of ws).cut ≡ true → whole_of ws ≡ true → ⊥
unfolding whole_of
not_cut ws c e = let z : true ≡ false = sym e ∙ rw c in absurd (let y : ◌≡◌ {A = ℕ} 0 1 = cc in omega arith)

pub first_of : (w : ℕ) (ws : List ℕ) → whole_of (w ∷ ws) ≡ true → First (w ∷ ws) (message_words w)
unfolding whole_of
first_of w ws e = elim (split (leb (message_words w) (length (w ∷ ws)))) [
  | inl k ↦
      let h : message_words w ≤ length (w ∷ ws) = leb-true _ _ k in
      let c = messages_cons w ws h in
      record {
        some = (type_words_range (w / 0x10000000)).0;
        fits = h;
        parts = rw c;
        rest = rw c at e;
      }
  | inr k ↦
      absurd (not_cut (w ∷ ws) (rw (messages_cut w ws (leb-false _ _ k))) e)
]

pub first_at : (ws : List ℕ) (at : ℕ) → at < length ws → whole_of (drop at ws) ≡ true → (m : ℕ) → m ≡ message_words (get_or ws at 0) → First (drop at ws) m
first_at ws at i w m e =
    let head = drop-cons ws at 0 i in
    rw (e, head) (first_of (get_or ws at 0) (drop (suc at) ws) (rw head at w))

-- ---- the front

pub front_nil : (n : ℕ) → front n [] ≡ []
unfolding front fitting
front_nil n = rw messages_nil

module _ (ws : List ℕ) (m n : ℕ) (f : First ws m) where
  pub front_more : m ≤ n → front n ws ≡ take m ws ++ front (n - m) (drop m ws)
  unfolding front fitting
  front_more h = rw (f.parts, length-take-le m ws f.fits, le-leb m n h)

  pub front_stop : n < m → front n ws ≡ []
  unfolding front fitting
  front_stop h = rw (f.parts, length-take-le m ws f.fits, lt-leb m n h)

  pub length_front_more : m ≤ n → length (front n ws) ≡ m + length (front (n - m) (drop m ws))
  length_front_more h =
      ap length (front_more h) ∙ length-append (take m ws) (front (n - m) (drop m ws)) ∙ rw (length-take-le m ws f.fits)

  pub above_more : m ≤ n → above n ws ≡ above n (drop m ws)
  unfolding above longer
  above_more h = rw (f.parts, length-take-le m ws f.fits, le-ltb n m h)

  pub above_here : n < m → above n ws ≡ true
  unfolding above longer
  above_here h = rw (f.parts, length-take-le m ws f.fits, lt-ltb n m h)

pub above_nil : (n : ℕ) → above n [] ≡ false
unfolding above longer
above_nil n = rw messages_nil

-- the whole messages among the first n words
front_none : (n : ℕ) → n ≤ 0 → front n [] ≡ whole_words (take n [])
front_none zero b = front_nil 0 ∙ sym whole_nil
front_none (suc n) b = absurd (let z : ⊥ = omega arith in z)

front_in : (f n : ℕ) (ws : List ℕ) → length ws ≤ f → n ≤ length ws → whole_of ws ≡ true → front n ws ≡ whole_words (take n ws)
front_in zero n [] l b w = front_none n b
front_in zero n (x ∷ ws) l b w = absurd (let z : ⊥ = omega arith in z)
front_in (suc f) n [] l b w = front_none n b
front_in (suc f) zero (x ∷ ws) l b w = let g = first_of x ws w in front_stop (x ∷ ws) (message_words x) 0 g (omega (arith, g.some)) ∙ sym whole_nil
front_in (suc f) (suc n) (x ∷ ws) l b w =
    let g = first_of x ws w in
    let xs : List ℕ = x ∷ ws in
    let m : ℕ = message_words x in
    let d = length-drop m xs in
    let t = length-take-le (suc n) xs b in
    elim (split (leb m (suc n))) [
      | inl k ↦
          let h : m ≤ suc n = leb-true _ _ k in
          front_more xs m (suc n) g h
          ∙ ap (λ (ys : List ℕ). take m xs ++ ys) (front_in f (suc n - m) (drop m xs) (omega (arith, g.some, g.fits)) (omega (arith, g.fits)) g.rest)
          ∙ sym (whole_cons x (take n ws) (omega arith) ∙ rw (take-take m (suc n) xs h, drop_taken m (suc n) xs h))
      | inr k ↦
          let h : suc n < m = leb-false _ _ k in
          front_stop xs m (suc n) g h ∙ sym (whole_cut x (take n ws) (omega arith))
    ]

pub front_taken : (n : ℕ) (ws : List ℕ) → n ≤ length ws → whole_of ws ≡ true → (r : ℕ) → r ≡ length (whole_words (take n ws)) → r ≡ length (front n ws)
front_taken n ws b w r e = e ∙ ap length (sym (front_in (length ws) n ws (omega arith) b w))

-- ---- a turn of a loop over messages, from index `at` on

module _ (ws : List ℕ) (at : ℕ) (i : at < length ws) (w : whole_of (drop at ws) ≡ true) (m : ℕ) (e : m ≡ message_words (get_or ws at 0)) where
  pub turn_fits : (1 ≤ m) × (at + m ≤ length ws)
  turn_fits = let f = first_at ws at i w m e in (f.some, omega (arith, f.fits, length-drop at ws))

  pub turn_whole : whole_of (drop (at + m) ws) ≡ true
  turn_whole = rw (← drop-drop m at ws) (first_at ws at i w m e).rest

  pub above_turn : (n : ℕ) (a : Bool) → above n (drop at ws) ≡ a → m ≤ n → above n (drop (at + m) ws) ≡ a
  above_turn n a inv h = rw (← drop-drop m at ws) (sym (above_more (drop at ws) m n (first_at ws at i w m e) h) ∙ inv)

  pub above_found : (n : ℕ) (a : Bool) → above n (drop at ws) ≡ a → n < m → false ≡ not a
  above_found n a inv h = let t : a ≡ true = sym inv ∙ above_here (drop at ws) m n (first_at ws at i w m e) h in rw t

pub above_none : (ws : List ℕ) (at n : ℕ) (a : Bool) → length ws ≤ at → above n (drop at ws) ≡ a → true ≡ not a
above_none ws at n a h inv = let t : a ≡ false = sym inv ∙ rw (drop_of_length-le ws h, above_nil) in rw t

-- a size of four is enough for every message
above_in : (f n : ℕ) (ws : List ℕ) → 4 ≤ n → length ws ≤ f → whole_of ws ≡ true → above n ws ≡ false
above_in zero n [] h l w = above_nil n
above_in zero n (x ∷ ws) h l w = absurd (let z : ⊥ = omega arith in z)
above_in (suc f) n [] h l w = above_nil n
above_in (suc f) n (x ∷ ws) h l w =
    let g = first_of x ws w in
    let m : ℕ = message_words x in
    let k : m ≤ n = omega (arith, (type_words_range (x / 0x10000000)).1) in
    above_more (x ∷ ws) m n g k ∙ above_in f n (drop m (x ∷ ws)) h (omega (arith, length-drop m (x ∷ ws), g.some, g.fits)) g.rest

pub four_enough : (n : ℕ) (ws : List ℕ) → 4 ≤ n → whole_of ws ≡ true → true ≡ not (above n ws)
four_enough n ws h w = rw (above_in (length ws) n ws h (omega arith) w)

-- ---- what a front is

pub record Part (n : ℕ) (ws : List ℕ) : Type 0 where
  pub part : front n ws ≡ take (length (front n ws)) ws
  pub fits : length (front n ws) ≤ length ws
  pub few : length (front n ws) ≤ n
  pub all : length ws ≤ n → length ws ≡ length (front n ws)
  pub rest : whole_of (behind n ws) ≡ true
  pub clear : (max : ℕ) → above max ws ≡ false → above max (behind n ws) ≡ false

-- nothing is taken
part_none : (n : ℕ) (ws : List ℕ) → whole_of ws ≡ true → (length ws ≤ n → length ws ≡ 0) → front n ws ≡ [] → Part n ws
unfolding behind
part_none n ws w a e =
    let z : length (front n ws) ≡ 0 = ap length e in
    record {
      part = rw z e;
      fits = omega arith;
      few = omega arith;
      all = λ h. omega (arith, a h);
      rest = rw z w;
      clear = λ max a. rw z a;
    }

clear_first : (ws : List ℕ) (m max : ℕ) → First ws m → above max ws ≡ false → (m ≤ max) × (above max (drop m ws) ≡ false)
clear_first ws m max f a = elim (split (ltb max m)) [
  | inl k ↦
      absurd (let t : true ≡ false = sym (above_here ws m max f (ltb-true _ _ k)) ∙ a in let y : ◌≡◌ {A = ℕ} 0 1 = cc in omega arith)
  | inr k ↦
      let h : m ≤ max = ltb-false _ _ k in (h, sym (above_more ws m max f h) ∙ a)
]

-- the first message, and what is taken behind it
part_more : (n m : ℕ) (ws : List ℕ) → First ws m → m ≤ n → Part (n - m) (drop m ws) → Part n ws
unfolding behind
part_more n m ws f h p =
    let l = length_front_more ws m n f h in
    let k : ℕ = length (front (n - m) (drop m ws)) in
    let d : drop (length (front n ws)) ws ≡ drop k (drop m ws) = rw l (sym (drop-drop k m ws)) in
    record {
      part = front_more ws m n f h ∙ ap (λ (x : List ℕ). take m ws ++ x) p.part ∙ rw l (sym (take-add m k ws));
      fits = omega (arith, p.fits, f.fits, length-drop m ws);
      few = omega (arith, p.few);
      all = λ h. omega (arith, p.all (omega (arith, length-drop m ws)), f.fits, length-drop m ws);
      rest = rw d p.rest;
      clear = λ max a. rw d (p.clear max (clear_first ws m max f a).1);
    }

part_in : (f n : ℕ) (ws : List ℕ) → length ws ≤ f → whole_of ws ≡ true → Part n ws
part_in zero n [] l w = part_none n [] w (λ h. refl) (front_nil n)
part_in zero n (x ∷ ws) l w = absurd (let z : ⊥ = omega arith in z)
part_in (suc f) n [] l w = part_none n [] w (λ h. refl) (front_nil n)
part_in (suc f) n (x ∷ ws) l w =
    let g = first_of x ws w in
    let m : ℕ = message_words x in
    elim (split (leb m n)) [
      | inl k ↦
          part_more n m (x ∷ ws) g (leb-true _ _ k)
          (part_in f (n - m) (drop m (x ∷ ws)) (omega (arith, length-drop m (x ∷ ws), g.some, g.fits)) g.rest)
      | inr k ↦ part_none n (x ∷ ws) w (λ h. absurd (let z : ⊥ = omega (arith, leb-false m n k, g.fits) in z)) (front_stop (x ∷ ws) m n g (leb-false _ _ k))
    ]

pub part_of : (n : ℕ) (ws : List ℕ) → whole_of ws ≡ true → Part n ws
part_of n ws w = part_in (length ws) n ws (omega arith) w

-- ---- commands

-- whole messages, none above the set size
pub record Divides (max : ℕ) (ws : List ℕ) : Type 0 where
  pub whole : whole_of ws ≡ true
  pub small : above max ws ≡ false

pub divides_behind : (max n : ℕ) (ws : List ℕ) → Divides max ws → Divides max (behind n ws)
divides_behind max n ws d = let p = part_of n ws d.whole in record { whole = p.rest; small = p.clear max d.small }

front_some : (max w : ℕ) (ws : List ℕ) → Divides max (w ∷ ws) → 1 ≤ length (front max (w ∷ ws))
front_some max w ws d =
    let f = first_of w ws d.whole in
    let h = clear_first (w ∷ ws) (message_words w) max f d.small in
    omega (arith, f.some, length_front_more (w ∷ ws) (message_words w) max f h.0)

pub behind_less : (max w : ℕ) (ws : List ℕ) → Divides max (w ∷ ws) → length (behind max (w ∷ ws)) ≤ length ws
unfolding behind
behind_less max w ws d =
    omega (arith, front_some max w ws d, length-drop (length (front max (w ∷ ws))) (w ∷ ws))

-- so many commands as there are words are enough
commands_enough : (f g max : ℕ) (ws : List ℕ) → length ws ≤ f → length ws ≤ g → Divides max ws → commands_in f max ws ≡ commands_in g max ws
unfolding commands_in
commands_enough zero zero max ws h k d = refl
commands_enough zero (suc g) max [] h k d = refl
commands_enough zero (suc g) max (w ∷ ws) h k d = absurd (let z : ⊥ = omega arith in z)
commands_enough (suc f) zero max [] h k d = refl
commands_enough (suc f) zero max (w ∷ ws) h k d = absurd (let z : ⊥ = omega arith in z)
commands_enough (suc f) (suc g) max [] h k d = refl
commands_enough (suc f) (suc g) max (w ∷ ws) h k d =
    let l = behind_less max w ws d in
    ap (λ (cs : List (List ℕ)). front max (w ∷ ws) ∷ cs)
    (commands_enough f g max (behind max (w ∷ ws)) (omega arith) (omega arith) (divides_behind max max (w ∷ ws) d))

pub commands_nil : (max : ℕ) → commands_of max [] ≡ []
unfolding commands_of commands_in
commands_nil max = refl

pub commands_cons : (max w : ℕ) (ws : List ℕ) → Divides max (w ∷ ws) → commands_of max (w ∷ ws) ≡ front max (w ∷ ws) ∷ commands_of max (behind max (w ∷ ws))
unfolding commands_of commands_in
commands_cons max w ws d =
    let l = behind_less max w ws d in
    ap (λ (cs : List (List ℕ)). front max (w ∷ ws) ∷ cs)
    (commands_enough (length ws) (length (behind max (w ∷ ws))) max (behind max (w ∷ ws)) l (omega arith) (divides_behind max max (w ∷ ws) d))

-- ---- a turn of the loops over commands, from index `at` on: n words are the next command

module _ (max : ℕ) (ws : List ℕ) (at n : ℕ) (i : at < length ws) (d : Divides max (drop at ws)) (e : n ≡ length (front max (drop at ws))) where
  command_some : 1 ≤ n
  command_some =
      let head = drop-cons ws at 0 i in
      rw (e, head) (front_some max (get_or ws at 0) (drop (suc at) ws) (rw head at d))

  pub command_fits : (1 ≤ n) × (at + n ≤ length ws) × (n ≤ max)
  command_fits =
      let p = part_of max (drop at ws) d.whole in
      (command_some, omega (arith, p.fits, length-drop at ws), omega (arith, p.few))

  behind_at : behind max (drop at ws) ≡ drop (at + n) ws
  unfolding behind
  behind_at = rw (← e) (drop-drop n at ws)

  pub command_rest : Divides max (drop (at + n) ws)
  command_rest = rw (← behind_at) (divides_behind max max (drop at ws) d)

  pub commands_turn : commands_of max (drop at ws) ≡ take n (drop at ws) ∷ commands_of max (drop (at + n) ws)
  commands_turn =
      let head = drop-cons ws at 0 i in
      let c : commands_of max (drop at ws) ≡ front max (drop at ws) ∷ commands_of max (behind max (drop at ws)) =
      rw head (commands_cons max (get_or ws at 0) (drop (suc at) ws) (rw head at d)) in
      let p : front max (drop at ws) ≡ take n (drop at ws) = rw e (part_of max (drop at ws) d.whole).part in
      c ∙ rw (p, behind_at)

pub commands_end : (max : ℕ) (ws : List ℕ) (at : ℕ) → length ws ≤ at → commands_of max (drop at ws) ≡ []
commands_end max ws at h = rw (drop_of_length-le ws h) (commands_nil max)

-- one more is counted
pub count_turn : (max : ℕ) (ws : List ℕ) (at n count l : ℕ) → at < length ws → Divides max (drop at ws) → n ≡ length (front max (drop at ws))
    → count + length (commands_of max (drop at ws)) ≡ l
    → count + 1 + length (commands_of max (drop (at + n) ws)) ≡ l
count_turn max ws at n count l i d e inv = omega (arith, ap length (commands_turn max ws at n i d e))

pub count_end : (max : ℕ) (ws : List ℕ) (at count l : ℕ) → length ws ≤ at → count + length (commands_of max (drop at ws)) ≡ l → count ≡ l
count_end max ws at count l h inv = omega (arith, ap length (commands_end max ws at h))

-- ---- a slice from an index on

take_rest : (ws : List ℕ) (at : ℕ) → take (length ws - at) (drop at ws) ≡ drop at ws
take_rest ws at = rw (← length-drop at ws) (take-length (drop at ws))

pub whole_at : (ws : List ℕ) (at : ℕ) → whole_of (drop at ws) ≡ true → whole_of (take (length ws - at) (drop at ws)) ≡ true
whole_at ws at w = rw (take_rest ws at) w

pub front_at : (max : ℕ) (ws : List ℕ) (at n : ℕ) → n ≡ length (front max (take (length ws - at) (drop at ws))) → n ≡ length (front max (drop at ws))
front_at max ws at n e = rw (take_rest ws at) at e

pub divides_at : (max : ℕ) (ws : List ℕ) (at : ℕ) → Divides max (drop at ws) → Divides max (take (length ws - at) (drop at ws))
divides_at max ws at d = rw (take_rest ws at) d

pub commands_at_lem : (max : ℕ) (ws : List ℕ) (at : ℕ) → commands_of max (take (length ws - at) (drop at ws)) ≡ commands_of max (drop at ws)
commands_at_lem max ws at = rw (take_rest ws at)
