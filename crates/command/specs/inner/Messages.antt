-- Laws of words divided into messages, and of a walk over them.
use Rattle.std.specs.Prelude.{◌≡◌, refl, Bool, true, false, cond, List, [], ◌∷◌, ◌++◌, ℕ, zero, suc, ◌+◌, ◌-◌, ◌/◌, ◌≤◌, ◌<◌, leb, ltb, length, take, drop}
use Rattle.std.proofs.Common.{sym, ap, ◌∙◌, inl, inr, append_assoc, append-nil, arith, length-drop, drop_of_length-le, length-take-le, take-add, drop-drop, le-leb, lt-ltb}
use Rattle.std.proofs.Math.ListN.{length-append}
use Rattle.std.proofs.lemmas.Bool.{lt-leb}
use Rattle.config.specs.inner.Tests.{split, tests, lifts}
use Rattle.command.specs.Messages.{among, type_words, message_words, Messages, none, also, divided, messages_of, whole_of, words_in, whole_words, message_item, message_at, item_words}

-- every message has 1 to 4 words
pub type_words_range : (t : ℕ) → (1 ≤ type_words t) × (type_words t ≤ 4)
unfolding type_words
type_words_range t = by (among (0 ∷ 1 ∷ 2 ∷ 6 ∷ 7 ∷ []) t) (among (3 ∷ 4 ∷ 8 ∷ 9 ∷ 0xA ∷ []) t) (among (0xB ∷ 0xC ∷ []) t)
  where
    by : (a b c : Bool) → (1 ≤ cond a 1 (cond b 2 (cond c 3 4))) × (cond a 1 (cond b 2 (cond c 3 4)) ≤ 4)
    by true b c = (omega arith, omega arith)
    by false true c = (omega arith, omega arith)
    by false false true = (omega arith, omega arith)
    by false false false = (omega arith, omega arith)

-- ---- words divided into messages

-- so many steps as there are words are enough
divided_enough : (f g : ℕ) (ws : List ℕ) → length ws ≤ f → length ws ≤ g → divided f ws ≡ divided g ws
unfolding divided
divided_enough zero zero ws h k = refl
divided_enough zero (suc g) [] h k = refl
divided_enough zero (suc g) (w ∷ ws) h k = absurd (let z : ⊥ = omega arith in z)
divided_enough (suc f) zero [] h k = refl
divided_enough (suc f) zero (w ∷ ws) h k = absurd (let z : ⊥ = omega arith in z)
divided_enough (suc f) (suc g) [] h k = refl
divided_enough (suc f) (suc g) (w ∷ ws) h k =
    let n = type_words_range (w / 0x10000000) in
    let l = length-drop (message_words w) (w ∷ ws) in
    rw (divided_enough f g (drop (message_words w) (w ∷ ws)) (omega arith) (omega arith))

pub messages_nil : messages_of [] ≡ none false
unfolding messages_of divided
messages_nil = refl

-- the first message, and the rest
pub messages_cons : (w : ℕ) (ws : List ℕ) → message_words w ≤ length (w ∷ ws)
    → messages_of (w ∷ ws) ≡ also (take (message_words w) (w ∷ ws)) (messages_of (drop (message_words w) (w ∷ ws)))
unfolding messages_of divided
messages_cons w ws h =
    let n = type_words_range (w / 0x10000000) in
    let l = length-drop (message_words w) (w ∷ ws) in
    rw (le-leb _ _ h)
    (ap (also (take (message_words w) (w ∷ ws)))
    (divided_enough (length ws) (length (drop (message_words w) (w ∷ ws))) (drop (message_words w) (w ∷ ws)) (omega arith) (omega arith)))

pub messages_cut : (w : ℕ) (ws : List ℕ) → length (w ∷ ws) < message_words w → messages_of (w ∷ ws) ≡ none true
unfolding messages_of divided
messages_cut w ws h = rw (lt-leb _ _ h)

-- ---- words joined

pub words_append : (xs ys : List (List ℕ)) → words_in (xs ++ ys) ≡ words_in xs ++ words_in ys
unfolding words_in
words_append [] ys = refl
words_append (x ∷ xs) ys = rw (words_append xs ys, append_assoc)

pub words_one : (ws : List ℕ) → words_in (ws ∷ []) ≡ ws
unfolding words_in
words_one ws = append-nil ws

-- ---- the whole messages at the front

pub whole_nil : whole_words [] ≡ []
unfolding whole_words words_in
whole_nil = rw messages_nil

pub whole_cons : (w : ℕ) (ws : List ℕ) → message_words w ≤ length (w ∷ ws)
    → whole_words (w ∷ ws) ≡ take (message_words w) (w ∷ ws) ++ whole_words (drop (message_words w) (w ∷ ws))
unfolding whole_words words_in
whole_cons w ws h = rw (messages_cons w ws h)

pub whole_cut : (w : ℕ) (ws : List ℕ) → length (w ∷ ws) < message_words w → whole_words (w ∷ ws) ≡ []
unfolding whole_words words_in
whole_cut w ws h = rw (messages_cut w ws h)

-- they are a front part, cut where that is not all
pub record Front (ws : List ℕ) : Type 0 where
  pub part : whole_words ws ≡ take (length (whole_words ws)) ws
  pub fits : length (whole_words ws) ≤ length ws
  pub cut : (messages_of ws).cut ≡ ltb (length (whole_words ws)) (length ws)

test_shifted : (a n l : ℕ) → n ≤ l → ltb a (l - n) ≡ ltb (n + a) l
test_shifted a n l h =
    elim (split (ltb a (l - n))) [
      | inl k ↦ let s : ltb (n + a) l ≡ true = omega (arith, tests, lifts) in cc
      | inr k ↦ let s : ltb (n + a) l ≡ false = omega (arith, tests, lifts) in cc
    ]

front_cons : (w : ℕ) (ws : List ℕ) → message_words w ≤ length (w ∷ ws) → Front (drop (message_words w) (w ∷ ws)) → Front (w ∷ ws)
front_cons w ws h rest =
    let n : ℕ = message_words w in
    let more : List ℕ = whole_words (drop n (w ∷ ws)) in
    let l : length (whole_words (w ∷ ws)) ≡ n + length more =
    ap length (whole_cons w ws h) ∙ length-append (take n (w ∷ ws)) more ∙ rw (length-take-le n (w ∷ ws) h) in
    let d = length-drop n (w ∷ ws) in
    record {
      part =
          whole_cons w ws h
          ∙ ap (λ (xs : List ℕ). take n (w ∷ ws) ++ xs) rest.part
          ∙ sym (take-add n (length more) (w ∷ ws))
          ∙ ap (λ (k : ℕ). take k (w ∷ ws)) (sym l);
      fits = omega (arith, rest.fits);
      cut =
          ap (λ (m : Messages). m.cut) (messages_cons w ws h)
          ∙ rest.cut
          ∙ ap (ltb (length more)) d
          ∙ test_shifted (length more) n (length (w ∷ ws)) h
          ∙ ap (λ (k : ℕ). ltb k (length (w ∷ ws))) (sym l);
    }

front_nil : Front []
front_nil =
    record {
      part = rw whole_nil;
      fits = rw whole_nil (omega arith);
      cut = ap (λ (m : Messages). m.cut) messages_nil ∙ rw whole_nil;
    }

front_of : (f : ℕ) (ws : List ℕ) → length ws ≤ f → Front ws
front_of zero [] h = front_nil
front_of (suc f) [] h = front_nil
front_of zero (w ∷ ws) h = absurd (let z : ⊥ = omega arith in z)
front_of (suc f) (w ∷ ws) h =
    elim (split (leb (message_words w) (length (w ∷ ws)))) [
      | inl k ↦
          let n = type_words_range (w / 0x10000000) in
          let d = length-drop (message_words w) (w ∷ ws) in
          front_cons w ws (omega (arith, tests)) (front_of f (drop (message_words w) (w ∷ ws)) (omega (arith, tests)))
      | inr k ↦
          let e = whole_cut w ws (omega (arith, tests)) in
          record {
            part = rw e;
            fits = rw e (omega arith);
            cut = ap (λ (m : Messages). m.cut) (messages_cut w ws (omega (arith, tests))) ∙ rw e (sym (lt-ltb 0 (length (w ∷ ws)) (omega arith)));
          }
    ]

pub front : (ws : List ℕ) → Front ws
front ws = front_of (length ws) ws (omega arith)

pub whole_all : (ws : List ℕ) (n : ℕ) → n ≡ length (whole_words ws) → leb (length ws) n ≡ whole_of ws
unfolding whole_of
whole_all ws n e =
    elim (split (ltb (length (whole_words ws)) (length ws))) [
      | inl k ↦ let t : leb (length ws) n ≡ false = omega (arith, tests, lifts) in rw ((front ws).cut, k, t)
      | inr k ↦ let t : leb (length ws) n ≡ true = omega (arith, tests, lifts) in rw ((front ws).cut, k, t)
    ]

-- ---- a step of the walk: n words, or 0 where no whole message stands

record Step (xs : List ℕ) (n : ℕ) : Type 0 where
  fits : n ≤ length xs
  few : n ≤ 4
  last : n ≡ 0 → (messages_of xs).whole ≡ []
  next : 1 ≤ n → (messages_of xs).whole ≡ take n xs ∷ (messages_of (drop n xs)).whole

item_step : (at : ℕ) (xs : List ℕ) → Step xs (item_words (message_item at xs))
item_step at [] =
    record { fits = omega arith; few = omega arith; last = λ e. rw messages_nil; next = λ l. absurd (let z : ⊥ = omega arith in z) }
item_step at (w ∷ ws) =
    elim (split (leb (message_words w) (length (w ∷ ws)))) [
      | inl k ↦
          let n = type_words_range (w / 0x10000000) in
          let h : message_words w ≤ length (w ∷ ws) = omega (arith, tests) in
          rw k (record { fits = h; few = n.1; last = λ e. absurd (let z : ⊥ = omega arith in z); next = λ l. rw (messages_cons w ws h) })
      | inr k ↦
          let e = messages_cut w ws (omega (arith, tests)) in
          rw k (record { fits = omega arith; few = omega arith; last = λ z. rw e; next = λ l. absurd (let z : ⊥ = omega arith in z) })
    ]

module _ (ws : List ℕ) (at n : ℕ) (e : n ≡ item_words (message_at ws at)) where
  found : Step (drop at ws) n
  unfolding message_at
  found = rw e (item_step at (drop at ws))

  pub step_few : n ≤ 4
  step_few = found.few

  pub step_fits : at ≤ length ws → at + n ≤ length ws
  step_fits h = omega (arith, found.fits, length-drop at ws)

  pub step_last : n ≡ 0 → (messages_of (drop at ws)).whole ≡ []
  step_last = found.last

  pub step_next : 1 ≤ n → (messages_of (drop at ws)).whole ≡ take n (drop at ws) ∷ (messages_of (drop (at + n) ws)).whole
  step_next l = rw (← drop-drop n at ws) (found.next l)

  pub step_length : length (take n (drop at ws)) ≡ n
  step_length = length-take-le n (drop at ws) found.fits

  words_last : n ≡ 0 → length (whole_words (drop at ws)) ≡ 0
  unfolding whole_words words_in
  words_last z = rw (step_last z)

  words_next : 1 ≤ n → length (whole_words (drop at ws)) ≡ n + length (whole_words (drop (at + n) ws))
  unfolding whole_words words_in
  words_next l = rw (step_next l, length-append, step_length)

  -- the whole messages that are left have the words that are not passed
  module _ (all : ℕ) (inv : at + length (whole_words (drop at ws)) ≡ all) where
    pub whole_stop : n ≡ 0 → at ≡ all
    whole_stop z = omega (arith, words_last z)

    pub whole_turn_lem : 1 ≤ n → at + n + length (whole_words (drop (at + n) ws)) ≡ all
    whole_turn_lem l = omega (arith, words_next l)

pub whole_end : (ws : List ℕ) (at all : ℕ) → length ws ≤ at → at + length (whole_words (drop at ws)) ≡ all → at ≡ all
whole_end ws at all h inv = let none : length (whole_words (drop at ws)) ≡ 0 = rw (drop_of_length-le ws h, whole_nil) in omega arith
