-- What is handed on at each place, and joined in order of place, as messages.
use Prim.Native.Nat.{ℕ, zero, suc, ◌+◌, ◌≤◌, ◌<◌}
use Rattle.std.proofs.Common.{Ok, Err}
use mathlib.Core.Path.{◌≡◌, refl, ap, ap₂, sym, ◌∙◌}
use mathlib.Core.Logic.{inl, inr}
use mathlib.Core.Bool.{Bool, true, false, cond}
use mathlib.Core.List.{List, [], ◌∷◌, ◌++◌, Memᴰ}
use native.Mathlib.Omega.{arith}
use lib.Dec.{ltb, eqb}
use Rattle.config.specs.declared.settings.StreamConfig.{StreamConfig}
use Rattle.config.specs.inner.Tests.{split, tests}
use Rattle.command.specs.Messages.{divided, messages_of, words_in, whole_words}
use Rattle.window.specs.declared.window.Class.{Class}
use Rattle.window.specs.declared.window.Class.TheVariants.{New, Late, Duplicate}
use Rattle.receiver.specs.Messages.{handed_words}
use Rattle.receiver.specs.declared.receiver.Delivery.{Delivery}
use Rattle.receiver_log.specs.Calls.{Entry, data_entry, poll_entry, error_entry, nak_entry, take_entry}
use Rattle.receiver_log.specs.Log.{Report, heard, told, reports, origin, place, high, hands, hands_on, times}
use Rattle.receiver_log.specs.Promise.{Promise}
use Rattle.delivery.specs.Chamber.{delivered, joined, handed_on, AllHanded}
use Rattle.held_notes.proofs.Moments.{play, play_append, play_any}
use Rattle.command.specs.inner.Messages.{words_append}
use Rattle.held_notes.proofs.Words.{AreMessages, are_append, messages_are, divided_back}
use Rattle.held_log.specs.Theorems.{leaves_held, whole_in, handed_at, in_order}
use Rattle.held_log.proofs.Standing.{heard_at, Standing}

-- ---- at a place that is handed on once at most

module _ (x : ℕ) where
  pub unheard : (t : List Report) → times t x ≡ 0 → heard_at t x ≡ []
  unheard [] e = refl
  unheard (told l ∷ t) e = unheard t e
  unheard (heard seq ws c l ∷ t) e = by (hands_on (high t) (heard seq ws c l) x) e (unheard t)
    where
      by : (y : Bool) → cond y (suc (times t x)) (times t x) ≡ 0 → (times t x ≡ 0 → heard_at t x ≡ []) → cond y (heard_at t x ++ (messages_of ws).whole) (heard_at t x) ≡ []
      by true e f = absurd (let z : ⊥ = omega arith in z)
      by false e f = f e

  undelivered : (t : List Report) → times t x ≡ 0 → delivered t x ≡ []
  undelivered [] e = refl
  undelivered (told l ∷ t) e = undelivered t e
  undelivered (heard seq ws c l ∷ t) e = by (hands_on (high t) (heard seq ws c l) x) e (undelivered t)
    where
      by : (y : Bool) → cond y (suc (times t x)) (times t x) ≡ 0 → (times t x ≡ 0 → delivered t x ≡ []) → cond y (delivered t x ++ ws) (delivered t x) ≡ []
      by true e f = absurd (let z : ⊥ = omega arith in z)
      by false e f = f e

  pub handed_messages : (t : List Report) → times t x ≤ 1 → handed_at t x ≡ heard_at t x
  unfolding messages_of divided
  handed_messages [] e = refl
  handed_messages (told l ∷ t) e = handed_messages t e
  handed_messages (heard seq ws c l ∷ t) e = by (hands_on (high t) (heard seq ws c l) x) e (undelivered t) (unheard t) (handed_messages t)
    where
      by : (y : Bool) → cond y (suc (times t x)) (times t x) ≤ 1 → (times t x ≡ 0 → delivered t x ≡ []) → (times t x ≡ 0 → heard_at t x ≡ [])
          → (times t x ≤ 1 → handed_at t x ≡ heard_at t x)
          → whole_in (cond y (delivered t x ++ ws) (delivered t x)) ≡ cond y (heard_at t x ++ (messages_of ws).whole) (heard_at t x)
      by true e f g h =
          let z : times t x ≡ 0 = omega arith in
          ap (λ (xs : List ℕ). whole_in (xs ++ ws)) (f z) ∙ sym (ap (λ (ms : List (List ℕ)). ms ++ (messages_of ws).whole) (g z))
      by false e f g h = h e

-- and so is each place
pub once_at_most : (W : ℕ) (t : List Report) → Promise W t → (x : ℕ) → times t x ≤ 1
once_at_most W t p x = elim (split (ltb x origin)) [
  | inl e ↦ let z = p.nothing_before x (omega (arith, tests)) in omega arith
  | inr e ↦ elim (split (ltb (high t) x)) [
    | inl f ↦ let z = p.nothing_above x (omega (arith, tests)) in omega arith
    | inr f ↦ p.once x (omega (arith, tests)) (omega (arith, tests))
  ]
]

-- ---- commands of whole messages

-- all of their words are handed on
abbrev pub AllWhole : List Report → Type 0
AllWhole [] = Unit {0}
AllWhole (heard seq ws c l ∷ t) = (handed_words c ws ≡ cond (hands c) ws []) × AllWhole t
AllWhole (told l ∷ t) = AllWhole t

pub all_whole : (log : List Entry)
    → ((cfg : StreamConfig) (time seq : ℕ) (ws : List ℕ) (d : Delivery) → Memᴰ (data_entry cfg time seq ws (Ok d)) log → AllHanded d.class ws)
    → AllWhole (reports log)
all_whole [] f = tt
all_whole (data_entry s time seq ws (Ok d) ∷ t) f =
    ((f s time seq ws d (Memᴰ.head refl)).words, all_whole t (λ cfg time seq ws d m. f cfg time seq ws d (Memᴰ.tail m)))
all_whole (data_entry s time seq ws (Err why) ∷ t) f = all_whole t (λ cfg time seq ws d m. f cfg time seq ws d (Memᴰ.tail m))
all_whole (poll_entry s time e ∷ t) f = all_whole t (λ cfg time seq ws d m. f cfg time seq ws d (Memᴰ.tail m))
all_whole (error_entry q e ∷ t) f = all_whole t (λ cfg time seq ws d m. f cfg time seq ws d (Memᴰ.tail m))
all_whole (nak_entry e ∷ t) f = all_whole t (λ cfg time seq ws d m. f cfg time seq ws d (Memᴰ.tail m))
all_whole (take_entry s p b a q c ∷ t) f = all_whole t (λ cfg time seq ws d m. f cfg time seq ws d (Memᴰ.tail m))

module _ (x : ℕ) where
  heard_words : (t : List Report) → AllWhole t → delivered t x ≡ words_in (heard_at t x)
  unfolding handed_words whole_words words_in
  heard_words [] w = refl
  heard_words (told l ∷ t) w = heard_words t w
  heard_words (heard seq ws c l ∷ t) w = by c w.0 (heard_words t w.1)
    where
      also : words_in (messages_of ws).whole ≡ ws → delivered t x ≡ words_in (heard_at t x) → (y : Bool)
          → cond y (delivered t x ++ ws) (delivered t x) ≡ words_in (cond y (heard_at t x ++ (messages_of ws).whole) (heard_at t x))
      also h e true = ap₂ (λ (xs ys : List ℕ). xs ++ ys) e (sym h) ∙ sym (words_append (heard_at t x) (messages_of ws).whole)
      also h e false = e

      by : (c : Class) → handed_words c ws ≡ cond (hands c) ws [] → delivered t x ≡ words_in (heard_at t x)
          → delivered (heard seq ws c l ∷ t) x ≡ words_in (heard_at (heard seq ws c l ∷ t) x)
      by (New gap) h e = also h e (eqb x (place (high t) seq))
      by Late h e = also h e (eqb x (place (high t) seq))
      by Duplicate h e = e

  heard_are : (t : List Report) → AreMessages (heard_at t x)
  heard_are [] = tt
  heard_are (told l ∷ t) = heard_are t
  heard_are (heard seq ws c l ∷ t) = by (heard_are t) (hands_on (high t) (heard seq ws c l) x)
    where
      by : AreMessages (heard_at t x) → (y : Bool) → AreMessages (cond y (heard_at t x ++ (messages_of ws).whole) (heard_at t x))
      by a true = are_append (heard_at t x) (messages_of ws).whole a (messages_are ws)
      by a false = a

module _ (t : List Report) (w : AllWhole t) where
  joined_words : (n x : ℕ) → joined (delivered t) x n ≡ words_in (in_order (heard_at t) x n)
  unfolding words_in
  joined_words zero x = refl
  joined_words (suc n) x =
      ap₂ (λ (y z : List ℕ). y ++ z) (heard_words x t w) (joined_words n (suc x)) ∙ sym (words_append (heard_at t x) (in_order (heard_at t) (suc x) n))

  joined_are : (n x : ℕ) → AreMessages (in_order (heard_at t) x n)
  joined_are zero x = tt
  joined_are (suc n) x = are_append (heard_at t x) (in_order (heard_at t) (suc x) n) (heard_are x t) (joined_are n (suc x))

  joined_messages : whole_in (handed_on t) ≡ in_order (heard_at t) 0 (suc (high t))
  unfolding handed_on
  joined_messages =
      ap (λ (ws : List ℕ). whole_in ws) (joined_words (suc (high t)) 0) ∙ divided_back (in_order (heard_at t) 0 (suc (high t))) (joined_are (suc (high t)) 0)

-- ---- played in order of place

module _ (g k : ℕ) (f : ℕ → List (List ℕ)) (p : ℕ) (above : (x : ℕ) → p < x → play g k true (f x) ≡ true) where
  play_above : (n x : ℕ) → p < x → play g k true (in_order f x n) ≡ true
  play_above zero x h = refl
  play_above (suc n) x h =
      play_append g k (f x) (in_order f (suc x) n) true
      ∙ ap (λ (y : Bool). play g k y (in_order f (suc x) n)) (above x h)
      ∙ play_above n (suc x) (omega arith)

  play_from : play g k false (f p) ≡ true → (n x : ℕ) (b : Bool) → x ≤ p → p < x + n → play g k b (in_order f x n) ≡ true
  play_from on zero x b l m = absurd (let z : ⊥ = omega arith in z)
  play_from on (suc n) x b l m = elim (split (eqb x p)) [
    | inl e ↦
        let i : x ≡ p = omega (arith, tests) in
        play_append g k (f x) (in_order f (suc x) n) b
        ∙ ap (λ (y : Bool). play g k y (in_order f (suc x) n)) (play_any g k (f x) b (rw i on))
        ∙ play_above n (suc x) (omega arith)
    | inr e ↦
        play_append g k (f x) (in_order f (suc x) n) b
        ∙ play_from on n (suc x) (play g k b (f x)) (omega (arith, tests)) (omega arith)
  ]

-- a note that stands is left held by the messages handed on, in order of place
pub standing_in_order : (W g k : ℕ) (t : List Report) → Promise W t → Standing g k t → leaves_held g k false (in_order (handed_at t) 0 (suc (high t))) ≡ true
standing_in_order W g k t p s =
    play_from g k (handed_at t) s.at (λ x h. same x true ∙ s.above x h) (same s.at false ∙ s.on) (suc (high t)) 0 false (omega arith) (let h = s.reached in omega arith)
  where
    same : (x : ℕ) (b : Bool) → play g k b (handed_at t x) ≡ play g k b (heard_at t x)
    same x b = ap (λ (ms : List (List ℕ)). play g k b ms) (handed_messages x t (once_at_most W t p x))

-- and by the words, where all messages are whole
pub standing_joined : (g k : ℕ) (t : List Report) → AllWhole t → Standing g k t → leaves_held g k false (whole_in (handed_on t)) ≡ true
standing_joined g k t w s =
    ap (λ (ms : List (List ℕ)). play g k false ms) (joined_messages t w)
    ∙ play_from g k (heard_at t) s.at s.above s.on (suc (high t)) 0 false (omega arith) (let h = s.reached in omega arith)
