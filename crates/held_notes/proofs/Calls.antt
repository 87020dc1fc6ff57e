-- One call: what it leaves and gives, put together from its parts.
use Prim.Native.Nat.{ℕ, ◌/◌, ◌%◌, ◌^◌, ◌≤◌, ◌<◌}
use Rattle.std.proofs.Common.{Option, Result, Ok}
use Rattle.config.specs.declared.refusal.Refusal.{Refusal}
use Rattle.receiver.specs.declared.receiver.Delivery.{Delivery}
use Rattle.window.specs.declared.window.SeqRange.{SeqRange}
use Rattle.std.specs.Bool.{⊤}
use mathlib.Core.Path.{◌≡◌, refl, ap, ap₂, sym, ◌∙◌, subst}
use mathlib.Core.Logic.{inl, inr}
use mathlib.Core.Bool.{Bool, true, false, cond}
use mathlib.Core.List.{List, [], ◌∷◌, ◌++◌}
use native.Mathlib.Nat.{div-eq_of_lt}
use native.Mathlib.Omega.{arith}
use lib.Dec.{eqb, ltb}
use lib.Pow.{pow_pos}
use lib.ListN.{length, get_or, replicate, get_or-replicate, get_or-eq_default}
use borrow.Author.Tests.{lt-ltb, le-ltb}
use Rattle.config.specs.inner.Tests.{split, tests}
use Rattle.window.specs.declared.window.Class.{Class}
use Rattle.receiver.specs.declared.receiver.StreamEvent.{StreamEvent}
use Rattle.held_notes.specs.Calls.{Moment, silence, held_through, Call, delivered, told, silenced, handed, moments_of, held_in}
use Rattle.held_notes.specs.State.{all_notes, has, Leads}
use Rattle.held_notes.specs.Theorems.{left_by, list_in, HeldKept, HeldRefused}
use Rattle.held_notes.specs.Answers.{notes_of, list_of, is_loss, silences, given_by, done_of, refused_of, answer_of, none_held, start_of, Follows, Plays}
use Rattle.held_notes.specs.declared.listing.Notes.{Notes}
use Rattle.held_notes.specs.declared.held.HeldNotes.{HeldNotes}
use Rattle.held_notes.specs.declared.held.Given.{Given}
use Rattle.held_notes.proofs.Moments.{after_silence, through_append}
use Rattle.held_notes.proofs.Sets.{Words, set_is, set_has}
use Rattle.held_notes.proofs.Lists.{notes_cong}

-- ---- no note held

zeros : (i : ℕ) → ◌≡◌ {A = ℕ} (get_or (replicate 32 0) i 0) 0
zeros i = elim (split (ltb i 32)) [
  | inl e ↦ get_or-replicate 32 i 0 0 (omega (arith, tests))
  | inr e ↦ get_or-eq_default (replicate 32 0) 0 (beyond (omega (arith, tests)))
]
  where
    beyond : 32 ≤ i → length (replicate {A = ℕ} 32 0) ≤ i
    beyond h = h

pub none_held_lem : (g : ℕ) (held : List ℕ) → Leads g (silence ∷ []) held (replicate 32 0)
unfolding has
none_held_lem g held k =
    ap (λ (w : ℕ). eqb (w / 2 ^ (k % 64) % 2) 1) (zeros (k / 64)) ∙ ap (λ (w : ℕ). eqb (w % 2) 1) (div-eq_of_lt (pow_pos (k % 64)))
    ∙ sym (after_silence g k (has held k))

-- ---- a start

pub start_refused : (g : ℕ) (r : Given) → 15 < g → r ≡ refused_of (none_held g) → r ≡ start_of g
unfolding start_of
start_refused g r h e = rw (lt-ltb 15 g h) e

pub start_done : (g : ℕ) (notes : Notes) → g ≤ 15 → notes ≡ notes_of [] → ◌≡◌ {A = Given} (record { state = none_held g; notes = notes; answer = Ok tt }) (start_of g)
unfolding start_of
start_done g notes h e = rw (le-ltb 15 g h) (ap (λ (n : Notes). record { state = none_held g; notes = n; answer = Ok tt }) e)

pub start_state : (g : ℕ) → (start_of g).state ≡ none_held g
unfolding start_of refused_of
start_state g = by (ltb 15 g)
  where
    by : (b : Bool) → (cond b (refused_of (none_held g)) (record { state = none_held g; notes = notes_of []; answer = Ok tt })).state ≡ none_held g
    by true = refl
    by false = refl

-- ---- a call

abbrev state_as : ℕ → List ℕ → HeldNotes
state_as g held = record { group = g; held = held }

abbrev given_as : HeldNotes → Notes → Result ⊤ Refusal → Given
given_as s notes answer = record { state = s; notes = notes; answer = answer }

-- what is given, by its parts
given_is : (r : Given) (g : ℕ) (held : List ℕ) (notes : Notes) (answer : Result ⊤ Refusal) → r.state.group ≡ g → r.state.held ≡ held → r.notes ≡ notes → r.answer ≡ answer
    → r ≡ given_as (state_as g held) notes answer
given_is r g held notes answer a b c d =
    ap₂ (λ (x : HeldNotes) (y : Notes). given_as x y r.answer) (ap₂ state_as a b) c ∙ ap (λ (x : Result ⊤ Refusal). given_as (state_as g held) notes x) d

module _ (s : HeldNotes) (call : Call) where
  answer_refused : 15 < s.group → answer_of s call ≡ refused_of s
  unfolding answer_of
  answer_refused h = ap (λ (b : Bool). cond b (refused_of s) (done_of s call)) (lt-ltb 15 s.group h)

  answer_done : s.group ≤ 15 → answer_of s call ≡ done_of s call
  unfolding answer_of
  answer_done h = ap (λ (b : Bool). cond b (refused_of s) (done_of s call)) (le-ltb 15 s.group h)

-- ---- by what the stream answered

module _ (s : HeldNotes) (r : Given) where
  pub by_span : {l m : Option SeqRange} → l ≡ m → Follows s (is_loss m) (silenced m) r → Follows s (is_loss l) (silenced l) r
  by_span e f = subst (λ (x : Option SeqRange). Follows s (is_loss x) (silenced x) r) (sym e) f

  pub refuses : (call : Call) → 15 < s.group → r ≡ refused_of s → r ≡ answer_of s call
  refuses call h e = e ∙ sym (answer_refused s call h)

  module _ (w : Words r.state.held) where
    pub answers : (call : Call) → s.group ≤ 15 → Follows s (silences call) (moments_of call) r → r ≡ answer_of s call
    unfolding done_of
    answers call h f =
        let held = set_is r.state.held w (λ (k : ℕ). held_through s.group k (has s.held k) (moments_of call)) f.held in
        given_is r _ _ _ _ f.group held f.notes f.answer ∙ sym (answer_done s call h)

    pub by_event : {e d : Result (Option StreamEvent) Refusal} → e ≡ d → s.group ≤ 15 → Follows s (silences (told d)) (moments_of (told d)) r → r ≡ answer_of s (told e)
    by_event e h f = answers (told _) h f ∙ ap (λ (x : Result (Option StreamEvent) Refusal). answer_of s (told x)) (sym e)

    pub by_hearing : (ws : List ℕ) {e d : Result Delivery Refusal} → e ≡ d → s.group ≤ 15 → Follows s (silences (delivered d ws)) (moments_of (delivered d ws)) r
        → r ≡ answer_of s (delivered e ws)
    by_hearing ws e h f = answers (delivered _ ws) h f ∙ ap (λ (x : Result Delivery Refusal). answer_of s (delivered x ws)) (sym e)

pub by_class : (s r : Given) (ms : List (List ℕ)) {c d : Class} → c ≡ d → Plays s (handed d ms) r → Plays s (handed c ms) r
by_class s r ms e f = subst (λ (x : Class). Plays s (handed x ms) r) (sym e) f

pub plays_none : (s : Given) → Plays s [] s
plays_none s = record { group = refl; held = λ k. refl; notes = refl; answer = λ e. e }

-- ---- one after the other

pub follows_plays : (s : HeldNotes) (b : Bool) (ms ns : List Moment) (f r : Given) → Follows s b ms f → Plays f ns r → Follows s b (ms ++ ns) r
follows_plays s b ms ns f r p q = record {
  group = q.group ∙ p.group;
  held = λ k.
      q.held k
      ∙ ap (λ (g : ℕ). held_through g k (has f.state.held k) ns) p.group
      ∙ ap (λ (y : Bool). held_through s.group k y ns) (p.held k)
      ∙ sym (through_append s.group k ms ns (has s.held k));
  notes = q.notes ∙ p.notes;
  answer = q.answer p.answer;
}

-- ---- all calls

kept : (g : ℕ) → g ≤ 15 → (t : List Call) → ((left_by g t).group ≡ g) × ((k : ℕ) → k < all_notes → has (left_by g t).held k ≡ held_in g k t)
unfolding done_of
kept g h [] =
    (ap (λ (s : HeldNotes). s.group) (start_state g), λ k l. ap (λ (s : HeldNotes). has s.held k) (start_state g) ∙ none_held_lem g [] k ∙ after_silence g k (has [] k))
kept g h (c ∷ t) = next (kept g h t)
  where
    s : HeldNotes
    s = left_by g t

    next : (s.group ≡ g) × ((k : ℕ) → k < all_notes → has s.held k ≡ held_in g k t)
        → ((answer_of s c).state.group ≡ g) × ((k : ℕ) → k < all_notes → has (answer_of s c).state.held k ≡ held_through g k (held_in g k t) (moments_of c))
    next i =
        let done = answer_done s c (let e = i.0 in omega arith) in (
          ap (λ (r : Given). r.state.group) done ∙ i.0,
          λ k l.
              ap (λ (r : Given). has r.state.held k) done
              ∙ set_has (λ (j : ℕ). held_through s.group j (has s.held j) (moments_of c)) k l
              ∙ ap (λ (n : ℕ). held_through n k (has s.held k) (moments_of c)) i.0
              ∙ ap (λ (b : Bool). held_through g k b (moments_of c)) (i.1 k l),
        )

given_held : (g : ℕ) (t : List Call) (s : HeldNotes) → ((k : ℕ) → k < all_notes → has s.held k ≡ held_in g k t) → (b : Bool) → given_by b s.held ≡ cond b (list_in g t) (notes_of [])
unfolding given_by list_of list_in
given_held g t s e true = notes_cong (has s.held) (λ (k : ℕ). held_in g k t) all_notes e
given_held g t s e false = refl

pub held_kept : HeldKept
unfolding done_of
held_kept g h t =
    let i = kept g h t in
    record {
      group = i.0;
      held = i.1;
      given = λ c. ap (λ (r : Given). r.notes) (answer_done (left_by g t) c (let e = i.0 in omega arith)) ∙ given_held g t (left_by g t) i.1 (silences c);
    }

pub held_refused : HeldRefused
unfolding refused_of
held_refused g h = (sym (start_refused g (refused_of (none_held g)) h refl), λ t c. ap (λ (s : HeldNotes). answer_of s c) (stays t) ∙ answer_refused (none_held g) c h)
  where
    stays : (t : List Call) → left_by g t ≡ none_held g
    stays [] = start_state g
    stays (c ∷ t) = ap (λ (s : HeldNotes). (answer_of s c).state) (stays t) ∙ ap (λ (r : Given). r.state) (answer_refused (none_held g) c h)
