-- A receiver's log from its start or from a restart on: each held note stands there.
use Prim.Native.Nat.{ℕ, ◌≤◌, ◌<◌}
use mathlib.Core.Path.{◌≡◌, refl, ap, sym, ◌∙◌, subst}
use mathlib.Core.Logic.{◌⊎◌, inl, inr}
use mathlib.Core.Bool.{Bool, true, false}
use mathlib.Core.List.{List, [], ◌∷◌, ◌++◌, append-nil, append_assoc}
use native.Mathlib.Omega.{arith}
use lib.Dec.{ltb, eqb}
use Rattle.config.specs.inner.Choices.{never}
use Rattle.config.specs.inner.Tests.{split, tests}
use Rattle.window.specs.Set.{max_window}
use Rattle.receiver_log.specs.Calls.{Entry, Typed, AllTyped}
use Rattle.receiver_log.specs.Calls as Chamber
use Rattle.receiver_log.specs.Log.{Report, reports, origin, times, lost, Missing}
use Rattle.receiver_log.specs.Answers.{answer_of, said_of}
use Rattle.receiver_log.specs.Promise.{Promise, log_of, ReceiverPromise, Answered}
use Rattle.delivery.specs.Sentence.{heard_log, heard_in, Contract, HandedWords}
use Rattle.held_notes.specs.Calls.{Call, restarted, moments_of, held_through, held_in}
use Rattle.held_notes.proofs.Moments.{after_silence, play}
use Rattle.held_log.specs.Log.{calls_of, since}
use Rattle.held_log.specs.Theorems.{leaves_held, whole_in, handed_at, HeldHandedOn, HeldAccepted, Unreleased, HeldUnreleased}
use Rattle.held_log.proofs.Standing.{Sound, Standing, standing, heard_at}
use Rattle.held_log.proofs.Positions.{unheard, handed_messages, once_at_most, all_whole, standing_in_order, standing_joined}
use Rattle.held_log.proofs.Sound.{next_sound}

-- ---- the log of every list of calls

said_more : (W : ℕ) (a : List Chamber.Call) (c : Chamber.Call) (t : List Entry) → said_of W t (a ++ (c ∷ [])) ≡ answer_of W (said_of W t a) c ∷ said_of W t a
unfolding said_of
said_more W [] c t = refl
said_more W (b ∷ a) c t = said_more W a c (answer_of W t b ∷ t)

typed_more : (a : List Chamber.Call) (c : Chamber.Call) → AllTyped a → Typed c → AllTyped (a ++ (c ∷ []))
typed_more [] c p q = (q, tt)
typed_more (b ∷ a) c p q = (p.0, typed_more a c p.1 q)

module _ (answers : Answered) (promise : ReceiverPromise) (W : ℕ) (least : 1 ≤ W) (most : W ≤ max_window) where
  promised : (calls : List Chamber.Call) → AllTyped calls → Promise W (reports (said_of W [] calls))
  promised calls l = subst (λ (t : List Entry). Promise W (reports t)) (answers W least most calls l).whole (promise W least most calls l)

  sound_after : (calls done : List Chamber.Call) → AllTyped done → AllTyped calls → Sound (reports (said_of W [] done)) → Sound (reports (said_of W [] (done ++ calls)))
  sound_after [] done p q s = rw (append-nil done) s
  sound_after (c ∷ calls) done p q s =
      let n = next_sound W most (said_of W [] done) (promised done p) c in
      let m : Sound (reports (said_of W [] (done ++ (c ∷ [])))) = rw (said_more W done c []) (n.0, n.1, s) in
      rw (append_assoc done (c ∷ []) calls) at (sound_after calls (done ++ (c ∷ [])) (typed_more done c p q.0) q.1 m)

  pub log_sound : (calls : List Chamber.Call) → AllTyped calls → Sound (reports (log_of W calls))
  unfolding said_of
  log_sound calls l = rw (answers W least most calls l).whole (sound_after calls [] tt l tt)

-- ---- a restart

-- what was before it doesn't matter
since_start : (g k : ℕ) (t : List Call) (before : List Call) → held_in g k (t ++ (restarted ∷ before)) ≡ held_in g k t
since_start g k [] before = after_silence g k (held_in g k before)
since_start g k (c ∷ t) before = ap (λ (b : Bool). held_through g k b (moments_of c)) (since_start g k t before)

pub stretch_standing : Answered → ReceiverPromise → (W : ℕ) → 1 ≤ W → W ≤ max_window → (g k : ℕ) (calls : List Chamber.Call) → AllTyped calls → (before : List Call)
    → held_in g k (since (log_of W calls) before) ≡ true → Standing g k (reports (log_of W calls))
stretch_standing answers promise W least most g k calls l before e =
    standing g k (log_of W calls) (log_sound answers promise W least most calls l) (sym (since_start g k (calls_of (log_of W calls)) before) ∙ e)

-- ---- the theorems

pub held_handed_on : Answered → ReceiverPromise → HeldHandedOn
held_handed_on answers promise W g k least most calls l before e =
    standing_in_order W g k (reports (log_of W calls)) (promise W least most calls l) (stretch_standing answers promise W least most g k calls l before e)

pub held_accepted : Answered → Contract → HandedWords → HeldAccepted
held_accepted answers contract whole g k u h before e =
    ap (λ (ws : List ℕ). leaves_held g k false (whole_in ws)) (sym (contract.first.joined u h))
    ∙ standing_joined g k (heard_in u) (all_whole (heard_log u) (whole u h.0 h.1.line))
    (stretch_standing answers contract.second u.window u.least u.most g k u.arrivals u.typed before e)

module _ (W g k : ℕ) (t : List Report) (p : Promise W t) (s : Standing g k t) where
  -- its on has a position
  from_0 : origin ≤ s.at
  from_0 = elim (split (ltb s.at origin)) [
    | inl e ↦
        let n = unheard s.at t (p.nothing_before s.at (omega (arith, tests))) in
        absurd (never s.on (ap (λ (ms : List (List ℕ)). play g k false ms) n))
    | inr e ↦ omega (arith, tests)
  ]

  missing_above : (x : ℕ) → s.at < x → (lost t x ≡ true) ⊎ Missing W t x → Missing W t x
  missing_above x h (inl e) = absurd (never e (s.unlost x h))
  missing_above x h (inr m) = m

  same : (x : ℕ) (b : Bool) → play g k b (handed_at t x) ≡ play g k b (heard_at t x)
  same x b = ap (λ (ms : List (List ℕ)). play g k b ms) (handed_messages x t (once_at_most W t p x))

  standing_unreleased : Unreleased W g k t
  standing_unreleased = record {
    place = s.at;
    reached = s.reached;
    on = same s.at false ∙ s.on;
    above = λ x h l. elim (split (eqb (times t x) 0)) [
      | inl e ↦ inr (missing_above x h (p.accounted x (omega (arith, from_0)) l (omega (arith, tests))))
      | inr e ↦
          inl (omega (arith, tests, p.once x (omega (arith, from_0)) l), same x true ∙ s.above x h)
    ];
  }

pub held_unreleased : Answered → ReceiverPromise → HeldUnreleased
held_unreleased answers promise W g k least most calls l before e =
    standing_unreleased W g k (reports (log_of W calls)) (promise W least most calls l)
    (stretch_standing answers promise W least most g k calls l before e)
