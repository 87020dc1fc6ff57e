-- Why a held note was not released: its on was handed on at a place, and what was handed on above that place came later and left it held.
use Prim.Native.Nat.{ℕ, ◌≤◌, ◌<◌, max}
use Rattle.std.proofs.Common.{Option, Some, None, Ok, Err}
use Rattle.window.specs.declared.window.SeqRange.{SeqRange}
use mathlib.Core.Path.{◌≡◌, refl, sym, ◌∙◌}
use mathlib.Core.Logic.{inl, inr}
use mathlib.Core.Bool.{Bool, true, false, cond, ◌&&◌, ◌||◌}
use mathlib.Core.List.{List, [], ◌∷◌, ◌++◌}
use native.Mathlib.Omega.{arith}
use lib.Dec.{eqb}
use Rattle.config.specs.inner.Tests.{split, lifts}
use Rattle.config.specs.inner.Choices.{never, unless}
use Rattle.command.specs.Messages.{messages_of}
use Rattle.window.specs.declared.window.Class.{Class}
use Rattle.window.specs.declared.window.Class.TheVariants.{New, Late, Duplicate}
use Rattle.receiver_log.specs.Calls.{Entry, data_entry, poll_entry, error_entry, nak_entry, take_entry}
use Rattle.receiver_log.specs.Log.{Report, heard, told, loss_of, loss_in, reports, place, high, hands, hands_on, in_loss, lost}
use Rattle.held_notes.specs.Calls.{silenced, handed, held_through, held_in}
use Rattle.held_notes.proofs.Moments.{after_silence, through_append, play, play_append, play_any, late_held, late_play}
use Rattle.held_log.specs.Log.{calls_of}

-- ---- what is asked of a receiver's log

-- a New command is above all before
abbrev pub Rises : ℕ → Report → Type 0
Rises highest (heard seq ws (New gap) l) = highest < place highest seq
Rises highest (heard seq ws Late l) = Unit {0}
Rises highest (heard seq ws Duplicate l) = Unit {0}
Rises highest (told l) = Unit {0}

-- a loss lies wholly at or below the highest
abbrev pub LossBelow : ℕ → Option SeqRange → Type 0
LossBelow highest l = (x : ℕ) → in_loss highest l x ≡ true → x ≤ highest

abbrev pub Sound : List Report → Type 0
Sound [] = Unit {0}
Sound (r ∷ t) = Rises (high t) r × LossBelow (high (r ∷ t)) (loss_of r) × Sound t

-- ---- places

-- the messages handed on at a place, in order of time
abbrev pub heard_at : List Report → ℕ → List (List ℕ)
heard_at [] x = []
heard_at (heard seq ws c l ∷ t) x = cond (hands_on (high t) (heard seq ws c l) x) (heard_at t x ++ (messages_of ws).whole) (heard_at t x)
heard_at (told l ∷ t) x = heard_at t x

pub none_above : (t : List Report) (x : ℕ) → high t < x → heard_at t x ≡ []
none_above [] x h = refl
none_above (told l ∷ t) x h = none_above t x h
none_above (heard seq ws c l ∷ t) x h =
    let e : eqb x (place (high t) seq) ≡ false = omega (arith, lifts) in
    rw (e, no (hands c)) (none_above t x (omega arith))
  where
    no : (y : Bool) → (y && false) ≡ false
    no true = refl
    no false = refl

raises : (r : Report) (t : List Report) → high t ≤ high (r ∷ t)
raises (heard seq ws c l) t = omega arith
raises (told l) t = omega arith

either : (a b : Bool) → a ≡ false → b ≡ false → (a || b) ≡ false
either a b e f = rw (e, f)

unlost_above : (t : List Report) → Sound t → (x : ℕ) → high t < x → lost t x ≡ false
unlost_above [] s x h = refl
unlost_above (r ∷ t) s x h =
    either (in_loss (high (r ∷ t)) (loss_of r) x) (lost t x)
    (unless (in_loss (high (r ∷ t)) (loss_of r) x) (λ e. let z = s.1 x e in omega arith))
    (unlost_above t s.2 x (omega (arith, raises r t)))

-- ---- standing

module _ (g k : ℕ) where
  pub record Standing (t : List Report) : Type 0 where
    pub at : ℕ
    pub reached : at ≤ high t
    pub on : play g k false (heard_at t at) ≡ true
    pub above : (x : ℕ) → at < x → play g k true (heard_at t x) ≡ true
    pub unlost : (x : ℕ) → at < x → lost t x ≡ false

  -- a call that tells something
  after_told : (l : Option SeqRange) (b : Bool) (t : List Report) → (b ≡ true → Standing t) → held_through g k b (silenced l) ≡ true → Standing (told l ∷ t)
  after_told None b t f e =
      let s = f e in
      record { at = s.at; reached = s.reached; on = s.on; above = s.above; unlost = s.unlost }
  after_told (Some range) b t f e = absurd (never e (after_silence g k b))

  module _ (seq : ℕ) (ws : List ℕ) (t : List Report) where
    abbrev ms : List (List ℕ)
    ms = (messages_of ws).whole

    also_held : (test b : Bool) (xs : List (List ℕ)) → play g k b xs ≡ true → play g k true ms ≡ true → play g k b (cond test (xs ++ ms) xs) ≡ true
    also_held true b xs e f = play_append g k xs ms b ∙ rw e f
    also_held false b xs e f = e

    -- the messages leave it held
    keeps : (c : Class) → play g k true ms ≡ true → Standing t → Standing (heard seq ws c None ∷ t)
    keeps c e s = record {
      at = s.at;
      reached = let h = s.reached in omega arith;
      on = also_held (hands_on (high t) (heard seq ws c None) s.at) false (heard_at t s.at) s.on e;
      above = λ x h. also_held (hands_on (high t) (heard seq ws c None) x) true (heard_at t x) (s.above x h) e;
      unlost = s.unlost;
    }

    repeated : Standing t → Standing (heard seq ws Duplicate None ∷ t)
    repeated s = record { at = s.at; reached = let h = s.reached in omega arith; on = s.on; above = s.above; unlost = s.unlost }

    -- an on among them
    struck : (gap : ℕ) (l : Option SeqRange) → Sound (heard seq ws (New gap) l ∷ t) → play g k false ms ≡ true → Standing (heard seq ws (New gap) l ∷ t)
    struck gap l s e =
        let q = place (high t) seq in
        let h : high t < q = s.0 in
        record {
          at = q;
          reached = omega arith;
          on =
              let y : eqb q q ≡ true = omega (arith, lifts) in
              rw y (play_append g k (heard_at t q) ms false ∙ play_any g k ms (play g k false (heard_at t q)) e);
          above = λ x m.
              let y : eqb x q ≡ false = omega (arith, lifts) in
              rw (y, none_above t x (omega arith));
          unlost = λ x m.
              either (in_loss (max (high t) q) l x) (lost t x)
              (unless (in_loss (max (high t) q) l x) (λ i. let z = s.1 x i in omega arith))
              (unlost_above t s.2 x (omega arith));
        }

    -- neither an on that stays nor a loss: it was held before
    still : (gap : ℕ) → play g k false ms ≡ false → (l : Option SeqRange) (b : Bool) → (b ≡ true → Standing t) → play g k (held_through g k b (silenced l)) ms ≡ true
        → Standing (heard seq ws (New gap) l ∷ t)
    still gap o None true f e = keeps (New gap) e (f refl)
    still gap o None false f e = absurd (never e o)
    still gap o (Some range) b f e = absurd (never e (rw (after_silence g k b) o))

    after_heard : (c : Class) (l : Option SeqRange) (b : Bool) → Sound (heard seq ws c l ∷ t) → (b ≡ true → Standing t)
        → held_through g k (held_through g k b (silenced l)) (handed c ms) ≡ true → Standing (heard seq ws c l ∷ t)
    after_heard (New gap) l b s f e = elim (split (play g k false ms)) [
      | inl o ↦ struck gap l s o
      | inr o ↦ still gap o l b f e
    ]
    after_heard Late None b s f e =
        let h : b ≡ true = late_held g k ms b e in
        keeps Late (late_play g k ms (rw h at e)) (f h)
    after_heard Late (Some range) b s f e = absurd (never (late_held g k ms (held_through g k b (silenced (Some range))) e) (after_silence g k b))
    after_heard Duplicate None b s f e = repeated (f e)
    after_heard Duplicate (Some range) b s f e = absurd (never e (after_silence g k b))

  pub standing : (log : List Entry) → Sound (reports log) → held_in g k (calls_of log) ≡ true → Standing (reports log)
  standing [] s e = absurd (never e refl)
  standing (data_entry c time seq ws (Ok d) ∷ t) s e =
      after_heard seq ws (reports t) d.class d.lost (held_in g k (calls_of t)) s (standing t s.2)
      (sym (through_append g k (silenced d.lost) (handed d.class (messages_of ws).whole) (held_in g k (calls_of t))) ∙ e)
  standing (data_entry c time seq ws (Err why) ∷ t) s e = after_told None (held_in g k (calls_of t)) (reports t) (standing t s.2) e
  standing (poll_entry c time a ∷ t) s e = after_told (loss_in a) (held_in g k (calls_of t)) (reports t) (standing t s.2) e
  standing (error_entry q a ∷ t) s e = after_told (loss_in a) (held_in g k (calls_of t)) (reports t) (standing t s.2) e
  standing (nak_entry a ∷ t) s e = after_told (loss_in a) (held_in g k (calls_of t)) (reports t) (standing t s.2) e
  standing (take_entry c p b a q d ∷ t) s e = after_told None (held_in g k (calls_of t)) (reports t) (standing t s.2) e
