-- An idle command follows the book.
use mathlib.Core.Path.{◌≡◌, refl, sym, ap, ◌∙◌, subst}
use Rattle.std.proofs.Common.{Option, Some, None}
use mathlib.Core.Bool.{Bool, true, false, cond, not, ◌||◌}
use mathlib.Core.List.{List, [], ◌∷◌}
use Prim.Native.Nat.{ℕ, suc}
use native.Mathlib.Omega.{arith}
use borrow.Author.Tests.{ltb-false, lt-ltb}
use lib.Dec.{ltb}
use lib.ListN.{length, length-append}
use Rattle.config.specs.declared.settings.StreamConfig.{StreamConfig}
use Rattle.history.specs.Entries.{size}
use Rattle.history.specs.Push.{pushed}
use Rattle.history.proofs.Flat.{size_append, size_one}
use Rattle.idle.specs.Schedule.{idle_next}
use Rattle.idle.specs.declared.idle.Idle.{Idle}
use Rattle.idle.proofs.Steps.{next_ok}
use Rattle.sender.specs.Queueing.{holding}
use Rattle.writing.specs.Writing.{with_idle, idled_by, idled_of}
use Rattle.sender.specs.declared.sender.Sender.{Sender}
use Rattle.sender_log.specs.Book.{Book, freed, pushed_in}
use Rattle.sender_log.specs.Writes.{is_empty, with_idle as with_timer, idled_by as idled_by_in, idled_in}
use Rattle.sender_log.specs.Calls.{TypedConfig}
use Rattle.sender_log.proofs.Held.{pushed_held}
use Rattle.sender_log.proofs.Ties.{Follows, follows_held}

pub some_left : (us : List (List ℕ)) → not (is_empty us) ≡ ltb 0 (length us)
some_left [] = refl
some_left (u ∷ us) = sym (lt-ltb 0 (suc (length us)) (omega arith))

pub size_none : (us : List (List ℕ)) → length us ≡ 0 → size us ≡ 0
unfolding size
size_none [] e = refl
size_none (u ∷ us) e = absurd (let z : ⊥ = omega arith in z)

module _ (c q : ℕ) (s : Sender) (ring : List ℕ) (b : Book) (f : Follows c q s ring b) (cfg : StreamConfig) (typed : TypedConfig cfg) (time : ℕ) where
  -- an idle command comes in when nothing is unwritten
  queued_idle : (i : Idle) → s.unsent ≡ 0
      → Follows c q (with_idle (holding s (pushed s.history ring []).0 1 1) (idle_next cfg time i)) (pushed s.history ring []).1 (with_timer (pushed_in c [] b) (idle_next cfg time i))
  unfolding pushed_in freed
  queued_idle i e =
      let l : length b.unwritten ≡ 0 = sym f.unsent ∙ e in
      let z = size_none b.unwritten l in
      let a = pushed_held c s.history ring b (follows_held c q s ring b f) [] (omega arith) (omega (arith, f.least)) in
      record {
        least = f.least;
        most = f.most;
        one_place = f.one_place;
        few_places = f.few_places;
        words = a.words;
        places = f.places;
        holds = a.holds;
        oldest = a.oldest;
        unsent = omega (arith, f.unsent, length-append b.unwritten ([] ∷ []));
        unsent_words = omega (arith, f.unsent_words, size_append b.unwritten ([] ∷ []), size_one []);
        fit = f.fit;
        items = f.items;
        requests = f.requests;
        idle = refl;
        step = next_ok cfg time i (omega (arith, typed.0)) (omega (arith, typed.1));
      }

  abbrev Idles : Sender × List ℕ → Book → Type 0
  Idles h a = Follows c q h.0 h.1 a

  idled_by_lem : (i : Option Idle) → Idles (idled_by s cfg time ring i) (idled_by_in c cfg time b i)
  idled_by_lem None = f
  idled_by_lem (Some i) =
      let e : not (is_empty b.unwritten) ≡ ltb 0 s.unsent = some_left b.unwritten ∙ ap (ltb 0) (sym f.unsent) in
      subst (λ (x : Bool). Idles (idled_by s cfg time ring (Some i)) (cond (x || ltb time i.due) b (with_timer (pushed_in c [] b) (idle_next cfg time i)))) (sym e)
      (on (ltb 0 s.unsent) refl (ltb time i.due))
    where
      on : (x : Bool) → ltb 0 s.unsent ≡ x → (y : Bool) → Idles
          (cond (x || y) (s, ring) (with_idle (holding s (pushed s.history ring []).0 1 1) (idle_next cfg time i), (pushed s.history ring []).1))
          (cond (x || y) b (with_timer (pushed_in c [] b) (idle_next cfg time i)))
      on true e y = f
      on false e true = f
      on false e false = queued_idle i (omega (arith, ltb-false 0 s.unsent e))

  pub idled_follows : Follows c q (idled_of s cfg time ring).0 (idled_of s cfg time ring).1 (idled_in c cfg time b)
  unfolding idled_of idled_in
  idled_follows = subst (λ (i : Option Idle). Idles (idled_by s cfg time ring s.idle) (idled_by_in c cfg time b i)) f.idle (idled_by_lem s.idle)
