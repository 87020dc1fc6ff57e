-- The first sentence of demand 3, along the line between a console's log and a chamber's.
use Prim.Native.Nat.{ℕ, zero, suc, ◌+◌, ◌-◌, ◌≤◌, ◌<◌, max}
use Rattle.std.proofs.Common.{Option, Ok}
use Rattle.window.specs.declared.window.SeqRange.{SeqRange}
use mathlib.Core.Path.{◌≡◌, refl, ap, sym, ◌∙◌}
use mathlib.Core.Logic.{◌⊎◌, inl, inr, ◌↔◌}
use mathlib.Core.Bool.{true, ◌&&◌}
use mathlib.Core.List.Memᴰ
use mathlib.Core.List.{List, [], ◌∷◌, ◌++◌, append_assoc, append-nil, Memᴰ}
use native.Mathlib.Omega.{arith}
use lib.Dec.{ltb, eqb}
use lib.ListN.{length, get_or, length-append}
use lib.Seq.{get_or-append_seam}
use Rattle.config.specs.inner.Tests.{split, tests, and_right}
use Rattle.config.specs.declared.settings.StreamConfig.{StreamConfig}
use Rattle.command.specs.Messages.{whole_of, words_in}
use Rattle.window.specs.Arrival.{reach}
use Rattle.window.specs.declared.window.Class.{Class}
use Rattle.receiver.specs.declared.receiver.Delivery.{Delivery}
use Rattle.receiver_log.specs.Calls.{Entry as Heard, data_entry}
use Rattle.receiver_log.specs.Log.{Report, heard, report_of, reports, origin, place, high, hands, times}
use Rattle.receiver_log.specs.Promise.{Promise}
use Rattle.config.specs.inner.Choices.{never}
use Rattle.receiver_log.proofs.Runs.{receiver_promise}
use Rattle.delivery.specs.Commands.{Command, data_of}
use Rattle.delivery.specs.Console.{Lent, bytes, Console, Entry, accepted, written, positions, position_of, Was}
use Rattle.delivery.specs.Chamber.{is_heard, delivered, joined, listed, handed_on, handed_by_position, AllHanded}
use Rattle.delivery.specs.Sentence.{highest, Line, fresh, hear, pass, Safe, ByPosition, Run, sent_log, heard_log, heard_in, Holds, Copy, Sentence, Contract, HandedWords}
use Rattle.delivery.proofs.Lists.{all_at, length_none}
use Rattle.delivery.proofs.Sound.{Sound}
use Rattle.delivery.proofs.Wires.{At}
use Rattle.delivery.proofs.Tags.{on, no_command, Found, on_found}
use Rattle.delivery.proofs.Consoles.{Good, console_good}
use Rattle.delivery.proofs.Performance.{same_positions}
use Rattle.delivery.proofs.Chambers.{read_position, whole_handed, Same, unheard_same, no_loss_lost, once_each, joined_is, listed_is, joined_add, joined_none}

module _ (words places : ℕ) (d : Console) (t : List Entry) (i : Good words places d t) where
  -- ---- what the console's log says

  -- a command that is found in a payload's bytes was added by a write
  heard_found : (k : ℕ) (v : Lent) → Was t k v → (before behind : List Command) (s : Command) → data_of (bytes v) ≡ before ++ (s ∷ behind)
      → Found (written t) k (length before) s
  heard_found k v w before behind s e =
      let pr = i.payloads.past k v w in
      let all : on k (written t) ≡ before ++ (s ∷ (behind ++ pr.0)) =
      pr.1 ∙ ap (λ (z : List Command). z ++ pr.0) e ∙ append_assoc before (s ∷ behind) pr.0 in
      let l : length before < length (on k (written t)) = omega (arith, ap length all, length-append before (s ∷ (behind ++ pr.0))) in
      let here : get_or (on k (written t)) (length before) no_command ≡ s = rw all (get_or-append_seam before s (behind ++ pr.0) no_command) in
      rw here at (on_found (written t) k (length before) i.payloads.indexed l)

  -- and is that of its position
  found_at : (k j : ℕ) (s : Command) → Found (written t) k j s → At (positions t) s (position_of (written t) k j)
  found_at k j s f = rw i.agrees.wire.positions (i.agrees.wire.sent s (position_of (written t) k j) f.sent)

  -- the words of each position are whole messages
  whole_at : (p : ℕ) → p < length (positions t) → whole_of (get_or (positions t) p []) ≡ true
  whole_at p l =
      let e = i.agrees.wire.positions in
      rw e (all_at Sound (i.agrees.gone ++ i.book.written) p [] (rw e at l) i.agrees.old).whole

  copy_of : (k : ℕ) (v : Lent) → Was t k v → (before behind : List Command) (s : Command) → data_of (bytes v) ≡ before ++ (s ∷ behind) → Copy t k (length before) s
  copy_of k v w before behind s e =
      let f = heard_found k v w before behind s e in
      let a = found_at k (length before) s f in
      let ws : s.words ≡ get_or (positions t) (position_of (written t) k (length before)) [] = ap (λ (x : Command). x.words) a.is in
      record {
        added = f.added;
        below = a.below;
        number = ap (λ (x : Command). x.number) a.is;
        words = ws;
        all_handed = whole_handed s.words (rw ws (whole_at _ a.below));
      }

  -- all is written
  written_words : length (words_in (positions t)) ≡ length (accepted t) → words_in (positions t) ≡ accepted t
  written_words e =
      let w : words_in (positions t) ++ words_in i.book.unwritten ≡ accepted t = rw i.agrees.wire.positions i.agrees.words in
      let none : words_in i.book.unwritten ≡ [] = length_none _ (omega (arith, ap length w, length-append (words_in (positions t)) (words_in i.book.unwritten))) in
      sym (append-nil (words_in (positions t))) ∙ rw none at w

  -- ---- along the line

  -- the receiver's highest is that of the positions heard; a place handed on once holds the words of its position, any other holds nothing
  record Right (q : List Report) (ps : List ℕ) : Type 0 where
    top : high q ≡ highest ps
    none : (x : ℕ) → times q x ≡ 0 → delivered q x ≡ []
    one : (x : ℕ) → times q x ≡ 1 → delivered q x ≡ get_or (positions t) (x - origin) []
    nowhere_else : (x : ℕ) → (x < origin) ⊎ (origin + length (positions t) ≤ x) → times q x ≡ 0
    below : (p : ℕ) → Memᴰ p ps → p < length (positions t)

  right_fresh : Right [] []
  right_fresh = record {
    top = refl;
    none = λ x e. refl;
    one = λ x e. absurd (let y : ⊥ = omega arith in y);
    nowhere_else = λ x b. refl;
    below = λ p m. absurd (Memᴰ.not-nil m);
  }

  below_more : (p : ℕ) (ps : List ℕ) → p < length (positions t) → ((r : ℕ) → Memᴰ r ps → r < length (positions t)) → (r : ℕ) → Memᴰ r (p ∷ ps) → r < length (positions t)
  below_more p ps l old r h = by (Memᴰ.cases_cons h)
    where
      by : (r ≡ p) ⊎ Memᴰ r ps → r < length (positions t)
      by (inl e) = omega arith
      by (inr m) = old r m

  right_heard : (q : List Report) (ps : List ℕ) → Right q ps → (s : Command) (p : ℕ) → At (positions t) s p → origin + p ≤ highest ps + reach → highest ps ≤ origin + p + (reach + 1)
      → (k : Class) (l : Option SeqRange) → Right (heard s.number s.words k l ∷ q) (p ∷ ps)
  right_heard q ps r s p a m n k l =
      let here : place (high q) s.number ≡ origin + p = rw (r.top, a.is) (read_position (highest ps) p m n) in
      record {
        top = rw (here, r.top);
        none = λ x. elim (split (hands k && eqb x (place (high q) s.number))) [
          | inl h ↦ rw h (λ z. absurd (let y : ⊥ = omega arith in y))
          | inr h ↦ rw h (r.none x)
        ];
        one = λ x. elim (split (hands k && eqb x (place (high q) s.number))) [
          | inl h ↦ rw h (λ z.
              let e : eqb x (place (high q) s.number) ≡ true = and_right (hands k) _ h in
              let at_p : x - origin ≡ p = omega (arith, tests) in
              rw (r.none x (omega arith), at_p, a.is))
          | inr h ↦ rw h (r.one x)
        ];
        nowhere_else = λ x b. elim (split (hands k && eqb x (place (high q) s.number))) [
          | inl h ↦
              let e : eqb x (place (high q) s.number) ≡ true = and_right (hands k) _ h in
              let z : ⊥ = outside x (omega (arith, tests)) b in absurd z
          | inr h ↦ rw h (r.nowhere_else x b)
        ];
        below = below_more p ps a.below r.below;
      }
    where
      outside : (x : ℕ) → x ≡ origin + p → (x < origin) ⊎ (origin + length (positions t) ≤ x) → ⊥
      outside x e (inl b) = omega arith
      outside x e (inr b) = omega (arith, a.below)

  right_same : (q u : List Report) (ps : List ℕ) → Right q ps → Same q u → Right u ps
  right_same q u ps r s = record {
    top = s.top ∙ r.top;
    none = λ x e. s.words x ∙ r.none x (sym (s.count x) ∙ e);
    one = λ x e. s.words x ∙ r.one x (sym (s.count x) ∙ e);
    nowhere_else = λ x b. s.count x ∙ r.nowhere_else x b;
    below = r.below;
  }

  right : {q : List Heard} {ps : List ℕ} → Line t q ps → Right (reports q) ps
  right fresh = right_fresh
  right (hear {q = q} {ps = ps} r k v w before behind s e p at_p m n cfg time f) =
      right_heard (reports q) ps (right r) s p (rw at_p (found_at k (length before) s (heard_found k v w before behind s e))) (omega (arith, m)) (omega (arith, n)) f.class f.lost
  right (pass {q = q} {ps = ps} r e x) = right_same (reports q) (report_of e ∷ reports q) ps (right r) (unheard_same e (reports q) x)

  -- of each command heard, the program hands on all words or none
  all_handed : {q : List Heard} {ps : List ℕ} → Line t q ps → (cfg : StreamConfig) (time seq : ℕ) (ws : List ℕ) (d : Delivery)
      → Memᴰ (data_entry cfg time seq ws (Ok d)) q → AllHanded d.class ws
  all_handed fresh cfg time seq ws d h = absurd (Memᴰ.not-nil h)
  all_handed (hear {q = q} r k v w before behind s e p at_p m n cfg₀ now₀ f) cfg time seq ws d h = by (Memᴰ.cases_cons h) (λ y. all_handed r cfg time seq ws d y)
    where
      by : (data_entry cfg time seq ws (Ok d) ≡ data_entry cfg₀ now₀ s.number s.words (Ok f)) ⊎ Memᴰ (data_entry cfg time seq ws (Ok d)) q
          → (Memᴰ (data_entry cfg time seq ws (Ok d)) q → AllHanded d.class ws) → AllHanded d.class ws
      by (inl x) rest = let same : ws ≡ s.words = cc in rw same ((copy_of k v w before behind s e).all_handed d.class)
      by (inr y) rest = rest y
  all_handed (pass {q = q} r e x) cfg time seq ws d h = by (Memᴰ.cases_cons h) (λ y. all_handed r cfg time seq ws d y)
    where
      by : (data_entry cfg time seq ws (Ok d) ≡ e) ⊎ Memᴰ (data_entry cfg time seq ws (Ok d)) q
          → (Memᴰ (data_entry cfg time seq ws (Ok d)) q → AllHanded d.class ws) → AllHanded d.class ws
      by (inl y) rest = absurd (never (ap is_heard (sym y)) x)
      by (inr y) rest = rest y

-- ---- the highest of the positions heard

highest_least : (ps : List ℕ) → origin - 1 ≤ highest ps
highest_least [] = omega arith
highest_least (p ∷ ps) = omega (arith, highest_least ps)

highest_heard : (p : ℕ) (ps : List ℕ) → Memᴰ p ps → origin + p ≤ highest ps
highest_heard p [] m = absurd (Memᴰ.not-nil m)
highest_heard p (r ∷ ps) m = by (Memᴰ.cases_cons m) (highest_heard p ps)
  where
    by : (p ≡ r) ⊎ Memᴰ p ps → (Memᴰ p ps → origin + p ≤ highest ps) → origin + p ≤ max (highest ps) (origin + r)
    by (inl e) rest = omega arith
    by (inr n) rest = omega (arith, rest n)

highest_below : (n : ℕ) (ps : List ℕ) → ((p : ℕ) → Memᴰ p ps → p < n) → highest ps ≤ origin - 1 + n
highest_below n [] h = omega arith
highest_below n (p ∷ ps) h = omega (arith, highest_below n ps (λ r m. h r (Memᴰ.tail m)), h p (Memᴰ.head refl))

highest_reached : (n : ℕ) (ps : List ℕ) → (0 < n → Memᴰ (n - 1) ps) → ((p : ℕ) → Memᴰ p ps → p < n) → highest ps ≡ origin - 1 + n
highest_reached zero ps m h = omega (arith, highest_least ps, highest_below zero ps h)
highest_reached (suc n) ps m h = omega (arith, highest_heard (suc n - 1) ps (m (omega arith)), highest_below (suc n) ps h)

-- ---- handed on, joined and position by position

module _ (C : List (List ℕ)) (q : List Report) (d : ByPosition C q) (none : (x : ℕ) → times q x ≡ 0 → delivered q x ≡ []) where
  handed_joined : handed_on q ≡ words_in C
  unfolding handed_on
  handed_joined =
      let n : suc (high q) ≡ origin + length C = omega (arith, d.top) in
      let low : joined (delivered q) 0 origin ≡ [] = joined_none (delivered q) origin 0 (λ y l. none y (d.nowhere_else y (inl (omega arith)))) in
      ap (joined (delivered q) 0) n ∙ joined_add (delivered q) origin (length C) 0
      ∙ ap (λ (a : List ℕ). a ++ joined (delivered q) origin (length C)) low
      ∙ joined_is (delivered q) C origin d.same

  pub handed_listed : handed_by_position q ≡ C
  unfolding handed_by_position
  handed_listed =
      let n : suc (high q) - origin ≡ length C = omega (arith, d.top) in
      ap (listed (delivered q) origin) n ∙ listed_is (delivered q) C origin d.same

-- ---- the sentence

promise : (u : Run) → Promise u.window (heard_in u)
promise u = receiver_promise u.window (omega (arith, u.least)) (omega (arith, u.most)) u.arrivals u.typed

pub good : (u : Run) → (d : Console) × Good u.words u.places d (sent_log u)
good u = console_good u.words u.places u.ring₀ u.started u.calls u.allowed

on_line : (u : Run) (ps : List ℕ) → Line (sent_log u) (heard_log u) ps → Right u.words u.places (good u).0 (sent_log u) (good u).1 (heard_in u) ps
on_line u ps line = right u.words u.places (good u).0 (sent_log u) (good u).1 line

safe : (u : Run) (ps : List ℕ) → Line (sent_log u) (heard_log u) ps → Safe (positions (sent_log u)) (heard_in u)
safe u ps line =
    let r = on_line u ps line in
    let pr = promise u in
    record {
      once = λ p l. elim (split (ltb (high (heard_in u)) (origin + p))) [
        | inl e ↦ omega (arith, pr.nothing_above (origin + p) (omega (arith, tests)))
        | inr e ↦ pr.once (origin + p) (omega arith) (omega (arith, tests))
      ];
      same = λ p l one. let e : origin + p - origin ≡ p = omega arith in rw e at (r.one (origin + p) one);
      nowhere_else = r.nowhere_else;
    }

by_position : (u : Run) → Holds u → ByPosition (positions (sent_log u)) (heard_in u)
by_position u h =
    let r = on_line u h.0 h.1.line in
    let n : ℕ = length (positions (sent_log u)) in
    let top : high (heard_in u) ≡ origin - 1 + n = r.top ∙ highest_reached n h.0 h.1.newest_heard r.below in
    let each : (p : ℕ) → p < n → times (heard_in u) (origin + p) ≡ 1 =
    λ p l. once_each u.window (heard_in u) (promise u) (no_loss_lost (heard_in u) h.1.no_loss) h.1.nothing_missing (origin + p) (omega arith) (omega arith) in
    record {
      top = top;
      once = each;
      same = λ p l. let e : origin + p - origin ≡ p = omega arith in rw e at (r.one (origin + p) (each p l));
      nowhere_else = r.nowhere_else;
    }

words_are : (u : Run) → Holds u → words_in (positions (sent_log u)) ≡ accepted (sent_log u)
words_are u h = written_words u.words u.places (good u).0 (sent_log u) (good u).1 h.1.all_written

all_joined : (u : Run) → Holds u → handed_on (heard_in u) ≡ accepted (sent_log u)
all_joined u h =
    handed_joined (positions (sent_log u)) (heard_in u) (by_position u h) (on_line u h.0 h.1.line).none
    ∙ words_are u h

all_listed : (u : Run) → Holds u → handed_by_position (heard_in u) ≡ positions (sent_log u)
all_listed u h = handed_listed (positions (sent_log u)) (heard_in u) (by_position u h) (on_line u h.0 h.1.line).none

-- two that equal two others are equal exactly when these are
both : {A : Type 0} {a b c d : A} → c ≡ a → d ≡ b → (a ≡ b) ↔ (c ≡ d)
both p q = (λ e. p ∙ e ∙ sym q, λ e. sym p ∙ e ∙ q)

across : {A B C : Type 0} → A ↔ B → B ↔ C → A ↔ C
across f g = (λ a. g.0 (f.0 a), λ c. f.1 (g.1 c))

pub sentence : Sentence
sentence = record {
  copies = λ u. copy_of u.words u.places (good u).0 (sent_log u) (good u).1;
  safe = safe;
  by_position = by_position;
  joined = all_joined;
  equal = λ u v h k. both (all_joined u h) (all_joined v k);
  listed = all_listed;
  equal_by_position = λ u v h k. both (all_listed u h) (all_listed v k);
  performances = λ u v h k. across (same_positions (sent_log u) (sent_log v) (words_are u h) (words_are v k)) (both (all_listed u h) (all_listed v k));
}

pub contract : Contract
contract = record { first = sentence; second = receiver_promise }

pub handed_words_lem : HandedWords
handed_words_lem u ps line = all_handed u.words u.places (good u).0 (sent_log u) (good u).1 line
