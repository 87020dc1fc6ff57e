-- Where a write walks from: where it begins, and after words were queued, where the commands that stay keep their places.
use mathlib.Core.Path.{◌≡◌, refl, sym, ap, ◌∙◌}
use Rattle.std.proofs.Common.{Result, Ok, Err}
use Rattle.config.specs.declared.refusal.Refusal.{Refusal}
use Rattle.std.specs.Bool.{⊤}
use mathlib.Core.Bool.{Bool, true, false, cond}
use mathlib.Core.List.{List, [], ◌∷◌, ◌++◌, append-nil}
use Prim.Native.Nat.{ℕ, zero, suc, ◌+◌, ◌-◌, ◌≤◌, ◌<◌, max}
use native.Mathlib.Omega.{arith}
use lib.ListN.{length, take, get_or, length-append}
use lib.Seq.{take-suc, take-length, take-append-le}
use lib.Dec.{ltb, eqb}
use borrow.Author.Tests.{lt-ltb, le-ltb, ltb-false, eq-eqb, ne_eqb}
use Rattle.config.specs.Settings.{tested}
use Rattle.config.specs.Sequence.{turn}
use Rattle.config.specs.declared.refusal.Refusal.TheVariants.{Full}
use Rattle.history.specs.Ring.{slot_of}
use Rattle.history.specs.Headers.{length_at, next_at, header_at}
use Rattle.history.specs.State.{Good, Marks, oldest_mark}
use Rattle.history.specs.Queue.{request}
use Rattle.history.specs.Push.{pop_one, popped, grown, pushed, longer, appended}
use Rattle.history.specs.Entries.{size, Short, entries_of, Holds, kept}
use Rattle.history.specs.declared.history.Mark.{Mark}
use Rattle.history.specs.declared.history.SendHistory.{SendHistory}
use Rattle.history.proofs.Walk.{header_first}
use Rattle.history.proofs.Room.{good_header}
use Rattle.history.proofs.Past.{mark_oldest}
use Rattle.history.proofs.Entries.{good_holds, holds_index, holds_length_at}
use Rattle.history.proofs.Effects.{holds_popped, holds_pushed, holds_appended}
use Rattle.history.proofs.States.{state_good}
use Rattle.sender.specs.State.{valid_of}
use Rattle.fronts.specs.Commands.{behind}
use Rattle.sender.specs.Queueing.{room_of, joining, further, need_of, joined_to, pushed_all, queued_to, sent, unsent, queued_of, words_check, placed_of, sent_of}
use Rattle.sender.specs.Requests.{written_count, index_of}
use Rattle.writing.specs.Placing.{begins_of, gone_by, mark_queued}
use Rattle.sender.specs.declared.sender.Sender.{Sender}
use Rattle.fronts.proofs.Fronts.{Divides, divides_behind}
use Rattle.sender.proofs.Parts.{commands_parts}
use Rattle.sender.proofs.Validity.{valid_good, valid_history, valid_unsent, valid_words}
use Rattle.sender.proofs.Queued.{pushed_good, check_divides, joined_state, joined_number}
use Rattle.sender.proofs.Kept.{ready, need_parts, sent_kept}

-- ---- where a write begins
module _ (s : Sender) (back : ℕ) where
  pub begins_none : s.queue.len ≡ 0 → back ≡ begins_of s back
  unfolding begins_of
  begins_none e = rw (eq-eqb _ _ e)

  module _ (some : s.queue.len ≡ 0 → ⊥) where
    pub begins_short : s.history.count < 8 → back ≡ begins_of s back
    unfolding begins_of
    begins_short l = rw (ne_eqb _ _ some, lt-ltb _ _ l)

    module _ (long : 8 ≤ s.history.count) where
      pub begins_new : s.history.count < s.unsent → back ≡ begins_of s back
      unfolding begins_of
      begins_new l = rw (ne_eqb _ _ some, le-ltb _ _ long) (omega arith)

      pub begins_far : (k : ℕ) → k ≡ index_of s (request s.queue 0).seq → (r : ℕ) → r ≡ max back (written_count s - k) → r ≡ begins_of s back
      unfolding begins_of
      begins_far k e r g = rw (ne_eqb _ _ some, le-ltb _ _ long, ← e) g

-- ---- commands that stay
-- the first k entries stand at the same places in two histories that begin alike
same_place : (h g : SendHistory) (b c : List ℕ) (es fs : List (List ℕ)) → Holds h b es → Holds g c fs → h.size ≡ g.size → h.head ≡ g.head
    → (k : ℕ) → k ≤ h.count → k ≤ g.count → take k es ≡ take k fs → header_at k b h.head ≡ header_at k c g.head
same_place h g b c es fs a d e f k l m t =
    holds_index h b es a k l
    ∙ ap (λ (x : List (List ℕ)). slot_of h.size h.head (size x)) t
    ∙ rw (e, f) (sym (holds_index g c fs d k m))

-- ---- the oldest leave
pub popped_count : (k need : ℕ) (b : List ℕ) (h : SendHistory) → (popped k need b h).count ≤ h.count
unfolding popped pop_one
popped_count zero need b h = omega arith
popped_count (suc k) need b h = by (ltb (h.size - h.used) need) (popped_count k need b (pop_one b h))
  where
    by : (t : Bool) → (popped k need b (pop_one b h)).count ≤ h.count - 1 → (cond t (popped k need b (pop_one b h)) h).count ≤ h.count
    by true r = omega arith
    by false r = omega arith

-- the place of the first of the newest n entries
popped_place : (k need : ℕ) (b : List ℕ) (h : SendHistory) (n : ℕ) → k ≤ h.count → n ≤ (popped k need b h).count
    → header_at ((popped k need b h).count - n) b (popped k need b h).head ≡ header_at (h.count - n) b h.head
unfolding popped pop_one
popped_place zero need b h n l m = refl
popped_place (suc k) need b h n l m = by (ltb (h.size - h.used) need) m (λ q. popped_place k need b (pop_one b h) n (omega arith) q)
  where
    first : n ≤ h.count - 1 → header_at (h.count - 1 - n) b (next_at b h.head) ≡ header_at (h.count - n) b h.head
    first q =
        let z : h.count - 1 - n ≡ h.count - n - 1 = omega arith in
        rw z (sym (header_first (h.count - n) b h.head (omega arith)))

    by : (t : Bool) → n ≤ (cond t (popped k need b (pop_one b h)) h).count
        → (n ≤ (popped k need b (pop_one b h)).count → header_at ((popped k need b (pop_one b h)).count - n) b (popped k need b (pop_one b h)).head ≡ header_at (h.count - 1 - n) b (next_at b h.head))
        → header_at ((cond t (popped k need b (pop_one b h)) h).count - n) b (cond t (popped k need b (pop_one b h)) h).head ≡ header_at (h.count - n) b h.head
    by true q r = r q ∙ first (omega (arith, q, popped_count k need b (pop_one b h)))
    by false q r = refl

-- ---- an entry comes in behind the newest
pub pushed_count : (h : SendHistory) (b ws : List ℕ) → (pushed h b ws).0.count ≤ h.count + 1
unfolding pushed grown
pushed_count h b ws = omega (arith, popped_count h.count (1 + length ws) b h)

pushed_place : (h : SendHistory) (b ws : List ℕ) (es : List (List ℕ)) → Holds h b es → length ws ≤ 64 → (n : ℕ) → n + 1 ≤ (pushed h b ws).0.count
    → header_at ((pushed h b ws).0.count - (n + 1)) (pushed h b ws).1 (pushed h b ws).0.head ≡ header_at (h.count - n) b h.head
unfolding pushed grown size
pushed_place h b ws es a k n m =
    let g : SendHistory = popped h.count (1 + length ws) b h in
    let z : h.size - 0 ≡ h.size = omega arith in
    let p : Holds g b (kept h.size (1 + length ws) es) = rw (← a.many, z, append-nil) at (holds_popped es [] h b (1 + length ws) (rw append-nil (a))) in
    let j : g.count + 1 - (n + 1) ≡ g.count - n = omega arith in
    let f = holds_pushed h b ws es a k in
    let t = take-append-le (g.count - n) (kept h.size (1 + length ws) es) (ws ∷ []) (omega (arith, p.many)) in
    rw j
    (same_place (pushed h b ws).0 g (pushed h b ws).1 b _ _ f p refl refl (g.count - n) (omega arith) (omega arith) t
    ∙ popped_place h.count (1 + length ws) b h n (omega arith) (omega arith))

-- ---- words join the newest
appended_place : (h : SendHistory) (b ws xs : List ℕ) (es : List (List ℕ)) → Holds h b (es ++ (ws ∷ [])) → length ws + length xs ≤ 64
    → (n : ℕ) → 0 < n → n ≤ (appended h b xs).0.count
    → header_at ((appended h b xs).0.count - n) (appended h b xs).1 (appended h b xs).0.head ≡ header_at (h.count - n) b h.head
unfolding appended longer
appended_place h b ws xs es a few n some m =
    let g : SendHistory = popped (h.count - 1) (length xs) b h in
    let rest : List (List ℕ) = kept (h.size - size (ws ∷ [])) (length xs) es in
    let o : h.count - 1 ≡ length es = omega (arith, a.many, length-append es (ws ∷ [])) in
    let p : Holds g b (rest ++ (ws ∷ [])) = rw o (holds_popped es (ws ∷ []) h b (length xs) a) in
    let f = holds_appended h b ws xs es a few in
    let l : g.count - n ≤ length rest = omega (arith, p.many, length-append rest (ws ∷ [])) in
    let t = take-append-le (g.count - n) rest ((ws ++ xs) ∷ []) l ∙ sym (take-append-le (g.count - n) rest (ws ∷ []) l) in
    same_place (appended h b xs).0 g (appended h b xs).1 b _ _ f p refl refl (g.count - n) (omega arith) (omega arith) t
    ∙ popped_place (h.count - 1) (length xs) b h n (omega arith) m

pub joined_count : (h : SendHistory) (b xs : List ℕ) → (joined_to h b xs).0.count ≤ h.count
unfolding joined_to appended longer
joined_count h b [] = omega arith
joined_count h b (x ∷ xs) = popped_count (h.count - 1) (length (x ∷ xs)) b h

module _ (h : SendHistory) (b : List ℕ) (g : Good h b) (o : h.oldest < turn) where
  joined_place : (xs : List ℕ) → (0 < length xs → (0 < h.count) × (length_at b h.last + length xs ≤ 64))
      → (n : ℕ) → (0 < length xs → 0 < n) → n ≤ (joined_to h b xs).0.count
      → header_at ((joined_to h b xs).0.count - n) (joined_to h b xs).1 (joined_to h b xs).0.head ≡ header_at (h.count - n) b h.head
  unfolding joined_to
  joined_place [] ready n some m = refl
  joined_place (x ∷ xs) ready n some m =
      let r = ready (omega arith) in
      let es : List (List ℕ) = entries_of h b in
      let a = good_holds h b g o in
      let newest : List ℕ = get_or es (h.count - 1) [] in
      let s : suc (h.count - 1) ≡ length es = omega (arith, a.many, r.0) in
      let e : es ≡ take (h.count - 1) es ++ (newest ∷ []) = sym (take-length es) ∙ ap (λ (k : ℕ). take k es) (sym s) ∙ take-suc es (h.count - 1) [] (omega arith) in
      let l : length_at b h.last ≡ length newest = rw (g.newest r.0) at (holds_length_at h b es a (h.count - 1) (omega (arith, r.0))) in
      appended_place h b newest (x ∷ xs) (take (h.count - 1) es) (rw e at a) (omega (arith, r.1)) n (some (omega arith)) m

-- ---- and further commands
pub pushed_all_count : (cs : List (List ℕ)) (h : SendHistory) (b : List ℕ) → (pushed_all h b cs).0.count ≤ h.count + length cs
unfolding pushed_all
pushed_all_count [] h b = omega arith
pushed_all_count (c ∷ cs) h b = omega (arith, pushed_count h b c, pushed_all_count cs (pushed h b c).0 (pushed h b c).1)

pushed_all_place : (cs : List (List ℕ)) (h : SendHistory) (b : List ℕ) → Good h b → h.oldest < turn → Short cs → (n : ℕ) → n + length cs ≤ (pushed_all h b cs).0.count
    → header_at ((pushed_all h b cs).0.count - (n + length cs)) (pushed_all h b cs).1 (pushed_all h b cs).0.head ≡ header_at (h.count - n) b h.head
unfolding pushed_all Short
pushed_all_place [] h b g o k n m = let z : n + 0 ≡ n = omega arith in rw z
pushed_all_place (c ∷ cs) h b g o k n m =
    let z : n + suc (length cs) ≡ n + 1 + length cs = omega arith in
    let next = pushed_good h b c g o k.0 in
    let l : n + 1 ≤ (pushed h b c).0.count = omega (arith, pushed_all_count cs (pushed h b c).0 (pushed h b c).1) in
    rw z
    (pushed_all_place cs (pushed h b c).0 (pushed h b c).1 next.0 next.1 k.1 (n + 1) (omega arith)
    ∙ pushed_place h b c (entries_of h b) (good_holds h b g o) k.0 n l)

-- ---- the mark from which a write walks
module _ (s t : Sender) (m : Mark) where
  pub mark_left : m.entry < gone_by s t → oldest_mark t.history ≡ mark_queued s t m
  unfolding mark_queued
  mark_left l = rw (lt-ltb _ _ l)

  pub mark_stays : gone_by s t ≤ m.entry → record { entry = m.entry - gone_by s t; at = m.at } ≡ mark_queued s t m
  unfolding mark_queued
  mark_stays l = rw (le-ltb _ _ l)

-- written commands leave and none comes, and the mark's header stands at the mark's place
abbrev pub Follows : Sender → Mark → Sender → List ℕ → Type 0
Follows s m t ring = (written_count t ≤ written_count s) × Marks t.history ring (mark_queued s t m)

-- an entry as many entries behind the mark
same_entry : (v w m : ℕ) → w ≤ v → m ≤ v → v - w ≤ m → (w - (v - m) ≡ m - (v - w)) × (v - m ≤ w) × (m - (v - w) ≤ w)
same_entry v w m l k n = (omega arith, omega arith, omega arith)

-- of the commands from the mark on, either some have left, and the oldest is the first, or it is known where the first of them stands
mark_known : (s t : Sender) (ring : List ℕ) (m : Mark) → m.entry ≤ written_count s → Good t.history ring → written_count t ≤ written_count s
    → (written_count s - m.entry ≤ written_count t → m.at ≡ header_at (written_count t - (written_count s - m.entry)) ring t.history.head)
    → Follows s m t ring
unfolding mark_queued
mark_known s t ring m l g f known = (f, by (ltb m.entry (gone_by s t)) refl)
  where
    by : (c : Bool) → ltb m.entry (gone_by s t) ≡ c
        → Marks t.history ring (cond c (oldest_mark t.history) (record { entry = m.entry - gone_by s t; at = m.at }))
    by true e = mark_oldest t.history ring g
    by false e =
        let z = same_entry (written_count s) (written_count t) m.entry f l (ltb-false _ _ e) in
        let k : m.at ≡ header_at (m.entry - gone_by s t) ring t.history.head = known z.1 ∙ ap (λ (n : ℕ). header_at n ring t.history.head) z.0 in
        (k, rw k (good_header t.history ring g (m.entry - gone_by s t) (omega (arith, z.2))))

-- the place of the first of r written commands
module _ (s : Sender) (ring : List ℕ) (max : ℕ) (ws : List ℕ) (v : valid_of s ring ≡ true) (few : max ≤ 64) (o : s.history.oldest < turn)
    (r place : ℕ) (known : place ≡ header_at (written_count s - r) ring s.history.head) where
  queued_place : (d : Divides max ws) → need_of s ring max ws ≤ s.history.size - s.unsent_words
      → let q = queued_of s ring max ws in
      valid_of q.0.sender q.1 ≡ true
      → (written_count q.0.sender ≤ written_count s) × (r ≤ written_count q.0.sender → place ≡ header_at (written_count q.0.sender - r) q.1 q.0.sender.history.head)
  unfolding queued_of queued_to
  queued_place d fits after =
      let h = s.history in
      let xs = joining s ring max ws in
      let cs = further s ring max ws in
      let j = joined_to h ring xs in
      let q = pushed_all j.0 j.1 cs in
      let n : ℕ = s.unsent + r in
      let u = valid_unsent s ring v in
      let w = valid_words s ring v in
      let t : s.unsent + length cs ≤ q.0.count = valid_unsent _ _ after in
      let prep = ready s ring max ws v few o d in
      let parts = need_parts s ring max ws v few o d in
      let short = (commands_parts max (behind (room_of s ring max) ws) (divides_behind max (room_of s ring max) ws d) few).1 in
      let st = joined_state h ring s.unsent s.unsent_words (valid_history s ring v) o xs prep (omega arith) in
      let num = joined_number h ring s.unsent s.unsent_words (valid_history s ring v) o xs in
      let more = pushed_all_count cs j.0 j.1 in
      let less = joined_count h ring xs in
      let y : written_count s - r ≡ h.count - n = omega arith in (
        omega arith,
        λ l.
            let x : q.0.count - (s.unsent + length cs) - r ≡ q.0.count - (n + length cs) = omega arith in
            let two = pushed_all_place cs j.0 j.1 (state_good _ _ _ _ st) num short n (omega arith) in
            let one = joined_place h ring (valid_good s ring v) o xs (λ p. (omega (arith, (prep p).0), (prep p).1)) n (λ p. omega (arith, (prep p).0)) (omega arith) in
            rw x (rw y at known ∙ sym one ∙ sym two),
      )

module _ (s : Sender) (ring : List ℕ) (max : ℕ) (ws : List ℕ) (v : valid_of s ring ≡ true) (few : max ≤ 64) (o : s.history.oldest < turn)
    (m : Mark) (a : Marks s.history ring m) (in-written : m.entry ≤ written_count s) where
  known_before : m.at ≡ header_at (written_count s - (written_count s - m.entry)) ring s.history.head
  known_before = let z : written_count s - (written_count s - m.entry) ≡ m.entry = omega arith in rw z a.0

  as_before : Follows s m s ring
  as_before = mark_known s s ring m in-written (valid_good s ring v) (omega arith) (λ _. known_before)

  queued_follows : (d : Divides max ws) → need_of s ring max ws ≤ s.history.size - s.unsent_words
      → let q = queued_of s ring max ws in
      valid_of q.0.sender q.1 ≡ true → Follows s m q.0.sender q.1
  queued_follows d fits after =
      let p = queued_place s ring max ws v few o (written_count s - m.entry) m.at known_before d fits after in
      mark_known s _ _ m in-written (valid_good _ _ after) p.0 p.1

  placed_follows : Divides max ws → let e = placed_of s ring max ws in valid_of e.0.sender e.1 ≡ true → Follows s m e.0.sender e.1
  unfolding placed_of
  placed_follows d = by (ltb (s.history.size - s.unsent_words) (need_of s ring max ws)) refl
    where
      by : (t : Bool) → ltb (s.history.size - s.unsent_words) (need_of s ring max ws) ≡ t
          → let e = cond t (unsent s ring Full) (queued_of s ring max ws) in valid_of e.0.sender e.1 ≡ true → Follows s m e.0.sender e.1
      by true e w = as_before
      by false e w = queued_follows d (ltb-false _ _ e) w

  -- after a queue call, refused or not
  pub sent_follows : let e = sent_of s ring max ws in Follows s m e.0.sender e.1
  unfolding sent_of
  sent_follows = by (eqb (length ws) 0) (words_check max ws) refl (sent_kept s ring max ws v few o)
    where
      by : (t : Bool) (k : Result ⊤ Refusal) → words_check max ws ≡ k
          → let e = cond t (sent s (Ok tt), ring) (tested k (unsent s ring) (placed_of s ring max ws)) in
          valid_of e.0.sender e.1 ≡ true → Follows s m e.0.sender e.1
      by true k e w = as_before
      by false (Err why) e w = as_before
      by false (Ok _) e w = placed_follows (check_divides max ws e) w
