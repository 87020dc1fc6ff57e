-- The written payload j holds the commands of the positions from j - R to j.
use Prim.Native.Nat.{ℕ, zero, suc, ◌+◌, ◌-◌, ◌%◌, ◌≤◌, ◌<◌, min}
use mathlib.Core.Path.{◌≡◌, refl, ap, sym, subst, ◌∙◌}
use mathlib.Core.Logic.{◌⊎◌, inl, inr}
use mathlib.Core.Bool.{true, false, cond}
use mathlib.Core.List.{List, [], ◌∷◌, ◌++◌}
use native.Mathlib.Omega.{arith}
use lib.Dec.{eqb}
use lib.ListN.{length, get_or, length-append, get_or-append}
use lib.Seq.{get_or_at, get_or-append_seam}
use Rattle.config.specs.Sequence.{turn}
use Rattle.config.specs.inner.Tests.{split, tests, lifts}
use Rattle.window.specs.Arrival.{reach}
use Rattle.delivery.specs.Commands.{Command, data_of}
use Rattle.delivery.specs.Positions.{opens, contents, numbered}
use Rattle.delivery.specs.Console.{Lent, bytes, Entry, queued, wrote, stood, noted, Tag, held, added, tagged, written, commands, positions}
use Rattle.delivery.specs.Repeats.{commands_from, last_of, Brought, nothing, one, Brings, written_payloads, SentAs}
use Rattle.delivery.proofs.Lists.{length_none}
use Rattle.delivery.proofs.Wires.{onto, onto_append, copy_opens_not}
use Rattle.delivery.proofs.Tags.{on, Indexed, on_tagged, same_payload, commands_tagged}
use Rattle.delivery.proofs.Lent.{Once, Payloads}

-- ---- commands from a position on

commands_more : (C D : List (List ℕ)) (l p : ℕ) → p + l ≤ length C → commands_from (C ++ D) p l ≡ commands_from C p l
commands_more C D zero p h = refl
commands_more C D (suc l) p h = rw (get_or-append C D [] p (omega arith), commands_more C D l (suc p) (omega arith))

commands_last : (C : List (List ℕ)) (l p : ℕ) → commands_from C p (suc l) ≡ commands_from C p l ++ (numbered (p + l) (get_or C (p + l) []) ∷ [])
commands_last C zero p = let e : p + 0 ≡ p = omega arith in rw e
commands_last C (suc l) p =
    let e : p + suc l ≡ suc p + l = omega arith in
    rw e (ap (λ (cs : List Command). numbered p (get_or C p []) ∷ cs) (commands_last C l (suc p)))

pub length_from : (C : List (List ℕ)) (l p : ℕ) → length (commands_from C p l) ≡ l
length_from C zero p = refl
length_from C (suc l) p = ap suc (length_from C l (suc p))

-- the last R, and one new command
commands_one : (R : ℕ) (C : List (List ℕ)) (ws : List ℕ)
    → commands_from (C ++ (ws ∷ [])) (length C - R) (suc (min R (length C))) ≡ last_of R C ++ (numbered (length C) ws ∷ [])
commands_one R C ws =
    let n : length C - R + min R (length C) ≡ length C = omega arith in
    commands_last (C ++ (ws ∷ [])) (min R (length C)) (length C - R)
    ∙ rw (n, get_or-append_seam C ws [] [], commands_more C (ws ∷ []) (min R (length C)) (length C - R) (omega arith))

-- ---- repeats open no position

module _ (C : List (List ℕ)) where
  repeats_open_none : (l p : ℕ) (w : List Command) → p + l ≤ length (contents w) → length (contents w) ≤ p + (reach + 1)
      → contents (onto (commands_from C p l) w) ≡ contents w
  repeats_open_none zero p w h m = refl
  repeats_open_none (suc l) p w h m =
      let o : opens (length (contents w)) (p % turn) ≡ false = copy_opens_not (length (contents w)) p (omega arith) (omega arith) in
      let same : contents (numbered p (get_or C p []) ∷ w) ≡ contents w = rw o in
      repeats_open_none l (suc p) (numbered p (get_or C p []) ∷ w) (rw same (omega arith)) (rw same (omega arith)) ∙ same

one_opens : (R : ℕ) → R ≤ reach + 1 → (w : List Command) (ws : List ℕ)
    → contents (onto (last_of R (contents w) ++ (numbered (length (contents w)) ws ∷ [])) w) ≡ contents w ++ (ws ∷ [])
unfolding opens
one_opens R r w ws =
    let C : List (List ℕ) = contents w in
    let same : contents (onto (last_of R C) w) ≡ C = repeats_open_none C (min R (length C)) (length C - R) w (omega arith) (omega arith) in
    let new : eqb (length C % turn) (length C % turn) ≡ true = same_payload (length C % turn) in
    rw (onto_append (last_of R C) (numbered (length C) ws ∷ []) w, same, new)

-- ---- the tags of one write

indexed_tail : (k i : ℕ) (cs : List Command) (w : List Tag) → Indexed (tagged k i cs w) → Indexed w
indexed_tail k i [] w h = h
indexed_tail k i (c ∷ cs) w h = (indexed_tail k (suc i) cs (record { payload = k; index = i; what = c } ∷ w) h).1

indexed_first : (k i : ℕ) (c : Command) (cs : List Command) (w : List Tag) → Indexed (tagged k i (c ∷ cs) w) → i ≡ length (on k w)
indexed_first k i c cs w h = (indexed_tail k (suc i) cs (record { payload = k; index = i; what = c } ∷ w) h).0

-- ---- each written payload

pub record Each (R : ℕ) (names : List ℕ) (w : List Tag) : Type 0 where
  pub count : length names ≡ length (contents (commands w))
  pub holds : (j : ℕ) → j < length names → on (get_or names j 0) w ≡ commands_from (contents (commands w)) (j - R) (suc (min R j))

module _ (R : ℕ) (few : R ≤ reach + 1) where
  -- a payload that holds nothing is none of them
  another : (names : List ℕ) (w : List Tag) (k : ℕ) → on k w ≡ [] → Each R names w → (j : ℕ) → j < length names → eqb (get_or names j 0) k ≡ false
  another names w k none h j l = elim (split (eqb (get_or names j 0) k)) [
    | inl e ↦
        let q : get_or names j 0 ≡ k = omega (arith, tests) in
        let z : ⊥ = omega (arith, ap length (sym (h.holds j l) ∙ ap (λ (x : ℕ). on x w) q ∙ none)) in absurd z
    | inr e ↦ e
  ]

  -- a write of the last R and one new command
  each_more : (names : List ℕ) (w : List Tag) (k i : ℕ) (ws : List ℕ) (cs : List Command) → cs ≡ last_of R (contents (commands w)) ++ (numbered (length (contents (commands w))) ws ∷ [])
      → on k w ≡ [] → Each R names w → Each R (names ++ (k ∷ [])) (tagged k i cs w)
  each_more names w k i ws cs e none h =
      let C : List (List ℕ) = contents (commands w) in
      let n : ℕ = length C in
      let after : contents (commands (tagged k i cs w)) ≡ C ++ (ws ∷ []) = rw (commands_tagged k i cs w, e) (one_opens R few (commands w) ws) in
      let m = length-append C (ws ∷ []) in
      let l = length-append names (k ∷ []) in
      record {
        count = rw after (omega (arith, h.count));
        holds = λ j b. subst (λ (D : List (List ℕ)). on (get_or (names ++ (k ∷ [])) j 0) (tagged k i cs w) ≡ commands_from D (j - R) (suc (min R j))) (sym after)
            (rw (on_tagged (get_or (names ++ (k ∷ [])) j 0) k i cs w) (elim (split (eqb j n)) [
              | inl q ↦
                  let at_n : j ≡ n = omega (arith, tests) in
                  let name : get_or (names ++ (k ∷ [])) j 0 ≡ k = get_or_at names k [] 0 j (omega (arith, h.count)) in
                  rw (name, same_payload k, none, e, at_n) (sym (commands_one R C ws))
              | inr q ↦
                  let m : j < length names = omega (arith, tests, h.count) in
                  let name : get_or (names ++ (k ∷ [])) j 0 ≡ get_or names j 0 = get_or-append names (k ∷ []) 0 j m in
                  rw (name, another names w k none h j m, commands_more C (ws ∷ []) (suc (min R j)) (j - R) (omega (arith, h.count))) (h.holds j m)
            ]));
      }

  each : (t : List Entry) → Brings R t → Indexed (written t) → Each R (written_payloads t) (written t)
  each [] b x = record { count = refl; holds = λ j l. absurd (let z : ⊥ = omega arith in z) }
  each (queued cfg ws a ∷ t) b x = each t b x
  each (stood k v ∷ t) b x = each t b x
  each (noted ∷ t) b x = each t b x
  each (wrote k u v a ∷ t) b x = by b.0 (added u v) refl x (each t b.1)
    where
      by : Brought R (positions t) u v → (cs : List Command) → added u v ≡ cs → Indexed (tagged k (held u) cs (written t)) → (Indexed (written t) → Each R (written_payloads t) (written t))
          → Each R (cond (eqb (length cs) 0) (written_payloads t) (written_payloads t ++ (k ∷ []))) (tagged k (held u) cs (written t))
      by o [] e x rest = rest x
      by (nothing z) (c ∷ cs) e x rest = absurd (let y : ⊥ = omega (arith, ap length (sym e ∙ z)) in y)
      by (one none ws d) (c ∷ cs) e x rest =
          let some : eqb (length (c ∷ cs)) 0 ≡ false = omega (arith, lifts) in
          let empty : on k (written t) ≡ [] = length_none (on k (written t)) (omega (arith, indexed_first k (held u) c cs (written t) x)) in
          rw some (each_more (written_payloads t) (written t) k (held u) ws (c ∷ cs) (sym e ∙ rw none d) empty (rest (indexed_tail k (held u) (c ∷ cs) (written t) x)))

-- ---- as it is sent

brings_once : (R : ℕ) (t : List Entry) → Brings R t → Once t
brings_once R [] b = tt
brings_once R (queued cfg ws a ∷ t) b = brings_once R t b
brings_once R (stood k v ∷ t) b = brings_once R t b
brings_once R (noted ∷ t) b = brings_once R t b
brings_once R (wrote k u v a ∷ t) b = (by b.0, brings_once R t b.1)
  where
    by : Brought R (positions t) u v → (added u v ≡ []) ⊎ (held u ≡ 0)
    by (nothing z) = inl z
    by (one none ws d) = inr none

module _ (R : ℕ) (few : R ≤ reach + 1) (vs : List Lent) (t : List Entry) (i : Payloads vs (written t) t) (b : Brings R t) where
  pub one_each : length (written_payloads t) ≡ length (positions t)
  one_each = (each R few t b i.indexed).count

  pub written_many : (j : ℕ) → j < length (written_payloads t) → length (on (get_or (written_payloads t) j 0) (written t)) ≡ suc (min R j)
  written_many j l = ap length ((each R few t b i.indexed).holds j l) ∙ length_from (positions t) (suc (min R j)) (j - R)

  -- the written payload j, whenever it is sent: positions from j - R to j
  pub sent_holds : (j : ℕ) (v : Lent) → SentAs t j v → data_of (bytes v) ≡ commands_from (positions t) (j - R) (suc (min R j))
  sent_holds j v s = by (i.once (brings_once R t b) (get_or (written_payloads t) j 0) v s.was_so)
    where
      by : (data_of (bytes v) ≡ []) ⊎ (data_of (bytes v) ≡ on (get_or (written_payloads t) j 0) (written t)) → data_of (bytes v) ≡ commands_from (positions t) (j - R) (suc (min R j))
      by (inl none) = absurd (let z : ⊥ = omega (arith, s.since, ap length none) in z)
      by (inr all) = all ∙ (each R few t b i.indexed).holds j s.is_written
