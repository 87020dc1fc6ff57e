-- The data commands of one payload, among all that were written.
use Prim.Native.Nat.{ℕ, suc, ◌<◌}
use mathlib.Core.Path.{◌≡◌, refl, sym, ◌∙◌}
use mathlib.Core.Logic.{◌⊎◌, inl, inr}
use mathlib.Core.Bool.{true, false, cond}
use mathlib.Core.List.{List, [], ◌∷◌, ◌++◌, append_assoc, append-nil, Memᴰ}
use native.Mathlib.Omega.{arith}
use lib.Dec.{eqb}
use lib.ListN.{length, get_or, length-append, get_or-append}
use lib.Seq.{get_or_at}
use Rattle.config.specs.inner.Tests.{split, tests, lifts}
use Rattle.delivery.specs.Commands.{Command}
use Rattle.delivery.specs.Positions.{position}
use Rattle.delivery.specs.Console.{Tag, tagged, commands, position_of}
use Rattle.delivery.proofs.Wires.{Sent, now, earlier, onto}

-- those of payload k, in order
abbrev pub on : ℕ → List Tag → List Command
on k [] = []
on k (g ∷ w) = cond (eqb k g.payload) (on k w ++ (g.what ∷ [])) (on k w)

-- each has the index that it has among them
abbrev pub Indexed : List Tag → Type 0
Indexed [] = Unit {0}
Indexed (g ∷ w) = (g.index ≡ length (on g.payload w)) × Indexed w

pub same_payload : (k : ℕ) → eqb k k ≡ true
same_payload k = omega (arith, lifts)

-- ---- the i-th of payload k: a write added it, at its position

abbrev pub no_command : Command
no_command = record { number = 0; words = [] }

pub record Found (w : List Tag) (k i : ℕ) (c : Command) : Type 0 where
  pub added : Memᴰ (record { payload = k; index = i; what = c }) w
  pub sent : Sent (commands w) c (position_of w k i)

module _ (g : Tag) (w : List Tag) (k i : ℕ) where
  found_here : eqb k g.payload ≡ true → eqb i g.index ≡ true → Found (g ∷ w) k i g.what
  found_here e f =
      let p : k ≡ g.payload = omega (arith, tests) in
      let n : i ≡ g.index = omega (arith, tests) in
      let here : position_of (g ∷ w) k i ≡ position (commands w) g.what = simp (e, f) in
      let same : ◌≡◌ {A = Tag} (record { payload = k; index = i; what = g.what }) g = rw (p, n) in
      record { added = Memᴰ.head same; sent = rw here (now (commands w) g.what) }

  found_earlier : (c : Command) → position_of (g ∷ w) k i ≡ position_of w k i → Found w k i c → Found (g ∷ w) k i c
  found_earlier c e f = record { added = Memᴰ.tail f.added; sent = rw e (earlier g.what f.sent) }

  position_other : eqb k g.payload ≡ false → position_of (g ∷ w) k i ≡ position_of w k i
  position_other e = rw e

  position_below : eqb i g.index ≡ false → position_of (g ∷ w) k i ≡ position_of w k i
  position_below f = elim (split (eqb k g.payload)) [ inl e ↦ simp (e, f) | inr e ↦ rw e ]

pub on_found : (w : List Tag) (k i : ℕ) → Indexed w → i < length (on k w) → Found w k i (get_or (on k w) i no_command)
on_found [] k i x l = absurd (let z : ⊥ = omega arith in z)
on_found (g ∷ w) k i x l = go (split (eqb k g.payload)) (on_found w k i x.1)
  where
    go : (eqb k g.payload ≡ true) ⊎ (eqb k g.payload ≡ false) → (i < length (on k w) → Found w k i (get_or (on k w) i no_command))
        → Found (g ∷ w) k i (get_or (on k (g ∷ w)) i no_command)
    go (inr e) rest = rw e (found_earlier g w k i (get_or (on k w) i no_command) (position_other g w k i e) (rest (rw e at l)))
    go (inl e) rest =
        let kp : k ≡ g.payload = omega (arith, tests) in
        let m : i < length (on k w ++ (g.what ∷ [])) = rw e at l in
        let n : g.index ≡ length (on k w) = rw kp x.0 in
        elim (split (eqb i g.index)) [
          | inl f ↦ rw (e, get_or_at (on k w) g.what [] no_command i (omega (arith, tests))) (found_here g w k i e f)
          | inr f ↦
              let j : i < length (on k w) = omega (arith, tests, length-append (on k w) (g.what ∷ [])) in
              rw (e, get_or-append (on k w) (g.what ∷ []) no_command i j)
              (found_earlier g w k i (get_or (on k w) i no_command) (position_below g w k i f) (rest j))
        ]

-- ---- those of one write

on_other : (k j i : ℕ) (cs : List Command) (w : List Tag) → eqb k j ≡ false → on k (tagged j i cs w) ≡ on k w
on_other k j i [] w e = refl
on_other k j i (c ∷ cs) w e = on_other k j (suc i) cs (record { payload = j; index = i; what = c } ∷ w) e ∙ rw e

on_same : (k j i : ℕ) (cs : List Command) (w : List Tag) → eqb k j ≡ true → on k (tagged j i cs w) ≡ on k w ++ cs
on_same k j i [] w e = sym (append-nil (on k w))
on_same k j i (c ∷ cs) w e = on_same k j (suc i) cs (record { payload = j; index = i; what = c } ∷ w) e ∙ rw e (append_assoc (on k w) (c ∷ []) cs)

pub on_tagged : (k j i : ℕ) (cs : List Command) (w : List Tag) → on k (tagged j i cs w) ≡ cond (eqb k j) (on k w ++ cs) (on k w)
on_tagged k j i cs w = elim (split (eqb k j)) [ inl e ↦ rw e (on_same k j i cs w e) | inr e ↦ rw e (on_other k j i cs w e) ]

pub indexed_tagged : (k i : ℕ) (cs : List Command) (w : List Tag) → Indexed w → i ≡ length (on k w) → Indexed (tagged k i cs w)
indexed_tagged k i [] w x e = x
indexed_tagged k i (c ∷ cs) w x e =
    indexed_tagged k (suc i) cs (record { payload = k; index = i; what = c } ∷ w) (e, x)
    (rw (same_payload k) (omega (arith, length-append (on k w) (c ∷ []))))

pub commands_tagged : (k i : ℕ) (cs : List Command) (w : List Tag) → commands (tagged k i cs w) ≡ onto cs (commands w)
commands_tagged k i [] w = refl
commands_tagged k i (c ∷ cs) w = commands_tagged k (suc i) cs (record { payload = k; index = i; what = c } ∷ w)
