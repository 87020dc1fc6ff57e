-- What a sender wrote: each command has the number and the words of its position.
use Prim.Native.Nat.{ℕ, suc, ◌+◌, ◌-◌, ◌%◌, ◌≤◌, ◌<◌}
use mathlib.Core.Path.{◌≡◌, refl, ap, sym, ◌∙◌}
use mathlib.Core.Bool.{true, false}
use mathlib.Core.List.{List, [], ◌∷◌, ◌++◌, append_assoc, append-nil}
use native.Mathlib.Omega.{arith}
use lib.ListN.{length, get_or, length-append, get_or-append}
use lib.Seq.{get_or-append_seam}
use Rattle.config.specs.Sequence.{turn, ahead}
use Rattle.config.specs.inner.Tests.{lifts}
use Rattle.delivery.specs.Commands.{Command}
use Rattle.delivery.specs.Positions.{opens, contents, newest_with, position, numbered}

-- a command was written at a position; the newest command stands first
pub data Sent : List Command → Command → ℕ → Type 0 where
  now : (w : List Command) (k : Command) → Sent (k ∷ w) k (position w k)
  earlier : {w : List Command} {k : Command} {p : ℕ} (j : Command) → Sent w k p → Sent (j ∷ w) k p

-- it is that of its position
pub record At (C : List (List ℕ)) (k : Command) (p : ℕ) : Type 0 where
  pub below : p < length C
  pub is : k ≡ numbered p (get_or C p [])

-- the commands written are those of the positions C
pub record Wire (C : List (List ℕ)) (w : List Command) : Type 0 where
  pub positions : contents w ≡ C
  pub sent : (k : Command) (p : ℕ) → Sent w k p → At C k p

pub wire_empty : Wire [] []
wire_empty = record { positions = refl; sent = none }
  where
    none : (k : Command) (p : ℕ) → Sent [] k p → At [] k p
    none k p h = elim h [ ]

-- ---- one command more

sent_more : (C D : List (List ℕ)) (w : List Command) (j : Command) → ((k : Command) (p : ℕ) → Sent w k p → At C k p) → ((k : Command) (p : ℕ) → At C k p → At D k p)
    → At D j (position w j) → (k : Command) (p : ℕ) → Sent (j ∷ w) k p → At D k p
sent_more C D w j old keeps new k p (now v i) = new
sent_more C D w j old keeps new k p (earlier i h) = keeps k p (old k p h)

-- a position that is there, not over 32,768 behind the next: the command is read as its copy
module _ (n p : ℕ) (l : p < n) (m : n ≤ p + 32768) where
  pub copy_opens_not : opens n (p % turn) ≡ false
  unfolding opens
  copy_opens_not = omega (arith, lifts)

  copy_newest : newest_with n (p % turn) ≡ p
  unfolding newest_with
  copy_newest = let e : ahead (p % turn) ((n - 1) % turn) ≡ n - 1 - p = omega arith in rw e (omega arith)

module _ (C : List (List ℕ)) (w : List Command) (i : Wire C w) where
  pub wire_copy : (p : ℕ) → p < length C → length C ≤ p + 32768 → Wire C (numbered p (get_or C p []) ∷ w)
  unfolding position
  wire_copy p l m =
      let o = copy_opens_not (length C) p l m in
      record {
        positions = rw (i.positions, o);
        sent = sent_more C C w (numbered p (get_or C p [])) i.sent (λ k q h. h) (rw (i.positions, o, copy_newest (length C) p l m) record { below = l; is = refl });
      }

  next_opens : opens (length C) (length C % turn) ≡ true
  unfolding opens
  next_opens = omega (arith, lifts)

  at_more : (ws : List ℕ) (k : Command) (p : ℕ) → At C k p → At (C ++ (ws ∷ [])) k p
  at_more ws k p h = record {
    below = omega (arith, length-append C (ws ∷ []), h.below);
    is = h.is ∙ ap (numbered p) (sym (get_or-append C (ws ∷ []) [] p h.below));
  }

  pub wire_next : (ws : List ℕ) → Wire (C ++ (ws ∷ [])) (numbered (length C) ws ∷ w)
  unfolding position
  wire_next ws = record {
    positions = rw (i.positions, next_opens);
    sent = sent_more C (C ++ (ws ∷ [])) w (numbered (length C) ws) i.sent (at_more ws)
        (rw (i.positions, next_opens) record { below = omega (arith, length-append C (ws ∷ [])); is = rw (get_or-append_seam C ws [] []) });
  }

-- ---- several commands more

-- commands, oldest first, written after others
abbrev pub onto : List Command → List Command → List Command
onto [] w = w
onto (c ∷ cs) w = onto cs (c ∷ w)

pub onto_append : (cs ds w : List Command) → onto (cs ++ ds) w ≡ onto ds (onto cs w)
onto_append [] ds w = refl
onto_append (c ∷ cs) ds w = onto_append cs ds (c ∷ w)

-- those of positions from p on
abbrev pub numbered_from : ℕ → List (List ℕ) → List Command
numbered_from p [] = []
numbered_from p (ws ∷ wss) = numbered p ws ∷ numbered_from (suc p) wss

pub wire_nexts : (wss C : List (List ℕ)) (w : List Command) → Wire C w → Wire (C ++ wss) (onto (numbered_from (length C) wss) w)
wire_nexts [] C w i = rw append-nil i
wire_nexts (ws ∷ wss) C w i =
    let n : length (C ++ (ws ∷ [])) ≡ suc (length C) = rw (length-append C (ws ∷ [])) (omega arith) in
    rw (append_assoc C (ws ∷ []) wss, n) at (wire_nexts wss (C ++ (ws ∷ [])) (numbered (length C) ws ∷ w) (wire_next C w i ws))
