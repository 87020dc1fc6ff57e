-- The newest of the unwritten commands: how many words it still takes, and words that join it.
use mathlib.Core.Path.{◌≡◌, refl, ap}
use mathlib.Core.List.{List, [], ◌∷◌, ◌++◌, append-nil}
use Prim.Native.Nat.{ℕ, suc, ◌+◌, ◌-◌}
use native.Mathlib.Omega.{arith}
use lib.ListN.{length, length-append}
use Rattle.history.specs.Entries.{size}
use Rattle.sender_log.specs.Book.{joined_last, room_in}

-- the newest and those before it
pub record Newest (us : List (List ℕ)) : Type 0 where
  pub before : List (List ℕ)
  pub newest : List ℕ
  pub parts : us ≡ before ++ (newest ∷ [])

pub newest_of : (u : List ℕ) (us : List (List ℕ)) → Newest (u ∷ us)
newest_of u [] = record { before = []; newest = u; parts = refl }
newest_of u (v ∷ vs) =
    let n = newest_of v vs in
    record { before = u ∷ n.before; newest = n.newest; parts = ap (λ (l : List (List ℕ)). u ∷ l) n.parts }

pub joined_newest : (us : List (List ℕ)) (w xs : List ℕ) → joined_last (us ++ (w ∷ [])) xs ≡ us ++ ((w ++ xs) ∷ [])
unfolding joined_last
joined_newest [] w xs = refl
joined_newest (u ∷ []) w xs = refl
joined_newest (u ∷ v ∷ vs) w xs = ap (λ (l : List (List ℕ)). u ∷ l) (joined_newest (v ∷ vs) w xs)

pub room_newest : (max : ℕ) (us : List (List ℕ)) (w : List ℕ) → room_in max (us ++ (w ∷ [])) ≡ max - length w
unfolding room_in
room_newest max [] w = refl
room_newest max (u ∷ []) w = refl
room_newest max (u ∷ v ∷ vs) w = room_newest max (v ∷ vs) w

-- no words change nothing
pub joined_nothing : (us : List (List ℕ)) → joined_last us [] ≡ us
unfolding joined_last
joined_nothing [] = refl
joined_nothing (u ∷ []) = ap (λ (w : List ℕ). w ∷ []) (append-nil u)
joined_nothing (u ∷ v ∷ vs) = ap (λ (l : List (List ℕ)). u ∷ l) (joined_nothing (v ∷ vs))

pub length_joined : (us : List (List ℕ)) (xs : List ℕ) → length (joined_last us xs) ≡ length us
unfolding joined_last
length_joined [] xs = refl
length_joined (u ∷ []) xs = refl
length_joined (u ∷ v ∷ vs) xs = ap suc (length_joined (v ∷ vs) xs)

pub size_joined : (u : List ℕ) (us : List (List ℕ)) (xs : List ℕ) → size (joined_last (u ∷ us) xs) ≡ size (u ∷ us) + length xs
unfolding joined_last size
size_joined u [] xs = omega (arith, length-append u xs)
size_joined u (v ∷ vs) xs = omega (arith, size_joined v vs xs)
