-- The commands that a sender holds are sound, also where words are divided into them and where words join the newest; and the oldest leave.
use Prim.Native.Nat.{ℕ, zero, suc, ◌+◌, ◌-◌, ◌≤◌}
use mathlib.Core.Path.{◌≡◌, refl, ap, sym, ◌∙◌}
use mathlib.Core.Bool.{Bool, true, false, cond}
use mathlib.Core.List.{List, [], ◌∷◌, ◌++◌, append_assoc, append-nil}
use native.Mathlib.Omega.{arith}
use lib.Dec.{ltb}
use lib.ListN.{length, length-append}
use Rattle.packet.specs.Layout.{Words32}
use Rattle.command.specs.Messages.{whole_of, words_in}
use Rattle.history.specs.Entries.{size, kept}
use Rattle.fronts.specs.Commands.{front, behind, commands_in, commands_of}
use Rattle.fronts.proofs.Fronts.{Divides, part_of, divides_behind}
use Rattle.sender_log.proofs.Newest.{size_joined as size_newest}
use Rattle.sender_log.proofs.Words.{words32_append}
pub use Rattle.sender_log.proofs.Words.{words32_front, words32_behind}
use Rattle.sender_log.specs.Book.{joined_last, room_in}
use Rattle.delivery.proofs.Lists.{All, length_none}
use Rattle.delivery.proofs.Messages.{whole_append, front_whole}

-- at most 64 words of 32 bits, whole messages
pub record Sound (ws : List ℕ) : Type 0 where
  pub short : length ws ≤ 64
  pub whole : whole_of ws ≡ true
  pub words32 : Words32 ws

-- ---- words divided into commands

front_sound : (n : ℕ) (ws : List ℕ) → n ≤ 64 → whole_of ws ≡ true → Words32 ws → Sound (front n ws)
front_sound n ws l e h =
    record { short = omega (arith, (part_of n ws e).few); whole = front_whole n ws e; words32 = words32_front n ws e h }

commands_in_sound : (f max : ℕ) (ws : List ℕ) → max ≤ 64 → Divides max ws → Words32 ws → All Sound (commands_in f max ws)
unfolding commands_in
commands_in_sound zero max ws l d h = tt
commands_in_sound (suc f) max [] l d h = tt
commands_in_sound (suc f) max (w ∷ ws) l d h =
    (front_sound max (w ∷ ws) l d.whole h, commands_in_sound f max (behind max (w ∷ ws)) l (divides_behind max max (w ∷ ws) d) (words32_behind max (w ∷ ws) h))

pub commands_sound : (max : ℕ) (ws : List ℕ) → max ≤ 64 → Divides max ws → Words32 ws → All Sound (commands_of max ws)
unfolding commands_of
commands_sound max ws l d h = commands_in_sound (length ws) max ws l d h

-- ---- words that join the newest command, as many as it takes

module _ (max : ℕ) (xs : List ℕ) where
  pub words_joined : (us : List (List ℕ)) → length xs ≤ room_in max us → words_in (joined_last us xs) ≡ words_in us ++ xs
  unfolding room_in joined_last words_in
  words_joined [] l = sym (length_none xs l)
  words_joined (u ∷ []) l = simp append-nil
  words_joined (u ∷ v ∷ us) l = ap (λ (ys : List ℕ). u ++ ys) (words_joined (v ∷ us) l) ∙ sym (append_assoc u (words_in (v ∷ us)) xs)

  pub size_joined : (us : List (List ℕ)) → length xs ≤ room_in max us → size (joined_last us xs) ≡ size us + length xs
  unfolding room_in joined_last size
  size_joined [] l = omega arith
  size_joined (u ∷ us) l = size_newest u us xs

  pub sound_joined : (us : List (List ℕ)) → length xs ≤ room_in max us → max ≤ 64 → whole_of xs ≡ true → Words32 xs → All Sound us → All Sound (joined_last us xs)
  unfolding room_in joined_last
  sound_joined [] l m e h i = tt
  sound_joined (u ∷ []) l m e h i = (
    record {
      short = omega (arith, length-append u xs, i.0.short);
      whole = whole_append u xs i.0.whole e;
      words32 = words32_append u xs i.0.words32 h;
    },
    tt,
  )
  sound_joined (u ∷ v ∷ us) l m e h i = (i.0, sound_joined (v ∷ us) l m e h i.1)

-- ---- the oldest leave

pub length_size : (es : List (List ℕ)) → length es ≤ size es
unfolding size
length_size [] = omega arith
length_size (e ∷ es) = omega (arith, length_size es)

pub kept_behind : (c need : ℕ) (es : List (List ℕ)) → (left : List (List ℕ)) × (es ≡ left ++ kept c need es)
unfolding kept
kept_behind c need [] = ([], refl)
kept_behind c need (e ∷ es) = by (ltb (c - size (e ∷ es)) need) (kept_behind c need es)
  where
    by : (t : Bool) → (left : List (List ℕ)) × (es ≡ left ++ kept c need es) → (left : List (List ℕ)) × (e ∷ es ≡ left ++ cond t (kept c need es) (e ∷ es))
    by true h = (e ∷ h.0, ap (λ (ds : List (List ℕ)). e ∷ ds) h.1)
    by false h = ([], refl)
