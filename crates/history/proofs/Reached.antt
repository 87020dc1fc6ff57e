-- A state that calls reach passes the state test: a start does, and what push, append_to_last and the writing of an entry leave of a state that does.
use Rattle.std.proofs.Common.{◌≡◌, ℕ, suc, ◌+◌, ◌-◌, ◌<◌, ◌≤◌, true, List, [], ◌∷◌, ◌++◌, length, get_or, take, replicate, sym, refl, ap, ◌∙◌, arith, take-suc}
use lib.ListN.{length-replicate}
use lib.Seq.{take-length}
use Rattle.config.specs.Sequence.{turn}
use Rattle.history.specs.Headers.{length_at, entry_size, header_at}
use Rattle.history.specs.State.{fresh, state_ok}
use Rattle.history.specs.Push.{pushed, appended}
use Rattle.history.specs.Entries.{flat, Short, size, contents, entries_of, Holds}
use Rattle.history.specs.declared.history.SendHistory.{SendHistory}
use Rattle.history.proofs.Flat.{unwritten_pushed, unwritten_appended, unwritten_written}
use Rattle.history.proofs.Entries.{holds_length_at}
use Rattle.history.proofs.Effects.{holds_pushed, holds_appended}
use Rattle.history.proofs.States.{state_good, state_holds, state_unwritten, holds_state}

pub fresh_holds : (n : ℕ) → 65 ≤ n → n ≤ 32768 → Holds (fresh n) (replicate n 0) []
unfolding contents flat Short
fresh_holds n l m =
    record {
      ring = length-replicate n 0;
      least = l;
      most = m;
      inside = omega arith;
      room = omega arith;
      number = omega arith;
      words = refl;
      many = refl;
      short = tt;
      newest = λ some. absurd (omega arith);
    }

pub fresh_state : (n : ℕ) → 65 ≤ n → n ≤ 32768 → state_ok (fresh n) (replicate n 0) 0 0 ≡ true
unfolding size
fresh_state n l m = holds_state (fresh n) (replicate n 0) 0 0 [] (fresh_holds n l m) (record { some = omega arith; take = refl })

module _ (h : SendHistory) (b : List ℕ) (unsent words : ℕ) (ok : state_ok h b unsent words ≡ true) (o : h.oldest < turn) where
  pub pushed_state : (ws : List ℕ) → length ws ≤ 64 → 1 + length ws + words ≤ h.size
      → state_ok (pushed h b ws).0 (pushed h b ws).1 (unsent + 1) (words + (1 + length ws)) ≡ true
  pushed_state ws k l =
      holds_state (pushed h b ws).0 (pushed h b ws).1 (unsent + 1) (words + (1 + length ws)) _
      (holds_pushed h b ws (entries_of h b) (state_holds h b unsent words ok o) k)
      (unwritten_pushed h.size unsent words (entries_of h b) ws (state_unwritten h b unsent words ok) l)

  -- the newest entry at the end of the list
  newest : List ℕ
  newest = get_or (entries_of h b) (h.count - 1) []

  newest_split : 0 < h.count → entries_of h b ≡ take (h.count - 1) (entries_of h b) ++ (newest ∷ [])
  unfolding newest
  newest_split p =
      let es : List (List ℕ) = entries_of h b in
      let m : h.count ≡ length es = (state_holds h b unsent words ok o).many in
      let s : suc (h.count - 1) ≡ length es = omega arith in
      sym (take-length es) ∙ ap (λ (k : ℕ). take k es) (sym s) ∙ take-suc es (h.count - 1) [] (omega arith)

  newest_length : 0 < h.count → length_at b h.last ≡ length newest
  unfolding newest
  newest_length p =
      let a = state_holds h b unsent words ok o in
      rw ((state_good h b unsent words ok).newest p) at (holds_length_at h b (entries_of h b) a (h.count - 1) (omega arith))

  pub appended_state : (xs : List ℕ) → 0 < unsent → length_at b h.last + length xs ≤ 64 → length xs + words ≤ h.size
      → state_ok (appended h b xs).0 (appended h b xs).1 unsent (words + length xs) ≡ true
  appended_state xs p k l =
      let u = state_unwritten h b unsent words ok in
      let a = state_holds h b unsent words ok o in
      let q : 0 < h.count = omega (arith, u.some, a.many) in
      let s = newest_split q in
      holds_state (appended h b xs).0 (appended h b xs).1 unsent (words + length xs) _
      (holds_appended h b newest xs (take (h.count - 1) (entries_of h b)) (rw s at a) (omega (arith, newest_length q)))
      (unwritten_appended h.size unsent words (take (h.count - 1) (entries_of h b)) newest xs p (rw s at u) l)

  -- the oldest unwritten entry is written
  pub written_state : 0 < unsent → state_ok h b (unsent - 1) (words - entry_size b (header_at (h.count - unsent) b h.head)) ≡ true
  written_state p =
      let u = state_unwritten h b unsent words ok in
      let a = state_holds h b unsent words ok o in
      let m : h.count ≡ length (entries_of h b) = a.many in
      let e : length (get_or (entries_of h b) (length (entries_of h b) - unsent) []) ≡ length_at b (header_at (h.count - unsent) b h.head) =
      rw (← m) (sym (holds_length_at h b (entries_of h b) a (h.count - unsent) (omega (arith, u.some)))) in
      holds_state h b (unsent - 1) _ (entries_of h b) a (rw e at (unwritten_written (entries_of h b) unsent words p u))
