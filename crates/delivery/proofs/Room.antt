-- A sender that is given at most s words between two writes: one command at most is unwritten, and the last R written ones stay in a history with room for R + 1.
use Prim.Native.Nat.{ℕ, ◌+◌, ◌-◌, ◌*◌, ◌≤◌, ◌<◌, min}
use Rattle.std.proofs.Common.{Option, Some, None}
use Rattle.idle.specs.declared.idle.Idle.{Idle}
use mathlib.Core.Path.{◌≡◌, refl, ap, ◌∙◌}
use mathlib.Core.Logic.{inl, inr}
use mathlib.Core.Bool.{true, false, not, ◌||◌}
use mathlib.Core.List.{List, [], ◌∷◌, ◌++◌}
use native.Mathlib.Nat.{suc-mul, add-mul, one-mul, mul-le-mul_right}
use native.Mathlib.Omega.{arith}
use lib.Dec.{ltb, eqb}
use lib.ListN.{length, take, drop, length-append}
use lib.Seq.{take-length, drop-length}
use borrow.Author.Tests.{not-false}
use Rattle.config.specs.Settings.{check_of}
use Rattle.config.specs.declared.settings.StreamConfig.{StreamConfig}
use Rattle.config.specs.inner.Tests.{split, tests}
use Rattle.command.specs.Messages.{whole_of}
use Rattle.command.specs.declared.retransmit.RetransmitRequest.{RetransmitRequest}
use Rattle.history.specs.Entries.{size, kept}
use Rattle.history.proofs.Flat.{size_one}
use Rattle.fronts.specs.Commands.{front, behind, commands_of}
use Rattle.sender.specs.Queueing.{words_check}
use Rattle.fronts.proofs.Fronts.{Divides, part_of, commands_nil, commands_cons}
use Rattle.sender.proofs.Queued.{check_divides}
use Rattle.sender_log.specs.Book.{Book, freed, pushed_in, pushed_all_in, joined_last, joined_in, room_in, need_in, queued_in, QueueIn, sent_in}
use Rattle.sender_log.specs.Writes.{is_empty, idled_by, idled_in, written_on}
use Rattle.sender_log.proofs.Words.{length_kept}
use Rattle.config.specs.inner.Choices.{by_cond, or_left, by_check}
use Rattle.delivery.proofs.Lists.{All, all_append, all_right, length_none}
use Rattle.delivery.proofs.Sound.{kept_behind}

-- ---- words that make one command

module _ (n : ℕ) (ws : List ℕ) (whole : whole_of ws ≡ true) (few : length ws ≤ n) where
  front_all : front n ws ≡ ws
  front_all = let p = part_of n ws whole in p.part ∙ rw (← p.all few) (take-length ws)

  behind_none : behind n ws ≡ []
  unfolding behind
  behind_none = rw front_all (drop-length ws)

front_none : (ws : List ℕ) → whole_of ws ≡ true → front 0 ws ≡ []
front_none ws whole = length_none (front 0 ws) (part_of 0 ws whole).few

behind_all_lem : (ws : List ℕ) → whole_of ws ≡ true → behind 0 ws ≡ ws
unfolding behind
behind_all_lem ws whole = rw (front_none ws whole)

one_command : (max : ℕ) (ws : List ℕ) → Divides max ws → 0 < length ws → length ws ≤ max → commands_of max ws ≡ ws ∷ []
one_command max [] d some few = absurd (let z : ⊥ = omega arith in z)
one_command max (w ∷ ws) d some few =
    rw (commands_cons max w ws d, front_all max (w ∷ ws) d.whole few, behind_none max (w ∷ ws) d.whole few, commands_nil)

-- ---- what stays

module _ (s : ℕ) where
  abbrev pub Few : List ℕ → Type 0
  Few ws = length ws ≤ s

  size_few : (es : List (List ℕ)) → All Few es → size es ≤ length es * (1 + s)
  unfolding size
  size_few [] h = omega arith
  size_few (e ∷ es) h = rw (suc-mul (length es) (1 + s)) (omega (arith, size_few es h.1, h.0))

  -- the last R, where they and what is needed have room
  kept_enough : (R room need : ℕ) (es : List (List ℕ)) → All Few es → R * (1 + s) + need ≤ room → min R (length es) ≤ length (kept room need es)
  unfolding kept
  kept_enough R room need [] h l = omega arith
  kept_enough R room need (e ∷ es) h l = elim (split (ltb (room - size (e ∷ es)) need)) [
    | inl k ↦ rw k (elim (split (ltb R (length (e ∷ es)))) [
      | inl m ↦ omega (arith, tests, kept_enough R room need es h.1 l)
      | inr m ↦
          let z : ⊥ = omega (arith, tests, size_few (e ∷ es) h, mul-le-mul_right (1 + s) (fewer m)) in
          absurd z
    ])
    | inr k ↦ rw k (omega arith)
  ]
    where
      fewer : ltb R (length (e ∷ es)) ≡ false → length (e ∷ es) ≤ R
      fewer m = omega (arith, tests)

-- ---- what is held

-- one command at most, of at most n words
pub data Open (n : ℕ) : List (List ℕ) → Type 0 where
  none : Open n []
  one : (ws : List ℕ) → length ws ≤ n → Open n (ws ∷ [])

open_more : (m n : ℕ) (us : List (List ℕ)) → m ≤ n → Open m us → Open n us
open_more m n us l none = none
open_more m n us l (one ws k) = one ws (omega arith)

module _ (R s c : ℕ) (history : (R + 1) * (1 + s) ≤ c) where
  room : R * (1 + s) + (1 + s) ≤ c
  room = rw (add-mul R 1 (1 + s), one-mul (1 + s)) at history

  -- no request waits, and of the commands before the next the last R are held, or all
  pub record Enough (first : ℕ) (written : List (List ℕ)) (waiting : List RetransmitRequest) : Type 0 where
    pub no_request : waiting ≡ []
    pub few : All (Few s) written
    pub last : min R (first + length written) ≤ length written

  abbrev pub Holding : Book → Type 0
  Holding b = Enough b.first b.written b.waiting

  pub record Kept (n : ℕ) (b : Book) : Type 0 where
    pub holding : Holding b
    pub unwritten : Open n b.unwritten

  freed_holding : (need : ℕ) (b : Book) → Holding b → R * (1 + s) + need + size b.unwritten ≤ c → Holding (freed c need b)
  unfolding freed
  freed_holding need b h l =
      let k = kept_behind (c - size b.unwritten) need b.written in
      record {
        no_request = h.no_request;
        few = all_right (Few s) k.0 (kept (c - size b.unwritten) need b.written) (rw (← k.1) h.few);
        last = omega (arith, h.last, kept_enough s R (c - size b.unwritten) need b.written h.few (omega arith), length_kept (c - size b.unwritten) need b.written);
      }

  size_nothing : size [] ≡ 0
  unfolding size
  size_nothing = refl

  -- a command behind none
  pushed_kept : (n : ℕ) (ws : List ℕ) (b : Book) → Holding b → b.unwritten ≡ [] → length ws ≤ n → n ≤ s → Kept n (pushed_in c ws b)
  unfolding pushed_in freed
  pushed_kept n ws b h e l m =
      let z : size b.unwritten ≡ 0 = rw e size_nothing in
      record { holding = freed_holding (1 + length ws) b h (omega (arith, room)); unwritten = rw e (one ws l) }

  -- ---- queue words

  joined_holding : (xs : List ℕ) (b : Book) → Holding b → R * (1 + s) + length xs + size b.unwritten ≤ c → Holding (joined_in c xs b)
  unfolding joined_in freed
  joined_holding xs b h l = freed_holding (length xs) b h l

  joined_open : (xs : List ℕ) (b : Book) → (joined_in c xs b).unwritten ≡ joined_last b.unwritten xs
  unfolding joined_in
  joined_open xs b = refl

  queued_kept : (n max : ℕ) (ws : List ℕ) (b : Book) → Kept n b → Divides max ws → 0 < length ws → n + length ws ≤ s → s ≤ max → Kept (n + length ws) (queued_in c max ws b)
  unfolding queued_in pushed_all_in joined_last room_in
  queued_kept n max ws b k d some l m = by b.unwritten refl k.unwritten
    where
      joining : (us : List (List ℕ)) (n : ℕ) → b.unwritten ≡ us → room_in max us ≡ n → front (room_in max b.unwritten) ws ≡ front n ws
      joining us n e r = ap (λ (vs : List (List ℕ)). front (room_in max vs) ws) e ∙ ap (λ (n : ℕ). front n ws) r

      further : (us : List (List ℕ)) (n : ℕ) → b.unwritten ≡ us → room_in max us ≡ n → commands_of max (behind (room_in max b.unwritten) ws) ≡ commands_of max (behind n ws)
      further us n e r = ap (λ (vs : List (List ℕ)). commands_of max (behind (room_in max vs) ws)) e ∙ ap (λ (n : ℕ). commands_of max (behind n ws)) r

      by : (us : List (List ℕ)) → b.unwritten ≡ us → Open n us → Kept (n + length ws) (queued_in c max ws b)
      by us e none =
          let z : size b.unwritten ≡ 0 = ap size e ∙ size_nothing in
          rw (joining us 0 e refl ∙ front_none ws d.whole, further us 0 e refl ∙ ap (commands_of max) (behind_all_lem ws d.whole) ∙ one_command max ws d some (omega arith))
          (pushed_kept (n + length ws) ws (joined_in c [] b) (joined_holding [] b k.holding (omega (arith, room)))
          (joined_open [] b ∙ ap (λ (vs : List (List ℕ)). joined_last vs []) e) (omega arith) l)
      by us e (one u j) =
          let r : length ws ≤ max - length u = omega arith in
          let z : size b.unwritten ≡ 1 + length u = ap size e ∙ size_one u in
          rw (joining us (max - length u) e refl ∙ front_all (max - length u) ws d.whole r, further us (max - length u) e refl ∙ ap (commands_of max) (behind_none (max - length u) ws d.whole r) ∙ commands_nil max)
          record {
            holding = joined_holding ws b k.holding (omega (arith, room));
            unwritten = rw (joined_open ws b ∙ ap (λ (vs : List (List ℕ)). joined_last vs ws) e) (one (u ++ ws) (omega (arith, length-append u ws)));
          }

  pub sent_kept : (n : ℕ) (b : Book) (cfg : StreamConfig) (ws : List ℕ) → Kept n b → n + length ws ≤ s → s ≤ cfg.max_command_words → Kept (n + length ws) (sent_in c b cfg ws).book
  unfolding sent_in
  sent_kept n b cfg ws k l m =
      by_check Fine (check_of cfg) _ _ (λ why. same) (λ passed.
      by_cond Fine (eqb (length ws) 0) _ _ (λ none. same) (λ some.
      by_check Fine (words_check cfg.max_command_words ws) _ _ (λ why. same) (λ divides.
      by_cond Fine (ltb (c - size b.unwritten) (need_in cfg.max_command_words ws b)) _ _ (λ full. same) (λ fits.
      queued_kept n cfg.max_command_words ws b k (check_divides _ ws divides) (omega (arith, tests)) l m))))
    where
      Fine : QueueIn → Type 0
      Fine q = Kept (n + length ws) q.book

      same : Kept (n + length ws) b
      same = record { holding = k.holding; unwritten = open_more n (n + length ws) b.unwritten (omega arith) k.unwritten }

  -- ---- a due idle command

  pub idled_kept : (n : ℕ) (b : Book) (cfg : StreamConfig) (time : ℕ) → Kept n b → n ≤ s → Kept n (idled_in c cfg time b)
  unfolding idled_in
  idled_kept n b cfg time k l = by b.idle
    where
      empty : (us : List (List ℕ)) → is_empty us ≡ true → us ≡ []
      empty [] e = refl
      empty (u ∷ us) e = absurd (let z : ◌≡◌ {A = ℕ} 0 1 = cc in omega arith)

      by : (t : Option Idle) → Kept n (idled_by c cfg time b t)
      by None = k
      by (Some t) =
          by_cond (Kept n) (not (is_empty b.unwritten) || ltb time t.due) _ _ (λ e. k)
          (λ e.
          let p = pushed_kept n [] b k.holding (empty b.unwritten (not-false _ (or_left (not (is_empty b.unwritten)) _ e))) (omega arith) l in
          record { holding = p.holding; unwritten = p.unwritten })

  -- ---- the one unwritten command is written

  pub written_kept : (cfg : StreamConfig) (time : ℕ) (b : Book) (ws : List ℕ) → length ws ≤ s → Holding b → b.unwritten ≡ ws ∷ [] → Kept 0 (written_on cfg time 1 b)
  unfolding written_on
  written_kept cfg time b ws l h e =
      rw (ap (take 1) e, ap (drop 1) e)
      record {
        holding = record {
          no_request = h.no_request;
          few = all_append (Few s) b.written (ws ∷ []) h.few (l, tt);
          last = omega (arith, h.last, length-append b.written (ws ∷ []));
        };
        unwritten = none;
      }
