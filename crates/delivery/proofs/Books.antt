-- What a sender holds agrees with what was accepted and written: its positions are the commands that left and the written ones it holds, its unwritten
-- ones hold the rest of the words.
use Prim.Native.Nat.{ℕ, ◌+◌, ◌-◌, ◌≤◌}
use mathlib.Core.Path.{◌≡◌, refl, ap, sym, ◌∙◌}
use mathlib.Core.Bool.{true, not}
use mathlib.Core.List.{List, [], ◌∷◌, ◌++◌, append_assoc, append-nil}
use native.Mathlib.Omega.{arith}
use lib.Dec.{leb, ltb, eqb}
use lib.ListN.{length, length-append}
use Rattle.config.specs.Settings.{check_of}
use Rattle.config.specs.declared.settings.StreamConfig.{StreamConfig}
use Rattle.config.specs.inner.Tests.{tests}
use Rattle.packet.specs.Layout.{Words32}
use Rattle.command.specs.Messages.{whole_of, words_in}
use Rattle.command.specs.declared.retransmit.RetransmitRequest.{RetransmitRequest}
use Rattle.history.specs.Entries.{size, kept}
use Rattle.history.specs.Queue.{asks}
use Rattle.history.proofs.Flat.{size_append, size_one, size_first, kept_room}
use Rattle.fronts.specs.Commands.{front, behind, commands_of}
use Rattle.sender.specs.Queueing.{words_check}
use Rattle.fronts.proofs.Fronts.{Divides, part_of, divides_behind}
use Rattle.sender.proofs.Parts.{front_behind, commands_parts}
use Rattle.sender.proofs.Queued.{check_divides, settings_few}
use Rattle.command.specs.inner.Messages.{words_append, words_one}
use Rattle.sender_log.specs.Book.{Book, freed, pushed_in, pushed_all_in, joined_last, joined_in, room_in, need_in, queued_in, QueueIn, sent_in, absent_in, RequestIn, requested_in}
use Rattle.config.specs.inner.Choices.{by_cond, by_check}
use Rattle.delivery.specs.Commands.{Command}
use Rattle.delivery.specs.Console.{taken}
use Rattle.delivery.proofs.Lists.{All, all_append, length_none}
use Rattle.delivery.proofs.Wires.{Wire, wire_empty}
use Rattle.delivery.proofs.Messages.{front_whole}
use Rattle.delivery.proofs.Sound.{Sound, words32_front, words32_behind, commands_sound, words_joined, size_joined, sound_joined, kept_behind}

-- a history of c words, the position of the oldest command, written and unwritten commands; the words accepted, the commands written
pub record Agreed (c first : ℕ) (written unwritten : List (List ℕ)) (accepted : List ℕ) (w : List Command) : Type 0 where
  -- the commands that left
  pub gone : List (List ℕ)
  pub oldest : first ≡ length gone
  pub wire : Wire (gone ++ written) w
  pub words : words_in (gone ++ written) ++ words_in unwritten ≡ accepted
  pub old : All Sound (gone ++ written)
  pub new : All Sound unwritten
  pub room : size written + size unwritten ≤ c

abbrev pub Agrees : ℕ → Book → List ℕ → List Command → Type 0
Agrees c b accepted w = Agreed c b.first b.written b.unwritten accepted w

pub nothing_agrees : (c : ℕ) → Agreed c 0 [] [] [] []
unfolding words_in size
nothing_agrees c = record { gone = []; oldest = refl; wire = wire_empty; words = refl; old = tt; new = tt; room = omega arith }

module _ (c : ℕ) where
  -- ---- the oldest leave, and other commands are unwritten

  freed_agrees : (need : ℕ) (b : Book) (accepted : List ℕ) (w : List Command) → Agrees c b accepted w → Agrees c (freed c need b) accepted w
  unfolding freed
  freed_agrees need b accepted w i =
      let stay : List (List ℕ) = kept (c - size b.unwritten) need b.written in
      let k = kept_behind (c - size b.unwritten) need b.written in
      let e : i.gone ++ b.written ≡ (i.gone ++ k.0) ++ stay = ap (λ (es : List (List ℕ)). i.gone ++ es) k.1 ∙ sym (append_assoc i.gone k.0 stay) in
      let n : length b.written ≡ length k.0 + length stay = ap length k.1 ∙ length-append k.0 stay in
      let s : size b.written ≡ size k.0 + size stay = ap size k.1 ∙ size_append k.0 stay in
      record {
        gone = i.gone ++ k.0;
        oldest = omega (arith, i.oldest, length-append i.gone k.0);
        wire = rw (← e) i.wire;
        words = rw (← e) i.words;
        old = rw (← e) i.old;
        new = i.new;
        room = omega (arith, i.room);
      }

  more_agrees : (first : ℕ) (ws us vs : List (List ℕ)) (accepted xs : List ℕ) (w : List Command) → Agreed c first ws us accepted w
      → words_in vs ≡ words_in us ++ xs → All Sound vs → size ws + size vs ≤ c → Agreed c first ws vs (accepted ++ xs) w
  more_agrees first ws us vs accepted xs w i e h l =
      record {
        gone = i.gone;
        oldest = i.oldest;
        wire = i.wire;
        words = rw (e, ← i.words) (sym (append_assoc (words_in (i.gone ++ ws)) (words_in us) xs));
        old = i.old;
        new = h;
        room = l;
      }

  -- then there is room
  freed_room : (need : ℕ) (b : Book) (accepted : List ℕ) (w : List Command) → Agrees c b accepted w → need + size b.unwritten ≤ c
      → size (freed c need b).written + (size b.unwritten + need) ≤ c
  unfolding freed
  freed_room need b accepted w i l =
      omega (arith, i.room, kept_room (c - size b.unwritten) need b.written (omega arith) (omega (arith, i.room)))

  -- ---- queueing

  pub pushed_agrees : (ws : List ℕ) (b : Book) (accepted : List ℕ) (w : List Command) → Agrees c b accepted w → Sound ws → 1 + length ws + size b.unwritten ≤ c
      → Agrees c (pushed_in c ws b) (accepted ++ ws) w
  unfolding pushed_in freed
  pushed_agrees ws b accepted w i e l =
      more_agrees _ _ b.unwritten (b.unwritten ++ (ws ∷ [])) accepted ws w (freed_agrees (1 + length ws) b accepted w i)
      (words_append b.unwritten (ws ∷ []) ∙ rw words_one)
      (all_append Sound b.unwritten (ws ∷ []) i.new (e, tt))
      (omega (arith, freed_room (1 + length ws) b accepted w i l, size_append b.unwritten (ws ∷ []), size_one ws))

  pushed_all_agrees : (wss : List (List ℕ)) (b : Book) (accepted : List ℕ) (w : List Command) → Agrees c b accepted w → All Sound wss → size wss + size b.unwritten ≤ c
      → Agrees c (pushed_all_in c wss b) (accepted ++ words_in wss) w
  unfolding pushed_all_in words_in pushed_in
  pushed_all_agrees [] b accepted w i e l = rw append-nil i
  pushed_all_agrees (ws ∷ wss) b accepted w i e l =
      let z = size_first ws wss in
      rw (← append_assoc accepted ws (words_in wss))
      (pushed_all_agrees wss (pushed_in c ws b) (accepted ++ ws) w (pushed_agrees ws b accepted w i e.0 (omega arith)) e.1
      (omega (arith, size_append b.unwritten (ws ∷ []), size_one ws)))

  joined_agrees : (max : ℕ) (xs : List ℕ) (b : Book) (accepted : List ℕ) (w : List Command) → Agrees c b accepted w → length xs ≤ room_in max b.unwritten → max ≤ 64
      → whole_of xs ≡ true → Words32 xs → length xs + size b.unwritten ≤ c
      → Agrees c (joined_in c xs b) (accepted ++ xs) w
  unfolding joined_in freed
  joined_agrees max xs b accepted w i l m e h r =
      more_agrees _ _ b.unwritten (joined_last b.unwritten xs) accepted xs w (freed_agrees (length xs) b accepted w i)
      (words_joined max xs b.unwritten l)
      (sound_joined max xs b.unwritten l m e h i.new)
      (omega (arith, freed_room (length xs) b accepted w i r, size_joined max xs b.unwritten l))

  queued_agrees : (max : ℕ) (ws : List ℕ) (b : Book) (accepted : List ℕ) (w : List Command) → Agrees c b accepted w → max ≤ 64 → Divides max ws → Words32 ws
      → need_in max ws b + size b.unwritten ≤ c
      → Agrees c (queued_in c max ws b) (accepted ++ ws) w
  unfolding queued_in joined_in
  queued_agrees max ws b accepted w i m d h l =
      let n : ℕ = room_in max b.unwritten in
      let p = part_of n ws d.whole in
      let q = commands_parts max (behind n ws) (divides_behind max n ws d) m in
      let z = size_joined max (front n ws) b.unwritten p.few in
      let all : front n ws ++ words_in (commands_of max (behind n ws)) ≡ ws = ap (λ (xs : List ℕ). front n ws ++ xs) q.2 ∙ front_behind max n ws d in
      let long : length ws ≡ length (front n ws) + length (behind n ws) = sym (ap length (front_behind max n ws d)) ∙ length-append (front n ws) (behind n ws) in
      let joins = joined_agrees max (front n ws) b accepted w i p.few m (front_whole n ws d.whole) (words32_front n ws d.whole h) (omega arith) in
      rw (append_assoc accepted (front n ws) (words_in (commands_of max (behind n ws))), all) at
      (pushed_all_agrees (commands_of max (behind n ws)) (joined_in c (front n ws) b) (accepted ++ front n ws) w joins
      (commands_sound max (behind n ws) m (divides_behind max n ws d) (words32_behind n ws h)) (omega (arith, q.0)))

  -- the words of a queue call that isn't refused are accepted
  pub sent_agrees : (b : Book) (cfg : StreamConfig) (ws : List ℕ) (accepted : List ℕ) (w : List Command) → Agrees c b accepted w → Words32 ws
      → Agrees c (sent_in c b cfg ws).book (accepted ++ taken (sent_in c b cfg ws).answer ws) w
  unfolding sent_in
  sent_agrees b cfg ws accepted w i h =
      by_check Fine (check_of cfg) _ _ (λ why. same) (λ passed.
      by_cond Fine (eqb (length ws) 0) _ _ (λ none. rw (length_none ws (omega (arith, tests))) same) (λ some.
      by_check Fine (words_check cfg.max_command_words ws) _ _ (λ why. same) (λ divides.
      by_cond Fine (ltb (c - size b.unwritten) (need_in cfg.max_command_words ws b)) _ _ (λ full. same) (λ fits.
      queued_agrees cfg.max_command_words ws b accepted w i (settings_few cfg passed) (check_divides _ ws divides) h (omega (arith, tests))))))
    where
      Fine : QueueIn → Type 0
      Fine q = Agrees c q.book (accepted ++ taken q.answer ws) w

      same : Agrees c b (accepted ++ []) w
      same = rw append-nil i

  -- ---- a request

  pub requested_agrees : (q : ℕ) (b : Book) (cfg : StreamConfig) (r : RetransmitRequest) (accepted : List ℕ) (w : List Command) → Agrees c b accepted w
      → Agrees c (requested_in q b cfg r).book accepted w
  unfolding requested_in
  requested_agrees q b cfg r accepted w i =
      by_check Fine (check_of cfg) _ _ (λ why. i) (λ passed.
      by_cond Fine (not cfg.retransmit) _ _ (λ off. i) (λ on.
      by_cond Fine (absent_in b r.seq) _ _ (λ absent. i) (λ held.
      by_cond Fine (asks b.waiting r.seq) _ _ (λ pending. i) (λ new.
      by_cond Fine (leb q (length b.waiting)) _ _ (λ full. i) (λ room. i)))))
    where
      Fine : RequestIn → Type 0
      Fine a = Agrees c a.book accepted w
