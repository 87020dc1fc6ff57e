-- Queued words follow the book.
use mathlib.Core.Path.{◌≡◌, refl, sym, ap, ◌∙◌, subst}
use Rattle.std.proofs.Common.{Result, Ok, Err}
use Rattle.config.specs.declared.refusal.Refusal.{Refusal}
use Rattle.sender.specs.declared.sender.SenderAnswer.{SenderAnswer}
use Rattle.std.specs.Bool.{⊤}
use mathlib.Core.Bool.{Bool, true, false, cond}
use mathlib.Core.List.{List, [], ◌∷◌, ◌++◌, append_assoc}
use Prim.Native.Nat.{ℕ, ◌+◌, ◌-◌, ◌≤◌, ◌<◌}
use native.Mathlib.Omega.{arith}
use borrow.Author.Tests.{ltb-false}
use lib.Dec.{ltb, eqb}
use lib.Seq.{get_or_at}
use lib.ListN.{length, length-append}
use Rattle.config.specs.Settings.{check_of, tested}
use Rattle.config.specs.declared.settings.StreamConfig.{StreamConfig}
use Rattle.config.specs.declared.refusal.Refusal.TheVariants.{Full}
use Rattle.history.specs.Headers.{length_at}
use Rattle.history.specs.Entries.{size, Holds}
use Rattle.history.specs.declared.history.SendHistory.{SendHistory}
use Rattle.history.proofs.Entries.{holds_good, holds_length_at}
use Rattle.history.proofs.Flat.{size_append}
use Rattle.sender.specs.State.{valid_of}
use Rattle.fronts.specs.Commands.{behind as rest}
use Rattle.sender.specs.Queueing.{room_of, joining, further, need_of, joined_to, queued_to, sent, unsent, queued_of, words_check, placed_of, sent_of}
use Rattle.sender.specs.Answers.{send_answer}
use Rattle.sender.specs.declared.sender.Sender.{Sender}
use Rattle.sender.proofs.Validity.{valid_words}
use Rattle.fronts.proofs.Fronts.{Divides, divides_behind}
use Rattle.sender.proofs.Parts.{commands_parts}
use Rattle.sender.proofs.Queued.{room_none, room_some, check_divides, settings_few}
use Rattle.sender.proofs.Kept.{ready, need_parts}
use Rattle.sender_log.specs.Book.{Book, joined_last, joined_in, pushed_all_in, room_in, freed, need_in, queued_in, QueueIn, sent_in}
use Rattle.sender_log.proofs.Newest.{newest_of, room_newest, joined_nothing, length_joined, size_joined}
use Rattle.sender_log.proofs.Held.{Held, Takes, joined_held, pushed_all_held, pushed_all_unwritten, pushed_all_waiting, pushed_all_idle}
use Rattle.sender_log.proofs.Ties.{Follows, follows_valid, follows_held}

-- ---- queued words

-- the newest command's count of words
last_length : (h : SendHistory) (ring : List ℕ) (es : List (List ℕ)) (w : List ℕ) → Holds h ring (es ++ (w ∷ [])) → length_at ring h.last ≡ length w
last_length h ring es w a =
    let m : h.count ≡ length es + 1 = a.many ∙ length-append es (w ∷ []) in
    let p : 0 < h.count = omega arith in
    rw ((holds_good h ring (es ++ (w ∷ [])) a).newest p) at (holds_length_at h ring (es ++ (w ∷ [])) a (h.count - 1) (omega arith))
    ∙ ap length (get_or_at es w [] [] (h.count - 1) (omega arith))

size_joins : (us : List (List ℕ)) (xs : List ℕ) → (0 < length xs → Takes us (length xs)) → size (joined_last us xs) ≡ size us + length xs
size_joins us [] t = ap size (joined_nothing us) ∙ omega arith
size_joins [] (x ∷ xs) t = absurd (let n = t (omega arith) in let e = ap length n.parts ∙ length-append n.before (n.newest ∷ []) in let z : ⊥ = omega arith in z)
size_joins (u ∷ us) (x ∷ xs) t = size_joined u us (x ∷ xs)

module _ (c q : ℕ) (s : Sender) (ring : List ℕ) (b : Book) (f : Follows c q s ring b) where
  module _ (us : List (List ℕ)) (w : List ℕ) (p : b.unwritten ≡ us ++ (w ∷ [])) where
    newest_length : length_at ring s.history.last ≡ length w
    newest_length =
        last_length s.history ring (b.written ++ us) w
        (subst (Holds s.history ring) (ap (λ (x : List (List ℕ)). b.written ++ x) p ∙ sym (append_assoc b.written us (w ∷ []))) f.holds)

  room_by : (max : ℕ) (us : List (List ℕ)) → b.unwritten ≡ us → room_of s ring max ≡ room_in max us
  unfolding room_in
  room_by max [] e = sym (room_none s ring max (f.unsent ∙ ap length e))
  room_by max (u ∷ us) e =
      let n = newest_of u us in
      let l = f.unsent ∙ ap length e in
      let some : s.unsent ≡ 0 → ⊥ = λ z. omega arith in
      sym (room_some s ring max some (length n.newest) (sym (newest_length n.before n.newest (e ∙ n.parts))))
      ∙ sym (ap (room_in max) n.parts ∙ room_newest max n.before n.newest)

  room_same : (max : ℕ) → room_of s ring max ≡ room_in max b.unwritten
  room_same max = room_by max b.unwritten refl

  takes_by : (n : ℕ) (us : List (List ℕ)) → b.unwritten ≡ us → 0 < s.unsent → length_at ring s.history.last + n ≤ 64 → Takes b.unwritten n
  takes_by n [] e p k = absurd (let l = f.unsent ∙ ap length e in let z : ⊥ = omega arith in z)
  takes_by n (u ∷ us) e p k =
      let m = newest_of u us in
      record { before = m.before; newest = m.newest; parts = e ∙ m.parts; few = omega (arith, newest_length m.before m.newest (e ∙ m.parts)) }

  module _ (max : ℕ) (ws : List ℕ) (few : max ≤ 64) (d : Divides max ws) (fits : need_of s ring max ws ≤ s.history.size - s.unsent_words) where
    valid : valid_of s ring ≡ true
    valid = follows_valid c q s ring b f

    abbrev joins : List ℕ
    joins = joining s ring max ws

    abbrev opens : List (List ℕ)
    opens = further s ring max ws

    taken : 0 < length joins → Takes b.unwritten (length joins)
    taken p =
        let r = ready s ring max ws valid few f.holds.number d p in
        takes_by (length joins) b.unwritten refl r.0 r.1

    parts : length joins + size opens ≡ need_of s ring max ws
    parts = need_parts s ring max ws valid few f.holds.number d

    joined_book : Book
    joined_book = joined_in c joins b

    after_joining : Held c (joined_to s.history ring joins).0 (joined_to s.history ring joins).1 joined_book
    unfolding joined_book
    after_joining = joined_held c s.history ring b (follows_held c q s ring b f) joins taken (omega (arith, parts, f.words, f.unsent_words, valid_words s ring valid))

    joined_words : size joined_book.unwritten ≡ size b.unwritten + length joins
    unfolding joined_book joined_in
    joined_words = size_joins b.unwritten joins taken

    queued_follows : Follows c q (queued_of s ring max ws).0.sender (queued_of s ring max ws).1 (pushed_all_in c opens joined_book)
    unfolding queued_of queued_to joined_book joined_in freed
    queued_follows =
        let g = commands_parts max (rest (room_of s ring max) ws) (divides_behind max (room_of s ring max) ws d) few in
        let a = pushed_all_held opens c (joined_to s.history ring joins).0 (joined_to s.history ring joins).1 joined_book after_joining g.1 (omega (arith, joined_words, parts, f.words, f.unsent_words, valid_words s ring valid)) in
        let u = pushed_all_unwritten opens c joined_book in
        record {
          least = f.least;
          most = f.most;
          one_place = f.one_place;
          few_places = f.few_places;
          words = a.words;
          places = f.places;
          holds = a.holds;
          oldest = a.oldest;
          unsent = omega (arith, f.unsent, ap length u, length-append joined_book.unwritten opens, length_joined b.unwritten joins);
          unsent_words = omega (arith, f.unsent_words, ap size u, size_append joined_book.unwritten opens, joined_words, parts);
          fit = f.fit;
          items = f.items;
          requests = f.requests ∙ sym (pushed_all_waiting opens c joined_book);
          idle = f.idle ∙ sym (pushed_all_idle opens c joined_book);
          step = f.step;
        }

  -- ---- the ways out

  abbrev Sends : SenderAnswer ⊤ × List ℕ → QueueIn → Type 0
  Sends h a = Follows c q h.0.sender h.1 a.book × (h.0.answer ≡ a.answer)

  module _ (max : ℕ) (ws : List ℕ) (few : max ≤ 64) where
    need_same : need_of s ring max ws ≡ need_in max ws b
    unfolding need_of
    need_same = rw (room_same max)

    placed_follows : Divides max ws
        → Sends (placed_of s ring max ws) (cond (ltb (c - size b.unwritten) (need_in max ws b)) (record { book = b; answer = Err Full }) (record { book = queued_in c max ws b; answer = Ok tt }))
    unfolding placed_of queued_of queued_in joined_book
    placed_follows d =
        let n : ltb (c - size b.unwritten) (need_in max ws b) ≡ ltb (s.history.size - s.unsent_words) (need_of s ring max ws) = cc (f.words, f.unsent_words, need_same) in
        rw (n, ← room_same max) (by (ltb (s.history.size - s.unsent_words) (need_of s ring max ws)) refl)
      where
        by : (t : Bool) → ltb (s.history.size - s.unsent_words) (need_of s ring max ws) ≡ t
            → Sends (cond t (unsent s ring Full) (queued_of s ring max ws))
            (cond t (record { book = b; answer = Err Full }) (record { book = pushed_all_in c (further s ring max ws) (joined_in c (joining s ring max ws) b); answer = Ok tt }))
        by true e = (f, refl)
        by false e = (queued_follows max ws few d (ltb-false _ _ e), refl)

  pub send_follows : (cfg : StreamConfig) (ws : List ℕ)
      → Follows c q (send_answer s cfg ring ws).0.sender (send_answer s cfg ring ws).1 (sent_in c b cfg ws).book × ((send_answer s cfg ring ws).0.answer ≡ (sent_in c b cfg ws).answer)
  unfolding send_answer sent_of sent_in
  send_follows cfg ws = rw (follows_valid c q s ring b f) (by (check_of cfg) refl (eqb (length ws) 0) (words_check cfg.max_command_words ws) refl)
    where
      placed_in : QueueIn
      placed_in =
          let max : ℕ = cfg.max_command_words in
          cond (ltb (c - size b.unwritten) (need_in max ws b)) (record { book = b; answer = Err Full }) (record { book = queued_in c max ws b; answer = Ok tt })

      by : (k : Result ⊤ Refusal) → check_of cfg ≡ k → (t : Bool) (w : Result ⊤ Refusal) → words_check cfg.max_command_words ws ≡ w
          → Sends (tested k (unsent s ring) (cond t (sent s (Ok tt), ring) (tested w (unsent s ring) (placed_of s ring cfg.max_command_words ws))))
          (tested k (λ why. record { book = b; answer = Err why }) (cond t (record { book = b; answer = Ok tt }) (tested w (λ why. record { book = b; answer = Err why }) placed_in)))
      by (Err why) e t w h = (f, refl)
      by (Ok _) e true w h = (f, refl)
      by (Ok _) e false (Err why) h = (f, refl)
      by (Ok _) e false (Ok _) h = placed_follows cfg.max_command_words ws (settings_few cfg e) (check_divides cfg.max_command_words ws h)
