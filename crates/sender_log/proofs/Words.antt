-- The words of the commands that a sender holds have 32 bits, and so payloads can hold the commands.
use Prim.Native.Nat.{ℕ, zero, suc, ◌-◌, ◌≤◌}
use Rattle.std.proofs.Common.{Option, Some, None}
use Rattle.idle.specs.declared.idle.Idle.{Idle}
use mathlib.Core.Path.{◌≡◌}
use mathlib.Core.Bool.{Bool, true, false, cond, not, ◌||◌}
use mathlib.Core.List.{List, [], ◌∷◌, ◌++◌}
use native.Mathlib.Omega.{arith}
use lib.Dec.{ltb, leb, eqb}
use lib.ListN.{length, take, drop}
use Rattle.config.specs.Sequence.{after}
use Rattle.config.specs.Settings.{check_of}
use Rattle.config.specs.declared.settings.StreamConfig.{StreamConfig}
use Rattle.packet.specs.Layout.{Packet, Words32, AllEncodable}
use Rattle.packet.specs.Write.{valid_of as payload_valid}
use Rattle.packet.specs.declared.writer.PayloadWriter.{PayloadWriter}
use Rattle.command.specs.Messages.{whole_of}
use Rattle.command.specs.declared.retransmit.RetransmitRequest.{RetransmitRequest}
use Rattle.history.specs.Entries.{size, kept, Short}
use Rattle.history.specs.Queue.{asks}
use Rattle.rows.specs.Rows.{fit_all}
use Rattle.fronts.specs.Commands.{front, behind, commands_in, commands_of}
use Rattle.sender.specs.Queueing.{words_check}
use Rattle.fronts.proofs.Fronts.{Divides, part_of, divides_behind}
use Rattle.sender.proofs.Queued.{check_divides}
use Rattle.sender_log.specs.Book.{Book, nothing, freed, pushed_in, pushed_all_in, joined_last, joined_in, room_in, need_in, queued_in, QueueIn, sent_in, absent_in, RequestIn, requested_in, with_waiting}
use Rattle.sender_log.specs.Writes.{data_from, new_in, is_empty, idled_by, idled_in, written_on, WriteIn, new_by, new_written, served_in, written_in, write_in}
use Rattle.sender_log.specs.Calls.{Call, queue_words, retransmit_request, write, Typed, AllTyped}
use Rattle.sender_log.specs.Answers.{told_of, book_from, book_of}
use Rattle.config.specs.inner.Choices.{by_check, by_cond}
use Rattle.config.specs.inner.Entries.{entry_any}

pub length_kept : (c need : ℕ) (es : List (List ℕ)) → length (kept c need es) ≤ length es
unfolding kept
length_kept c need [] = omega arith
length_kept c need (e ∷ es) = by (ltb (c - size (e ∷ es)) need) (length_kept c need es)
  where
    by : (t : Bool) → length (kept c need es) ≤ length es → length (cond t (kept c need es) (e ∷ es)) ≤ suc (length es)
    by true l = omega arith
    by false l = omega arith

-- ---- words of 32 bits

pub words32_take : (n : ℕ) (ws : List ℕ) → Words32 ws → Words32 (take n ws)
unfolding Words32
words32_take zero ws h = tt
words32_take (suc n) [] h = tt
words32_take (suc n) (w ∷ ws) h = (h.0, words32_take n ws h.1)

pub words32_drop : (n : ℕ) (ws : List ℕ) → Words32 ws → Words32 (drop n ws)
unfolding Words32
words32_drop zero ws h = h
words32_drop (suc n) [] h = h
words32_drop (suc n) (w ∷ ws) h = words32_drop n ws h.1

pub words32_append : (xs ys : List ℕ) → Words32 xs → Words32 ys → Words32 (xs ++ ys)
unfolding Words32
words32_append [] ys h k = k
words32_append (x ∷ xs) ys h k = (h.0, words32_append xs ys h.1 k)

pub words32_front : (n : ℕ) (ws : List ℕ) → whole_of ws ≡ true → Words32 ws → Words32 (front n ws)
words32_front n ws e h = rw (part_of n ws e).part (words32_take (length (front n ws)) ws h)

pub words32_behind : (n : ℕ) (ws : List ℕ) → Words32 ws → Words32 (behind n ws)
unfolding behind
words32_behind n ws h = words32_drop (length (front n ws)) ws h

-- ---- of each command

unfoldable pub Each32 : List (List ℕ) → Type 0
Each32 [] = Unit {0}
Each32 (ws ∷ wss) = Words32 ws × Each32 wss

each_append : (xs ys : List (List ℕ)) → Each32 xs → Each32 ys → Each32 (xs ++ ys)
unfolding Each32
each_append [] ys h k = k
each_append (x ∷ xs) ys h k = (h.0, each_append xs ys h.1 k)

each_take : (n : ℕ) (xs : List (List ℕ)) → Each32 xs → Each32 (take n xs)
unfolding Each32
each_take zero xs h = tt
each_take (suc n) [] h = tt
each_take (suc n) (x ∷ xs) h = (h.0, each_take n xs h.1)

pub each_drop : (n : ℕ) (xs : List (List ℕ)) → Each32 xs → Each32 (drop n xs)
unfolding Each32
each_drop zero xs h = h
each_drop (suc n) [] h = h
each_drop (suc n) (x ∷ xs) h = each_drop n xs h.1

each_kept : (c need : ℕ) (es : List (List ℕ)) → Each32 es → Each32 (kept c need es)
unfolding kept Each32
each_kept c need [] h = tt
each_kept c need (e ∷ es) h = by_cond Each32 (ltb (c - size (e ∷ es)) need) _ _ (λ t. each_kept c need es h.1) (λ t. h)

each_joined : (us : List (List ℕ)) (xs : List ℕ) → Words32 xs → Each32 us → Each32 (joined_last us xs)
unfolding joined_last Each32
each_joined [] xs h k = tt
each_joined (u ∷ []) xs h k = (words32_append u xs k.0 h, tt)
each_joined (u ∷ v ∷ us) xs h k = (k.0, each_joined (v ∷ us) xs h k.1)

each_commands : (f max : ℕ) (ws : List ℕ) → Divides max ws → Words32 ws → Each32 (commands_in f max ws)
unfolding commands_in Each32
each_commands zero max ws d h = tt
each_commands (suc f) max [] d h = tt
each_commands (suc f) max (w ∷ ws) d h =
    (words32_front max (w ∷ ws) d.whole h, each_commands f max (behind max (w ∷ ws)) (divides_behind max max (w ∷ ws) d) (words32_behind max (w ∷ ws) h))

-- payloads can hold them
pub data_encodable : (n : ℕ) (es : List (List ℕ)) → Short es → Each32 es → AllEncodable (data_from n es)
unfolding data_from Short Each32 AllEncodable
data_encodable n [] s h = tt
data_encodable n (e ∷ es) s h = (record { few = omega (arith, s.0); words32 = h.0 }, data_encodable (after n 1) es s.1 h.1)

-- ---- after every call

pub record Book32 (b : Book) : Type 0 where
  pub written : Each32 b.written
  pub unwritten : Each32 b.unwritten

module _ (c : ℕ) where
  pushed_32 : (ws : List ℕ) (b : Book) → Words32 ws → Book32 b → Book32 (pushed_in c ws b)
  unfolding pushed_in freed Each32
  pushed_32 ws b h i = record { written = each_kept _ _ b.written i.written; unwritten = each_append b.unwritten (ws ∷ []) i.unwritten (h, tt) }

  pushed_all_32 : (wss : List (List ℕ)) (b : Book) → Each32 wss → Book32 b → Book32 (pushed_all_in c wss b)
  unfolding pushed_all_in Each32
  pushed_all_32 [] b h i = i
  pushed_all_32 (ws ∷ wss) b h i = pushed_all_32 wss (pushed_in c ws b) h.1 (pushed_32 ws b h.0 i)

  joined_32 : (xs : List ℕ) (b : Book) → Words32 xs → Book32 b → Book32 (joined_in c xs b)
  unfolding joined_in freed
  joined_32 xs b h i = record { written = each_kept _ _ b.written i.written; unwritten = each_joined b.unwritten xs h i.unwritten }

  queued_32 : (max : ℕ) (ws : List ℕ) (b : Book) → Divides max ws → Words32 ws → Book32 b → Book32 (queued_in c max ws b)
  unfolding queued_in commands_of
  queued_32 max ws b d h i =
      let n : ℕ = room_in max b.unwritten in
      pushed_all_32 _ _ (each_commands _ max (behind n ws) (divides_behind max n ws d) (words32_behind n ws h)) (joined_32 (front n ws) b (words32_front n ws d.whole h) i)

  sent_32 : (b : Book) (cfg : StreamConfig) (ws : List ℕ) → Words32 ws → Book32 b → Book32 (sent_in c b cfg ws).book
  unfolding sent_in
  sent_32 b cfg ws h i =
      by_check Fine (check_of cfg) _ _ (λ why. i) (λ passed.
      by_cond Fine (eqb (length ws) 0) _ _ (λ none. i) (λ some.
      by_check Fine (words_check cfg.max_command_words ws) _ _ (λ why. i) (λ divides.
      by_cond Fine (ltb (c - size b.unwritten) (need_in cfg.max_command_words ws b)) _ _ (λ full. i) (λ fits.
      queued_32 cfg.max_command_words ws b (check_divides _ ws divides) h i))))
    where
      Fine : QueueIn → Type 0
      Fine q = Book32 q.book

  requested_32 : (q : ℕ) (b : Book) (cfg : StreamConfig) (r : RetransmitRequest) → Book32 b → Book32 (requested_in q b cfg r).book
  unfolding requested_in
  requested_32 q b cfg r i =
      by_check Fine (check_of cfg) _ _ (λ why. i) (λ passed.
      by_cond Fine (not cfg.retransmit) _ _ (λ off. i) (λ on.
      by_cond Fine (absent_in b r.seq) _ _ (λ absent. i) (λ held.
      by_cond Fine (asks b.waiting r.seq) _ _ (λ pending. i) (λ new.
      by_cond Fine (leb q (length b.waiting)) _ _ (λ full. i) (λ room. record { written = i.written; unwritten = i.unwritten })))))
    where
      Fine : RequestIn → Type 0
      Fine a = Book32 a.book

  pub idled_32 : (cfg : StreamConfig) (time : ℕ) (b : Book) → Book32 b → Book32 (idled_in c cfg time b)
  unfolding idled_in Words32
  idled_32 cfg time b i = by b.idle
    where
      by : (t : Option Idle) → Book32 (idled_by c cfg time b t)
      by None = i
      by (Some k) =
          by_cond Book32 (not (is_empty b.unwritten) || ltb time k.due) _ _ (λ e. i)
          (λ e. let p = pushed_32 [] b tt i in record { written = p.written; unwritten = p.unwritten })

  written_32 : (cfg : StreamConfig) (time m : ℕ) (b : Book) → Book32 b → Book32 (written_on cfg time m b)
  unfolding written_on
  written_32 cfg time m b i =
      record { written = each_append b.written _ i.written (each_take m b.unwritten i.unwritten); unwritten = each_drop m b.unwritten i.unwritten }

  new_32 : (cfg : StreamConfig) (time n : ℕ) (b : Book) (p : PayloadWriter) (by : List ℕ) → Book32 b → Book32 (new_written cfg time n b p by).book
  unfolding new_written
  new_32 cfg time n b p by i = go (new_in b)
    where
      Fine : WriteIn → Type 0
      Fine a = Book32 a.book

      go : (cs : List Packet) → Fine (new_by cfg time n b p by cs)
      go [] = i
      go (first ∷ others) =
          by_cond Fine (not (fit_all p by (first ∷ []))) _ _ (λ over. by_cond Fine (eqb p.len 0) _ _ (λ empty. i) (λ more. i))
          (λ fits. written_32 cfg time _ b i)

  write_32 : (cfg : StreamConfig) (time : ℕ) (b : Book) (p : PayloadWriter) (by : List ℕ) → Book32 b → Book32 (write_in c cfg time b p by).book
  unfolding write_in written_in
  write_32 cfg time b p by i =
      let s = served_in b b.waiting p by in
      let left : Book32 (with_waiting b s.waiting) = record { written = i.written; unwritten = i.unwritten } in
      entry_any Fine _ _ (λ why. i) (check_of cfg) (payload_valid p (length by)) (λ passed valid.
      by_cond Fine s.more _ _ (λ more. left) (λ all.
      new_32 cfg time s.commands (idled_in c cfg time (with_waiting b s.waiting)) s.payload s.bytes (idled_32 cfg time _ left)))
    where
      Fine : WriteIn → Type 0
      Fine a = Book32 a.book

module _ (c q : ℕ) where
  pub call_32 : (call : Call) (b : Book) → Typed call → Book32 b → Book32 (told_of c q b call).book
  unfolding told_of
  call_32 (queue_words cfg ws) b t i = sent_32 c b cfg ws t.1 i
  call_32 (retransmit_request cfg r) b t i = requested_32 c q b cfg r i
  call_32 (write cfg time p by) b t i = write_32 c cfg time b p by i

  from_32 : (calls : List Call) (b : Book) → AllTyped calls → Book32 b → Book32 (book_from c q b calls)
  unfolding book_from
  from_32 [] b l i = i
  from_32 (call ∷ calls) b l i = from_32 calls (told_of c q b call).book l.1 (call_32 call b l.0 i)

  pub nothing_32 : Book32 nothing
  unfolding Each32
  nothing_32 = record { written = tt; unwritten = tt }

  pub book_32 : (calls : List Call) → AllTyped calls → Book32 (book_of c q calls)
  book_32 calls l = from_32 calls nothing l nothing_32
