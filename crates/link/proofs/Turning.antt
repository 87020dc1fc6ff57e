-- The turns of both ends, by what the code has at hand.
use Prim.Native.Nat.{ℕ, zero, suc, ◌%◌, ◌≤◌, ◌<◌}
use Rattle.std.proofs.Common.{Option, Some, None}
use Rattle.receiver.specs.declared.receiver.StreamEvent.{StreamEvent}
use Rattle.stream.specs.declared.stream.StreamAnswer.{StreamAnswer}
use Rattle.std.specs.Bool.{⊤}
use mathlib.Core.Path.{◌≡◌, refl, sym, ap, ap₂, ◌∙◌}
use mathlib.Core.List.{List, ◌∷◌}
use mathlib.Core.Logic.{inl, inr}
use native.Mathlib.Omega.{arith}
use lib.ListN.{length, take, replicate}
use lib.Seq.{take_all}
use borrow.Author.Tests.{lt-ltb, le-ltb}
use Rattle.config.specs.inner.Tests.{split}
use Rattle.config.specs.declared.settings.StreamConfig.{StreamConfig}
use Rattle.packet.specs.Read.{items_of}
use Rattle.packet.specs.Write.{bytes_in}
use Rattle.packet.specs.declared.writer.PayloadWriter.{PayloadWriter}
use Rattle.packet.specs.declared.writer.Wrote.{Wrote as Written}
use Rattle.command.specs.Write.{error_written}
use Rattle.command.specs.declared.retransmit.RetransmitError.{RetransmitError}
use Rattle.stream.specs.Ends.{send_answer, poll_answer}
use Rattle.stream.specs.Writing.{write_answer}
use Rattle.stream.specs.declared.stream.DataStream.{DataStream}
use Rattle.stream.specs.declared.stream.Wrote.{Wrote}
use Rattle.load.specs.Load.{word, sends, count_of, words_of, asked_of}
use Rattle.load.specs.declared.load.Load.{Load}
use Rattle.load.specs.declared.load.Words.{Words}
use Rattle.link_rules.specs.Arriving.{event_loss, arrived_of}
use Rattle.link_tally.specs.Tally.{tallied, unread}
use Rattle.link_rules.specs.Link.{empty, blank, carried}
use Rattle.link.specs.Turns.{Turn, begun, wrote_into, queued_at, console_of, chamber_of, poll_loss, part_of}
use Rattle.link_tally.specs.declared.arriving.Tally.{Tally}
use Rattle.link_tally.proofs.Walking.{tallied_none}

-- ---- the payload

pub begin_none : (w : Option RetransmitError) (buf : List ℕ) → buf ≡ blank → w ≡ None → (empty, buf) ≡ begun w
begin_none w buf e f = ap (λ (b : List ℕ). (empty, b)) e ∙ ap begun (sym f)

pub begin_error : (w : Option RetransmitError) (e : RetransmitError) (buf out : List ℕ) (x : Written) → buf ≡ blank → w ≡ Some e → (x, out) ≡ error_written e empty buf → (x.payload, out) ≡ begun w
begin_error w e buf out x f g h =
    ap (λ (y : Written × List ℕ). (y.0.payload, y.1)) (h ∙ ap (error_written e empty) f) ∙ ap begun (sym g)

pub written_turn : (s : DataStream) (cfg : StreamConfig) (time : ℕ) (p : PayloadWriter) (b ring : List ℕ) (x : Wrote) (bytes next : List ℕ) → (x, bytes, next) ≡ write_answer s cfg time p b ring
    → ◌≡◌ {A = Turn} (record { stream = x.stream; ring = next; bytes = part_of x.payload.len bytes }) (wrote_into s cfg time ring (p, b))
unfolding wrote_into part_of
written_turn s cfg time p b ring x bytes next e =
    ap (λ (w : Wrote × List ℕ × List ℕ). record { stream = w.0.stream; ring = w.2; bytes = bytes_in w.0.payload w.1 }) e

-- ---- the load's words

take_replicate : (n m w : ℕ) → n ≤ m → take n (replicate m w) ≡ replicate n w
take_replicate zero m w l = refl
take_replicate (suc n) zero w l = absurd (let z : ⊥ = omega arith in z)
take_replicate (suc n) (suc m) w l = ap (λ (xs : List ℕ). w ∷ xs) (take_replicate n m w (omega arith))

words_most : (x : ℕ) → count_of x ≤ 8
unfolding count_of
words_most x = elim (split (sends x)) [
  | inl e ↦ rw e (omega arith)
  | inr e ↦ rw e (omega arith)
]

pub words_at_most : (l : Load) (a : Words) → a ≡ asked_of l → a.count ≤ 8
words_at_most l a e = rw e (words_most l.last)

pub words_are : (l : Load) (a : Words) → a ≡ asked_of l → take a.count (replicate 8 word) ≡ words_of l.last
words_are l a e = rw e (take_replicate (count_of l.last) 8 word (words_most l.last))

pub queued_is : (s : DataStream) (cfg : StreamConfig) (ring : List ℕ) (x : ℕ) (ws : List ℕ) → ws ≡ words_of x → (r : StreamAnswer ⊤) (out : List ℕ) → (r, out) ≡ send_answer s cfg ring ws → (r.stream, out) ≡ queued_at s cfg ring x
queued_is s cfg ring x ws e r out f = ap (λ (q : StreamAnswer ⊤ × List ℕ). (q.0.stream, q.1)) (f ∙ ap (send_answer s cfg ring) e)

-- ---- the turns

pub console_is : (s : DataStream) (cfg : StreamConfig) (time : ℕ) (ring : List ℕ) (x : ℕ) (w : Option RetransmitError) (q : DataStream) (after : List ℕ) → (q, after) ≡ queued_at s cfg ring x
    → (p : PayloadWriter) (b : List ℕ) → (p, b) ≡ begun w → (t : Turn) → t ≡ wrote_into q cfg time after (p, b) → t ≡ console_of s cfg time ring x w
unfolding console_of
console_is s cfg time ring x w q after e p b f t g =
    g ∙ ap₂ (λ (y : DataStream × List ℕ) (z : PayloadWriter × List ℕ). wrote_into y.0 cfg time y.1 z) e f

pub chamber_is : (s : DataStream) (cfg : StreamConfig) (time : ℕ) (ring b : List ℕ) → b ≡ blank → (h : StreamAnswer (Option StreamEvent)) → h ≡ poll_answer s cfg time
    → (t : Turn) → t ≡ wrote_into h.stream cfg time ring (empty, b) → t ≡ chamber_of s cfg time ring
unfolding chamber_of
chamber_is s cfg time ring b e h f t g =
    g ∙ ap₂ (λ (y : StreamAnswer (Option StreamEvent)) (z : List ℕ). wrote_into y.stream cfg time ring (empty, z)) f e

pub poll_loss_is : (s : DataStream) (cfg : StreamConfig) (time : ℕ) (h : StreamAnswer (Option StreamEvent)) → h ≡ poll_answer s cfg time → (n m : ℕ) → n ≡ event_loss h.answer → m ≡ n → m ≡ poll_loss s cfg time
poll_loss_is s cfg time h f n m e g = g ∙ e ∙ ap (λ (y : StreamAnswer (Option StreamEvent)). event_loss y.answer) f

-- ---- the line

module _ (s : DataStream) (cfg : StreamConfig) (time : ℕ) (ring : List ℕ) (figure x : ℕ) (bytes : List ℕ) where
  pub line_drops : x % 256 < figure → unread s ≡ tallied (unread s) (arrived_of s cfg time ring (carried figure x bytes))
  unfolding arrived_of
  line_drops l = rw (lt-ltb (x % 256) figure l) (sym (tallied_none (unread s)))

  pub line_carries : figure ≤ x % 256 → (r : Tally) → r ≡ tallied (unread s) (arrived_of s cfg time ring (items_of bytes)) → r ≡ tallied (unread s) (arrived_of s cfg time ring (carried figure x bytes))
  line_carries l r e = rw (le-ltb (x % 256) figure l) e

-- ---- the first bytes of a buffer

pub part_all : (n : ℕ) (buf : List ℕ) → length buf < n → buf ≡ part_of n buf
unfolding part_of
part_all n buf l = sym (take_all n buf (omega arith))

pub part_some : (n : ℕ) (buf part : List ℕ) → part ≡ take n buf → part ≡ part_of n buf
unfolding part_of
part_some n buf part e = e
