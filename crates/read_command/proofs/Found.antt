-- What `next` answers, by what was found.
use mathlib.Core.Path.{◌≡◌, refl, sym, ap, ◌∙◌}
use Rattle.std.proofs.Common.{Result, Ok, Err}
use mathlib.Core.Logic.{inl, inr}
use mathlib.Core.Bool.{true, false, not, ◌||◌}
use mathlib.Core.List.{List, [], ◌∷◌}
use Prim.Native.Nat.{ℕ, ◌+◌, ◌-◌, ◌*◌, ◌≤◌, ◌<◌}
use native.Mathlib.Omega.{arith}
use borrow.Author.Tests.{eq-eqb, ne_eqb, lt-ltb, le-ltb}
use lib.ListN.{length, take, drop, length-take}
use lib.Dec.{eqb}
use Rattle.config.specs.Refusals.{number_of}
use Rattle.config.specs.declared.refusal.Refusal.{Refusal}
use Rattle.config.specs.declared.refusal.Refusal.TheVariants.{BadSignature, InvalidState}
use Rattle.config.specs.inner.Tests.{split}
use Rattle.packet.specs.Bytes.{words_of, spliced}
use Rattle.packet.specs.Read.{csd_of, signed, open_of, next_of, body_of}
use Rattle.packet.specs.declared.cursor.Cursor.{Cursor}
use Rattle.packet.specs.declared.cursor.Header.{Header}
use Rattle.packet.specs.declared.cursor.PacketItem.TheVariants.{Command, Truncated, End}
use Rattle.packet.proofs.Reading.{open_signed, open_unsigned, next_found, body_part}
use Rattle.packet.proofs.Splice.{take_spliced}
use Rattle.command.specs.Parse.{parsed_of, request_in, error_in}
use Rattle.command.specs.declared.data.UmpData.{UmpData}
use Rattle.command.specs.declared.parse.Command.{Command as ParsedCommand}
use Rattle.command.specs.declared.parse.Command.TheVariants.{UmpData as Data, RetransmitRequest, RetransmitError, Raw}
use Rattle.command.proofs.Parsing.{parsed_data}
use Rattle.read_command.specs.Words.{whole_count, lengths_of}
use Rattle.read_command.specs.Next.{read_of, refused_read, first_of, command_read, whole_read, item_read, read_at}
use Rattle.read_command.specs.declared.next.Read.{Read}

abbrev Answer : Type 0
Answer = Read × List ℕ × List ℕ

-- ---- opening
pub opened_signed : (b : List ℕ) (c : Cursor) → open_of b ≡ Ok c → signed b ≡ true
opened_signed b c e = elim (split (signed b)) [
  | inl k ↦ k
  | inr k ↦ absurd (let f = open_unsigned b k in let z : ◌≡◌ {A = ℕ} 0 1 = cc in let y : ⊥ = omega arith in y)
]

pub refused_unsigned : (b : List ℕ) (why : Refusal) → open_of b ≡ Err why → signed b ≡ false
refused_unsigned b why e = elim (split (signed b)) [
  | inl k ↦ absurd (let f = open_signed b k in let z : ◌≡◌ {A = ℕ} 0 1 = cc in let y : ⊥ = omega arith in y)
  | inr k ↦ k
]

-- ---- a whole command
-- no code but FF is data
abbrev mark : Result ParsedCommand Refusal → ℕ
mark (Ok (Data d)) = 1
mark (Ok (RetransmitRequest r)) = 0
mark (Ok (RetransmitError e)) = 0
mark (Ok (Raw h)) = 0
mark (Err why) = 0

request_mark : (h : Header) (ws : List ℕ) → mark (request_in h ws) ≡ 0
request_mark h [] = refl
request_mark h (w ∷ ws) = refl

error_mark : (h : Header) (ws : List ℕ) → mark (error_in h ws) ≡ 0
error_mark h [] = refl
error_mark h (w ∷ ws) = refl

other_mark : (h : Header) (ws : List ℕ) → (h.code ≡ 0xFF → ⊥) → mark (parsed_of h ws) ≡ 0
unfolding parsed_of
other_mark h ws n = rw (ne_eqb h.code 0xFF n) (elim (split (eqb h.code 0x80)) [
  | inl k ↦ rw k (request_mark h ws)
  | inr k ↦ elim (split (eqb h.code 0x81)) [
    | inl j ↦ rw (k, j) (error_mark h ws)
    | inr j ↦ rw (k, j)
  ]
])

pub other_data : {A : Type 0} (h : Header) (ws : List ℕ) (d : UmpData) → (h.code ≡ 0xFF → ⊥) → parsed_of h ws ≡ Ok (Data d) → A
other_data h ws d n e =
    let z : ◌≡◌ {A = ℕ} 0 1 = sym (other_mark h ws n) ∙ ap mark e in
    absurd (let y : ⊥ = omega arith in y)

-- the words that were stored are at the front
pub front_stored : (words ws : List ℕ) (n : ℕ) → n ≡ length ws → length ws ≤ length words → take n (spliced words 0 ws) ≡ ws
front_stored words ws n e f =
    let m : n ≡ 0 + length ws = omega arith in
    rw m (take_spliced words 0 ws (omega arith))

module _ (h : Header) (next : ℕ) (ws words lens : List ℕ) (words' : List ℕ) (stored : words' ≡ spliced words 0 ws) where
  pub whole_data : h.code ≡ 0xFF → (n : ℕ) → n ≡ length ws → length ws ≤ length words → (r : Read) (lens' : List ℕ)
      → r ≡ read_of next 3 0 h.len (csd_of h) (whole_count (take n words')) → lens' ≡ spliced lens 0 (lengths_of (take n words'))
      → ◌≡◌ {A = Answer} (r, words', lens') (whole_read h next ws words lens)
  unfolding whole_read
  whole_data c n e f r lens' p q =
      let g : take n words' ≡ ws = rw stored (front_stored words ws n e f) in
      let p' : r ≡ read_of next 3 0 h.len (csd_of h) (whole_count ws) = rw g at p in
      let q' : lens' ≡ spliced lens 0 (lengths_of ws) = rw g at q in
      rw (eq-eqb h.code 0xFF c, ← parsed_data h ws (csd_of h) refl c, stored, p', q')

  pub whole_other : (h.code ≡ 0xFF → ⊥) → (r : Read) → r ≡ command_read h.len next (whole_count ws) (parsed_of h ws) → ◌≡◌ {A = Answer} (r, words', lens) (whole_read h next ws words lens)
  unfolding whole_read
  whole_other c r e = rw (ne_eqb h.code 0xFF c, stored, e)

-- ---- what stands at a place
-- the bytes between a command's header and the next command
pub part_body : (b : List ℕ) (at : ℕ) (h : Header) (here : ℕ) (next : Cursor) → next_of b at ≡ Command h here next
    → take (next.at - (here + 4)) (drop (here + 4) b) ≡ body_of b here h
part_body b at h here next e =
    let f = next_found b at h here next e in
    let n : next.at ≡ here + 4 + 4 * h.len = omega (arith, f) in
    rw n (body_part b here h (omega (arith, f)) (4 * h.len) refl)

-- of at most 255 words
pub part_few : (b : List ℕ) (at : ℕ) (h : Header) (here : ℕ) (next : Cursor) → next_of b at ≡ Command h here next → h.len ≤ 255
    → length (take (next.at - (here + 4)) (drop (here + 4) b)) ≤ 1020
part_few b at h here next e g =
    let f = next_found b at h here next e in
    omega (arith, f, length-take (next.at - (here + 4)) (drop (here + 4) b))

module _ (b : List ℕ) (at : ℕ) (words lens : List ℕ) where
  pub item_end : next_of b at ≡ End → (r : Read) → r ≡ refused_read 0 → ◌≡◌ {A = Answer} (r, words, lens) (item_read (next_of b at) b words lens)
  item_end e r q = rw (e, q)

  pub item_cut : (h : Header) → next_of b at ≡ Truncated h → (n : ℕ) → n ≡ csd_of h → ◌≡◌ {A = Answer} (read_of 0 1 h.code h.len n 0, words, lens) (item_read (next_of b at) b words lens)
  item_cut h e n q = rw (e, q)

  pub item_whole : (h : Header) (place : ℕ) (next : Cursor) → next_of b at ≡ Command h place next → (body : List ℕ) → body ≡ body_of b place h
      → (a : Answer) → a ≡ whole_read h next.at (words_of body) words lens → a ≡ item_read (next_of b at) b words lens
  item_whole h place next e body q a w = rw (e, ← q) w

-- ---- the tests
module _ (b : List ℕ) (at : ℕ) (words lens : List ℕ) where
  pub read_words : length words < 255 → (r : Read) → r ≡ refused_read (number_of InvalidState) → ◌≡◌ {A = Answer} (r, words, lens) (read_at b at words lens)
  unfolding read_at
  read_words f r q = rw (lt-ltb (length words) 255 f, q)

  module _ (f : 255 ≤ length words) where
    pub read_lens : length lens < 255 → (r : Read) → r ≡ refused_read (number_of InvalidState) → ◌≡◌ {A = Answer} (r, words, lens) (read_at b at words lens)
    unfolding read_at
    read_lens g r q = rw (le-ltb (length words) 255 f, lt-ltb (length lens) 255 g, q)

    module _ (g : 255 ≤ length lens) where
      pub read_item : (not (eqb at 0) || signed b) ≡ true → (n : ℕ) → n ≡ first_of at → (a : Answer) → a ≡ item_read (next_of b n) b words lens → a ≡ read_at b at words lens
      unfolding read_at
      read_item o n e a q =
          let q' : a ≡ item_read (next_of b (first_of at)) b words lens = rw e at q in
          rw (le-ltb (length words) 255 f, le-ltb (length lens) 255 g, o) q'

      pub read_unsigned : (not (eqb at 0) || signed b) ≡ false → (r : Read) → r ≡ refused_read (number_of BadSignature) → ◌≡◌ {A = Answer} (r, words, lens) (read_at b at words lens)
      unfolding read_at
      read_unsigned o r q = rw (le-ltb (length words) 255 f, le-ltb (length lens) 255 g, o, q)
