-- What stands at a place, by what was found.
use mathlib.Core.Path.{◌≡◌, refl, sym, ap, ◌∙◌}
use Rattle.std.proofs.Common.{Result}
use Rattle.config.specs.declared.refusal.Refusal.{Refusal}
use mathlib.Core.Bool.{true, false}
use mathlib.Core.List.{List}
use Prim.Native.Nat.{ℕ, zero, suc, ◌+◌, ◌-◌, ◌*◌, ◌/◌, ◌≤◌, ◌<◌}
use native.Mathlib.Omega.{arith}
use lib.ListN.{length, take, drop}
use borrow.Author.Tests.{le-leb, lt-leb}
use Rattle.config.specs.declared.settings.StreamConfig.{StreamConfig}
use Rattle.packet.specs.Bytes.{words_of}
use Rattle.packet.specs.Read.{csd_of, next_of, body_of}
use Rattle.packet.specs.declared.cursor.Cursor.{Cursor}
use Rattle.packet.specs.declared.cursor.Header.{Header}
use Rattle.packet.specs.declared.cursor.PacketItem.{PacketItem}
use Rattle.packet.specs.declared.cursor.PacketItem.TheVariants.{Command as WholeCommand, Truncated, End}
use Rattle.packet.proofs.Reading.{next_found, body_part}
use Rattle.command.specs.Parse.{parsed_of}
use Rattle.command.specs.declared.parse.Command.{Command}
use Rattle.read_command.specs.Next.{command_read}
use Rattle.c_state.specs.Pack.{word, pair}
use Rattle.c_hearing.specs.Figures.{read_word, number_figures}
use Rattle.c_hearing.specs.Given.{given_of}
use Rattle.c_hearing.specs.Walk.{answered, ended, goes_on, cut_turn, whole_turn, turn_at, heard_to, hear_from}
use Rattle.c_hearing.specs.declared.figures.Figures.{Figures}
use Rattle.c_hearing.specs.declared.walk.Turn.{Turn}

abbrev Turned : Type 0
Turned = Turn × List ℕ × List ℕ

-- ---- a cut command
module _ (h : Header) (at k : ℕ) (out : List ℕ) where
  pub cut_full : length out / 4 ≤ k → (ended at k, out) ≡ cut_turn h at k out
  unfolding cut_turn
  cut_full e = rw (le-leb (length out / 4) k e)

  pub cut_answered : k < length out / 4 → (n : ℕ) → n ≡ csd_of h → (read : ℕ) → read ≡ word (pair 1 h.code) h.len n 0 → (f : Figures) → f ≡ number_figures 0
      → (after : List ℕ) → after ≡ answered out k at read f → (ended 0 (k + 1), after) ≡ cut_turn h at k out
  unfolding cut_turn
  cut_answered e n en read er f ef after ea =
      rw (lt-leb (length out / 4) k e)
      (ap (λ (x : List ℕ). (ended 0 (k + 1), x)) (ea ∙ ap (λ (x : Figures). answered out k at read x) ef ∙ ap (λ (x : ℕ). answered out k at x (number_figures 0)) (er ∙ ap (λ (x : ℕ). word (pair 1 h.code) h.len x 0) en)))

-- ---- a whole command
module _ (cfg : StreamConfig) (time : ℕ) (ring : List ℕ) (h : Header) (at n : ℕ) (ws : List ℕ) (k : ℕ) (st out : List ℕ) where
  pub whole_full : length out / 4 ≤ k → ◌≡◌ {A = Turned} (ended at k, st, out) (whole_turn cfg time ring h at n ws k st out)
  unfolding whole_turn
  whole_full e = rw (le-leb (length out / 4) k e)

  pub whole_answered : k < length out / 4 → (c : Result Command Refusal) → c ≡ parsed_of h ws → (f : Figures) (next : List ℕ) → (f, next) ≡ given_of st cfg time ring c
      → (read : ℕ) → read ≡ read_word (command_read h.len 0 0 c) → (after : List ℕ) → after ≡ answered out k at read f
      → ◌≡◌ {A = Turned} (goes_on n (k + 1), next, after) (whole_turn cfg time ring h at n ws k st out)
  unfolding whole_turn
  whole_answered e c ec f next eg read er after ea =
      rw (lt-leb (length out / 4) k e)
      (ap (λ (x : List ℕ). (goes_on n (k + 1), next, x)) (ea ∙ ap (λ (x : ℕ). answered out k at x f) er)
      ∙ ap (λ (x : Figures × List ℕ). (goes_on n (k + 1), x.1, answered out k at (read_word (command_read h.len 0 0 c)) x.0)) eg
      ∙ ap (λ (x : Result Command Refusal). let g = given_of st cfg time ring x in (goes_on n (k + 1), g.1, answered out k at (read_word (command_read h.len 0 0 x)) g.0)) ec)

-- ---- what stands at a place
-- the bytes between a command's header and the next command
pub part_body : (b : List ℕ) (at : ℕ) (h : Header) (here : ℕ) (next : Cursor) → next_of b at ≡ WholeCommand h here next
    → take (next.at - (here + 4)) (drop (here + 4) b) ≡ body_of b here h
part_body b at h here next e =
    let f = next_found b at h here next e in
    let n : next.at ≡ here + 4 + 4 * h.len = omega (arith, f) in
    rw n (body_part b here h (omega (arith, f)) (4 * h.len) refl)

module _ (cfg : StreamConfig) (time : ℕ) (ring b : List ℕ) (at k : ℕ) (st out : List ℕ) where
  abbrev here : PacketItem → Turned
  here i = turn_at i cfg time ring b at k st out

  pub turn_end : next_of b at ≡ End → ◌≡◌ {A = Turned} (ended 0 k, st, out) (here (next_of b at))
  turn_end e = sym (ap here e)

  pub turn_cut : (h : Header) → next_of b at ≡ Truncated h → (t : Turn) (after : List ℕ) → (t, after) ≡ cut_turn h at k out → ◌≡◌ {A = Turned} (t, st, after) (here (next_of b at))
  turn_cut h e t after q = ap (λ (x : Turn × List ℕ). (x.0, st, x.1)) q ∙ sym (ap here e)

  pub turn_whole : (h : Header) (place : ℕ) (next : Cursor) → next_of b at ≡ WholeCommand h place next → (body : List ℕ) → body ≡ body_of b place h
      → (t : Turned) → t ≡ whole_turn cfg time ring h place next.at (words_of body) k st out → t ≡ here (next_of b at)
  turn_whole h place next e body q t w =
      w ∙ ap (λ (x : List ℕ). whole_turn cfg time ring h place next.at (words_of x) k st out) q ∙ sym (ap here e)

-- ---- all commands
module _ (cfg : StreamConfig) (time : ℕ) (ring b : List ℕ) (at k : ℕ) (st out : List ℕ) (t : Turn) (next after : List ℕ) (e : (t, next, after) ≡ turn_at (next_of b at) cfg time ring b at k st out) where
  stepped : (f : ℕ) → 0 < f → hear_from f cfg time ring b at k st out ≡ hear_from (suc (f - 1)) cfg time ring b at k st out
  stepped f h = let g : f ≡ suc (f - 1) = omega arith in ap (λ (x : ℕ). hear_from x cfg time ring b at k st out) g

  pub hear_ends : (f : ℕ) → 0 < f → t.ends ≡ true → (heard_to t.next t.count, next, after) ≡ hear_from f cfg time ring b at k st out
  unfolding hear_from
  hear_ends f h y = one ∙ sym (stepped f h)
    where
      one : (heard_to t.next t.count, next, after) ≡ hear_from (suc (f - 1)) cfg time ring b at k st out
      one = rw (← e, y)

  pub hear_on : (f : ℕ) → 0 < f → t.ends ≡ false → hear_from f cfg time ring b at k st out ≡ hear_from (f - 1) cfg time ring b t.next t.count next after
  unfolding hear_from
  hear_on f h y = stepped f h ∙ one
    where
      one : hear_from (suc (f - 1)) cfg time ring b at k st out ≡ hear_from (f - 1) cfg time ring b t.next t.count next after
      one = rw (← e, y)

-- no command is left
pub hear_done : (f : ℕ) (cfg : StreamConfig) (time : ℕ) (ring b : List ℕ) (at k : ℕ) (st out : List ℕ) → f ≡ 0 → (heard_to 0 k, st, out) ≡ hear_from f cfg time ring b at k st out
unfolding hear_from
hear_done zero cfg time ring b at k st out e = refl
hear_done (suc f) cfg time ring b at k st out e = absurd (let z : ⊥ = omega arith in z)
