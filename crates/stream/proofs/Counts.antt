-- How many commands a sender's write has at most.
use mathlib.Core.Path.{◌≡◌, sym, ap, ◌∙◌}
use Rattle.std.proofs.Common.{Result, Ok, Err}
use Rattle.config.specs.declared.refusal.Refusal.{Refusal}
use mathlib.Core.Bool.{true}
use mathlib.Core.Logic.{inl, inr}
use mathlib.Core.List.{List, [], ◌∷◌}
use Prim.Native.Nat.{ℕ, ◌+◌, ◌≤◌}
use native.Mathlib.Nat.{le_trans}
use native.Mathlib.Omega.{arith}
use lib.ListN.{length}
use lib.Dec.{eqb}
use Rattle.config.specs.inner.Tests.{split}
use Rattle.config.specs.declared.settings.StreamConfig.{StreamConfig}
use Rattle.packet.specs.Layout.{Packet}
use Rattle.packet.specs.Write.{valid_of as payload_valid}
use Rattle.packet.specs.declared.writer.PayloadWriter.{PayloadWriter}
use Rattle.rows.specs.Rows.{row_of, fit_all}
use Rattle.rows.proofs.Filling.{row_valid, row_grows, start_most}
use Rattle.sender.specs.State.{valid_of as sender_valid}
use Rattle.sender.specs.Requests.{written_count}
use Rattle.writing.specs.Writing.{commands_at, served_of, idled_of, new_by, new_of, written_by}
use Rattle.sender.specs.declared.sender.Sender.{Sender}
use Rattle.writing.specs.declared.writing.Written.{Written}
use Rattle.writing.specs.declared.writing.Wrote.{Wrote}
use Rattle.writing.proofs.Serving.{served_sound}

-- none where the write is refused
abbrev commands_in : Result Written Refusal → ℕ
commands_in (Ok w) = w.commands
commands_in (Err why) = 0

-- each command takes four bytes of at most 1,400
row_most : (cs : List Packet) (p : PayloadWriter) (b : List ℕ) → payload_valid p (length b) ≡ true → (row_of p b cs).written ≤ 350
row_most cs p b v = omega (arith, row_grows cs p b, start_most (row_of p b cs).payload _ (row_valid cs p b v))

counted : (n m : ℕ) → m ≤ 350 → n + m ≤ n + 350
counted n m h = omega arith

module _ (s : Sender) (cfg : StreamConfig) (time n : ℕ) (p : PayloadWriter) (b ring : List ℕ) (v : payload_valid p (length b) ≡ true) where
  by_most : (cs : List Packet) → commands_in (new_by s cfg time n p b ring cs).0.answer ≤ n + 350
  by_most [] = omega arith
  by_most (first ∷ others) = elim (split (fit_all p b (first ∷ []))) [
    | inl f ↦ rw f (counted n _ (row_most _ p b v))
    | inr f ↦ elim (split (eqb p.len 0)) [
      | inl z ↦ rw (f, z) (omega arith)
      | inr z ↦ rw (f, z) (omega arith)
    ]
  ]

  new_most : commands_in (new_of s cfg time n p b ring).0.answer ≤ n + 350
  unfolding new_of
  new_most = by_most (commands_at s ring (written_count s) s.unsent)

module _ (s : Sender) (cfg : StreamConfig) (time : ℕ) (p : PayloadWriter) (b ring : List ℕ) (v : sender_valid s ring ≡ true) (pv : payload_valid p (length b) ≡ true) where
  all_most : commands_in (written_by s cfg time p b ring).0.answer ≤ 700
  unfolding written_by
  all_most =
      let z = served_of s ring p b in
      let sound = served_sound s ring p b v pv in
      let few : z.written ≤ 350 = omega (arith, sound.grows, start_most z.payload _ sound.payload) in
      let idled = idled_of z.sender cfg time ring in
      elim (split z.more) [
        | inl m ↦ rw m (omega arith)
        | inr m ↦ rw m (le_trans (new_most idled.0 cfg time z.written z.payload z.bytes idled.1 sound.payload) (omega arith))
      ]

  pub written_most : (w : Wrote) (bytes next : List ℕ) → (w, bytes, next) ≡ written_by s cfg time p b ring → (x : Written) → w.answer ≡ Ok x → x.commands ≤ 700
  written_most w bytes next e x a =
      let f : (written_by s cfg time p b ring).0.answer ≡ Ok x = sym (ap (λ (y : Wrote × List ℕ × List ℕ). y.0.answer) e) ∙ a in
      rw f at all_most
