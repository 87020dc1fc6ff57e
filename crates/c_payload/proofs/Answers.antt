-- The answer, from what opening and writing leave.
use mathlib.Core.Path.{◌≡◌, ap, sym, ◌∙◌}
use Rattle.std.proofs.Common.{Result, Ok, Err}
use mathlib.Core.List.{List}
use Prim.Native.Nat.{ℕ}
use Rattle.config.specs.Refusals.{number_of}
use Rattle.config.specs.declared.refusal.Refusal.{Refusal}
use Rattle.packet.specs.Write.{opened_of}
use Rattle.packet.specs.declared.writer.PayloadWriter.{PayloadWriter}
use Rattle.packet.specs.declared.writer.Wrote.{Wrote}
use Rattle.command.specs.Write.{data_written}
use Rattle.c_payload.specs.Export.{refused_by, made_of, payload_by, payload_export}
use Rattle.c_payload.specs.declared.CMade.{CMade}

module _ (b : List ℕ) (max seq : ℕ) (ws : List ℕ) where
  pub payload_made : (x : PayloadWriter) (e : Wrote) (bytes : List ℕ) (r : CMade) → opened_of max ≡ Ok x → (e, bytes) ≡ data_written x b seq ws → r ≡ made_of e
      → (r, bytes) ≡ payload_export b max seq ws
  unfolding payload_export
  payload_made x e bytes r o w m =
      ap (λ (y : CMade). (y, bytes)) m
      ∙ ap (λ (y : Wrote × List ℕ). (made_of y.0, y.1)) w
      ∙ ap (λ (y : Result PayloadWriter Refusal). payload_by y b seq ws) (sym o)

  pub payload_refused : (why : Refusal) (n : ℕ) → opened_of max ≡ Err why → n ≡ number_of why → (refused_by n, b) ≡ payload_export b max seq ws
  unfolding payload_export
  payload_refused why n o e = ap (λ (y : ℕ). (refused_by y, b)) e ∙ ap (λ (y : Result PayloadWriter Refusal). payload_by y b seq ws) (sym o)
