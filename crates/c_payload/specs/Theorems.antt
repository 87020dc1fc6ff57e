-- A call whose number is not 0 leaves the buffer that was lent to it as it was, and its length is 0.
use Rattle.std.specs.Prelude.{◌≡◌, ℕ, List}
use Rattle.c_payload.specs.Export.{payload_export}

pub record RefusedKeeps : Type 0 where
  pub data_payload : (b : List ℕ) (max seq : ℕ) (ws : List ℕ) → let e = payload_export b max seq ws in
      (e.0.refusal ≡ 0 → ⊥) → (e.0.len ≡ 0) × (e.1 ≡ b)
