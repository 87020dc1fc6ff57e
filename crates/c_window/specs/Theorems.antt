-- A call whose number is not 0 leaves the window's words as they were. There is a field for each C function of this crate.
use Rattle.std.specs.Prelude.{◌≡◌, ℕ, List}
use Rattle.c_window.specs.Window.{start_export, accept_export}

pub record RefusedKeeps : Type 0 where
  pub start : (w : List ℕ) (size highest : ℕ) → let e = start_export w size highest in (e.0 ≡ 0 → ⊥) → e.1 ≡ w
  pub accept : (w : List ℕ) (seq : ℕ) → let e = accept_export w seq in (e.0.refusal ≡ 0 → ⊥) → e.1 ≡ w
