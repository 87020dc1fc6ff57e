-- A call whose number is not 0 was refused by its tests: hearing itself refuses nothing.
use mathlib.Core.Path.{◌≡◌, refl}
use mathlib.Core.List.{List}
use Prim.Native.Nat.{ℕ, zero, suc, ◌/◌}
use lib.ListN.{length}
use Rattle.config.specs.inner.Choices.{by_cond}
use Rattle.config.specs.declared.settings.StreamConfig.{StreamConfig}
use Rattle.packet.specs.Read.{next_of}
use Rattle.read_command.specs.Next.{first_of}
use Rattle.c_words.specs.Settings.{settings_of}
use Rattle.c_words.proofs.Entries.{call_any}
use Rattle.c_hearing.specs.Walk.{turn_at, hear_from}
use Rattle.c_hearing.specs.Exports.{hear_export}
use Rattle.c_hearing.specs.Theorems.{RefusedKeeps}
use Rattle.c_hearing.specs.declared.walk.CHeard.{CHeard}
use Rattle.c_hearing.proofs.Opened.{opened_any}

abbrev Answer : Type 0
Answer = CHeard × List ℕ × List ℕ

pub never_refused : (f : ℕ) (cfg : StreamConfig) (time : ℕ) (ring b : List ℕ) (at k : ℕ) (st out : List ℕ) → (hear_from f cfg time ring b at k st out).0.refusal ≡ 0
unfolding hear_from
never_refused zero cfg time ring b at k st out = refl
never_refused (suc f) cfg time ring b at k st out =
    let t = turn_at (next_of b at) cfg time ring b at k st out in
    by_cond (λ (x : Answer). x.0.refusal ≡ 0) t.0.ends _ _ (λ _. refl) (λ _. never_refused f cfg time ring b t.0.next t.0.count t.1 t.2)

module _ (st out : List ℕ) where
  abbrev Same : Answer → Type 0
  Same e = (e.0.refusal ≡ 0 → ⊥) → (e.1 ≡ st) × (e.2 ≡ out)

  kept : (cfg : List ℕ) (time : ℕ) (ring b : List ℕ) (at : ℕ) → Same (hear_export st cfg time ring b at out)
  unfolding hear_export
  kept cfg time ring b at =
      call_any Same _ _ (λ n _. (refl, refl))
      (λ _ _. opened_any Same b at _ _ (λ n _. (refl, refl)) (λ not. absurd (not (never_refused (length b / 4) (settings_of cfg) time ring b (first_of at) 0 st out))))

pub refused_keeps : RefusedKeeps
refused_keeps = record { kept = λ st cfg time ring b at out. kept st out cfg time ring b at }
