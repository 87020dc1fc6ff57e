-- Beyond the contract of the call: a refused call changes nothing; a payload that is heard, computed; and hearing goes on where it stopped.
use Rattle.std.specs.Prelude.{◌≡◌, List, [], ◌∷◌, ◌++◌, ℕ, ◌+◌, ◌-◌, ◌*◌, length, replicate}
use Rattle.config.specs.declared.settings.StreamConfig.{StreamConfig}
use Rattle.stream.specs.State.{fresh}
use Rattle.c_state.specs.Stream.{stored}
use Rattle.c_hearing.specs.Walk.{heard_to, hear_from}
use Rattle.c_hearing.specs.Exports.{hear_export}

-- A call whose number is not 0 leaves the stream's words and those of the answers as they were.
pub record RefusedKeeps : Type 0 where
  pub kept : (st cfg : List ℕ) (time : ℕ) (ring b : List ℕ) (at : ℕ) (out : List ℕ) → let e = hear_export st cfg time ring b at out in
      (e.0.refusal ≡ 0 → ⊥) → (e.1 ≡ st) × (e.2 ≡ out)

-- Default settings, a fresh stream, and the payload 4D494449 FF010000 20903C40 80010000 00010000.
abbrev pub defaults : List ℕ
defaults = 100 ∷ 2 ∷ 5 ∷ 2 ∷ 1 ∷ 10 ∷ 3 ∷ 64 ∷ []

abbrev pub arrived : List ℕ
arrived =
    0x4D ∷ 0x49 ∷ 0x44 ∷ 0x49
    ∷ 0xFF ∷ 0x01 ∷ 0x00 ∷ 0x00 ∷ 0x20 ∷ 0x90 ∷ 0x3C ∷ 0x40
    ∷ 0x80 ∷ 0x01 ∷ 0x00 ∷ 0x00 ∷ 0x00 ∷ 0x01 ∷ 0x00 ∷ 0x00
    ∷ []

-- At place 4 data, one word, number 0: New, gap 0. At place 12 a request, one word, number 0, count 1: the error NOT_IN_BUFFER with number 0. With room for one answer the
-- request is left at place 12, and a second call from there answers it.
pub record HearsBoth : Type 0 where
  pub both : let e = hear_export (stored (fresh 4 65 1)) defaults 0 (replicate 65 0) arrived 0 (replicate 8 0) in
      (e.0 ≡ heard_to 0 2) × (e.2 ≡ 4 ∷ 0x10003 ∷ 0 ∷ 0 ∷ 12 ∷ 0x1000000010004 ∷ 0x10300 ∷ 0 ∷ [])
  pub first : let e = hear_export (stored (fresh 4 65 1)) defaults 0 (replicate 65 0) arrived 0 (replicate 4 0) in
      (e.0 ≡ heard_to 12 1) × (e.2 ≡ 4 ∷ 0x10003 ∷ 0 ∷ 0 ∷ [])
  pub then : let e = hear_export (stored (fresh 4 65 1)) defaults 0 (replicate 65 0) arrived 0 (replicate 4 0) in
      let g = hear_export e.1 defaults 0 (replicate 65 0) arrived e.0.next (replicate 4 0) in
      (g.0 ≡ heard_to 0 1) × (g.2 ≡ 12 ∷ 0x1000000010004 ∷ 0x10300 ∷ 0 ∷ [])

-- Hearing goes on where it stopped for want of room: a call with room for m answers, and then one for the rest from its `next` on, are one call with the room of both.
pub record GoesOn : Type 0 where
  pub two : (f : ℕ) (cfg : StreamConfig) (time : ℕ) (ring b : List ℕ) (at : ℕ) (st out more : List ℕ) (m : ℕ) → length out ≡ 4 * m
      → let e = hear_from f cfg time ring b at 0 st out in (e.0.next ≡ 0 → ⊥)
      → let g = hear_from (f - m) cfg time ring b e.0.next 0 e.1 more in
      hear_from f cfg time ring b at 0 st (out ++ more) ≡ (heard_to g.0.next (m + g.0.count), g.1, e.2 ++ g.2)
