-- Reading gives back the commands of every list of write calls.
use mathlib.Core.Path.{◌≡◌, refl, sym, ap, ◌∙◌}
use Rattle.std.proofs.Common.{Ok, Err}
use mathlib.Core.Bool.{true}
use mathlib.Core.Logic.{inl, inr}
use mathlib.Core.List.{List, [], ◌∷◌}
use Prim.Native.Nat.{ℕ, suc, ◌+◌}
use native.Mathlib.Omega.{arith}
use lib.Dec.{ltb}
use lib.ListN.{length}
use Rattle.config.specs.Range.{outside}
use Rattle.config.specs.declared.refusal.Refusal.TheVariants.{InvalidState, InvalidUmpData, ReasonNotAllowed, InvalidValue}
use Rattle.config.specs.inner.Tests.{split}
use Rattle.packet.specs.Layout.{Packet, packet, size_of, payload_of, Words32, AllEncodable}
use Rattle.packet.specs.Read.{items_of, placed}
use Rattle.packet.specs.Write.{opened_of, valid_of, bytes_in, WriteEnds, refused, done}
use Rattle.packet.specs.declared.writer.PayloadWriter.{PayloadWriter}
use Rattle.packet.specs.declared.writer.Wrote.{Wrote}
use Rattle.packet.proofs.RoundTrip.{items_payload, all_encodable_append}
use Rattle.packet.proofs.Written.{valid_empty}
use Rattle.packet.proofs.Outcomes.{outcome, written_valid, written_length, written_after, written_before, written_grows, valid_length}
use Rattle.command.specs.Messages.{whole_of}
use Rattle.command.specs.Write.{data_packet, request_packet, error_packet, is_defined, error_written, data_written}
use Rattle.command.specs.Calls.{Call, raw, ump_data, request, error, call_of, command_of, Typed, AllTyped, accepts, run, RoundTrips, Untouched}
use Rattle.command.specs.declared.retransmit.RetransmitError.{RetransmitError}

-- ---- each call comes to a refusal or to its command written
error_outcome : (e : RetransmitError) (p : PayloadWriter) (b : List ℕ) → WriteEnds p b (error_packet e) (error_written e p b)
unfolding error_written
error_outcome e p b = elim (split (valid_of p (length b))) [
  | inr v ↦ rw v (refused InvalidState)
  | inl v ↦ elim (split (is_defined e)) [
    | inr d ↦ rw (v, d) (refused ReasonNotAllowed)
    | inl d ↦ rw (v, d) (outcome p b (error_packet e))
  ]
]

data_outcome : (p : PayloadWriter) (b : List ℕ) (seq : ℕ) (ws : List ℕ) → WriteEnds p b (data_packet seq ws) (data_written p b seq ws)
unfolding data_written
data_outcome p b seq ws = elim (split (valid_of p (length b))) [
  | inr v ↦ rw v (refused InvalidState)
  | inl v ↦ elim (split (ltb 64 (length ws))) [
    | inl l ↦ rw (v, l) (refused InvalidUmpData)
    | inr l ↦ elim (split (whole_of ws)) [
      | inr w ↦ rw (v, l, w) (refused InvalidUmpData)
      | inl w ↦ rw (v, l, w) (outcome p b (data_packet seq ws))
    ]
  ]
]

pub call_outcome : (c : Call) (p : PayloadWriter) (b : List ℕ) → WriteEnds p b (command_of c) (call_of c p b)
call_outcome (raw code csd1 csd2 ws) p b = outcome p b (packet code csd1 csd2 ws)
call_outcome (ump_data seq ws) p b = data_outcome p b seq ws
call_outcome (request q) p b = outcome p b (request_packet q)
call_outcome (error e) p b = error_outcome e p b

-- ---- what holds after each call
pub record Good (p : PayloadWriter) (b : List ℕ) (cs : List Packet) : Type 0 where
  pub valid : valid_of p (length b) ≡ true
  pub holds : bytes_in p b ≡ payload_of cs
  pub encodable : AllEncodable cs

pub typed_words : (c : Call) → Typed c → Words32 (command_of c).words
unfolding Typed Words32
typed_words (raw code csd1 csd2 ws) t = t
typed_words (ump_data seq ws) t = t
typed_words (request q) t = (omega arith, tt)
typed_words (error e) t = (omega arith, tt)

step : (c : Call) (p : PayloadWriter) (b : List ℕ) (cs : List Packet) (w : Wrote × List ℕ) → WriteEnds p b (command_of c) w → Typed c → Good p b cs
    → Good w.0.payload w.1 (accepts w.0.answer cs (command_of c))
unfolding AllEncodable
step c p b cs w (refused r) t g = g
step c p b cs w (done f l) t g =
    record {
      valid = rw (written_length p b (command_of c) _ (done f l)) (written_valid p b (command_of c) _ (done f l) g.valid);
      holds = written_grows p b (command_of c) cs (valid_length p (length b) g.valid) f g.holds;
      encodable = all_encodable_append cs (command_of c ∷ []) g.encodable (record { few = l; words32 = typed_words c t }, tt);
    }

pub run_good : (calls : List Call) (p : PayloadWriter) (b : List ℕ) (cs : List Packet) → AllTyped calls → Good p b cs
    → Good (run calls p b cs).payload (run calls p b cs).buffer (run calls p b cs).accepted
unfolding run AllTyped
run_good [] p b cs t g = g
run_good (c ∷ calls) p b cs t g =
    run_good calls (call_of c p b).0.payload (call_of c p b).1 (accepts (call_of c p b).0.answer cs (command_of c)) t.1
    (step c p b cs (call_of c p b) (call_outcome c p b) t.0 g)

-- ---- an opened payload
opened_good : (max : ℕ) (p : PayloadWriter) (b : List ℕ) → opened_of max ≡ Ok p → Good p b []
unfolding opened_of payload_of AllEncodable
opened_good max p b e = elim (split (outside 8 1400 max)) [
  | inl o ↦ absurd (let f : Err InvalidValue ≡ Ok p = rw o at e in let z : ◌≡◌ {A = ℕ} 0 1 = cc in let y : ⊥ = omega arith in y)
  | inr o ↦
      let f : Ok record { len = 0; max = max } ≡ Ok p = rw o at e in
      let q : p ≡ record { len = 0; max = max } = cc in
      rw q record { valid = sym (valid_empty record { len = 0; max = max } (length b) o refl); holds = refl; encodable = tt }
]

length_placed : (cs : List Packet) (at : ℕ) → length (placed at cs) ≡ length cs
unfolding placed
length_placed [] at = refl
length_placed (c ∷ cs) at = ap suc (length_placed cs (at + size_of c))

pub round_trips : RoundTrips
round_trips max p b calls e t =
    let g = run_good calls p b [] t (opened_good max p b e) in
    let back = ap items_of g.holds ∙ items_payload (run calls p b []).accepted g.encodable in
    record { read_back = back; counted = ap length back ∙ length_placed (run calls p b []).accepted 4 }

-- ---- the rest of the buffer
pub untouched : Untouched
untouched =
    record {
      after = λ c p b. written_after p b (command_of c) _ (call_outcome c p b);
      before = λ c p b. written_before p b (command_of c) _ (call_outcome c p b);
      same_length = λ c p b. written_length p b (command_of c) _ (call_outcome c p b);
    }
