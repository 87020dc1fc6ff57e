-- Taking a due request: what comes of it, by the ways out.
use Prim.Native.Nat.{ℕ, ◌+◌, ◌≤◌}
use Rattle.std.proofs.Common.{Option, Some, None, Result, Ok, Err}
use Rattle.window.specs.declared.window.SeqRange.{SeqRange}
use Rattle.std.specs.Bool.{⊤}
use mathlib.Core.Path.{◌≡◌, refl, ap}
use mathlib.Core.Logic.{inl, inr}
use mathlib.Core.Bool.{Bool, true, false, cond, not, ◌&&◌}
use mathlib.Core.List.{List, [], ◌∷◌}
use native.Mathlib.Omega.{arith}
use lib.Dec.{ltb, eqb}
use lib.ListN.{length}
use Rattle.config.specs.Entry.{entry}
use Rattle.config.specs.Settings.{check_of}
use Rattle.config.specs.declared.refusal.Refusal.{Refusal}
use Rattle.config.specs.declared.refusal.Refusal.TheVariants.{TooLarge, InvalidState}
use Rattle.config.specs.declared.settings.StreamConfig.{StreamConfig}
use Rattle.config.specs.inner.Tests.{split, tests}
use Rattle.packet.specs.Layout.{Packet, size_of}
use Rattle.packet.specs.Write.{limit_of, start_of, no_fit, valid_of as payload_valid, refused_of, done_of, placed_of, written_of, done}
use Rattle.packet.specs.declared.writer.PayloadWriter.{PayloadWriter}
use Rattle.packet.proofs.Outcomes.{written_length, written_valid}
use Rattle.command.specs.Write.{request_packet}
use Rattle.command.specs.declared.retransmit.RetransmitRequest.{RetransmitRequest}
use Rattle.window.specs.Window.{request_of}
use Rattle.receiver.specs.Receiver.{valid_of as receiver_valid, enabled_of, with_asked, not_due, taken_span, taken_of, offered_of}
use Rattle.receiver.specs.Answers.{request_refused, take_answer}
use Rattle.receiver.specs.declared.receiver.Receiver.{Receiver}
use Rattle.receiver.specs.declared.receiver.Request.{Request}
use Rattle.receiver.specs.declared.receiver.Request.TheVariants.{Nothing as NotDue, Written as Taken, More as NoSpace}
use Rattle.receiver.specs.declared.receiver.RequestWritten.{RequestWritten}
use Rattle.receiver_log.specs.Calls as Receiver
use Rattle.receiver_log.specs.Promise as Received
use Rattle.stream_log.specs.Answers.{as_command, request_wanted}

-- ---- the request that is wanted

abbrev pub wanted_by : Receiver → StreamConfig → List Packet
wanted_by r cfg = cond (r.request_due && enabled_of r cfg) (as_command (request_of r.window)) []

pub wanted_is : (W : ℕ) (r : Receiver) (t : List Receiver.Entry) → Received.Kept W r t → (cfg : StreamConfig) → wanted_by r cfg ≡ request_wanted W t cfg
unfolding request_wanted
wanted_is W r t k cfg = cc (k.due, k.refused, k.request)

-- none is due any more
pub none_wanted : (r : Receiver) (cfg : StreamConfig) → r.request_due ≡ false → wanted_by r cfg ≡ []
none_wanted r cfg e = ap (λ (d : Bool). cond (d && enabled_of r cfg) (as_command (request_of r.window)) []) e

-- ---- the ways out

-- settings and payload that pass their tests
pub record Passing (cfg : StreamConfig) (p : PayloadWriter) (b : List ℕ) : Type 0 where
  pub check : check_of cfg ≡ Ok tt
  pub valid : payload_valid p (length b) ≡ true

-- a command doesn't fit
abbrev pub left : PayloadWriter → List ℕ → Packet → Bool
left p b c = ltb (limit_of p (length b)) (start_of p + size_of c)

-- answer, receiver, payload and its bytes
pub data Took (r : Receiver) (cfg : StreamConfig) (p : PayloadWriter) (b : List ℕ) : Result Request Refusal → Receiver → PayloadWriter → List ℕ → Type 0 where
  settings : (why : Refusal) → check_of cfg ≡ Err why → Took r cfg p b (Err why) r p b
  invalid : check_of cfg ≡ Ok tt → payload_valid p (length b) ≡ false → Took r cfg p b (Err InvalidState) r p b
  too_large : Passing cfg p b → (c : Packet) → wanted_by r cfg ≡ c ∷ [] → left p b c ≡ true → eqb p.len 0 ≡ true → Took r cfg p b (Err TooLarge) r p b
  no_space : Passing cfg p b → (c : Packet) → wanted_by r cfg ≡ c ∷ [] → left p b c ≡ true → eqb p.len 0 ≡ false → Took r cfg p b (Ok NoSpace) r p b
  none_due : Passing cfg p b → (r' : Receiver) → wanted_by r cfg ≡ [] → r'.request_due ≡ false → Took r cfg p b (Ok NotDue) r' p b
  taken : Passing cfg p b → (q : RetransmitRequest) (r' : Receiver) → wanted_by r cfg ≡ request_packet q ∷ [] → r'.request_due ≡ false → r'.asked ≡ Some q
      → left p b (request_packet q) ≡ false → Took r cfg p b (Ok Taken) r' (written_of p b (request_packet q)).0.payload (written_of p b (request_packet q)).1

abbrev pub TookBy : Receiver → StreamConfig → PayloadWriter → List ℕ → RequestWritten × List ℕ → Type 0
TookBy r cfg p b t = Took r cfg p b t.0.answer t.0.receiver t.0.payload t.1

-- one command, by whether it fits
module _ (p : PayloadWriter) (b : List ℕ) (v : payload_valid p (length b) ≡ true) (c : Packet) where
  pub one_left : left p b c ≡ true → written_of p b c ≡ (refused_of p (no_fit p), b)
  unfolding written_of
  one_left l = rw (v, l)

  pub one_written : left p b c ≡ false → ltb 255 (length c.words) ≡ false → written_of p b c ≡ (done_of p c, placed_of p b c)
  unfolding written_of
  one_written l k = rw (v, l, k)

  pub one_valid : left p b c ≡ false → ltb 255 (length c.words) ≡ false → payload_valid (done_of p c).payload (length (placed_of p b c)) ≡ true
  one_valid l k =
      let m : start_of p + size_of c ≤ limit_of p (length b) = omega (arith, tests) in
      let n : length c.words ≤ 255 = omega (arith, tests) in
      rw (written_length p b c (done_of p c, placed_of p b c) (done m n)) (written_valid p b c (done_of p c, placed_of p b c) (done m n) v)

module _ (r : Receiver) (cfg : StreamConfig) (p : PayloadWriter) (b : List ℕ) where
  module _ (g : Passing cfg p b) where
    offered_took : (q : RetransmitRequest) → wanted_by r cfg ≡ request_packet q ∷ [] → TookBy r cfg p b (offered_of r q p b)
    unfolding offered_of
    offered_took q e = elim (split (left p b (request_packet q))) [
      | inl l ↦ rw (one_left p b g.valid (request_packet q) l) (elim (split (eqb p.len 0)) [
        | inl z ↦ rw z (too_large g (request_packet q) e l z)
        | inr z ↦ rw z (no_space g (request_packet q) e l z)
      ])
      | inr l ↦
          let x : Took r cfg p b (Ok Taken) (with_asked r (Some q)) (written_of p b (request_packet q)).0.payload (written_of p b (request_packet q)).1 = taken g q (with_asked r (Some q)) e refl refl l in
          let w = one_written p b g.valid (request_packet q) l refl in
          rw w (rw w at x)
    ]

    span_took : (s : Option SeqRange) → wanted_by r cfg ≡ as_command s → TookBy r cfg p b (taken_span r p b s)
    span_took None e = none_due g (with_asked r r.asked) e refl
    span_took (Some range) e = offered_took record { seq = range.first; count = range.count } e

    taken_took : TookBy r cfg p b (taken_of r cfg p b)
    unfolding taken_of
    taken_took = go r.request_due refl (enabled_of r cfg) refl
      where
        go : (d : Bool) → r.request_due ≡ d → (o : Bool) → enabled_of r cfg ≡ o
            → TookBy r cfg p b (cond (not d) (not_due r p, b) (cond (not o) (not_due (with_asked r r.asked) p, b) (taken_span r p b (request_of r.window))))
        go false d o e = none_due g r (none_wanted r cfg d) d
        go true d false e = none_due g (with_asked r r.asked) (cc) refl
        go true d true e = span_took (request_of r.window) (cc)

  -- of a receiver that passes the state test
  pub take_took : receiver_valid r ≡ true → TookBy r cfg p b (take_answer r cfg p b)
  unfolding take_answer
  take_took v = rw v (go (check_of cfg) refl (payload_valid p (length b)) refl)
    where
      go : (k : Result ⊤ Refusal) → check_of cfg ≡ k → (o : Bool) → payload_valid p (length b) ≡ o
          → TookBy r cfg p b (entry k o (request_refused r p b) (taken_of r cfg p b))
      go (Err why) k o e = settings why k
      go (Ok _) k false e = invalid k e
      go (Ok _) k true e = taken_took record { check = k; valid = e }
