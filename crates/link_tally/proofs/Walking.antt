-- The walk over a payload's commands: what is left to read from here, after what was counted, is the whole payload.
use Prim.Native.Nat.{ℕ, suc, ◌+◌, ◌≤◌}
use Rattle.std.proofs.Common.{Option, Result, Ok, Err}
use Rattle.command.specs.declared.retransmit.RetransmitError.{RetransmitError}
use mathlib.Core.Path.{◌≡◌, refl, sym, ap, ◌∙◌}
use mathlib.Core.List.{List, [], ◌∷◌, ◌++◌}
use native.Mathlib.Omega.{arith}
use lib.ListN.{length, drop, length-drop}
use lib.Dec.{eqb}
use Rattle.config.specs.inner.Tests.{split}
use Rattle.config.specs.declared.refusal.Refusal.{Refusal}
use Rattle.config.specs.declared.refusal.Refusal.TheVariants.{BadSignature}
use mathlib.Core.Logic.{inl, inr}
use Rattle.config.specs.declared.settings.StreamConfig.{StreamConfig}
use Rattle.packet.specs.Bytes.{words_of}
use Rattle.packet.specs.Layout.{packet}
use Rattle.packet.specs.Read.{header, signed, open_of, next_of, body_of, Item, whole, items_from, items_of, follow, walked}
use Rattle.packet.specs.declared.cursor.Header.{Header}
use Rattle.packet.specs.declared.cursor.Cursor.{Cursor}
use Rattle.packet.specs.declared.cursor.PacketItem.{PacketItem}
use Rattle.packet.specs.declared.cursor.PacketItem.TheVariants.{Command as WholeCommand, Truncated, End}
use Rattle.packet.proofs.RoundTrip.{walked_items, items_enough}
use Rattle.packet.proofs.Reading.{next_found}
use Rattle.command.specs.Parse.{parsed_of, request_in, error_in as error_command}
use Rattle.command.specs.declared.parse.Command.{Command}
use Rattle.stream.specs.declared.stream.DataStream.{DataStream}
use Rattle.link_rules.specs.Arriving.{Answer, Arrived, nothing, behind, command_of, arrived_by, item_by, arrived_of, handed_by, handed_in, loss_by, losses_in, error_by, error_in}
use Rattle.link_tally.specs.Tally.{rest_at, tallied, unread}
use Rattle.link_tally.specs.declared.arriving.Tally.{Tally}
use Rattle.link_tally.proofs.Tallies.{handed_few}

-- ---- the items from a place on

follows : (b : List ℕ) (at : ℕ) → rest_at b at ≡ follow (next_of b at) b (λ next. rest_at b next)
unfolding rest_at walked
follows b at =
    let l : length (drop at b) ≤ length b = simp length-drop (omega arith) in
    items_enough (length b) (suc (length b)) at (drop at b) l (up _ _ l) ∙ sym (walked_items (suc (length b)) b at) ∙ all (next_of b at)
  where
    up : (x y : ℕ) → x ≤ y → x ≤ suc y
    up x y h = omega arith

    all : (i : PacketItem) → follow i b (λ next. walked (length b) b next) ≡ follow i b (λ next. items_from (length b) next (drop next b))
    all (WholeCommand h here next) = ap (λ (x : List Item). whole here (packet h.code h.csd1 h.csd2 (words_of (body_of b here h))) ∷ x) (walked_items (length b) b next.at)
    all (Truncated h) = refl
    all End = refl

-- ---- counts

errors_behind : (xs ys : List Answer) (w : Option RetransmitError) → error_in w (xs ++ ys) ≡ error_in (error_in w xs) ys
unfolding error_in
errors_behind [] ys w = refl
errors_behind (x ∷ xs) ys w = errors_behind xs ys (error_by w x)

handed_behind : (xs ys : List Answer) (n : ℕ) → n + handed_in (xs ++ ys) ≡ n + handed_in xs + handed_in ys
unfolding handed_in
handed_behind [] ys n = omega arith
handed_behind (x ∷ xs) ys n = let e = handed_behind xs ys (n + handed_by x) in omega arith

losses_behind : (xs ys : List Answer) (n : ℕ) → n + losses_in (xs ++ ys) ≡ n + losses_in xs + losses_in ys
unfolding losses_in
losses_behind [] ys n = omega arith
losses_behind (x ∷ xs) ys n = let e = losses_behind xs ys (n + loss_by x) in omega arith

tallied_behind : (a : Tally) (x y : Arrived) → tallied a (behind x.answers y) ≡ tallied (tallied a x) y
tallied_behind a x y =
    let p = errors_behind x.answers y.answers a.waiting in
    let q = handed_behind x.answers y.answers a.handed in
    let r = losses_behind x.answers y.answers a.losses in
    cc

pub tallied_none : (a : Tally) → tallied a (nothing a.stream) ≡ a
unfolding handed_in losses_in error_in
tallied_none a = zeros a.handed a.losses
  where
    zeros : (h l : ℕ) → ◌≡◌ {A = Tally} (record { stream = a.stream; waiting = a.waiting; handed = h + 0; losses = l + 0 }) (record { stream = a.stream; waiting = a.waiting; handed = h; losses = l })
    zeros h l = let p : h + 0 ≡ h = omega arith in let q : l + 0 ≡ l = omega arith in cc

-- ---- how far a step goes, and how much it counts

pub walk_far : (b : List ℕ) (at : ℕ) (x : PacketItem) → x ≡ next_of b at → (h : Header) (here : ℕ) (next : Cursor) → x ≡ WholeCommand h here next → (at + 4 ≤ next.at) × (next.at ≤ length b)
walk_far b at x e h here next f = let n = next_found b at h here next (sym e ∙ f) in (omega arith, n.2)

pub walk_few : (a : Tally) (cfg : StreamConfig) (time : ℕ) (ring : List ℕ) (c : Result Command Refusal) (r : Tally) → r ≡ tallied a (arrived_by a.stream cfg time ring c) → (r.handed ≤ a.handed + 1) × (r.losses ≤ a.losses + 1)
walk_few a cfg time ring c r e =
    let f = handed_few a.stream cfg time ring c in
    let x : r.handed ≡ a.handed + handed_in (arrived_by a.stream cfg time ring c).answers = ap (λ (y : Tally). y.handed) e in
    let y : r.losses ≡ a.losses + losses_in (arrived_by a.stream cfg time ring c).answers = ap (λ (y : Tally). y.losses) e in
    (omega (arith, f.0), omega (arith, f.1))

module _ (cfg : StreamConfig) (time : ℕ) (ring : List ℕ) where
  -- the header's count of words is not looked at
  command_same : (s : DataStream) (h : Header) (ws : List ℕ) → arrived_by s cfg time ring (command_of (packet h.code h.csd1 h.csd2 ws)) ≡ arrived_by s cfg time ring (parsed_of h ws)
  unfolding parsed_of
  command_same s h ws = elim (split (eqb h.code 0xFF)) [
    | inl e ↦ rw e
    | inr e ↦ elim (split (eqb h.code 0x80)) [
      | inl f ↦ rw (e, f) (request ws)
      | inr f ↦ elim (split (eqb h.code 0x81)) [
        | inl g ↦ rw (e, f, g) (error ws)
        | inr g ↦ rw (e, f, g)
      ]
    ]
  ]
    where
      request : (xs : List ℕ) → arrived_by s cfg time ring (request_in (header h.code (length ws) h.csd1 h.csd2) xs) ≡ arrived_by s cfg time ring (request_in h xs)
      request [] = refl
      request (x ∷ xs) = refl

      error : (xs : List ℕ) → arrived_by s cfg time ring (error_command (header h.code (length ws) h.csd1 h.csd2) xs) ≡ arrived_by s cfg time ring (error_command h xs)
      error [] = refl
      error (x ∷ xs) = refl

  module _ (b : List ℕ) where
    -- what is counted at the end, from a place on
    abbrev pub ended : Tally → ℕ → Tally
    ended a at = tallied a (arrived_of a.stream cfg time ring (rest_at b at))

    module _ (a : Tally) (at : ℕ) where
      ended_by : (i : PacketItem) → next_of b at ≡ i → ended a at ≡ tallied a (arrived_of a.stream cfg time ring (follow i b (λ next. rest_at b next)))
      ended_by i e = ap (λ (x : List Item). tallied a (arrived_of a.stream cfg time ring x)) (follows b at ∙ ap (λ (x : PacketItem). follow x b (λ next. rest_at b next)) e)

      pub walk_end : (x : PacketItem) → x ≡ next_of b at → x ≡ End → a ≡ ended a at
      unfolding arrived_of
      walk_end x e f = sym (ended_by End (sym e ∙ f) ∙ tallied_none a)

      pub walk_cut : (x : PacketItem) → x ≡ next_of b at → (h : Header) → x ≡ Truncated h → a ≡ ended a at
      unfolding arrived_of
      walk_cut x e h f = sym (ended_by (Truncated h) (sym e ∙ f) ∙ tallied_none a)

      pub walk_on : (x : PacketItem) → x ≡ next_of b at → (h : Header) (here : ℕ) (next : Cursor) → x ≡ WholeCommand h here next → (part : List ℕ) → part ≡ body_of b here h
          → (c : Result Command Refusal) → c ≡ parsed_of h (words_of part) → (r : Tally) → r ≡ tallied a (arrived_by a.stream cfg time ring c) → ended r next.at ≡ ended a at
      unfolding arrived_of
      walk_on x e h here next f part p c q r t =
          let w : List ℕ = words_of (body_of b here h) in
          let k : c ≡ parsed_of h w = q ∙ ap (λ (y : List ℕ). parsed_of h (words_of y)) p in
          let one : Arrived = item_by a.stream cfg time ring (whole here (packet h.code h.csd1 h.csd2 w)) in
          let same : r ≡ tallied a one = t ∙ ap (λ (y : Result Command Refusal). tallied a (arrived_by a.stream cfg time ring y)) k ∙ ap (tallied a) (sym (command_same a.stream h w)) in
          ap (λ (y : Tally). ended y next.at) same
          ∙ sym (ended_by (WholeCommand h here next) (sym e ∙ f) ∙ tallied_behind a one (arrived_of one.stream cfg time ring (rest_at b next.at)))

    -- ---- the signature
    pub arrive_unsigned : (s : DataStream) (p : Result Cursor Refusal) → p ≡ open_of b → (why : Refusal) → p ≡ Err why → unread s ≡ tallied (unread s) (arrived_of s cfg time ring (items_of b))
    unfolding open_of items_of arrived_of
    arrive_unsigned s p e why f = elim (split (signed b)) [
      | inl k ↦ absurd (let x : Ok record { at = 4 } ≡ Err why = rw k at (sym e ∙ f) in let z : ◌≡◌ {A = ℕ} 0 1 = cc in let y : ⊥ = omega arith in y)
      | inr k ↦ rw k (sym (tallied_none (unread s)))
    ]

    pub arrive_signed : (s : DataStream) (p : Result Cursor Refusal) → p ≡ open_of b → (at : Cursor) → p ≡ Ok at → (r : Tally) → r ≡ ended (unread s) 4 → r ≡ tallied (unread s) (arrived_of s cfg time ring (items_of b))
    unfolding open_of items_of rest_at
    arrive_signed s p e at f r t = elim (split (signed b)) [
      | inl k ↦ rw k t
      | inr k ↦ absurd (let x : Err BadSignature ≡ Ok at = rw k at (sym e ∙ f) in let z : ◌≡◌ {A = ℕ} 0 1 = cc in let y : ⊥ = omega arith in y)
    ]
