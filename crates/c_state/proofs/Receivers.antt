-- A receiver and its words.
use mathlib.Core.Path.{◌≡◌, refl, ap, sym, ◌∙◌}
use Rattle.std.proofs.Common.{Option, Some, None}
use mathlib.Core.Bool.{Bool, true, false, ◌&&◌}
use mathlib.Core.Logic.{inl, inr, ◌⊎◌}
use mathlib.Core.List.{List, [], ◌∷◌}
use Prim.Native.Nat.{ℕ, ◌/◌, ◌≤◌, ◌<◌}
use native.Mathlib.Omega.{arith}
use lib.ListN.{length}
use lib.Bits.{bit_or}
use lib.Dec.{eqb, leb, ltb}
use borrow.Author.Tests.{eq-eqb, ne_eqb, eqb-true, le-leb, lt-leb, leb-true}
use Rattle.config.specs.inner.Tests.{split, and_left, and_right}
use Rattle.window.specs.declared.window.ReceiveWindow.{ReceiveWindow}
use Rattle.receiver.specs.declared.receiver.Receiver.{Receiver}
use Rattle.receiver.specs.declared.receiver.RequestTimer.{RequestTimer}
use Rattle.command.specs.declared.retransmit.RetransmitRequest.{RetransmitRequest}
use Rattle.c_state.specs.Pack.{four_in, word, two_in, pair, flags_in, flags_number, held}
use Rattle.c_state.specs.Receiver.{at, timer_in, asked_in, timer_words, asked_words, receiver_words, with_window, receiver_of, holds_but_timer, receiver_holds}
use Rattle.c_state.specs.Receiving.{not_due}
use Rattle.c_state.specs.Theorems.{ReceiverSmall}
use Rattle.c_state.specs.declared.pack.Quarters.{Quarters}
use Rattle.c_state.specs.declared.pack.Halves.{Halves}
use Rattle.c_state.specs.declared.pack.Flags.{Flags}
use Rattle.c_state.specs.declared.receiver_part.TimerWords.{TimerWords}
use Rattle.c_state.specs.declared.receiver_part.AskedWords.{AskedWords}
use Rattle.c_state.proofs.Packed.{word_four, four_word, pair_two, two_pair, number_flags, flags_number_lem, number_small, high_small, pair_small, by_flag, held_upper}
use Rattle.c_words.proofs.Within.{and_true, or_left, or_right}
use Rattle.c_words.proofs.Runs.{run, run_all}

-- ---- the timer and the request, by their flags
timer_back : (t : Option RequestTimer) → let w = timer_words t in timer_in w.on w.due w.sent ≡ t
timer_back None = refl
timer_back (Some t) = refl

asked_back : (a : Option RetransmitRequest) → let w = asked_words a in asked_in w.on w.seq w.count ≡ a
asked_back None = refl
asked_back (Some r) = refl

timer_same : (on : Bool) (due sent : ℕ) → held on due sent 0 ≡ true → timer_words (timer_in on due sent) ≡ record { on = on; due = due; sent = sent }
timer_same on due sent h =
    by_flag (λ (o : Bool) (x y z : ℕ). ◌≡◌ {A = TimerWords} (timer_words (timer_in o x y)) record { on = o; due = x; sent = y }) on due sent 0 h refl refl

asked_same : (on : Bool) (seq count : ℕ) → held on seq count 0 ≡ true → asked_words (asked_in on seq count) ≡ record { on = on; seq = seq; count = count }
asked_same on seq count h =
    by_flag (λ (o : Bool) (x y z : ℕ). ◌≡◌ {A = AskedWords} (asked_words (asked_in o x y)) record { on = o; seq = x; count = y }) on seq count 0 h refl refl

timer_held : (t : Option RequestTimer) → let w = timer_words t in held w.on w.due w.sent 0 ≡ true
unfolding held
timer_held None = refl
timer_held (Some t) = refl

asked_held : (a : Option RetransmitRequest) → let w = asked_words a in held w.on w.seq w.count 0 ≡ true
unfolding held
asked_held None = refl
asked_held (Some r) = refl

sent_small : (t : Option RequestTimer) → ((r : RequestTimer) → t ≡ Some r → r.sent < 256) → (timer_words t).sent < 256
sent_small None h = omega arith
sent_small (Some r) h = h r refl

asked_small : (a : Option RetransmitRequest) → ((r : RetransmitRequest) → a ≡ Some r → (r.seq < 65536) × (r.count < 65536)) → ((asked_words a).seq < 65536) × ((asked_words a).count < 65536)
asked_small None h = (omega arith, omega arith)
asked_small (Some r) h = h r refl

-- ---- a receiver, stored
module _ (r : Receiver) (small : ReceiverSmall r) where
  abbrev tw : TimerWords
  tw = timer_words r.timer

  abbrev aw : AskedWords
  aw = asked_words r.asked

  abbrev fl : Flags
  fl = record { timer = tw.on; request_due = r.request_due; refused = r.refused; asked = aw.on }

  figures : four_in (word r.window.highest r.window.size aw.seq aw.count) ≡ record { a = r.window.highest; b = r.window.size; c = aw.seq; d = aw.count }
  figures = four_word _ _ _ _ small.0.highest small.1 (asked_small r.asked small.0.asked).0

  sent_and_flags : two_in (pair tw.sent (flags_number fl)) ≡ record { low = tw.sent; high = flags_number fl }
  sent_and_flags = two_pair _ _ (sent_small r.timer small.0.timer)

  -- the receiver, from parts that are its own
  parts : (u : Option RequestTimer) (b : Option RetransmitRequest) → u ≡ r.timer → b ≡ r.asked
      → ◌≡◌ {A = Receiver} record { window = r.window; timer = u; request_due = r.request_due; refused = r.refused; asked = b } r
  parts u b e g = rw (e, g)

  pub receiver_back : receiver_of (receiver_words r) ≡ r
  unfolding receiver_of receiver_words
  receiver_back = rw (figures, sent_and_flags, flags_number_lem fl) (parts _ _ (timer_back r.timer) (asked_back r.asked))

  pub receiver_holds_lem : receiver_holds (receiver_words r) ≡ true
  unfolding receiver_holds holds_but_timer receiver_words
  receiver_holds_lem =
      rw (
        figures,
        sent_and_flags,
        flags_number_lem fl,
        le-leb (pair tw.sent (flags_number fl)) 4095 (pair_small _ _ (sent_small r.timer small.0.timer) (number_small fl)),
        timer_held r.timer,
        asked_held r.asked,
      )

pub receiver_words_lem : (r : Receiver) (t : TimerWords) (a : AskedWords) (n w m : ℕ) → t ≡ timer_words r.timer → a ≡ asked_words r.asked
    → n ≡ flags_number record { timer = t.on; request_due = r.request_due; refused = r.refused; asked = a.on }
    → w ≡ word r.window.highest r.window.size a.seq a.count → m ≡ pair t.sent n
    → r.window.bits.low ∷ r.window.bits.high ∷ 0 ∷ 0 ∷ t.due ∷ w ∷ m ∷ [] ≡ receiver_words r
unfolding receiver_words
receiver_words_lem r t a n w m et ea en ew em = rw (em, ew, en, ea, et)

pub length_receiver : (r : Receiver) → length (receiver_words r) ≡ 7
unfolding receiver_words
length_receiver r = refl

-- ---- words, loaded
-- what the test says
pub record Holds (ws : List ℕ) : Type 0 where
  pub upper : at ws 2 ≡ 0
  pub top : at ws 3 ≡ 0
  pub flags : at ws 6 ≤ 4095
  pub timer : held (flags_in (two_in (at ws 6)).high).timer (at ws 4) (two_in (at ws 6)).low 0 ≡ true
  pub asked : held (flags_in (two_in (at ws 6)).high).asked (four_in (at ws 5)).c (four_in (at ws 5)).d 0 ≡ true

module _ (ws : List ℕ) where
  abbrev q : Quarters
  q = four_in (at ws 5)

  abbrev s : Halves
  s = two_in (at ws 6)

  abbrev g : Flags
  g = flags_in s.high

  pub holds : receiver_holds ws ≡ true → Holds ws
  unfolding receiver_holds holds_but_timer
  holds e =
      let r0 = and_left (holds_but_timer ws) _ e in
      let r1 = and_right (eqb (at ws 2) 0) _ r0 in
      let r2 = and_right (eqb (at ws 3) 0) _ r1 in
      record {
        upper = eqb-true (at ws 2) 0 (and_left (eqb (at ws 2) 0) _ r0);
        top = eqb-true (at ws 3) 0 (and_left (eqb (at ws 3) 0) _ r1);
        flags = leb-true (at ws 6) 4095 (and_left (leb (at ws 6) 4095) _ r2);
        timer = and_right (holds_but_timer ws) _ e;
        asked = and_right (leb (at ws 6) 4095) _ r2;
      }

  receiver_run : Holds ws → receiver_words (receiver_of ws) ≡ run ws 0 7
  unfolding receiver_words receiver_of
  receiver_run h =
      let figures : word q.a q.b q.c q.d ≡ at ws 5 = word_four (at ws 5) in
      let flags : pair s.low (flags_number g) ≡ at ws 6 = ap (pair s.low) (number_flags s.high (high_small (at ws 6) h.flags)) ∙ pair_two (at ws 6) in
      let upper : 0 ≡ at ws 2 = sym h.upper in
      let top : 0 ≡ at ws 3 = sym h.top in
      rw (timer_same g.timer (at ws 4) s.low h.timer, asked_same g.asked q.c q.d h.asked)
      (ap (λ (x : ℕ). at ws 0 ∷ at ws 1 ∷ x ∷ 0 ∷ at ws 4 ∷ word q.a q.b q.c q.d ∷ pair s.low (flags_number g) ∷ []) upper
      ∙ ap (λ (x : ℕ). at ws 0 ∷ at ws 1 ∷ at ws 2 ∷ x ∷ at ws 4 ∷ word q.a q.b q.c q.d ∷ pair s.low (flags_number g) ∷ []) top
      ∙ ap (λ (x : ℕ). at ws 0 ∷ at ws 1 ∷ at ws 2 ∷ at ws 3 ∷ at ws 4 ∷ x ∷ pair s.low (flags_number g) ∷ []) figures
      ∙ ap (λ (x : ℕ). at ws 0 ∷ at ws 1 ∷ at ws 2 ∷ at ws 3 ∷ at ws 4 ∷ at ws 5 ∷ x ∷ []) flags)

  pub receiver_again : length ws ≡ 7 → receiver_holds ws ≡ true → receiver_words (receiver_of ws) ≡ ws
  receiver_again l e = receiver_run (holds e) ∙ run_all ws 7 (sym l)

  -- ---- what the code makes
  pub window_made : (p : Quarters) → p ≡ q → record { size = p.b; highest = p.a; bits = record { low = at ws 0; high = at ws 1 } } ≡ (receiver_of ws).window
  unfolding receiver_of
  window_made p ep = rw ep

  pub receiver_made : (p : Quarters) (m : Halves) (on : Flags) (w : ReceiveWindow) (t : Option RequestTimer) (a : Option RetransmitRequest) → p ≡ q → m ≡ s → on ≡ flags_in m.high → w ≡ (receiver_of ws).window
      → t ≡ timer_in on.timer (at ws 4) m.low → a ≡ asked_in on.asked p.c p.d
      → record { window = w; timer = t; request_due = on.request_due; refused = on.refused; asked = a } ≡ receiver_of ws
  unfolding receiver_of
  receiver_made p m on w t a ep em eo ew et ea = rw (ew, et, ea, eo, em, ep)

  pub window_words_lem : (p : Quarters) (v : ReceiveWindow) (f : ℕ) → receiver_holds ws ≡ true → p ≡ q → f ≡ word v.highest v.size p.c p.d
      → v.bits.low ∷ v.bits.high ∷ at ws 2 ∷ at ws 3 ∷ at ws 4 ∷ f ∷ at ws 6 ∷ [] ≡ receiver_words (with_window (receiver_of ws) v)
  unfolding receiver_words receiver_of
  window_words_lem p v f e ep ef =
      let h = holds e in
      let flags : pair s.low (flags_number g) ≡ at ws 6 = ap (pair s.low) (number_flags s.high (high_small (at ws 6) h.flags)) ∙ pair_two (at ws 6) in
      rw (ef, ep, timer_same g.timer (at ws 4) s.low h.timer, asked_same g.asked q.c q.d h.asked, h.upper, h.top)
      (ap (λ (x : ℕ). v.bits.low ∷ v.bits.high ∷ 0 ∷ 0 ∷ at ws 4 ∷ word v.highest v.size q.c q.d ∷ x ∷ []) (sym flags))

  -- ---- the tests, one by one
  pub upper_fails : (bit_or (at ws 2) (at ws 3) ≡ 0 → ⊥) → false ≡ holds_but_timer ws
  unfolding holds_but_timer
  upper_fails h = by (split (eqb (at ws 2) 0))
    where
      by : (eqb (at ws 2) 0 ≡ true) ⊎ (eqb (at ws 2) 0 ≡ false) → false ≡ holds_but_timer ws
      by (inl e) = rw (e, ne_eqb (at ws 3) 0 (λ z. h (ap (λ (x : ℕ). bit_or x (at ws 3)) (eqb-true (at ws 2) 0 e) ∙ z)))
      by (inr e) = rw e

  module _ (none : bit_or (at ws 2) (at ws 3) ≡ 0) where
    upper : at ws 2 ≡ 0
    upper = omega (arith, none, or_left (at ws 2) (at ws 3))

    top : at ws 3 ≡ 0
    top = omega (arith, none, or_right (at ws 2) (at ws 3))

    pub flags_fail : 4095 < at ws 6 → false ≡ holds_but_timer ws
    unfolding holds_but_timer
    flags_fail h = rw (eq-eqb (at ws 2) 0 upper, eq-eqb (at ws 3) 0 top, lt-leb (at ws 6) 4095 h)

    pub asked_last : at ws 6 ≤ 4095 → (m : Halves) (on : Flags) → m ≡ s → on ≡ flags_in m.high → held on.asked (at ws 5 / 4294967296) 0 0 ≡ holds_but_timer ws
    unfolding holds_but_timer
    asked_last h m on em eo =
        rw (eq-eqb (at ws 2) 0 upper, eq-eqb (at ws 3) 0 top, le-leb (at ws 6) 4095 h, eo, em) (held_upper g.asked (at ws 5))

  pub but_timer_flags : holds_but_timer ws ≡ true → at ws 6 ≤ 4095
  unfolding holds_but_timer
  but_timer_flags e =
      leb-true (at ws 6) 4095 (and_left (leb (at ws 6) 4095) _ (and_right (eqb (at ws 3) 0) _ (and_right (eqb (at ws 2) 0) _ e)))

  pub but_timer_fails : holds_but_timer ws ≡ false → false ≡ receiver_holds ws
  unfolding receiver_holds
  but_timer_fails e = rw e

  pub rests_fails : (time : ℕ) → holds_but_timer ws ≡ false → false ≡ (receiver_holds ws && not_due (receiver_of ws).timer time)
  rests_fails time e = ap (λ (b : Bool). b && not_due (receiver_of ws).timer time) (but_timer_fails e)

  module _ (rest : holds_but_timer ws ≡ true) (m : Halves) (on : Flags) (em : m ≡ s) (eo : on ≡ flags_in m.high) where
    pub timer_last : held on.timer (at ws 4) m.low 0 ≡ receiver_holds ws
    unfolding receiver_holds
    timer_last = rw (rest, eo, em)

    flag : on.timer ≡ g.timer
    flag = ap (λ (f : Flags). f.timer) eo ∙ ap (λ (h : Halves). (flags_in h.high).timer) em

    pub running_rests : (time : ℕ) → on.timer ≡ true → ltb time (at ws 4) ≡ (receiver_holds ws && not_due (receiver_of ws).timer time)
    unfolding receiver_holds receiver_of held
    running_rests time e = let k : g.timer ≡ true = sym flag ∙ e in rw (rest, k)

    pub stopped_rests : (time : ℕ) → on.timer ≡ false → held false (at ws 4) m.low 0 ≡ (receiver_holds ws && not_due (receiver_of ws).timer time)
    unfolding receiver_holds receiver_of
    stopped_rests time e = let k : g.timer ≡ false = sym flag ∙ e in rw (rest, k, em) (and_true (held false (at ws 4) s.low 0))
