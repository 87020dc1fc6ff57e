use Rattle.std.proofs.Common.{◌≡◌, ℕ, ◌+◌, ◌-◌, ◌/◌, ◌%◌, ◌<◌, ◌≤◌, List, length, get_or, refl, ◌∙◌, arith}
use Rattle.config.specs.Sequence.{turn}
use Rattle.history.specs.Ring.{slot_of}
use Rattle.history.specs.inner.Walk.{Past}
use Rattle.history.proofs.Slots.{slot_to}
use Rattle.history.proofs.Past.{past_start, past_to, one_more, further, header_parts, gone_by_lem, number_next, header_right, past_wrong, past_turn, ran_on}
use Rattle.history.proofs.headers.equal_leg.Goals as goal
use Rattle.history.proofs.headers.equal_leg.Goals.{Joined-ring-i, then-ring-i, else-ring-i+then-passed-k, else-ring-i+else-passed-k+then-ring-i-2}

-- what holds before each entry
abbrev Here : (ring : List ℕ) (at seq k pl i passed header : ℕ) → Type 0
Here ring at seq k pl i passed header =
    let step = 1 + pl in
    (passed < k)
    × (at ≤ i)
    × (i < length ring)
    × (header % turn ≡ pl)
    × (header < 4294967296)
    × Past ring at seq (at - step) passed i (header / turn) (i - step) (i - at)
    × ((get_or ring i 0 ≡ header → ⊥) → (0 < passed) × (at + step ≤ i))

-- what holds behind the loop
abbrev End : (ring : List ℕ) (at seq k pl i passed header : ℕ) → Type 0
End ring at seq k pl i passed header =
    let step = 1 + pl in
    (0 < passed)
    × (passed ≤ k)
    × (header < 4294967296)
    × (at + step ≤ i)
    × Past ring at seq (at - step) passed (slot_of (length ring) at (i - at)) (header / turn) (i - step) (i - at)

module _ (ring : List ℕ) (at seq k pl i passed header : ℕ) (h : Here ring at seq k pl i passed header) where
  -- the next entry is passed
  goes : (next : ℕ) → pl ≤ 64 → get_or ring i 0 ≡ header → next ≡ (header + turn) % 4294967296 → End ring at seq k pl (i + (1 + pl)) (passed + 1) next
  goes next few same e =
      let n = number_next _ _ h.4 e in
      let t = gone_by_lem _ _ _ _ _ _ h.0 h.1 same h.3 in
      (t.0, t.1, n.2, t.2, past_turn _ _ _ _ _ _ _ _ h.5 _ _ _ _ t.3 few refl n.0 t.4 h.1)

  -- the next header is another one
  stays : (get_or ring i 0 ≡ header → ⊥) → End ring at seq k pl i passed header
  stays other =
      let m = h.6 other in
      (m.0, omega arith, h.4, m.1, rw (slot_to _ _ _ h.1 h.2) h.5)

ended : (c : Joined-ring-i) → End c.args.ring.now c.args.at c.args.seq c.args.k c.wrapping_sub_usize-pl.result c.if-ring-i.i c.if-ring-i.passed c.if-ring-i.header
ended c =
    let h : Here c.args.ring.now c.args.at c.args.seq c.args.k c.wrapping_sub_usize-pl.result c.loop-i.i c.loop-i.passed c.loop-i.header = c.loop-i.invariant in
    elim c.if-ring-i.branch [
      | then-ring-i w ↦ rw (w.i-is, w.passed-is, w.header-is) (stays _ _ _ _ _ _ _ _ h w.if-ring-i.true)
      | else-ring-i+then-passed-k w ↦
          rw (w.i-is, w.passed-is, w.header-is) (goes _ _ _ _ _ _ _ _ h _ c.if-pl-gt-MAX_PL.false w.if-ring-i.false w.wrapping_add_u32-header.ensures.value)
      | else-ring-i+else-passed-k+then-ring-i-2 w ↦
          rw (w.i-is, w.passed-is, w.header-is) (goes _ _ _ _ _ _ _ _ h _ c.if-pl-gt-MAX_PL.false w.if-ring-i.false w.wrapping_add_u32-header.ensures.value)
    ]

pub returns-then-pl-gt-MAX_PL : goal.returns-then-pl-gt-MAX_PL
returns-then-pl-gt-MAX_PL c =
    λ (p : ℕ). (past_wrong _ _ _ _ _ _ _ _ (past_start _ _ _ 0 _ refl) _ _ c.requires.2 (omega arith) c.wrapping_sub_usize-pl.ensures.value c.if-pl-gt-MAX_PL.true (omega arith))

pub loop-i-init : goal.loop-i-init
loop-i-init c =
    let h = header_right _ _ _ (omega arith) c.wrapping_sub_usize-pl.ensures.value c.if-pl-gt-MAX_PL.false in
    let p = header_parts _ _ _ h c.if-pl-gt-MAX_PL.false in (
      c.requires.2,
      omega arith,
      c.requires.0,
      p.0,
      omega (arith, c.type_inv.ring c.args.at),
      past_start _ _ _ _ _ p.1,
      λ f. absurd (f refl),
    )

pub loop-i-preserved : goal.loop-i-preserved
loop-i-preserved c =
    let g = goes _ _ _ _ _ _ _ _ c.loop-i.invariant _ c.if-pl-gt-MAX_PL.false c.if-ring-i.false c.wrapping_add_u32-header.ensures.value in
    let l = further _ _ _ _ c.loop-i.invariant.1 refl in (
      one_more _ _ c.loop-i.invariant.0 c.if-passed-k.false,
      l,
      c.if-ring-i-2.false,
      (number_next _ _ c.loop-i.invariant.4 c.wrapping_add_u32-header.ensures.value).1 ∙ c.loop-i.invariant.3,
      g.2,
      past_to _ _ _ _ _ _ _ _ _ l c.if-ring-i-2.false g.4,
      λ _. (g.0, g.3),
    )

pub overflow_cast-result : goal.overflow_cast-result
overflow_cast-result c = let e = ended (goal.at.overflow_cast-result c).Joined-ring-i in omega arith

pub overflow_sub-result : goal.overflow_sub-result
overflow_sub-result c = let e = ended (goal.at.overflow_sub-result c).Joined-ring-i in omega arith

pub overflow_sub-result-2 : goal.overflow_sub-result-2
overflow_sub-result-2 c = let e = ended (goal.at.overflow_sub-result-2 c).Joined-ring-i in omega arith

pub returns : goal.returns
returns c = let e = ended (goal.at.returns c).Joined-ring-i in ran_on _ _ _ _ _ _ _ _ _ e.0 e.1 e.4
