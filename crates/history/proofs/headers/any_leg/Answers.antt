use Rattle.std.proofs.Common.{◌≡◌, ℕ, ◌+◌, ◌-◌, ◌*◌, ◌/◌, ◌%◌, length, get_or, refl, ◌∙◌, arith}
use Rattle.config.specs.Sequence.{turn}
use Rattle.history.specs.Ring.{slot_of}
use Rattle.history.specs.inner.Walk.{Past}
use Rattle.history.proofs.Past.{past_to, one_more, further, less_number, place_after, number_next, header_right, past_wrong, past_turn, ran_on}
use Rattle.history.proofs.headers.any_leg.Goals as goal
use Rattle.history.proofs.headers.any_leg.Goals.{After-wrapping_add_u32-want, After-wrapping_sub_usize, Else-wrapping_sub_usize-gt-MAX_PL}

-- the header less its number
less :
    (c : After-wrapping_sub_usize)
    → (c.wrapping_sub_usize.result + c.loop-at.want / turn * turn) % 18446744073709551616 ≡ get_or c.args.ring.now c.loop-at.i 0
less c =
    less_number _ _ _ _ _ _ c.wrapping_sub_usize-base.ensures.value c.wrapping_add_usize-next.ensures.value c.wrapping_sub_usize.ensures.value
    (omega (arith, c.type_inv.ring c.loop-at.i))
    c.loop-at.invariant.3

-- the place after an entry that is passed
behind : (c : Else-wrapping_sub_usize-gt-MAX_PL) → c.wrapping_add_usize-next.result ≡ c.loop-at.i + (1 + c.wrapping_sub_usize.result)
behind c =
    let e = place_after _ _ _ _ _ _ c.wrapping_sub_usize-base.ensures.value c.wrapping_add_usize-next.ensures.value c.wrapping_sub_usize.ensures.value (omega arith) (omega arith) in
    omega arith

over :
    (c : After-wrapping_add_u32-want)
    → (c.wrapping_sub_usize.result + c.loop-at.want / turn * turn) % 18446744073709551616 ≡ get_or c.args.ring.now c.loop-at.i 0
    → c.wrapping_add_usize-next.result ≡ c.loop-at.i + (1 + c.wrapping_sub_usize.result)
    → Past c.args.ring.now c.args.at c.args.seq c.args.at (c.loop-at.passed + 1) (slot_of (length c.args.ring.now) c.args.at (c.wrapping_add_usize-next.result - c.args.at)) (c.wrapping_add_u32-want.result / turn) c.loop-at.i (c.wrapping_add_usize-next.result - c.args.at)
over c lessened place =
    past_turn _ _ _ _ _ _ _ _ c.loop-at.invariant.5 _ _ _ _
    (header_right _ _ _ (omega arith) lessened c.if-wrapping_sub_usize-gt-MAX_PL.false)
    c.if-wrapping_sub_usize-gt-MAX_PL.false
    place
    (number_next _ _ c.loop-at.invariant.4 c.wrapping_add_u32-want.ensures.value).0
    refl
    c.loop-at.invariant.1

pub returns-then-wrapping_sub_usize-gt-MAX_PL : goal.returns-then-wrapping_sub_usize-gt-MAX_PL
returns-then-wrapping_sub_usize-gt-MAX_PL c =
    λ (p : ℕ). (past_wrong _ _ _ _ _ _ _ _ c.loop-at.invariant.5 _ _ c.loop-at.invariant.0 (omega arith) (less (goal.at.returns-then-wrapping_sub_usize-gt-MAX_PL c).After-wrapping_sub_usize) c.if-wrapping_sub_usize-gt-MAX_PL.true (omega arith))

pub loop-at-preserved : goal.loop-at-preserved
loop-at-preserved c =
    let l = further _ _ _ _ c.loop-at.invariant.1 (behind (goal.at.loop-at-preserved c).Else-wrapping_sub_usize-gt-MAX_PL) in
    let n = number_next _ _ c.loop-at.invariant.4 c.wrapping_add_u32-want.ensures.value in (
      one_more _ _ c.loop-at.invariant.0 c.if-passed-k.false,
      l,
      c.if-ring-i.false,
      n.1 ∙ c.loop-at.invariant.3,
      n.2,
      past_to _ _ _ _ _ _ _ _ _ l c.if-ring-i.false (over (goal.at.loop-at-preserved c).After-wrapping_add_u32-want (less (goal.at.loop-at-preserved c).After-wrapping_sub_usize) (behind (goal.at.loop-at-preserved c).Else-wrapping_sub_usize-gt-MAX_PL)),
    )

pub overflow_sub-result : goal.overflow_sub-result
overflow_sub-result c = let e = behind (goal.at.overflow_sub-result c).Else-wrapping_sub_usize-gt-MAX_PL in omega arith

pub returns : goal.returns
returns c = ran_on _ _ _ _ _ _ _ _ _ (omega arith) (omega arith) (over (goal.at.returns c).After-wrapping_add_u32-want (less (goal.at.returns c).After-wrapping_sub_usize) (behind (goal.at.returns c).Else-wrapping_sub_usize-gt-MAX_PL))
