use mathlib.Core.Path.{◌≡◌, refl, sym, ◌∙◌}
use Prim.Native.Nat.{◌+◌, ◌≤◌}
use native.Mathlib.Omega.{arith}
use lib.ListN.{length, drop, length-set, length-drop}
use Rattle.packet.proofs.Splice.{spliced_nil}
use Rattle.command.specs.Messages.{message_at, item_words}
use Rattle.command.specs.inner.Messages.{step_few, step_fits, whole_turn_lem, whole_stop, whole_end}
use Rattle.read_command.proofs.Stores.{store_first}
use Rattle.read_command.proofs.Lengths.{lengths_few, lengths_turn, lengths_stop, lengths_end}
use Rattle.read_command.proofs.words.lengths.Goals as goal
use Rattle.read_command.proofs.words.lengths.Goals.{Joined-n-same, then-n-same+else-n-eq0, else-n-same}

by_branch : (c : Joined-n-same) → c.if-n-same.same ≡ c.message_at-n.result
by_branch c = elim c.if-n-same.branch [ then-n-same+else-n-eq0 w ↦ omega arith | else-n-same w ↦ omega arith ]

-- `same` after the tests: the words of the message at hand, of which there is one
read : (c : Joined-n-same) → c.if-n-same.same ≡ item_words (message_at c.args.words.now c.loop-i.i)
read c = by_branch c ∙ c.message_at-n.ensures

some : (c : Joined-n-same) → 1 ≤ c.if-n-same.same
some c = elim c.if-n-same.branch [ then-n-same+else-n-eq0 w ↦ omega arith | else-n-same w ↦ omega arith ]

fits : (c : Joined-n-same) → c.loop-i.i + c.if-n-same.same ≤ length c.args.words.now
fits c = step_fits _ _ _ (read c) c.loop-i.invariant.1

pub loop-i-init : goal.loop-i-init
loop-i-init c = (omega arith, omega arith, c.requires, omega arith, omega arith, refl, omega arith)

pub returns-then-n-eq0 : goal.returns-then-n-eq0
returns-then-n-eq0 c = (
  whole_stop _ _ _ c.message_at-n.ensures _ c.loop-i.invariant.4 c.if-n-eq0.true,
  omega arith,
  sym (spliced_nil _ _ (omega arith)) ∙ rw (lengths_stop _ _ _ c.message_at-n.ensures c.if-n-eq0.true) at c.loop-i.invariant.5,
)

pub overflow_cast-out : goal.overflow_cast-out
overflow_cast-out c = omega (arith, step_few _ _ _ (read (goal.at.overflow_cast-out c).Joined-n-same))

pub overflow_add-i : goal.overflow_add-i
overflow_add-i c = omega (arith, fits (goal.at.overflow_add-i c).Joined-n-same)

pub loop-i-smaller : goal.loop-i-smaller
loop-i-smaller c = omega (arith, fits (goal.at.loop-i-smaller c).Joined-n-same, some (goal.at.loop-i-smaller c).Joined-n-same)

pub loop-i-preserved : goal.loop-i-preserved
loop-i-preserved c =
    let f = fits (goal.at.loop-i-preserved c).Joined-n-same in
    let s = some (goal.at.loop-i-preserved c).Joined-n-same in
    let few = lengths_few (drop (c.loop-i.i + c.if-n-same.same) c.args.words.now) in
    let d = length-drop (c.loop-i.i + c.if-n-same.same) c.args.words.now in (
      omega arith,
      f,
      omega arith,
      simp length-set (omega arith),
      whole_turn_lem _ _ _ (read (goal.at.loop-i-preserved c).Joined-n-same) _ c.loop-i.invariant.4 s,
      store_first _ _ _ _ (omega arith) ∙ rw (lengths_turn c.args.words.now c.loop-i.i _ (read (goal.at.loop-i-preserved c).Joined-n-same) s) at c.loop-i.invariant.5,
      s,
    )

pub returns : goal.returns
returns c = (
  whole_end c.args.words.now c.loop-i.i _ c.loop-i-test.false c.loop-i.invariant.4,
  omega arith,
  sym (spliced_nil _ _ (omega arith)) ∙ rw (lengths_end c.args.words.now c.loop-i.i c.loop-i-test.false) at c.loop-i.invariant.5,
)
