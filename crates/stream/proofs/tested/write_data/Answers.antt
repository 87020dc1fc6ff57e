-- A due request is taken; where it does not end the write, the payload is still valid and the sender writes behind it, after 0 or 1 commands.
use mathlib.Core.Path.{◌≡◌, ap, ◌∙◌}
use Rattle.std.proofs.Common.{Ok}
use Prim.Native.Nat.{ℕ, ◌≤◌}
use native.Mathlib.Omega.{arith}
use Rattle.receiver.specs.declared.receiver.Request.TheVariants.{Nothing, Written, More}
use Rattle.stream.proofs.Validity.{valid_receiver, valid_sender}
use Rattle.stream.proofs.Taking.{taken_valid}
use Rattle.stream.proofs.Writing.{after_taken, after_none, after_one, after_kept}
use Rattle.stream.proofs.tested.write_data.Goals as goal
use Rattle.stream.proofs.tested.write_data.Goals.{then-before+in-Ok-Nothing, then-before+in-Ok-Written, else-before}

none : (n : ℕ) → n ≡ 0 → n ≤ 1
none n e = omega arith

one : (n : ℕ) → n ≡ 1 → n ≤ 1
one n e = omega arith

pub write_request-taken-requires : goal.write_request-taken-requires
write_request-taken-requires c = (valid_receiver _ _ c.requires.1, c.requires.2)

pub returns-in-Err : goal.returns-in-Err
returns-in-Err c =
    rw c.refused.ensures (after_taken c.args.s c.args.cfg c.args.time c.args.p _ _ c.write_request-taken.result _ c.write_request-taken.ensures _ c.in-Err.is)

pub returns-in-Ok-More : goal.returns-in-Ok-More
returns-in-Ok-More c =
    after_taken c.args.s c.args.cfg c.args.time c.args.p _ _ c.write_request-taken.result _ c.write_request-taken.ensures _ (c.in-Ok-More.is ∙ ap Ok (let f : c.in-Ok-More.field-0 ≡ More = rw c.in-Ok-More.is at c.in-Ok-More.field-0-is in f))

pub write_after-requires : goal.write_after-requires
write_after-requires c = (
  elim c.if-before.branch [
    | then-before+in-Ok-Nothing w ↦ none _ w.n-is
    | then-before+in-Ok-Written w ↦ one _ w.n-is
    | else-before w ↦ none _ w.n-is
  ],
  c.requires.0,
  valid_sender _ _ c.requires.1,
  elim c.if-before.branch [
    | then-before+in-Ok-Nothing w ↦ rw (w.buf-is, w.payload-is) (taken_valid _ _ _ _ c.requires.2 _ _ w.write_request-taken.ensures)
    | then-before+in-Ok-Written w ↦ rw (w.buf-is, w.payload-is) (taken_valid _ _ _ _ c.requires.2 _ _ w.write_request-taken.ensures)
    | else-before w ↦ rw (w.buf-is, w.payload-is) c.requires.2
  ],
  c.requires.3,
)

pub returns : goal.returns
returns c =
    c.write_after.ensures
    ∙ elim c.if-before.branch [
      | then-before+in-Ok-Nothing w ↦
          after_none c.args.s c.args.cfg c.args.time c.args.p _ _ w.write_request-taken.result _ w.write_request-taken.ensures w.buf-is w.receiver-is w.payload-is w.n-is (w.in-Ok-Nothing.is ∙ ap Ok (let f : w.in-Ok-Nothing.field-0 ≡ Nothing = rw w.in-Ok-Nothing.is at w.in-Ok-Nothing.field-0-is in f))
      | then-before+in-Ok-Written w ↦
          after_one c.args.s c.args.cfg c.args.time c.args.p _ _ w.write_request-taken.result _ w.write_request-taken.ensures w.buf-is w.receiver-is w.payload-is w.n-is (w.in-Ok-Written.is ∙ ap Ok (let f : w.in-Ok-Written.field-0 ≡ Written = rw w.in-Ok-Written.is at w.in-Ok-Written.field-0-is in f))
      | else-before w ↦
          after_kept c.args.s c.args.cfg c.args.time c.args.p _ _ w.if-before.false w.buf-is w.receiver-is w.payload-is w.n-is
    ]
