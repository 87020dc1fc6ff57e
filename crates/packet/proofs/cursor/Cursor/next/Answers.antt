-- The four bytes of a header, and a test against what is left of the payload.
use Rattle.std.proofs.Common.{◌≡◌, ◌-◌, ◌<◌, ◌≤◌, length, take, drop, arith, ◌∙◌}
use Rattle.std.proofs.lemmas.Slice.{between_to_end}
use Rattle.packet.proofs.Reading.{length_past_four, next_end, next_short, next_more, next_all}
use Rattle.packet.proofs.cursor.Cursor.next.Goals as goal
use Rattle.packet.proofs.cursor.Cursor.next.Goals.{In-Some}

rest : (c : In-Some) → c.in-Some.unread.now ≡ drop c.args.self.at c.args.payload.now
rest c = c.in-Some.ensures.lookup.0.2 ∙ between_to_end c.args.payload.now c.args.self.at _ (omega arith)

pub returns-in_default : goal.returns-in_default
returns-in_default c = next_end _ _ (omega (arith, c.in_default.ensures.lookup.0))

pub returns-in_default-unread : goal.returns-in_default-unread
returns-in_default-unread c =
    next_short _ _ _ (rest (goal.at.returns-in_default-unread c).In-Some) c.in_default-unread.len_below

pub returns-then-rest-size : goal.returns-then-rest-size
returns-then-rest-size c =
    let t : length (take (length c.in-Some.unread.now - 4) (drop 4 c.in-Some.unread.now)) < c.size-size.result = c.if-rest-size.true in
    let n = length_past_four c.in-Some.unread.now in
    next_more c.args.payload.now _ c.args.self.at (rest (goal.at.returns-then-rest-size c).In-Some) c.in-len4-up.len_at_least _ c.size-size.ensures.0 (omega arith)

pub returns : goal.returns
returns c =
    let t : c.size-size.result ≤ length (take (length c.in-Some.unread.now - 4) (drop 4 c.in-Some.unread.now)) = c.if-rest-size.false in
    let n = length_past_four c.in-Some.unread.now in
    next_all c.args.payload.now _ c.args.self.at (rest (goal.at.returns c).In-Some) c.in-len4-up.len_at_least _ c.size-size.ensures.0 (omega arith)
