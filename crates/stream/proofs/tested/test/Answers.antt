-- The receiver's test, then the sender's, which hands on the place.
use Rattle.std.proofs.Common.{sym, ◌∙◌}
use Rattle.history.proofs.StateTest.{answers_no}
use Rattle.stream.proofs.Validity.{test_receiver, test_sender}
use Rattle.stream.proofs.tested.test.Goals as goal

pub returns-then-is_valid : goal.returns-then-is_valid
returns-then-is_valid c =
    record {
      answer = test_sender _ _ (sym c.is_valid.ensures ∙ c.if-is_valid.true) _ c.test.ensures.answer;
      entry = c.test.ensures.entry;
      place = c.test.ensures.place;
    }

pub returns : goal.returns
returns c = answers_no _ _ _ _ _ (test_receiver _ _ (sym c.is_valid.ensures ∙ c.if-is_valid.false))
