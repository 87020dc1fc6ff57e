-- One law for each sentence.
use Rattle.load.specs.Load.{count_of}
use Rattle.load.proofs.Lists.{calls, in_turn, value, goes_on, small}
use Rattle.load.proofs.Words.{count_le, take_words}
use Rattle.load.proofs.theorems.made_again.Goals as goal

pub returns : goal.returns
returns c =
    record {
      calls = calls;
      in_turn = in_turn;
      value = value;
      goes_on = goes_on;
      small = small;
      few_words = λ s. count_le s.last;
      sent = λ s. take_words (count_of s.last) 8 (count_le s.last);
    }
