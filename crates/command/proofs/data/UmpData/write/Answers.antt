-- The state test, the length, the messages, and then the write over a tested state.
use Rattle.std.proofs.Common.{sym, ◌∙◌, ◌≡◌, ◌/◌, ◌%◌, arith}
use Rattle.command.proofs.Written.{data_invalid, data_long, data_cut, data_whole}
use Rattle.command.proofs.data.UmpData.write.Goals as goal
use Rattle.command.proofs.data.UmpData.write.Goals.{then-words-gt-MAX_COMMAND_WORDS-via-then-words-gt-MAX_COMMAND_WORDS, then-words-gt-MAX_COMMAND_WORDS-via-else-words-gt-MAX_COMMAND_WORDS+then-not-whole_messages}

pub returns-then-not-is_valid : goal.returns-then-not-is_valid
returns-then-not-is_valid c =
    data_invalid _ _ _ _ _ c.refused.ensures (sym c.is_valid.ensures ∙ c.if-not-is_valid.true)

pub returns-then-words-gt-MAX_COMMAND_WORDS : goal.returns-then-words-gt-MAX_COMMAND_WORDS
returns-then-words-gt-MAX_COMMAND_WORDS c =
    let v = sym c.is_valid.ensures ∙ c.if-not-is_valid.false in
    let r = c.refused-then-words-gt-MAX_COMMAND_WORDS.ensures in
    elim c.then-words-gt-MAX_COMMAND_WORDS.branch [
      | then-words-gt-MAX_COMMAND_WORDS-via-then-words-gt-MAX_COMMAND_WORDS w ↦
          data_long _ _ _ _ v _ r w.if-words-gt-MAX_COMMAND_WORDS.true
      | then-words-gt-MAX_COMMAND_WORDS-via-else-words-gt-MAX_COMMAND_WORDS+then-not-whole_messages w ↦
          data_cut _ _ _ _ v w.if-words-gt-MAX_COMMAND_WORDS.false _ r (sym w.whole_messages.ensures ∙ w.if-not-whole_messages.true)
    ]

pub command-requires : goal.command-requires
command-requires c = sym c.is_valid.ensures ∙ c.if-not-is_valid.false

pub returns : goal.returns
returns c =
    let high : c.args.seq / 256 % 256 ≡ c.args.seq / 256 = omega arith in
    (rw (c.to_be_bytes.ensures, high) at c.command.ensures)
    ∙ data_whole _ _ _ _ (sym c.is_valid.ensures ∙ c.if-not-is_valid.false) c.if-words-gt-MAX_COMMAND_WORDS.false (sym c.whole_messages.ensures ∙ c.if-not-whole_messages.false)
