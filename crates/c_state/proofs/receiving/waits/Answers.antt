-- The length, the window, then the receiver with its timer.
use mathlib.Core.Path.{sym, ◌∙◌}
use Rattle.c_state.proofs.Waiting.{waits_short, waits_invalid, waits_made}
use Rattle.c_state.proofs.Streams.{part_lengths}
use Rattle.c_state.proofs.receiving.waits.Goals as goal

pub returns-then-words-ne-WORDS : goal.returns-then-words-ne-WORDS
returns-then-words-ne-WORDS c = waits_short _ _ c.if-words-ne-WORDS.true

pub window_in-requires : goal.window_in-requires
window_in-requires c = (part_lengths c.args.words.now c.if-words-ne-WORDS.false).0

pub rests-requires : goal.rests-requires
rests-requires c = (part_lengths c.args.words.now c.if-words-ne-WORDS.false).0

pub returns-then-is_valid : goal.returns-then-is_valid
returns-then-is_valid c = waits_made _ _ _ c.window_in.ensures c.if-words-ne-WORDS.false (sym c.is_valid.ensures ∙ c.if-is_valid.true) _ c.rests.ensures

pub returns-else-is_valid : goal.returns-else-is_valid
returns-else-is_valid c = c.if-is_valid.false ∙ waits_invalid _ _ _ c.window_in.ensures (sym c.is_valid.ensures ∙ c.if-is_valid.false)
