-- No words, words that fail a test, and words that are queued.
use mathlib.Core.Path.{sym, ◌∙◌}
use Rattle.sender.proofs.Queued.{settings_few, sent_none, sent_refused, sent_placed}
use Rattle.sender.proofs.tested.send_ump.Goals as goal

pub returns-then-words-eq0 : goal.returns-then-words-eq0
returns-then-words-eq0 c = sent_none _ _ _ _ c.if-words-eq0.true

pub queue_words-requires : goal.queue_words-requires
queue_words-requires c =
    (c.requires.0, settings_few _ c.requires.1, sym c.check.ensures ∙ c.in-Ok.is)

pub returns-in-Err : goal.returns-in-Err
returns-in-Err c =
    sent_refused _ _ _ _ c.if-words-eq0.false _ (sym c.check.ensures ∙ c.in-Err.is)

pub returns-in-Ok : goal.returns-in-Ok
returns-in-Ok c =
    c.queue_words.ensures ∙ sent_placed _ _ _ _ c.if-words-eq0.false (sym c.check.ensures ∙ c.in-Ok.is)
