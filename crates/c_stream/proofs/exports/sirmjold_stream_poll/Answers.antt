-- Where nothing is due the words stay; else the whole call is made.
use mathlib.Core.Path.{refl, sym, ◌∙◌}
use Rattle.c_words.specs.Settings.{settings_of}
use Rattle.c_words.proofs.Entries.{made, settings_refused}
use Rattle.c_words.proofs.Figures.{passed, settings_passed}
use Rattle.c_state.proofs.Waiting.{waits_fit, waits_same}
use Rattle.c_stream.specs.Exports.{poll_export}
use Rattle.c_stream.proofs.Stays.{told_out, told_again, refused_again}
use Rattle.c_stream.proofs.exports.sirmjold_stream_poll.Goals as goal

pub returns-then-waits : goal.returns-then-waits
unfolding poll_export
returns-then-waits c =
    let taken = passed c.args.cfg.now c.number.ensures c.if-number-eq0.true in
    let still = sym c.waits.ensures ∙ c.if-waits.true in
    made _ _ taken (waits_fit _ c.args.s.now still) (told_out c.args.s.now c.args.cfg.now _ (settings_of c.args.cfg.now) c.args.s.now refl _ _ (waits_same _ c.args.s.now still (settings_of c.args.cfg.now) (settings_passed c.args.cfg.now taken)) c.of_event.ensures)

pub returns-then-number-eq0 : goal.returns-then-number-eq0
returns-then-number-eq0 c = told_again c.poll.ensures _ c.unpacked.ensures

pub returns : goal.returns
unfolding poll_export
returns c = refused_again c.poll-2.ensures _ _ (settings_refused _ _ _ _ c.number.ensures c.if-number-eq0.false refl) _ _ c.unpacked-refused.ensures c.refused_event.ensures
