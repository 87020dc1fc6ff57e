-- Settings, then words; the call is made, and its words are stored where it is not refused.
use mathlib.Core.Path.{refl}
use borrow.Author.Tests.{eq-eqb, ne_eqb}
use Rattle.c_words.proofs.Entries.{made, words_refused, settings_refused}
use Rattle.c_words.proofs.Figures.{passed, figures_small}
use Rattle.c_stream.specs.Exports.{new_export}
use Rattle.c_stream.proofs.Places.{new_narrow}
use Rattle.c_stream.proofs.Started.{new_kept, new_started, new_refused}
use Rattle.c_stream.proofs.exports.sirmjold_stream_new.Goals as goal

pub load-requires : goal.load-requires
load-requires c = figures_small _ (passed _ c.number-number.ensures c.if-number-eq0.true)

pub store-requires : goal.store-requires
store-requires c = (c.if-s-eq-WORDS.true, new_narrow _ _ _ _ _ _ _ c.new-started.ensures)

pub returns-in-Ok : goal.returns-in-Ok
unfolding new_export
returns-in-Ok c = let q = rw c.load.ensures at c.new-started.ensures in made _ _ (passed _ c.number-number.ensures c.if-number-eq0.true) (eq-eqb _ _ c.if-s-eq-WORDS.true) (new_started c.args.s.now c.args.ring.now _ _ _ q c.in-Ok.is _ c.store.ensures)

pub returns-in-Err : goal.returns-in-Err
unfolding new_export
returns-in-Err c = let q = rw c.load.ensures at c.new-started.ensures in made _ _ (passed _ c.number-number.ensures c.if-number-eq0.true) (eq-eqb _ _ c.if-s-eq-WORDS.true) (new_refused c.args.s.now c.args.ring.now _ _ _ q _ c.in-Err.is (new_kept c.args.ring.now _ _ _ _ _ _ q c.in-Err.is) _ c.number.ensures)

pub returns-then-number-eq0 : goal.returns-then-number-eq0
unfolding new_export
returns-then-number-eq0 c = words_refused _ _ (passed _ c.number-number.ensures c.if-number-eq0.true) (ne_eqb _ _ c.if-s-eq-WORDS.false) refl

pub returns : goal.returns
unfolding new_export
returns c = settings_refused _ _ _ _ c.number-number.ensures c.if-number-eq0.false refl
