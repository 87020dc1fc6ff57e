-- What stays is not stored.
use mathlib.Core.Path.{sym, ap, ◌∙◌}
use Rattle.receiver.specs.declared.receiver.Receiver.{Receiver}
use Rattle.c_state.specs.Receiver.{with_window}
use Rattle.c_state.specs.Stream.{with_receiver}
use Rattle.c_state.proofs.Streams.{receiver_known}
use Rattle.c_state.proofs.Hearings.{valid_narrow, words_stay, kept_rest, kept_window, rest_kept, window_kept}
use Rattle.c_state.proofs.receiving.settle_behind.Goals as goal

pub returns-then-at_rest : goal.returns-then-at_rest
returns-then-at_rest c = words_stay _ _ c.requires.0 c.requires.1 _ (rest_kept _ _ (sym c.complete.ensures ∙ c.if-complete.true) (c.at_rest.ensures c.if-at_rest.true))

pub store_rest-requires : goal.store_rest-requires
store_rest-requires c = ((receiver_known _ c.requires.0).0, valid_narrow _ c.requires.2)

pub returns-then-complete : goal.returns-then-complete
returns-then-complete c = c.store_rest.ensures ∙ ap (with_receiver c.args.words.now) (kept_rest _ _ (sym c.complete.ensures ∙ c.if-complete.true))

pub returns-then-same : goal.returns-then-same
returns-then-same c = words_stay _ _ c.requires.0 c.requires.1 _ (window_kept _ _ (sym c.complete.ensures ∙ c.if-complete.false) (c.same.ensures c.if-same.true))

pub returns : goal.returns
returns c = c.store_window.ensures ∙ ap (λ (x : Receiver). with_receiver c.args.words.now (with_window x c.args.window)) (sym c.requires.1) ∙ ap (with_receiver c.args.words.now) (kept_window _ _ (sym c.complete.ensures ∙ c.if-complete.false))
