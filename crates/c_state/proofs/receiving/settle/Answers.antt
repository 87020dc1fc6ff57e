-- The tests choose as the definition does.
use mathlib.Core.Path.{sym, ap, ◌∙◌}
use Rattle.receiver.specs.declared.receiver.Receiver.{Receiver}
use Rattle.c_state.specs.Receiver.{with_window}
use Rattle.c_state.specs.Stream.{with_receiver}
use Rattle.c_state.proofs.Streams.{receiver_known}
use Rattle.c_state.proofs.Hearings.{valid_narrow, settled_rest, settled_started, settled_window}
use Rattle.c_state.proofs.receiving.settle.Goals as goal

pub store_rest-requires : goal.store_rest-requires
store_rest-requires c = ((receiver_known _ c.requires.0).0, valid_narrow _ c.requires.2)

pub returns-then-complete : goal.returns-then-complete
returns-then-complete c = c.store_rest.ensures ∙ ap (with_receiver c.args.words.now) (settled_rest _ _ _ _ _ (sym c.complete.ensures ∙ c.if-complete.true))

pub store_receiver-requires : goal.store_receiver-requires
store_receiver-requires c = ((receiver_known _ c.requires.0).0, valid_narrow _ c.requires.2)

pub returns-then-starts_timer : goal.returns-then-starts_timer
returns-then-starts_timer c = c.store_receiver.ensures ∙ ap (with_receiver c.args.words.now) (settled_started _ _ _ _ _ (sym c.complete.ensures ∙ c.if-complete.false) _ c.due_after.ensures (sym c.starts_timer.ensures ∙ c.if-starts_timer.true))

pub returns : goal.returns
returns c = c.store_window.ensures ∙ ap (λ (x : Receiver). with_receiver c.args.words.now (with_window x c.args.window)) (sym c.requires.1) ∙ ap (with_receiver c.args.words.now) (settled_window _ _ _ _ _ (sym c.complete.ensures ∙ c.if-complete.false) (sym c.starts_timer.ensures ∙ c.if-starts_timer.false))
