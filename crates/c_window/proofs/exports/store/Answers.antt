-- As many words as there are.
use mathlib.Core.Path.{◌∙◌}
use native.Mathlib.Omega.{arith}
use Rattle.c_words.proofs.Within.{put_whole}
use Rattle.c_window.proofs.exports.store.Goals as goal

pub put-requires : goal.put-requires
put-requires c = omega (arith, c.requires)

pub returns : goal.returns
returns c = c.put.ensures ∙ put_whole c.args.words.now _ c.requires
