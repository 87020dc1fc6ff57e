-- As many words as there are.
use mathlib.Core.Path.{◌∙◌}
use native.Mathlib.Omega.{arith}
use Rattle.c_words.proofs.Within.{put_whole}
use Rattle.c_window.proofs.exports.renewed.Goals as goal

pub renew-requires : goal.renew-requires
renew-requires c = omega (arith, c.requires)

pub returns : goal.returns
returns c = c.renew.ensures ∙ put_whole c.args.words.now _ c.requires
