use mathlib.Core.Path.{sym, ap, ◌∙◌, subst}
use Prim.Native.Nat.{ℕ, ◌+◌, ◌^◌, ◌<◌}
use native.Mathlib.Omega.{arith}
use Rattle.window.specs.Set.{val, set_of}
use Rattle.window.specs.Marking.{hit_at, hits_of}
use Rattle.window.proofs.Words.{val_is}
use Rattle.window.proofs.Hits.{hits_lt, hits_more}
use Rattle.window.proofs.tested.hits.Goals as goal

pub loop-k-init : goal.loop-k-init
unfolding hits_of
loop-k-init c = c.none-found.ensures

pub hit-found-requires : goal.hit-found-requires
hit-found-requires c =
    (omega arith, subst (λ (x : ℕ). x < 2 ^ c.loop-k.k) (sym (val_is _ _ c.loop-k.invariant)) (hits_lt c.args.range c.args.h (val c.args.m) c.loop-k.k))

pub loop-k-preserved : goal.loop-k-preserved
loop-k-preserved c =
    c.hit-found.ensures ∙ ap set_of (ap (λ (x : ℕ). x + hit_at c.args.range c.args.h (val c.args.m) c.loop-k.k) (val_is _ _ c.loop-k.invariant) ∙ hits_more c.args.range c.args.h (val c.args.m) c.loop-k.k)
