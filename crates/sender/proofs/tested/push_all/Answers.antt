use Rattle.std.proofs.Common.{◌≡◌, ℕ, List, Bool, true, false, ◌<◌, ◌≤◌, ◌==◌, length, take, length-take, length-drop, ◌∙◌, arith}
use Rattle.std.proofs.lemmas.Bool.Decides.{nat_tests}
use Rattle.sender.proofs.Queued.{push_fits, push_left, push_good, push_turn, push_length, push_end}
use Rattle.sender.proofs.tested.push_all.Goals as goal
use Rattle.sender.proofs.tested.push_all.Goals.{After-front_words-n}

some : (ws : List ℕ) (none : Bool) → none ≡ (length ws == 0) → none ≡ false → 0 < length ws
some ws none e f = grind (arith, nat_tests)

all : (ws : List ℕ) (none : Bool) → none ≡ (length ws == 0) → none ≡ true → length ws ≤ 0
all ws none e f = grind (arith, nat_tests)

-- a next command is part of what is left
fits : (c : After-front_words-n) → (1 ≤ c.front_words-n.result) × (c.front_words-n.result ≤ length c.loop-rest.rest.now) × (length (take c.front_words-n.result c.loop-rest.rest.now) ≤ 64)
fits c = push_fits c.loop-rest.g c.loop-rest.g c.loop-rest.ring c.loop-rest.ring c.args.max c.loop-rest.rest.now c.front_words-n.result (some _ _ c.is_empty.ensures c.loop-rest-test.true) c.loop-rest.invariant.divides c.front_words-n.ensures.0 c.requires.2

pub loop-rest-preserved : goal.loop-rest-preserved
loop-rest-preserved c =
    let i = some _ _ c.is_empty.ensures c.loop-rest-test.true in
    let d = c.loop-rest.invariant.divides in
    let e = c.front_words-n.ensures.0 in
    let g = push_good _ _ _ _ _ _ _ i d e c.requires.2 c.loop-rest.invariant.good c.loop-rest.invariant.oldest c.push-g.ensures in
    record {
      good = g.0;
      oldest = g.1;
      divides = push_left c.loop-rest.g c.push-g.result c.loop-rest.ring c.push-g.new.ring _ _ _ i d e c.requires.2;
      pushed = push_turn _ _ _ _ _ _ _ i d e c.requires.2 c.loop-rest.invariant.good c.loop-rest.invariant.oldest c.push-g.ensures _ c.loop-rest.invariant.pushed;
      ring = push_length _ _ _ _ _ _ _ i d e c.requires.2 c.loop-rest.invariant.good c.loop-rest.invariant.oldest c.push-g.ensures ∙ c.loop-rest.invariant.ring;
    }

pub loop-rest-smaller : goal.loop-rest-smaller
loop-rest-smaller c = let f = fits (goal.at.loop-rest-smaller c).After-front_words-n in simp (length-take, length-drop) (omega (arith, f))

pub returns : goal.returns
returns c = push_end _ _ _ _ _ (all _ _ c.is_empty.ensures c.loop-rest-test.false) c.loop-rest.invariant.pushed
