-- Serving, the idle command and the new commands follow one another as in the definition, and each leaves what the next requires.
use native.Mathlib.Omega.{arith}
use Prim.Native.Nat.{◌≤◌, ◌<◌}
use Rattle.config.specs.Sequence.{turn}
use Rattle.writing.proofs.Serving.{out_sound, written_more, written_new}
use Rattle.writing.proofs.Idling.{idled_next, mark_kept}
use Rattle.sender.specs.Requests.{with_queue}
use Rattle.rows.proofs.Filling.{start_most}
use Rattle.writing.proofs.tested.write.Goals as goal
use Rattle.writing.proofs.tested.write.Goals.{Start}

bounds : (c : Start) → (c.args.s.history.oldest < turn) × (c.args.cfg.fec_repeats ≤ 255) × (c.args.cfg.idle_further ≤ 255)
bounds c = (omega arith, omega arith, omega arith)

pub returns-then-served : goal.returns-then-served
returns-then-served c =
    written_more c.args.s c.args.cfg c.args.time c.args.p _ _ (with_queue c.args.s c.serve-served.result.queue) c.serve-served.result.payload _ _ _ c.serve-served.ensures c.if-served.true

pub queue_idle-idled-requires : goal.queue_idle-idled-requires
queue_idle-idled-requires c =
    (c.requires.0, (out_sound c.args.s c.args.cfg c.args.time _ _ _ _ _ _ _ _ c.serve-served.ensures c.requires.1 c.requires.2).state)

pub write_new-requires : goal.write_new-requires
write_new-requires c =
    let o = out_sound c.args.s c.args.cfg c.args.time _ _ _ _ _ _ _ _ c.serve-served.ensures c.requires.1 c.requires.2 in
    let s = with_queue c.args.s c.serve-served.result.queue in
    let held = idled_next s c.args.cfg c.args.time _ o.state (bounds (goal.at.write_new-requires c).Start).0 (bounds (goal.at.write_new-requires c).Start).1 (bounds (goal.at.write_new-requires c).Start).2 c.queue_idle-idled.result _ c.queue_idle-idled.ensures in (
      held,
      o.payload,
      omega (arith, o.grows, start_most _ _ o.payload),
      mark_kept s c.args.cfg c.args.time _ c.args.from c.requires.3 c.queue_idle-idled.result _ c.queue_idle-idled.ensures held _ c.mark_after-mark.ensures,
    )

pub returns : goal.returns
returns c =
    written_new c.args.s c.args.cfg c.args.time c.args.p _ _ (with_queue c.args.s c.serve-served.result.queue) c.serve-served.result.payload _ _ _ c.serve-served.ensures c.if-served.false c.queue_idle-idled.result _ c.write_new.result _ c.queue_idle-idled.ensures c.write_new.ensures
