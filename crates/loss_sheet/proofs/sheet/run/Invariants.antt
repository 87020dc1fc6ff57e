-- What is still to be done from here leaves what the whole leaves; the figures stay those of the words held.
use Rattle.std.proofs.Common.{◌≡◌, ◌*◌, ◌-◌, take}
use Rattle.sheet_blocks.specs.Bytes.{spliced}
use Rattle.sheet_blocks.specs.Records.{entries}
use Rattle.loss_sheet.specs.Figures.{figures}
use Rattle.loss_sheet.specs.Sheet.{pushed_all, held, sheet_bytes}
use Rattle.loss_sheet.specs.inner.Fits.{Good}
use Rattle.loss_sheet.proofs.sheet.run.Given as goal

abbrev pub invariant-loop-i : goal.invariant-loop-i
invariant-loop-i l = record {
  good : Good l.g.sheet l.ring;
  figures : l.g.figures ≡ figures (take l.g.sheet.len l.ring);
  state : pushed_all l.g.sheet l.ring (entries l.block (l.k - l.i) (l.i * 16)) ≡ pushed_all l.initial.g.sheet l.initial.ring (entries l.block l.k 0);
  bytes : spliced l.out (l.i * 16) (sheet_bytes l.initial.g.sheet.n (held l.g.sheet l.ring) (entries l.block (l.k - l.i) (l.i * 16))) ≡ spliced l.initial.out 0 (sheet_bytes l.initial.g.sheet.n (held l.initial.g.sheet l.initial.ring) (entries l.block l.k 0));
  places : l.g.sheet.n ≡ l.initial.g.sheet.n;
}
