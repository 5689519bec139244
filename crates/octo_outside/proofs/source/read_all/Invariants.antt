use Rattle.std.proofs.Common.{◌≡◌, ◌-◌, ◌≤◌, length, suc}
use Rattle.octo_outside.specs.Traits.{ReadSoFar}
use Rattle.octo_outside.proofs.source.read_all.Given as goal

abbrev pub invariant-loop-chunk : goal.invariant-loop-chunk
invariant-loop-chunk g l = record {
  same : g.F.Source.files l.files ≡ g.F.Source.files l.fn.files;
  counted : g.F.Source.faults l.fn.files ≤ g.F.Source.faults l.files;
  read : ReadSoFar (g.F.Source.files l.fn.files) l.name l.blob (g.F.Source.left l.files);
}

abbrev pub decreases-loop-chunk : goal.decreases-loop-chunk
decreases-loop-chunk g l = suc l.most - length l.blob
