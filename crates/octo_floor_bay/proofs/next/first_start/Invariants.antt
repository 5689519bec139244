use Rattle.std.proofs.Common.{◌≡◌, drop}
use Rattle.std.specs.List.{find}
use Rattle.octo_floor_bay.specs.Stock.{may_start}
use Rattle.octo_floor_bay.proofs.next.first_start.Given as goal

abbrev pub invariant-loop-entry : goal.invariant-loop-entry
invariant-loop-entry l = find (may_start l.passed l.material) l.entries ≡ find (may_start l.passed l.material) (drop l.entry-index l.entries)
