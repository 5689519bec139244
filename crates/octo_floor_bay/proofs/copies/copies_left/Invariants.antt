use Rattle.std.proofs.Common.{◌≡◌, ◌+◌, ◌*◌, ◌≤◌, drop}
use Rattle.octo_floor_bay.specs.Stock.{copies_left}
use Rattle.octo_floor_bay.proofs.copies.copies_left.Given as goal

abbrev pub invariant-loop-entry : goal.invariant-loop-entry
invariant-loop-entry l = (copies_left l.entries ≡ l.left + copies_left (drop l.entry-index l.entries)) × (l.left ≤ 255 * l.entry-index)
