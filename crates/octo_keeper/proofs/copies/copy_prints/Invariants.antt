use Rattle.std.proofs.Common.{◌≡◌, take}
use Rattle.octo_keeper.proofs.copies.copy_prints.Given as goal

-- the rows so far
abbrev pub invariant-loop-row : goal.invariant-loop-row
invariant-loop-row l = l.list ≡ take l.row-index l.rows
