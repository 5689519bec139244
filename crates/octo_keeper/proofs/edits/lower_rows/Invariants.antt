use Rattle.std.proofs.Common.{◌≡◌, ◌++◌, map, take, drop}
use Rattle.octo_keeper.specs.Tables.{lowered}
use Rattle.octo_keeper.proofs.edits.lower_rows.Given as goal

-- the rows so far are lowered
abbrev pub invariant-loop-row : goal.invariant-loop-row
invariant-loop-row l = l.rows ≡ map (lowered l.user l.name) (take l.row-index l.fn.rows) ++ drop l.row-index l.fn.rows
