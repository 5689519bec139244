use Rattle.std.proofs.Common.{◌≡◌, map, take}
use Rattle.octo_keeper_sql.specs.Rows.{print_row}
use Rattle.octo_keeper_sql.proofs.print_rows.prints_of.Given as goal

-- the prints so far are those of the rows so far
abbrev pub invariant-loop-row : goal.invariant-loop-row
invariant-loop-row l = map print_row l.prints ≡ take l.row-index l.rows
