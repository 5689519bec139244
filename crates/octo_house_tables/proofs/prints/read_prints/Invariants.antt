use Rattle.std.proofs.Common.{◌≡◌, ◌++◌, map, take, drop}
use Rattle.octo_house_rules.specs.Begins.{row_read}
use Rattle.octo_house_tables.proofs.prints.read_prints.Given as goal

-- the rows so far are read
abbrev pub invariant-loop-row : goal.invariant-loop-row
invariant-loop-row l = l.rows ≡ map row_read (take l.row-index l.fn.rows) ++ drop l.row-index l.fn.rows
