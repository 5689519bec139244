use Rattle.std.proofs.Common.{◌≡◌, map, take}
use Rattle.octo_keeper_sql.specs.Upgrade.{upgraded}
use Rattle.octo_keeper_sql.proofs.old_queue.upgrade.Given as goal

-- the rows so far
abbrev pub invariant-loop-row : goal.invariant-loop-row
invariant-loop-row l = l.entries ≡ map upgraded (take l.row-index l.rows)
