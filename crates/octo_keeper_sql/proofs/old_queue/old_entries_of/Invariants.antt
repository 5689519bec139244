use Rattle.std.proofs.Common.{◌≡◌, map, take}
use Rattle.octo_keeper_sql.specs.Rows.{old_entry_row}
use Rattle.octo_keeper_sql.proofs.old_queue.old_entries_of.Given as goal

-- the entries so far are those of the rows so far
abbrev pub invariant-loop-row : goal.invariant-loop-row
invariant-loop-row l = map old_entry_row l.entries.items ≡ take l.row-index l.rows
