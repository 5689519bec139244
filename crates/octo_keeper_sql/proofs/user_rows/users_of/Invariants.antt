use Rattle.std.proofs.Common.{◌≡◌, map, take, All}
use Rattle.octo_keeper_sql.specs.Holds.{HasGroups}
use Rattle.octo_keeper_sql.specs.Rows.{user_row}
use Rattle.octo_keeper_sql.proofs.user_rows.users_of.Given as goal

-- the users so far are those of the rows so far
abbrev pub invariant-loop-row : goal.invariant-loop-row
invariant-loop-row l = record { are : map user_row l.users ≡ take l.row-index l.rows; groups : All HasGroups l.users }
