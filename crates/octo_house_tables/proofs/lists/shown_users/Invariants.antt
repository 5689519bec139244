use Rattle.std.proofs.Common.{◌≡◌, map, take}
use Rattle.octo_asks.specs.Shown.{shown_user}
use Rattle.octo_house_tables.proofs.lists.shown_users.Given as goal

-- the users so far
abbrev pub invariant-loop-row : goal.invariant-loop-row
invariant-loop-row l = l.list ≡ map shown_user (take l.row-index l.rows)
