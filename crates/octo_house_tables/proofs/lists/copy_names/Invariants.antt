use Rattle.std.proofs.Common.{◌≡◌, take}
use Rattle.octo_house_tables.proofs.lists.copy_names.Given as goal

-- the names so far
abbrev pub invariant-loop-name : goal.invariant-loop-name
invariant-loop-name l = l.list ≡ take l.name-index l.names
