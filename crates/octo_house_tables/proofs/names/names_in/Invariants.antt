use Rattle.std.proofs.Common.{◌≡◌, map, take}
use Rattle.octo_house_tables.proofs.names.names_in.Given as goal

-- the names so far
abbrev pub invariant-loop-name : goal.invariant-loop-name
invariant-loop-name l = l.names.items ≡ map (λ file. file.0) (take l.name-index l.files)
