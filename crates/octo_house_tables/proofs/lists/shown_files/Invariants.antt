use Rattle.std.proofs.Common.{◌≡◌, map, take}
use Rattle.octo_house_rules.specs.Reads.{file_shown}
use Rattle.octo_house_tables.proofs.lists.shown_files.Given as goal

-- the files so far
abbrev pub invariant-loop-name : goal.invariant-loop-name
invariant-loop-name l = l.list ≡ map (λ file. file_shown file.0 file.1) (take l.name-index l.files)
