use Rattle.octo_keeper_folder.specs.Listed.{IsListing}
use Rattle.octo_keeper_folder.proofs.folder.list_files.Given as goal

-- the files so far
abbrev pub invariant-loop-entry : goal.invariant-loop-entry
invariant-loop-entry g l = IsListing l.files.items
