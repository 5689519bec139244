use Rattle.std.proofs.Common.{◌≡◌, take}
use Rattle.octo_keeper_folder.proofs.listing.copy_list.Given as goal

-- the files so far
abbrev pub invariant-loop-file : goal.invariant-loop-file
invariant-loop-file l = l.list ≡ take l.file-index l.files
