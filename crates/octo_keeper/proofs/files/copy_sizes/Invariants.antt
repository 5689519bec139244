use Rattle.std.proofs.Common.{◌≡◌, take}
use Rattle.octo_keeper.specs.Files.{sizes_of}
use Rattle.octo_keeper.proofs.files.copy_sizes.Given as goal

-- the files so far
abbrev pub invariant-loop-file : goal.invariant-loop-file
invariant-loop-file l = l.list ≡ sizes_of (take l.file-index l.files)
