use Rattle.std.proofs.Common.{◌≡◌, true, sym, subst}
use Rattle.octo_access.specs.FileNames.{is_file_name}
use Rattle.octo_keeper_folder.specs.Listed.{IsListing}
use Rattle.octo_keeper_folder.proofs.Listed.{one_listed}
use Rattle.octo_keeper_folder.proofs.folder.list_files.Goals as goal

pub loop-entry-preserved-in-Continue-branch-2 : goal.loop-entry-preserved-in-Continue-branch-2
loop-entry-preserved-in-Continue-branch-2 g c =
    let named : is_file_name c.in-Some-found.file.0 ≡ true = rw c.in-Some-found.is at c.in_ok-found-in-Ok-entry.ensures in
    subst IsListing (sym c.in_ok-add.ensures) (one_listed c.in-Some-found.file c.loop-entry.files.items named c.loop-entry.invariant)
