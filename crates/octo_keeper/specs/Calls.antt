-- What a keeper and a shelf say of themselves, and what each of their calls leaves.
use Rattle.std.specs.Prelude.{◌≡◌, ℕ, List, Option, Result, option_map, IfOk, IfSome, OnOk, OnErr, IsErrOf}
use Rattle.octo_outside.specs.Recorded.{Counts}
use Rattle.octo_keeper.specs.declared.tables.Tables.{Tables}
use Rattle.octo_keeper.specs.declared.tables.Change.{Change}
use Rattle.octo_keeper.specs.declared.keeper.KeeperFault.{KeeperFault}
use Rattle.octo_keeper.specs.declared.keeper.KeeperFault.TheVariants as keeper
use Rattle.octo_keeper.specs.declared.shelf.ShelfFile.{ShelfFile}
use Rattle.octo_keeper.specs.declared.shelf.ShelfFault.{ShelfFault}
use Rattle.octo_keeper.specs.declared.shelf.ShelfFault.TheVariants as shelf
use Rattle.octo_keeper.specs.Tables.{changed, AreSound}
use Rattle.octo_keeper.specs.Files.{bytes_of, size_of, sizes_of, with_file, without_file}

-- a keeper: its tables and those of its last backup, if it records them, and how many calls failed
pub record KeeperState : Type 0 where
  pub tables : Option Tables
  pub saved : Option Tables
  pub faults : ℕ

-- a shelf: its files, if it records them, and how many calls failed
pub record ShelfState : Type 0 where
  pub files : Option (List ShelfFile)
  pub faults : ℕ

-- a call of `load`
pub record Loads (old : KeeperState) (result : Result Tables KeeperFault) (new : KeeperState) : Type 0 where
  pub ok : IfOk result (λ loaded. IfSome old.tables (λ kept. loaded ≡ kept))
  pub sound : IfOk result AreSound
  pub stays : new.tables ≡ old.tables
  pub counts : Counts (IsErrOf result keeper.Failed) old.faults new.faults
  pub steady : (IsErrOf result keeper.Failed → ⊥) → new.faults ≡ old.faults

-- a call of `commit`
pub record Commits (old : KeeperState) (change : Change) (result : Result (Unit {0}) KeeperFault) (new : KeeperState) : Type 0 where
  pub ok : OnOk result (new.tables ≡ option_map (changed change) old.tables)
  pub err : OnErr result (new.tables ≡ old.tables)
  pub counts : Counts (IsErrOf result keeper.Failed) old.faults new.faults
  pub steady : (IsErrOf result keeper.Failed → ⊥) → new.faults ≡ old.faults

-- a call of `backup`
pub record BacksUp (old : KeeperState) (result : Result (Unit {0}) KeeperFault) (new : KeeperState) : Type 0 where
  pub ok : OnOk result (new.saved ≡ old.tables)
  pub stays : new.tables ≡ old.tables
  pub counts : Counts (IsErrOf result keeper.Failed) old.faults new.faults
  pub steady : (IsErrOf result keeper.Failed → ⊥) → new.faults ≡ old.faults

-- a call that reads of a shelf, and what it returns of the files
pub record Looks {X : Type 0} (old : ShelfState) (told : List ShelfFile → X) (result : Result X ShelfFault) (new : ShelfState) : Type 0 where
  pub ok : IfOk result (λ x. IfSome old.files (λ held. x ≡ told held))
  pub stays : new.files ≡ old.files
  pub counts : Counts (IsErrOf result shelf.Failed) old.faults new.faults
  pub steady : (IsErrOf result shelf.Failed → ⊥) → new.faults ≡ old.faults

-- a call that changes the files of a shelf, all or nothing
pub record Changes (old : ShelfState) (with_it : List ShelfFile → List ShelfFile) (result : Result (Unit {0}) ShelfFault) (new : ShelfState) : Type 0 where
  pub ok : OnOk result (new.files ≡ option_map with_it old.files)
  pub err : OnErr result (new.files ≡ old.files)
  pub counts : Counts (IsErrOf result shelf.Failed) old.faults new.faults
  pub steady : (IsErrOf result shelf.Failed → ⊥) → new.faults ≡ old.faults
