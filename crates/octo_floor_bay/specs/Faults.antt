-- When a call that a floor makes fails, by the counts of faults.
use Rattle.std.specs.Prelude.{◌≡◌, ℕ, Result, IsErrOf}
use Rattle.octo_outside.specs.Recorded.{Counts}
use Rattle.octo_floor_bay.specs.declared.end.FloorFault.TheVariants as fault
use Rattle.octo_floor_bay.specs.declared.end.FloorFault.{FloorFault}
use Rattle.octo_keeper.specs.declared.keeper.KeeperFault.{KeeperFault}
use Rattle.octo_keeper.specs.declared.keeper.KeeperFault.TheVariants as keeper

-- a keeper's fault as a floor's
abbrev pub of_keeper : KeeperFault → FloorFault
of_keeper keeper.Failed = fault.KeeperFailed
of_keeper keeper.NoMemory = fault.NoMemory

-- a call of the keeper: its count rises exactly with the keeper's failure, and the shelf isn't asked
pub record AsksKeeper {T : Type 0} (result : Result T FloorFault) (before now : ℕ) : Type 0 where
  pub counts : Counts (IsErrOf result fault.KeeperFailed) before now
  pub steady : (IsErrOf result fault.KeeperFailed → ⊥) → now ≡ before
  pub not_shelfs : IsErrOf result fault.ShelfFailed → ⊥

-- a call of the shelf
pub record AsksShelf {T : Type 0} (result : Result T FloorFault) (before now : ℕ) : Type 0 where
  pub counts : Counts (IsErrOf result fault.ShelfFailed) before now
  pub not_keepers : IsErrOf result fault.KeeperFailed → ⊥
