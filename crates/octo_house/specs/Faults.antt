-- Why a host doesn't begin, by the fault of keeper or shelf.
use Rattle.octo_keeper.specs.declared.keeper.KeeperFault.{KeeperFault}
use Rattle.octo_keeper.specs.declared.keeper.KeeperFault.TheVariants as keeper_fault
use Rattle.octo_keeper.specs.declared.shelf.ShelfFault.{ShelfFault}
use Rattle.octo_keeper.specs.declared.shelf.ShelfFault.TheVariants as shelf_fault
use Rattle.octo_house.specs.declared.faults.BeginFault.{BeginFault}
use Rattle.octo_house.specs.declared.faults.BeginFault.TheVariants as begin_fault

-- why a host doesn't begin after a fault of the keeper
abbrev pub by_keeper : KeeperFault → BeginFault
by_keeper keeper_fault.Failed = begin_fault.KeeperFailed
by_keeper keeper_fault.NoMemory = begin_fault.NoMemory

-- why a host doesn't begin after a fault of the shelf
abbrev pub by_shelf : ShelfFault → BeginFault
by_shelf shelf_fault.Failed = begin_fault.ShelfFailed
by_shelf shelf_fault.NoMemory = begin_fault.NoMemory
