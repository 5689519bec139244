-- The objects of the outside that a floor uses, as what they say of themselves.
use Rattle.std.specs.Prelude.{◌≡◌, ℕ, ◌≤◌, Bool, List, Option, None, Some}
use Rattle.octo_outside.specs.Recorded.{Rose}
use Rattle.octo_keeper.specs.Calls.{KeeperState, ShelfState}
use Rattle.octo_keeper.specs.declared.shelf.ShelfFile.{ShelfFile}
use Rattle.octo_keeper.specs.declared.tables.Tables.{Tables}
use Rattle.printer_link.specs.Link.{LinkKind}
use Rattle.printer_model.specs.declared.event.WorldEvent.{WorldEvent}
use Rattle.octo_floor_bay.specs.declared.end.FloorFault.{FloorFault}
use Rattle.octo_floor_bay.specs.declared.end.FloorFault.TheVariants.{KeeperFailed, ShelfFailed}

-- a keeper and a shelf: tables and files, if they record them, and their faults
pub record StoreState : Type 0 where
  pub tables : Option Tables
  pub keeper_faults : ℕ
  pub files : Option (List ShelfFile)
  pub shelf_faults : ℕ

-- the state of a keeper and a shelf
abbrev pub store_state : KeeperState → ShelfState → StoreState
store_state keeper shelf =
    record { tables = keeper.tables; keeper_faults = keeper.faults; files = shelf.files; shelf_faults = shelf.faults }

-- the first fault stays; one that came is the keeper's or the shelf's only if that one's count rose
pub record FaultsCame (was now : Option FloorFault) (keeper keeper' shelf shelf' : ℕ) : Type 0 where
  pub stays : (why : FloorFault) → was ≡ Some why → now ≡ Some why
  pub keepers : was ≡ None → now ≡ Some KeeperFailed → Rose keeper keeper'
  pub shelfs : was ≡ None → now ≡ Some ShelfFailed → Rose shelf shelf'
  pub keeper_later : keeper ≤ keeper'
  pub shelf_later : shelf ≤ shelf'
