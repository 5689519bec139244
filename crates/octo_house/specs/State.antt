-- A host's fields as plain data.
use Rattle.std.specs.Prelude.{◌≡◌, ◌⊎◌, List, Option, None, Some}
use Rattle.octo_keeper.specs.declared.shelf.ShelfFile.{ShelfFile}
use Rattle.octo_session.specs.Data.{SessionData}
use Rattle.octo_house_tables.specs.Data.{TablesData}
use Rattle.octo_house_rules.specs.Known.{Known, names_of}
use Rattle.octo_house.specs.declared.house.House.{House}

-- what the host knows
abbrev pub known_of : House → Known
known_of house = record {
  policy = house.policy;
  ports = house.desk.ports;
  material = house.material;
  desk = house.desk.session.desk;
  temps = house.desk.temps;
  users = house.tables.users;
  queue = house.tables.queue;
  prints = house.tables.prints;
  names = house.names.items;
}

-- its session with the printer
abbrev pub session_of : House → SessionData
session_of house = house.desk.session

-- its users, queue and records of prints
abbrev pub tables_of : House → TablesData
tables_of house = house.tables

-- what requests leave: the sender, whether the link is up, and the end that isn't written, unless a start writes it
pub record IsApartFrom (old new : House) : Type 0 where
  pub sender : new.desk.session.sender ≡ old.desk.session.sender
  pub up : new.desk.session.up ≡ old.desk.session.up
  pub unwritten : (new.tables.unwritten ≡ None) ⊎ (new.tables.unwritten ≡ old.tables.unwritten)

-- the names are those of the files, if the shelf records them
abbrev pub IsListed : Option (List ShelfFile) → House → Type 0
IsListed held house = (files : List ShelfFile) → held ≡ Some files → house.names.items ≡ names_of files

-- nothing but the desk has changed
pub record IsDeskAlone (old new : House) : Type 0 where
  pub tables : new.tables ≡ old.tables
  pub names : new.names.items ≡ old.names.items
  pub apart : IsApartFrom old new

-- what the keeper keeps hasn't changed
pub record AreRowsLeft (old new : House) : Type 0 where
  pub tables : new.tables ≡ old.tables
  pub apart : IsApartFrom old new
