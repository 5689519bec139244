-- What a host begins with.
use Rattle.std.specs.Prelude.{◌≡◌, ℕ, List, Option, None, Some, IfSome}
use Rattle.octo_access.specs.declared.policy.Policy.{Policy}
use Rattle.octo_keeper.specs.Tables.{AreNumbered, AreSound}
use Rattle.octo_keeper.specs.declared.shelf.ShelfFile.{ShelfFile}
use Rattle.octo_keeper.specs.declared.tables.Tables.{Tables}
use Rattle.octo_session.specs.Data.{SessionData}
use Rattle.octo_house_rules.specs.Begins.{Begins}
use Rattle.octo_house_rules.specs.Noted.{no_temps}
use Rattle.octo_house_tables.specs.Data.{TablesData, IsReadFrom}
use Rattle.octo_house.specs.declared.house.House.{House}
use Rattle.octo_house.specs.State.{known_of}

-- what it was given, a new desk and no temperatures; nothing is unwritten, and its prints are numbered from 1 without a gap
pub record IsMadeOf (session : SessionData) (policy : Policy) (ports : List (List ℕ)) (material : List ℕ) (house : House) : Type 0 where
  pub session_is : house.desk.session ≡ session
  pub policy_is : house.policy ≡ policy
  pub ports_are : house.desk.ports ≡ ports
  pub material_is : house.material ≡ material
  pub temps : house.desk.temps ≡ no_temps
  pub written : house.tables.unwritten ≡ None
  pub numbered : AreNumbered house.tables.prints

-- it knows the kept rows and the names of the files, if keeper and shelf record them
abbrev pub BeginsOn : SessionData → Policy → List (List ℕ) → List ℕ → Option Tables → Option (List ShelfFile) → House → Type 0
BeginsOn session policy ports material kept held house =
    (tables : Tables) → kept ≡ Some tables → (files : List ShelfFile) → held ≡ Some files →
    Begins session.desk.scripts session.desk.limits session.desk.poll_ms session.desk.numbered policy ports material tables files (known_of house)

-- a new host's tables, read from sound ones: those that the keeper keeps, if it records them
pub record IsLoaded (kept : Option Tables) (t : TablesData) : Type 0 where
  pub loaded : Tables
  pub same : IfSome kept (λ tables. loaded ≡ tables)
  pub sound : AreSound loaded
  pub read : IsReadFrom loaded t
