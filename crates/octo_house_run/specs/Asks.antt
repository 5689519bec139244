-- What an ask leaves of a host, its keeper and its shelf.
use Rattle.std.specs.Prelude.{◌≤◌}
use Rattle.octo_keeper.specs.Calls.{KeeperState, ShelfState}
use Rattle.octo_house_tables.specs.Kept.{KeepsRows}
use Rattle.octo_house.specs.declared.house.House.{House}
use Rattle.octo_house.specs.State.{IsApartFrom, IsListed, tables_of}

-- what an answered ask leaves, or none, by what keeper and shelf record and how often each has failed
pub record AskLeaves (was now : KeeperState) (held holds : ShelfState) (old new : House) : Type 0 where
  -- the keeper's tables stay the host's, and the names those of the shelf's files
  pub kept : KeepsRows was.tables now.tables (tables_of old) (tables_of new)
  pub listed : IsListed held.files old → IsListed holds.files new
  -- the sender and the link stay, and so does the end that isn't written, unless a start writes it
  pub apart : IsApartFrom old new
  -- the counts of faults don't fall
  pub keeper : was.faults ≤ now.faults
  pub shelf : held.faults ≤ holds.faults
