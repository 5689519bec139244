-- What a change of users or of the queue leaves.
use Rattle.std.specs.Prelude.{◌≡◌, ℕ, true, false, Option}
use Rattle.octo_outside.specs.Recorded.{Counts}
use Rattle.octo_keeper.specs.Calls.{KeeperState}
use Rattle.octo_asks.specs.declared.answer.Answer.{Answer}
use Rattle.octo_house_rules.specs.Faults.{is_keepers, is_shelfs}
use Rattle.octo_house_tables.specs.Data.{TablesData}
use Rattle.octo_house_tables.specs.Kept.{KeepsRows}

-- a request that changes users or the queue was answered, by what a keeper records and how often it has failed
pub record TablesDone (was now : KeeperState) (x : Answer) (old new : TablesData) : Type 0 where
  -- the keeper's tables stay the host's
  pub kept : KeepsRows was.tables now.tables old new
  -- no print begins or ends, nor is an end written
  pub prints : new.prints ≡ old.prints
  pub written : new.unwritten ≡ old.unwritten
  -- a fault of the keeper is answered only if it counted one, and none of the shelf is
  pub keeper : Counts (is_keepers x ≡ true) was.faults now.faults
  pub shelf : is_shelfs x ≡ false
