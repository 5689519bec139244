-- What a load returns of the rows that the database holds, and when it fails.
use Rattle.std.specs.Prelude.{◌≡◌, ◌≢◌, ◌⊎◌, ℕ, false, List, [], map}
use Rattle.std.specs.List.{All}
use Rattle.sqlite_value.specs.Order.{Row}
use Rattle.sqlite_trees.specs.declared.store.Store.{Ghosts}
use Rattle.sqlite.specs.declared.error.Error.{Error}
use Rattle.sqlite.specs.declared.error.Error.TheVariants.{SqliteFailure}
use Rattle.sqlite.specs.declared.error.ErrorCode.TheVariants.{OutOfMemory}
use Rattle.sqlite.specs.Held.{Held, state}
use Rattle.sqlite.specs.State.{HasCleanDisk, FailsToQuery, Shown}
use Rattle.octo_keeper.specs.declared.tables.Tables.{Tables}
use Rattle.octo_keeper.specs.Sound.{are_sound}
use Rattle.octo_keeper_sql.specs.declared.schema.TheConstants.{SELECT_USERS, SELECT_ENTRIES, SELECT_PRINTS}
use Rattle.octo_keeper_sql.specs.Holds.{HoldsUser, HoldsEntry, HoldsPrint}
use Rattle.octo_keeper_sql.specs.Rows.{user_row, entry_row, print_row}

module _ {S : Type 0} (g : Ghosts S) where
  -- a query without parameters shows these rows
  abbrev pub Found : List ℕ → List Row → Held S → Held S → Type 0
  Found query rows old new = Shown query [] (state g old) (state g new) rows

  -- it fails, and not for out of memory
  abbrev pub Unanswered : List ℕ → Held S → Held S → Type 0
  Unanswered query old new = (error : Error) × (error ≢ SqliteFailure OutOfMemory) × FailsToQuery query [] (state g old) (state g new) error

  -- it fails, or shows rows of which this is true
  abbrev pub Misread : List ℕ → (List Row → Type 0) → Held S → Held S → Type 0
  Misread query AreSuch old new = Unanswered query old new ⊎ ((rows : List Row) × Found query rows old new × AreSuch rows)

  -- it fails, or shows a row that can't be read
  abbrev pub Unread : List ℕ → (Row → Type 0) → Held S → Held S → Type 0
  Unread query Holds = Misread query (λ rows. ¬ All Holds rows)

  -- the same, if the disk returned what was written
  abbrev pub Finds : List ℕ → List Row → Held S → Held S → Type 0
  Finds query rows old new = HasCleanDisk (state g new) → Found query rows old new

  -- it fails, or shows a row that can't be read, if the disk returned what was written
  abbrev pub FailsToFind : List ℕ → (Row → Type 0) → Held S → Held S → Type 0
  FailsToFind query Holds old new = HasCleanDisk (state g new) → Unread query Holds old new

  -- the queries of the three tables, one after the other, show their rows
  pub record Loads (tables : Tables) (old new : Held S) : Type 0 where
    pub one : Held S
    pub two : Held S
    pub users : Found SELECT_USERS.now (map user_row tables.users) old one
    pub queue : Found SELECT_ENTRIES.now (map entry_row tables.queue) one two
    pub prints : Found SELECT_PRINTS.now (map print_row tables.prints) two new

  -- memory runs out at a query, or at the rows that it showed
  abbrev pub Unfinished : List ℕ → Held S → Held S → Type 0
  Unfinished query old new = FailsToQuery query [] (state g old) (state g new) (SqliteFailure OutOfMemory) ⊎ ((rows : List Row) × Found query rows old new)

  -- the same, if the disk returned what was written
  abbrev pub EndsEarly : List ℕ → Held S → Held S → Type 0
  EndsEarly query old new = HasCleanDisk (state g new) → Unfinished query old new

  -- one of these queries stops in this way, after the earlier ones showed their rows
  module _ (Stops : List ℕ → (Row → Type 0) → Held S → Held S → Type 0) where
    abbrev pub StopsAtQueue : Held S → Held S → Type 0
    StopsAtQueue old new =
        Stops SELECT_ENTRIES.now HoldsEntry old new
        ⊎ ((two : Held S) × (rows : List Row) × Found SELECT_ENTRIES.now rows old two × Stops SELECT_PRINTS.now HoldsPrint two new)

    abbrev pub StopsToLoad : Held S → Held S → Type 0
    StopsToLoad old new =
        Stops SELECT_USERS.now HoldsUser old new
        ⊎ ((one : Held S) × (rows : List Row) × Found SELECT_USERS.now rows old one × StopsAtQueue one new)

  -- one of these queries fails or shows a row that can't be read, after the earlier ones showed theirs
  abbrev pub FailsToLoad : Held S → Held S → Type 0
  FailsToLoad = StopsToLoad Unread

  -- memory runs out at one of these queries, after the earlier ones showed theirs
  abbrev pub LacksMemory : Held S → Held S → Type 0
  LacksMemory = StopsToLoad (λ query _. Unfinished query)

  -- or all show theirs, and a host can't begin with them
  abbrev pub IsUnsound : Held S → Held S → Type 0
  IsUnsound old new = (tables : Tables) × Loads tables old new × (are_sound tables ≡ false)
