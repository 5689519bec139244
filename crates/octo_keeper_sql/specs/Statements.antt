-- The statements that write a change, and what it means that they ran.
use Rattle.std.specs.Prelude.{◌≡◌, ◌≢◌, ◌⊎◌, ℕ, pos, true, false, IsTrue, List, [], ◌∷◌, ◌++◌, Option, Some, None, Ok, Err}
use Rattle.sqlite_value.specs.declared.value.Value.TheVariants.{Int, Text}
use Rattle.sqlite_value.specs.Order.{Row}
use Rattle.sqlite_trees.specs.declared.store.Store.{Ghosts}
use Rattle.sqlite.specs.declared.error.Error.{Error}
use Rattle.sqlite.specs.declared.error.Error.TheVariants.{SqliteFailure}
use Rattle.sqlite.specs.declared.error.ErrorCode.TheVariants.{OutOfMemory}
use Rattle.sqlite.specs.Held.{Held, state}
use Rattle.sqlite.specs.State.{HasCleanDisk, IsRolledBack, Shows, ExecutesInside}
use Rattle.sqlite.specs.Steps.{FailsToCommit}
use Rattle.octo_access.specs.declared.row.UserRow.{UserRow}
use Rattle.print_queue.specs.declared.entry.QueueEntry.{QueueEntry}
use Rattle.print_queue.specs.declared.ending.Ending.{Ending}
use Rattle.print_queue.specs.declared.row.PrintRow.{PrintRow}
use Rattle.octo_keeper.specs.declared.tables.Change.{Change}
use Rattle.octo_keeper.specs.declared.tables.Change.TheVariants as change
use Rattle.octo_keeper_sql.specs.declared.schema.TheConstants.{INSERT_USER, UPDATE_USER, INSERT_ENTRY, DELETE_ENTRY, DELETE_LAST_COPY, LOWER_COPIES, INSERT_PRINT, END_PRINT}
use Rattle.octo_keeper_sql.specs.Rows.{user_row, entry_row, print_row, outcome_number}

-- a text of SQL, and the values of its parameters
pub record Statement : Type 0 where
  pub text : List ℕ
  pub values : Row

-- a text with the values of its parameters
abbrev pub with_values : List ℕ → Row → Statement
with_values text values = record { text = text; values = values }

-- a user is added
abbrev pub user_put : UserRow → Statement
user_put user = with_values INSERT_USER.now (user_row user)

-- a user's row is replaced
abbrev pub user_set : UserRow → Statement
user_set user = with_values UPDATE_USER.now (user_row user)

-- an entry is added
abbrev pub entry_put : QueueEntry → Statement
entry_put entry = with_values INSERT_ENTRY.now (entry_row entry)

-- the values that name an entry: its user and its name
abbrev pub key_values : List ℕ → List ℕ → Row
key_values user name = Text user ∷ Text name ∷ []

-- an entry is taken out
abbrev pub entry_dropped : List ℕ → List ℕ → Statement
entry_dropped user name = with_values DELETE_ENTRY.now (key_values user name)

-- a copy is started: the entry goes with its last one, and else has one less
abbrev pub copy_taken : Option QueueEntry → List Statement
copy_taken None = []
copy_taken (Some taken) =
    with_values DELETE_LAST_COPY.now (key_values taken.user taken.name)
    ∷ with_values LOWER_COPIES.now (key_values taken.user taken.name) ∷ []

-- a print is added
abbrev pub print_put : PrintRow → Statement
print_put print = with_values INSERT_PRINT.now (print_row print)

-- the outcome of a print is written
abbrev pub print_ended : Ending → Statement
print_ended ending = with_values END_PRINT.now (Int (pos ending.print) ∷ Int (pos (outcome_number ending.outcome)) ∷ [])

-- the end of another print, if it is due
abbrev pub due_end : Option Ending → List Statement
due_end None = []
due_end (Some ending) = print_ended ending ∷ []

-- the statements of a change, in turn
abbrev pub statements : Change → List Statement
statements (change.PutUser user) = user_put user ∷ []
statements (change.SetUser user) = user_set user ∷ []
statements (change.PutEntry entry) = entry_put entry ∷ []
statements (change.DropEntry user name) = entry_dropped user name ∷ []
statements (change.Begin ended print taken) = due_end ended ++ print_put print ∷ copy_taken taken
statements (change.End ending) = print_ended ending ∷ []

module _ {S : Type 0} (g : Ghosts S) where
  -- a statement ran inside a transaction
  abbrev pub Ran : Statement → Held S → Held S → Type 0
  Ran it old new = (count : ℕ) × ExecutesInside 0 it.text it.values (state g old) (state g new) (Ok count)

  -- these statements did, in turn
  abbrev pub RanInTurn : List Statement → Held S → Held S → Type 0
  RanInTurn [] old new = new ≡ old
  RanInTurn (it ∷ others) old new = (next : Held S) × Ran it old next × RanInTurn others next new

  -- the same, if the disk returned what was written
  abbrev pub Runs : List Statement → Held S → Held S → Type 0
  Runs list old new = HasCleanDisk (state g new) → RanInTurn list old new

  -- they ran in a transaction of their own, whose end is the last commit
  pub record Commits (list : List Statement) (old new : Held S) : Type 0 where
    pub last : Held S
    pub ran : RanInTurn list (record old { in_transaction = true }) last
    pub committed : Shows (state g last) (state g new) (state g last).now (state g last).now false

  -- one of these statements didn't run, after the earlier ones did, and not for out of memory
  abbrev pub FailsInTurn : List Statement → Held S → Held S → Type 0
  FailsInTurn [] old new = ⊥
  FailsInTurn (it ∷ others) old new =
      ((error : Error) × (error ≢ SqliteFailure OutOfMemory) × ExecutesInside 0 it.text it.values (state g old) (state g new) (Err error))
      ⊎ ((next : Held S) × Ran it old next × FailsInTurn others next new)

  -- inside a transaction that was open, on a disk that returned what was written
  abbrev pub InTransaction : (Held S → Held S → Type 0) → Held S → Held S → Type 0
  InTransaction Became old new = HasCleanDisk (state g new) → IsTrue old.in_transaction → Became old new

  -- why these statements inside a transaction end in an error: one didn't run, or out of memory
  abbrev pub Refuses : List Statement → Held S → Held S → Error → Type 0
  Refuses list old new error = error ≢ SqliteFailure OutOfMemory → InTransaction (FailsInTurn list) old new

  -- the work of a transaction wasn't committed: it failed and all was undone, or the commit failed, and not for out of memory
  abbrev pub IsLost : (Work Failure : Held S → Held S → Type 0) → Held S → Held S → Held S → Type 0
  IsLost Work Failure begun last new =
      (Failure begun last × IsRolledBack (state g last) (state g new))
      ⊎ (Work begun last × (error : Error) × (error ≢ SqliteFailure OutOfMemory) × FailsToCommit (state g last) (state g new) error)

  -- nor was it begun, if a transaction was open
  abbrev pub FailsToDo : (Work Failure : Held S → Held S → Type 0) → Held S → Held S → Type 0
  FailsToDo Work Failure old new = IsTrue old.in_transaction ⊎ ((last : Held S) × IsLost Work Failure (record old { in_transaction = true }) last new)

  -- why these statements weren't committed
  abbrev pub FailsToWrite : List Statement → Held S → Held S → Type 0
  FailsToWrite list = FailsToDo (RanInTurn list) (FailsInTurn list)
