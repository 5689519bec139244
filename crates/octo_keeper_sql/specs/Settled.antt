-- What an adoption makes of a database.
use Rattle.std.specs.Prelude.{◌≡◌, ◌≢◌, ◌⊎◌, ℕ, ℤ, pos, true, false, List, [], ◌∷◌, ◌++◌, map}
use Rattle.sqlite_value.specs.declared.value.Value.TheVariants.{Int}
use Rattle.sqlite_value.specs.Order.{Row, column}
use Rattle.sqlite_trees.specs.declared.store.Store.{Ghosts}
use Rattle.sqlite.specs.Held.{Held, state}
use Rattle.sqlite.specs.State.{Shows}
use Rattle.print_queue.specs.declared.entry.QueueEntry.{QueueEntry}
use Rattle.octo_keeper_sql.specs.declared.old_queue.OldEntry.{OldEntry}
use Rattle.octo_keeper_sql.specs.declared.schema.TheConstants.{CREATE_META, SELECT_SCHEMA, CREATE_USERS, CREATE_ENTRIES, CREATE_PRINTS, INSERT_SCHEMA, SELECT_OLD_QUEUE, DROP_OLD_QUEUE, UPDATE_SCHEMA}
use Rattle.octo_keeper_sql.specs.Loads.{Found, Misread, Unread}
use Rattle.octo_keeper_sql.specs.Holds.{HoldsOldEntry}
use Rattle.octo_keeper_sql.specs.Rows.{old_entry_row}
use Rattle.octo_keeper_sql.specs.Statements.{Statement, with_values, entry_put, RanInTurn, FailsInTurn, FailsToDo}
use Rattle.octo_keeper_sql.specs.Upgrade.{upgraded}

-- a text of SQL without parameters
abbrev pub plain : List ℕ → Statement
plain text = with_values text []

-- the tables of an empty database
abbrev pub tables_made : List Statement
tables_made = plain CREATE_USERS.now ∷ plain CREATE_ENTRIES.now ∷ plain CREATE_PRINTS.now ∷ plain INSERT_SCHEMA.now ∷ []

-- these entries, one by one, in the table that has the place of the queue of the schema before
abbrev pub queue_moved : List QueueEntry → List Statement
queue_moved entries = plain CREATE_ENTRIES.now ∷ map entry_put entries ++ plain DROP_OLD_QUEUE.now ∷ plain UPDATE_SCHEMA.now ∷ []

-- the entries of that queue
abbrev pub queue_upgraded : List OldEntry → List Statement
queue_upgraded olds = queue_moved (map upgraded olds)

-- the number of the schema is that of its only row, and 0 if there is none
abbrev pub IsSchema : ℤ → List Row → Type 0
IsSchema number [] = number ≡ pos 0
IsSchema number (row ∷ []) = column row 0 ≡ Int number
IsSchema number (row ∷ next ∷ rows) = ⊥

-- no number can be read from these rows
abbrev pub HasNoSchema : List Row → Type 0
HasNoSchema rows = (number : ℤ) → ¬ IsSchema number rows

-- neither none, nor the schema before, nor the one that is kept
abbrev pub IsForeign : ℤ → Type 0
IsForeign number = (number ≢ pos 0) × (number ≢ pos 1) × (number ≢ pos 2)

module _ {S : Type 0} (g : Ghosts S) where
  -- the queue of the schema before was read, and its entries were moved
  pub record Upgraded (old new : Held S) : Type 0 where
    pub olds : List OldEntry
    pub read : Held S
    pub found : Found g SELECT_OLD_QUEUE.now (map old_entry_row olds) old read
    pub ran : RanInTurn g (queue_upgraded olds) read new

  -- by the number of the schema
  abbrev pub SettledFrom : ℤ → Held S → Held S → Type 0
  SettledFrom number old new =
      ((number ≡ pos 0) × RanInTurn g tables_made old new)
      ⊎ (((number ≡ pos 1) × Upgraded old new) ⊎ ((number ≡ pos 2) × (new ≡ old)))

  -- the query of the schema's number shows this one
  pub record FoundNumber (number : ℤ) (old new : Held S) : Type 0 where
    pub rows : List Row
    pub found : Found g SELECT_SCHEMA.now rows old new
    pub is : IsSchema number rows

  -- the number of the schema was found, and the tables were made, upgraded or left by it
  pub record Settled (old new : Held S) : Type 0 where
    pub made : Held S
    pub read : Held S
    pub number : ℤ
    pub meta : RanInTurn g (plain CREATE_META.now ∷ []) old made
    pub found : FoundNumber number made read
    pub settled : SettledFrom number read new

  -- in a transaction of its own, whose end is the last commit
  pub record Settles (old new : Held S) : Type 0 where
    pub last : Held S
    pub settled : Settled (record old { in_transaction = true }) last
    pub committed : Shows (state g last) (state g new) (state g last).now (state g last).now false

  -- the queue of the schema before can't be read, or a statement of its upgrade doesn't run
  abbrev pub FailsToUpgrade : Held S → Held S → Type 0
  FailsToUpgrade old new =
      Unread g SELECT_OLD_QUEUE.now HoldsOldEntry old new
      ⊎ ((olds : List OldEntry) × (read : Held S) × Found g SELECT_OLD_QUEUE.now (map old_entry_row olds) old read
      × FailsInTurn g (queue_upgraded olds) read new)

  -- by the number of the schema
  abbrev pub FailsFrom : ℤ → Held S → Held S → Type 0
  FailsFrom number old new =
      ((number ≡ pos 0) × FailsInTurn g tables_made old new)
      ⊎ (((number ≡ pos 1) × FailsToUpgrade old new) ⊎ (IsForeign number × (new ≡ old)))

  -- the number can't be read, or what it asks for fails
  abbrev pub FailsAtNumber : Held S → Held S → Type 0
  FailsAtNumber old new =
      Misread g SELECT_SCHEMA.now HasNoSchema old new
      ⊎ ((read : Held S) × (number : ℤ) × FoundNumber number old read × FailsFrom number read new)

  -- its table can't be made, or that fails
  abbrev pub FailsToSettle : Held S → Held S → Type 0
  FailsToSettle old new =
      FailsInTurn g (plain CREATE_META.now ∷ []) old new
      ⊎ ((made : Held S) × RanInTurn g (plain CREATE_META.now ∷ []) old made × FailsAtNumber made new)

  -- why a database isn't adopted
  abbrev pub FailsToAdopt : Held S → Held S → Type 0
  FailsToAdopt = FailsToDo g Settled FailsToSettle
