-- What a change makes of the tables.
use Rattle.std.specs.Prelude.{◌≡◌, ℕ, ◌+◌, ◌-◌, ◌<◌, ◌==◌, if◌then◌else◌, List, [], ◌∷◌, ◌++◌, Option, Some, None, map, length, slice_index_or}
use Rattle.octo_access.specs.declared.row.UserRow.{UserRow}
use Rattle.octo_access.specs.Rows.{is_named, with_row, IsUserList}
use Rattle.print_queue.specs.declared.entry.QueueEntry.{QueueEntry}
use Rattle.print_queue.specs.Lawful.{IsSound}
use Rattle.print_queue.specs.Rows.{is_key, insert_row, without, without_copy}
use Rattle.print_queue.specs.declared.ending.Ending.{Ending}
use Rattle.print_queue.specs.declared.row.PrintRow.{PrintRow}
use Rattle.octo_keeper.specs.declared.tables.Tables.{Tables}
use Rattle.octo_keeper.specs.declared.tables.Change.{Change}
use Rattle.octo_keeper.specs.declared.tables.Change.TheVariants as change

-- a row in the place of one of its name
abbrev pub user_set : UserRow → UserRow → UserRow
user_set row held = if is_named row.name held then row else held

-- each user of that name has this row
abbrev pub with_user : UserRow → List UserRow → List UserRow
with_user row rows = map (user_set row) rows

-- the print of that number has ended
abbrev pub ended_row : Ending → PrintRow → PrintRow
ended_row ending row = if row.number == ending.print then record row { outcome = ending.outcome } else row

-- prints, with the outcome of the one that has ended
abbrev pub with_end : Ending → List PrintRow → List PrintRow
with_end ending rows = map (ended_row ending) rows

-- the prints after an end that may be due
abbrev pub with_due_end : Option Ending → List PrintRow → List PrintRow
with_due_end None rows = rows
with_due_end (Some ending) rows = with_end ending rows

-- an entry of this key, with one copy less left
abbrev pub lowered : List ℕ → List ℕ → QueueEntry → QueueEntry
lowered user name row = if is_key user name row then record row { left = row.left - 1 } else row

-- the queue after a copy of an entry was started, if one was
abbrev pub with_taken : Option QueueEntry → List QueueEntry → List QueueEntry
with_taken None rows = rows
with_taken (Some taken) rows = without_copy taken.user taken.name rows

-- the tables after a change
abbrev pub changed : Change → Tables → Tables
changed (change.PutUser row) t = record t { users = with_row row t.users }
changed (change.SetUser row) t = record t { users = with_user row t.users }
changed (change.PutEntry entry) t = record t { queue = insert_row entry t.queue }
changed (change.DropEntry user name) t = record t { queue = without user name t.queue }
changed (change.Begin ended print taken) t = record t { queue = with_taken taken t.queue; prints = with_due_end ended t.prints ++ print ∷ [] }
changed (change.End ending) t = record t { prints = with_end ending t.prints }

-- prints are numbered from 1 without a gap
abbrev pub AreNumbered : List PrintRow → Type 0
AreNumbered rows = (k : ℕ) (d : PrintRow) → k < length rows → (slice_index_or rows k d).number ≡ k + 1

-- tables that a host can begin with: names, keys and arrivals are distinct, and within their limits
pub record AreSound (t : Tables) : Type 0 where
  pub user_list : IsUserList t.users
  pub entries : IsSound t.queue
  pub numbered : AreNumbered t.prints
