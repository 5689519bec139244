-- A host's tables as plain data.
use Rattle.std.specs.Prelude.{◌≡◌, ◌≢◌, Bool, false, not, nat_le, List, [], ◌∷◌, ◌++◌, length, map, Option, None, Some, option_map}
use Rattle.std.specs.List.Sorted.{IsPermutation}
use Rattle.octo_access.specs.Rows.{IsUserTable}
use Rattle.octo_access.specs.declared.row.UserRow.{UserRow}
use Rattle.octo_keeper.specs.Tables.{with_due_end, with_end, with_taken}
use Rattle.octo_keeper.specs.declared.tables.Tables.{Tables}
use Rattle.print_queue.specs.Lawful.{IsLawful}
use Rattle.print_queue.specs.declared.entry.QueueEntry.{QueueEntry}
use Rattle.print_queue.specs.declared.ending.Ending.{Ending}
use Rattle.print_queue.specs.declared.row.PrintRow.{PrintRow}
use Rattle.octo_house_rules.specs.Known.{Known}
use Rattle.octo_house_rules.specs.Prints.{most_prints}
use Rattle.octo_house_rules.specs.Begins.{row_read}
use Rattle.octo_house_tables.specs.Counts.{is_failing}
use Rattle.octo_house_tables.specs.declared.tables.Unwritten.{Unwritten}

-- the rows of the tables, and an end of a print that is still to be written
pub record TablesData : Type 0 where
  pub users : List UserRow
  pub queue : List QueueEntry
  pub prints : List PrintRow
  -- the end of a print that the keeper hasn't written
  pub unwritten : Option Unwritten

-- that end without the keeper's fault
abbrev pub due_of : TablesData → Option Ending
due_of t = option_map (λ unwritten. unwritten.ending) t.unwritten

-- what is known with these tables
abbrev pub over : Known → TablesData → Known
over k t = record k { users = t.users; queue = t.queue; prints = t.prints }

-- whether there is room for one more record of a print
abbrev pub has_room_for : List PrintRow → Bool
has_room_for rows = not (nat_le most_prints (length rows))

-- the tables after a print began: another one may end, and a copy of an entry may be started
abbrev pub with_begun : Option Ending → PrintRow → Option QueueEntry → TablesData → TablesData
with_begun ended row taken t = record t { queue = with_taken taken t.queue; prints = with_due_end ended t.prints ++ row ∷ []; unwritten = None }

-- the tables after a print ended
abbrev pub with_ended : Ending → TablesData → List PrintRow
with_ended ending t = with_end ending t.prints

-- the tables of a new host: the rows in their order, with failed prints for those that were going on
pub record IsReadFrom (tables : Tables) (t : TablesData) : Type 0 where
  pub users : IsPermutation tables.users t.users
  pub user_table : IsUserTable t.users
  pub queue : IsPermutation tables.queue t.queue
  pub lawful : IsLawful t.queue
  pub same_users : IsUserTable tables.users → t.users ≡ tables.users
  pub same_queue : IsLawful tables.queue → t.queue ≡ tables.queue
  pub prints : t.prints ≡ map row_read tables.prints
  pub written : t.unwritten ≡ None

-- whether the last try to write an end failed by the keeper's fault
abbrev pub is_unwritten_by_fault : Option Unwritten → Bool
is_unwritten_by_fault None = false
is_unwritten_by_fault (Some unwritten) = is_failing unwritten.fault

-- no print is active while an end isn't written
abbrev pub IsRested : Option Unwritten → Bool → Type 0
IsRested unwritten active = unwritten ≢ None → active ≡ false
