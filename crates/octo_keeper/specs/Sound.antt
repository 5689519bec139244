-- Tests of the tables that a host can begin with.
use Rattle.std.specs.Prelude.{ℕ, ◌+◌, ◌==◌, Bool, true, ◌&&◌, not, nat_le, List, [], ◌∷◌, length, count_by, Some}
use Rattle.std.specs.List.{list_all}
use Rattle.octo_access.specs.declared.row.UserRow.{UserRow}
use Rattle.octo_access.specs.Rows.{is_named, has_digest}
use Rattle.print_queue.specs.declared.entry.QueueEntry.{QueueEntry}
use Rattle.print_queue.specs.Rows.{is_key, is_of}
use Rattle.print_queue.specs.declared.row.PrintRow.{PrintRow}
use Rattle.octo_keeper.specs.declared.tables.Tables.{Tables}

-- two entries differ in their arrival, and in their user or their name
abbrev pub is_apart : QueueEntry → QueueEntry → Bool
is_apart a b = not (a.arrival == b.arrival) && not (is_key a.user a.name b)

-- each two entries do
abbrev pub are_apart : List QueueEntry → Bool
are_apart [] = true
are_apart (row ∷ rows) = list_all (is_apart row) rows && are_apart rows

-- an entry has 1 to 100 copies, of which 1 to all are left
abbrev pub is_whole : QueueEntry → Bool
is_whole row = nat_le 1 row.left && (nat_le row.left row.copies && nat_le row.copies 100)

-- its user has at most 64 of these entries
abbrev pub is_within : List QueueEntry → QueueEntry → Bool
is_within rows row = nat_le (count_by (is_of (Some row.user)) rows) 64

-- whether entries may be the queue of a host
abbrev pub is_queue : List QueueEntry → Bool
is_queue rows = are_apart rows && (list_all is_whole rows && list_all (is_within rows) rows)

-- no other user has its name or its key
abbrev pub is_alone : List UserRow → UserRow → Bool
is_alone rows row = nat_le (count_by (is_named row.name) rows) 1 && nat_le (count_by (has_digest row.digest) rows) 1

-- whether rows may be the users of a host
abbrev pub is_user_list : List UserRow → Bool
is_user_list rows = nat_le (length rows) 1000 && list_all (is_alone rows) rows

-- prints are numbered from a number on without a gap
abbrev pub are_numbered_from : ℕ → List PrintRow → Bool
are_numbered_from number [] = true
are_numbered_from number (row ∷ rows) = row.number == number && are_numbered_from (number + 1) rows

-- tables that a host can begin with
abbrev pub are_sound : Tables → Bool
are_sound t = is_user_list t.users && (is_queue t.queue && are_numbered_from 1 t.prints)
