-- The lines of the tables.
use Rattle.std.specs.Prelude.{ℕ, Bool, if◌then◌else◌, List, [], ◌∷◌, ◌++◌, length, codes, decimal, flat_map}
use Rattle.octo_access.specs.declared.row.UserRow.{UserRow}
use Rattle.print_queue.specs.declared.entry.QueueEntry.{QueueEntry}
use Rattle.print_queue.specs.declared.ending.Outcome.{Outcome}
use Rattle.print_queue.specs.declared.ending.Outcome.TheVariants.{Active, Done, Cancelled, Failed}
use Rattle.print_queue.specs.declared.row.PrintRow.{PrintRow}
use Rattle.octo_keeper.specs.declared.tables.Tables.{Tables}

-- a blank and a word
abbrev pub word_after : List ℕ → List ℕ
word_after word = codes " " ++ word

-- a text and a number
abbrev pub number_after : List ℕ → ℕ → List ℕ
number_after text number = text ++ decimal number

-- whether a user is active, after a blank
abbrev pub active_text : Bool → List ℕ
active_text active = if active then codes " active" else codes " inactive"

-- name, whether active, groups
abbrev pub user_line : UserRow → List ℕ
user_line u = codes "user" ++ word_after u.name ++ active_text u.active ++ flat_map word_after u.groups.items ++ codes "\n"

-- an entry's user, name and file
abbrev pub entry_names : QueueEntry → List ℕ
entry_names e = codes "entry" ++ word_after e.user ++ word_after e.name ++ word_after e.file

-- an entry's priority, arrival, copies, and the copies that are left
abbrev pub entry_numbers : QueueEntry → List ℕ
entry_numbers e =
    number_after (codes " priority ") e.priority ++ number_after (codes " arrival ") e.arrival
    ++ number_after (codes " copies ") e.copies ++ number_after (codes " left ") e.left

-- names, numbers and material of an entry
abbrev pub entry_line : QueueEntry → List ℕ
entry_line e = entry_names e ++ entry_numbers e ++ codes " material" ++ word_after e.material ++ codes "\n"

-- the end of a print's line, with its outcome
abbrev pub outcome_text : Outcome → List ℕ
outcome_text Active = codes " active\n"
outcome_text Done = codes " done\n"
outcome_text Cancelled = codes " cancelled\n"
outcome_text Failed = codes " failed\n"

-- number, user, file, commands and outcome of a print
abbrev pub print_line : PrintRow → List ℕ
print_line p =
    number_after (codes "print ") p.number ++ word_after p.user ++ word_after p.file ++ number_after (codes " commands ") p.commands ++ outcome_text p.outcome

-- how many rows a table has
abbrev pub count_line : List ℕ → ℕ → List ℕ
count_line text count = number_after text count ++ codes "\n"

-- the tables, each after the number of its rows
abbrev pub tables_text : Tables → List ℕ
tables_text t =
    (count_line (codes "users ") (length t.users) ++ flat_map user_line t.users)
    ++ (count_line (codes "entries ") (length t.queue) ++ flat_map entry_line t.queue)
    ++ (count_line (codes "prints ") (length t.prints) ++ flat_map print_line t.prints)
