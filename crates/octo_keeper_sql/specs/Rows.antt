-- The rows of the database, and what they are rows of.
use Rattle.std.specs.Prelude.{ℕ, pos, if◌then◌else◌, List, [], ◌∷◌, ◌++◌}
use Rattle.sqlite_value.specs.declared.value.Value.{Value}
use Rattle.sqlite_value.specs.declared.value.Value.TheVariants.{Int, Text, Blob}
use Rattle.octo_access.specs.declared.row.UserRow.{UserRow}
use Rattle.print_queue.specs.declared.entry.QueueEntry.{QueueEntry}
use Rattle.print_queue.specs.declared.ending.Outcome.{Outcome}
use Rattle.print_queue.specs.declared.ending.Outcome.TheVariants.{Active, Done, Cancelled, Failed}
use Rattle.print_queue.specs.declared.row.PrintRow.{PrintRow}
use Rattle.octo_keeper_sql.specs.declared.old_queue.OldEntry.{OldEntry}

-- each name after a space
abbrev pub spaced : List (List ℕ) → List ℕ
spaced [] = []
spaced (name ∷ names) = 32 ∷ name ++ spaced names

-- names with one space between each two
abbrev pub joined : List (List ℕ) → List ℕ
joined [] = []
joined (name ∷ names) = name ++ spaced names

-- name, digest, groups, active
abbrev pub user_row : UserRow → List Value
user_row u = Text u.name ∷ Blob u.digest ∷ Text (joined u.groups.items) ∷ Int (if u.active then pos 1 else pos 0) ∷ []

-- user, name, file, priority, arrival, copies, remaining, material
abbrev pub entry_row : QueueEntry → List Value
entry_row e =
    Text e.user ∷ Text e.name ∷ Text e.file ∷ Int (pos e.priority) ∷ Int (pos e.arrival) ∷ Int (pos e.copies) ∷ Int (pos e.left) ∷ Text e.material ∷ []

-- user, name, file, priority, arrival
abbrev pub old_entry_row : OldEntry → List Value
old_entry_row e = Text e.user ∷ Text e.name ∷ Text e.file ∷ Int (pos e.priority) ∷ Int (pos e.arrival) ∷ []

-- how an outcome is numbered
abbrev pub outcome_number : Outcome → ℕ
outcome_number Active = 0
outcome_number Done = 1
outcome_number Cancelled = 2
outcome_number Failed = 3

-- number, user, file, commands, outcome
abbrev pub print_row : PrintRow → List Value
print_row p = Int (pos p.number) ∷ Text p.user ∷ Text p.file ∷ Int (pos p.commands) ∷ Int (pos (outcome_number p.outcome)) ∷ []
