-- What a print host knows between its requests.
use Rattle.std.specs.Prelude.{ℕ, ◌+◌, Bool, not, min, List, length, filter, insert, map, if◌then◌else◌, Option, None, Some}
use Rattle.std.specs.List.{list_any, prefix_len}
use Rattle.std.specs.Str.{bytes_eq}
use Rattle.marlin_reply.specs.declared.reply.Temps.{Temps}
use Rattle.octo_access.specs.declared.policy.Policy.{Policy}
use Rattle.octo_access.specs.declared.permission.Permission.TheVariants as permission
use Rattle.octo_access.specs.declared.row.UserRow.{UserRow}
use Rattle.octo_access.specs.Rights.{has}
use Rattle.octo_keeper.specs.declared.shelf.ShelfFile.{ShelfFile}
use Rattle.print_queue.specs.declared.entry.QueueEntry.{QueueEntry}
use Rattle.print_queue.specs.declared.row.PrintRow.{PrintRow}
use Rattle.job_desk.specs.Data.{Data}
use Rattle.octo_access.specs.Rows.{is_before}

-- the host's state but for the bytes of its files
pub record Known : Type 0 where
  -- what it was made with; nothing changes them
  pub policy : Policy
  pub ports : List (List ℕ)
  pub material : List ℕ
  -- the desk, and the temperatures that were last reported in this session
  pub desk : Data
  pub temps : Temps
  -- the tables, and the names of the files
  pub users : List UserRow
  pub queue : List QueueEntry
  pub prints : List PrintRow
  pub names : List (List ℕ)

-- the number of the next print
abbrev pub next_print_number : Known → ℕ
next_print_number k = length k.prints + 1

-- whether there is a file of that name
abbrev pub is_held : List ℕ → Known → Bool
is_held name k = list_any (λ n. bytes_eq n name) k.names

-- names but one
abbrev pub without_name : List ℕ → List (List ℕ) → List (List ℕ)
without_name name names = filter (λ n. not (bytes_eq n name)) names

-- names with one more, once and in its place by its bytes
abbrev pub with_name : List ℕ → List (List ℕ) → List (List ℕ)
with_name name names = insert (without_name name names) (prefix_len (λ n. is_before n name) (without_name name names)) name

-- the names of files
abbrev pub names_of : List ShelfFile → List (List ℕ)
names_of files = map (λ (file : ShelfFile). file.name) files

-- whose rows a user is shown: all for one with the permission ADMIN, and else the user's own
abbrev pub whose : Known → UserRow → Option (List ℕ)
whose k user = if has k.policy user permission.Admin then None else Some user.name

-- the greatest count that an answer shows, the last value of a u32
abbrev pub most_shown : ℕ
most_shown = 4294967295

-- a count as an answer shows it
abbrev pub shown_count : ℕ → ℕ
shown_count count = min count most_shown
