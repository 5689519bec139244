-- The requests that change nothing.
use Rattle.std.specs.Prelude.{ℕ, ◌*◌, ◌/◌, ◌==◌, Bool, true, not, min, codes, List, [], ◌∷◌, length, filter, map, reverse, take, if◌then◌else◌, slice_index_or, Option, None, Some, option_map}
use Rattle.std.specs.Str.{bytes_eq}
use Rattle.arrayvec.specs.ArrayVec.{ArrayVec}
use Rattle.octo_access.specs.Rights.{caller}
use Rattle.octo_access.specs.declared.row.UserRow.{UserRow}
use Rattle.octo_keeper.specs.Files.{bytes_of, sizes_of}
use Rattle.octo_keeper.specs.declared.shelf.ShelfFile.{ShelfFile}
use Rattle.gcode_lines.specs.Job.{JobData, places_of}
use Rattle.job_desk.specs.Data.{Data, File}
use Rattle.print_queue.specs.Rows.{is_of}
use Rattle.print_queue.specs.declared.row.PrintRow.{PrintRow}
use Rattle.octo_asks.specs.Shown.{shown_heat, shown_user, shown_entry, shown_print}
use Rattle.octo_asks.specs.declared.answer.Answer.{Answer}
use Rattle.octo_asks.specs.declared.answer.Answer.TheVariants as answer
use Rattle.octo_asks.specs.declared.shown.Progress.{Progress}
use Rattle.octo_asks.specs.declared.shown.ShownFile.{ShownFile}
use Rattle.octo_house_rules.specs.Known.{Known, is_held, whose}
use Rattle.octo_house_rules.specs.States.{may_show, may_shut_down, shown_port}
use Rattle.octo_house_rules.specs.Verdict.{Verdict, at_desk, gives, reads, writes}
use Rattle.octo_house_rules.specs.Refusals.{refused_if, found_or}

-- the groups of nobody
abbrev pub guests : ArrayVec (List ℕ)
guests = record { items = codes "guests" ∷ [] }

-- the name and the groups of whom a key names
abbrev pub caller_shown : Option UserRow → Answer
caller_shown None = answer.Caller None guests
caller_shown (Some user) = answer.Caller (Some user.name) user.groups

-- whom a key names
abbrev pub caller_verdict : List ℕ → Known → Verdict
caller_verdict key k = gives (caller_shown (caller k.policy k.users key))

-- the greatest temperatures that a command may ask for
abbrev pub limits_verdict : Known → Verdict
limits_verdict k = gives (answer.Limits k.desk.limits.tool k.desk.limits.bed)

-- the state of the connection, and all ports
abbrev pub connection_verdict : Known → Verdict
connection_verdict k = gives (answer.Connection (shown_port k.desk.state k.desk.port) k.desk.state k.ports)

-- the printer's state and the temperatures that are known
abbrev pub printer_verdict : Known → Verdict
printer_verdict k =
    refused_if (not (may_show k.desk.state)) (answer.WrongState k.desk.state)
    (gives (answer.Printer k.desk.state (option_map shown_heat k.temps.tool) (option_map shown_heat k.temps.bed)))

-- a file by its name and size
abbrev pub file_shown : List ℕ → ℕ → ShownFile
file_shown name size = record { name = name; size = size }

-- the selected file
abbrev pub selected_shown : File → ShownFile
selected_shown file = file_shown file.name file.job.bytes

-- issued commands in percent, at most all of them, rounded down; an empty file is complete
abbrev pub completion : ℕ → ℕ → ℕ
completion issued count = if count == 0 then 100 else min issued count * 100 / count

-- the place of the next command, the size if all were issued
abbrev pub place_after : ℕ → JobData → ℕ
place_after issued job = slice_index_or (places_of job) issued job.bytes

-- how far a print of a file is
abbrev pub progress_in : ℕ → File → Progress
progress_in issued file = record { completion = completion issued (length file.job.commands); place = place_after issued file.job }

-- the same, while a print is active
abbrev pub progress_of : Data → Option Progress
progress_of d = if d.active then option_map (progress_in d.cursor) d.file else None

-- the selected file, the progress of its print, and the state
abbrev pub job_verdict : Known → Verdict
job_verdict k = gives (answer.Job (option_map selected_shown k.desk.file) (progress_of k.desk) k.desk.state)

-- all files
abbrev pub list_files_verdict : List ShelfFile → Verdict
list_files_verdict files = reads (gives (answer.Files (map (λ file. file_shown file.0 file.1) (sizes_of files))))

-- one file
abbrev pub get_file_verdict : List ℕ → List ShelfFile → Known → Verdict
get_file_verdict name files k =
    refused_if (not (is_held name k)) answer.NoFile
    (reads (found_or (bytes_of name files) answer.NoFile (λ bytes. gives (answer.File (file_shown name (length bytes))))))

-- the bytes of a file
abbrev pub download_verdict : List ℕ → List ShelfFile → Known → Verdict
download_verdict name files k =
    refused_if (not (is_held name k)) answer.NoFile
    (reads (found_or (bytes_of name files) answer.NoFile (λ bytes. gives (answer.Download bytes))))

-- all users but the admin
abbrev pub list_users_verdict : Known → Verdict
list_users_verdict k = gives (answer.Users (map shown_user k.users))

-- the entries of the queue that the user is shown
abbrev pub list_queue_verdict : UserRow → Known → Verdict
list_queue_verdict user k = gives (answer.Entries (map shown_entry (filter (is_of (whose k user)) k.queue)))

-- the print is this user's; every print is if no user is named
abbrev pub is_print_of : Option (List ℕ) → PrintRow → Bool
is_print_of None row = true
is_print_of (Some user) row = bytes_eq row.user user

-- the prints that the user is shown, newest first, at most 100
abbrev pub list_prints_verdict : UserRow → Known → Verdict
list_prints_verdict user k = gives (answer.Prints (map shown_print (take 100 (reverse (filter (is_print_of (whose k user)) k.prints)))))

-- the keeper writes a copy of the tables; the host and its tables stay
abbrev pub backup_verdict : Known → Verdict
backup_verdict k = writes answer.Accepted (at_desk [] k)

-- the host ends; whoever runs it sees the answer
abbrev pub shutdown_verdict : Known → Verdict
shutdown_verdict k = refused_if (not (may_shut_down k.desk.state)) (answer.WrongState k.desk.state) (gives answer.Accepted)
