-- The requests that store, select, print and delete files.
use Rattle.std.specs.Prelude.{ℕ, Bool, true, false, ◌&&◌, ◌||◌, not, nat_le, if◌then◌else◌, List, [], ◌∷◌, length, is_none, Option, Some, None, find}
use Rattle.octo_access.specs.Rights.{has}
use Rattle.octo_access.specs.declared.permission.Permission.TheVariants as permission
use Rattle.octo_access.specs.declared.row.UserRow.{UserRow}
use Rattle.octo_keeper.specs.Files.{bytes_of}
use Rattle.octo_keeper.specs.declared.shelf.ShelfFile.{ShelfFile}
use Rattle.gcode_lines.specs.Commands.{job_of}
use Rattle.temp_rules.specs.Hot.{first_hot_of}
use Rattle.temp_rules.specs.declared.job.HotLine.{HotLine}
use Rattle.job_desk.specs.Data.{File, named_file}
use Rattle.job_desk.specs.Run.{Select, DropFile, Start}
use Rattle.job_desk.specs.Table.{drop_file_step, start_file}
use Rattle.print_queue.specs.Rows.{fits, without_copy}
use Rattle.print_queue.specs.declared.entry.QueueEntry.{QueueEntry}
use Rattle.octo_asks.specs.Shown.{shown_entry}
use Rattle.octo_asks.specs.declared.answer.Answer.{Answer}
use Rattle.octo_asks.specs.declared.answer.Answer.TheVariants as answer
use Rattle.octo_asks.specs.declared.answer.PrintRefusal.{PrintRefusal}
use Rattle.octo_asks.specs.declared.answer.PrintRefusal.TheVariants as refusal
use Rattle.octo_house_rules.specs.Known.{Known, next_print_number, is_held, with_name, without_name, shown_count}
use Rattle.octo_house_rules.specs.Prints.{has_room, unless_full, start_deed}
use Rattle.octo_house_rules.specs.States.{may_select, may_start}
use Rattle.octo_house_rules.specs.Verdict.{Verdict, Deed, gives, makes, writes, reads, removes, stores, begins, at_desk, known_after}
use Rattle.octo_house_rules.specs.Refusals.{refused_if, if_desk_allows, found_or, read_as}

-- the file of a name that is held, as the shelf has it
abbrev pub read_file : List ℕ → List ShelfFile → (File → Verdict) → Verdict
read_file name files next =
    reads (found_or (bytes_of name files) answer.NoFile (λ bytes. read_as (job_of bytes) (λ job. next (named_file name job))))

-- a print of a file that isn't selected yet begins for a user; the queue is this afterwards
abbrev pub print_verdict : Answer → List ℕ → List QueueEntry → Known → File → Verdict
print_verdict accepted user queue k file =
    if_desk_allows (start_file (Some file) (next_print_number k) k.desk).0
    (unless_full k (writes accepted (record (start_deed user (Some file) (Select file ∷ Start (next_print_number k) ∷ []) k) { queue = queue })))

-- a file is selected, and with the flag also printed
abbrev pub select_by : Bool → List ℕ → List ℕ → List ShelfFile → Known → Verdict
select_by false user name files k =
    refused_if (not (may_select k.desk.state)) (answer.WrongState k.desk.state)
    (read_file name files (λ file. makes answer.Accepted (at_desk (Select file ∷ []) k)))
select_by true user name files k =
    refused_if (not (may_start k.desk.state)) (answer.WrongState k.desk.state)
    (read_file name files (print_verdict answer.Accepted user k.queue k))

-- a file that is held is selected, and with the flag also printed
abbrev pub select_verdict : List ℕ → List ℕ → Bool → List ShelfFile → Known → Verdict
select_verdict user name print files k = refused_if (not (is_held name k)) answer.NoFile (select_by print user name files k)

-- one copy of an entry is started for its user
abbrev pub take_verdict : List ShelfFile → Known → QueueEntry → Verdict
take_verdict files k entry =
    refused_if (not (is_held entry.file k)) answer.NoFile
    (read_file entry.file files (print_verdict (answer.TakenEntry (shown_entry entry)) entry.user (without_copy entry.user entry.name k.queue) k))

-- the next entry that fits the printer's material
abbrev pub next_verdict : List ShelfFile → Known → Verdict
next_verdict files k =
    refused_if (not (may_start k.desk.state)) (answer.WrongState k.desk.state)
    (found_or (find (fits k.material) k.queue) answer.NoEntry (take_verdict files k))

-- a file that is held is deleted, unless it is being printed
abbrev pub delete_verdict : List ℕ → Known → Verdict
delete_verdict name k =
    refused_if (not (is_held name k)) answer.NoFile
    (if_desk_allows (drop_file_step name k.desk).0
    (removes name answer.Accepted (record (at_desk (DropFile name ∷ []) k) { names = without_name name k.names })))

-- whether there is room for a file of that name
abbrev pub has_file_room : List ℕ → Known → Bool
has_file_room name k = is_held name k || not (nat_le 1000 (length k.names))

-- whether a file that was stored is selected: a flag asks for it, the user may, and the desk allows it
abbrev pub is_selected : UserRow → Bool → Bool → Known → Bool
is_selected user select print k = (select || print) && (has k.policy user permission.FilesSelect && may_select k.desk.state)

-- whether it is also printed
abbrev pub is_printed : UserRow → Bool → File → Known → Bool
is_printed user print file k =
    (print && (has k.policy user permission.Print && may_start k.desk.state)) && (is_none (first_hot_of k.desk.limits file.job.commands) && has_room k)

-- a file with a command that is too hot, or else too many records of prints
abbrev pub hot_or_full : Option HotLine → Known → PrintRefusal
hot_or_full (Some hot) k = refusal.TooHotLine hot.line hot.asked hot.limit
hot_or_full None k = refusal.Full (shown_count (length k.prints))

-- what a user's start of a file would be refused for, if it is refused
abbrev pub print_refusal : UserRow → File → Known → PrintRefusal
print_refusal user file k =
    if not (has k.policy user permission.FilesSelect) then refusal.Denied permission.FilesSelect
    else if not (has k.policy user permission.Print) then refusal.Denied permission.Print
    else if not (may_start k.desk.state) then refusal.WrongState k.desk.state
    else hot_or_full (first_hot_of k.desk.limits file.job.commands) k

-- why the print that an upload asks for isn't started, if it asks for one and it isn't
abbrev pub refusal_of : UserRow → Bool → Bool → File → Known → Option PrintRefusal
refusal_of user select print file k =
    if print && not (is_selected user select print k && is_printed user print file k) then Some (print_refusal user file k) else None

-- the answer to an upload that isn't printed
abbrev pub unprinted : List ℕ → Bool → Option PrintRefusal → Answer
unprinted name select None = answer.Uploaded name select false
unprinted name select (Some why) = answer.Unprinted name select why

-- a file was stored, and is selected with the flag
abbrev pub store_deed : Bool → File → Known → Deed
store_deed false file k = record (at_desk (DropFile file.name ∷ []) k) { names = with_name file.name k.names }
store_deed true file k = record (at_desk (DropFile file.name ∷ Select file ∷ []) k) { names = with_name file.name k.names }

-- what follows: nothing, or with both flags a print; why a print that is asked for isn't started
abbrev pub after_storing : Bool → Bool → Option PrintRefusal → List ℕ → File → Known → Verdict
after_storing false print why user file k = gives (unprinted file.name false why)
after_storing true false why user file k = gives (unprinted file.name true why)
after_storing true true why user file k = begins (answer.Uploaded file.name true true) (start_deed user (Some file) (Start (next_print_number k) ∷ []) k) file.name

-- a file is stored under its name in the place of a former one, and as the flags say selected and printed
abbrev pub store_verdict : UserRow → List ℕ → Bool → Bool → Known → File → Verdict
store_verdict user bytes select print k file =
    if_desk_allows (drop_file_step file.name k.desk).0
    (refused_if (not (has_file_room file.name k)) (answer.Full (shown_count (length k.names)))
    (stores file.name bytes deed (after_storing (is_selected user select print k) (is_printed user print file k) (refusal_of user select print file k) user.name file (known_after deed k))))
  where
    deed : Deed
    deed = store_deed (is_selected user select print k) file k

-- a file is uploaded: its bytes have to be a job
abbrev pub put_file_verdict : UserRow → List ℕ → List ℕ → Bool → Bool → Known → Verdict
put_file_verdict user name bytes select print k = read_as (job_of bytes) (λ job. store_verdict user bytes select print k (named_file name job))
