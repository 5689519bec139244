-- The line of each event of a host's log.
use Rattle.std.specs.Prelude.{ℕ, ◌-◌, ◌/◌, ◌==◌, ◌||◌, Bool, true, false, nat_lt, if◌then◌else◌, List, [], ◌∷◌, ◌++◌, map, codes, decimal, Option, Some, None, Result, Ok, Err}
use Rattle.print_queue.specs.declared.ending.Ending.{Ending}
use Rattle.print_queue.specs.declared.ending.Outcome.{Outcome}
use Rattle.print_queue.specs.declared.ending.Outcome.TheVariants as outcome
use Rattle.print_queue.specs.declared.row.PrintRow.{PrintRow}
use Rattle.octo_keeper.specs.declared.keeper.KeeperFault.{KeeperFault}
use Rattle.octo_keeper.specs.declared.tables.Change.{Change}
use Rattle.octo_keeper.specs.declared.tables.Change.TheVariants as change

-- a byte as a log shows it: a control byte is a question mark
abbrev pub shown_byte : ℕ → ℕ
shown_byte byte = if nat_lt byte 32 || byte == 127 then 63 else byte

-- these words as one line, with its line feed
abbrev pub line_of : List ℕ → List ℕ
line_of words = map shown_byte words ++ 10 ∷ []

abbrev pub outcome_words : Outcome → List ℕ
outcome_words outcome.Active = codes "active"
outcome_words outcome.Done = codes "done"
outcome_words outcome.Cancelled = codes "cancelled"
outcome_words outcome.Failed = codes "failed"

-- how long a print took, in seconds, if it began at this moment, in milliseconds
abbrev pub time_words : Option ℕ → ℕ → List ℕ
time_words None moment = []
time_words (Some began) moment = codes " after " ++ decimal ((moment - began) / 1000) ++ codes " s"

-- a print that ended at a moment
abbrev pub end_words : Option ℕ → ℕ → Ending → List ℕ
end_words began moment ending =
    codes "print " ++ decimal ending.print ++ codes ": " ++ outcome_words ending.outcome ++ time_words began moment

-- a print that began: its file, the file's commands, and its user
abbrev pub begin_words : PrintRow → List ℕ
begin_words row =
    codes "print " ++ decimal row.number ++ codes ": begun, " ++ row.file ++ codes ", " ++ decimal row.commands ++ codes " commands, for " ++ row.user

-- the end of a print that a change stores, if it does
abbrev pub end_of_change : Change → Option Ending
end_of_change (change.Begin ended row taken) = ended
end_of_change (change.End ending) = Some ending
end_of_change _ = None

-- the print that a change begins, if it does
abbrev pub begin_of_change : Change → Option PrintRow
begin_of_change (change.Begin ended row taken) = Some row
begin_of_change _ = None

-- the line of the end of a print that began at a moment, if it is known, and ended at another
abbrev pub end_line : Option ℕ → ℕ → Option Ending → List ℕ
end_line began moment None = []
end_line began moment (Some ending) = line_of (end_words began moment ending)

-- when the print that is being printed began, after a change was stored at a moment
abbrev pub began_after : Option ℕ → ℕ → Change → Option ℕ
began_after began moment (change.Begin ended row taken) = Some moment
began_after began moment _ = began

abbrev pub begin_line : Option PrintRow → List ℕ
begin_line None = []
begin_line (Some row) = line_of (begin_words row)

-- a change that can't be stored
abbrev pub unstored_words : List ℕ
unstored_words = codes "database: a change can't be stored"

-- what a change that was stored says, or the first of those that can't be
abbrev pub commit_lines : Bool → Option ℕ → ℕ → Change → Result (Unit {0}) KeeperFault → List ℕ
commit_lines failing began moment asked (Ok done) =
    end_line began moment (end_of_change asked) ++ begin_line (begin_of_change asked)
commit_lines false began moment asked (Err fault) = line_of unstored_words
commit_lines true began moment asked (Err fault) = []

-- when the print that is being printed began, after such a call
abbrev pub began_by : Option ℕ → ℕ → Change → Result (Unit {0}) KeeperFault → Option ℕ
began_by began moment asked (Ok done) = began_after began moment asked
began_by began moment asked (Err fault) = began

-- tables that can't be read
abbrev pub unloaded_words : List ℕ
unloaded_words = codes "database: it can't be read"

-- the line of tables that were read, or couldn't be
abbrev pub load_line : Bool → List ℕ
load_line failed = if failed then line_of unloaded_words else []

-- a copy of the tables was written, or couldn't be
abbrev pub backup_words : Bool → List ℕ
backup_words failed = if failed then codes "database: it can't be backed up" else codes "database: backed up"

-- a file, with what came of a call
abbrev pub file_words : List ℕ → List ℕ → List ℕ
file_words name what = codes "file " ++ name ++ what

-- a file that was stored, or couldn't be
abbrev pub put_words : Bool → List ℕ
put_words failed = if failed then codes ": it can't be stored" else codes ": stored"

-- a file that was deleted, or couldn't be
abbrev pub remove_words : Bool → List ℕ
remove_words failed = if failed then codes ": it can't be deleted" else codes ": deleted"

-- a file that can't be read
abbrev pub unread_words : List ℕ
unread_words = codes ": it can't be read"

-- the line of a file that was read, or couldn't be
abbrev pub get_line : List ℕ → Bool → List ℕ
get_line name failed = if failed then line_of (file_words name unread_words) else []

-- files that can't be listed
abbrev pub unlisted_words : List ℕ
unlisted_words = codes "files: they can't be listed"

-- the line of files that were listed, or couldn't be
abbrev pub list_line : Bool → List ℕ
list_line failed = if failed then line_of unlisted_words else []

-- a host that serves at an address, and one that has ended
abbrev pub serving_words : List ℕ → List ℕ
serving_words address = codes "serving at http://" ++ address

abbrev pub stopped_words : List ℕ
stopped_words = codes "stopped"
