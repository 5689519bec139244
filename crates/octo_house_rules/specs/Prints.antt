-- The requests for the connection, the heaters and the print.
use Rattle.std.specs.Prelude.{ℕ, Bool, not, nat_le, codes, decimal, List, [], ◌∷◌, ◌++◌, length, if◌then◌else◌, Option, None, Some, Result, Ok, Err}
use Rattle.std.specs.List.{list_any}
use Rattle.std.specs.Option.{option_or}
use Rattle.std.specs.Str.{bytes_eq}
use Rattle.gcode_lines.specs.Single.{single_of}
use Rattle.gcode_lines.specs.declared.fault.NotOne.{NotOne}
use Rattle.temp_rules.specs.Hot.{hot_of}
use Rattle.temp_rules.specs.declared.limits.Limits.{Limits}
use Rattle.temp_rules.specs.declared.limits.TooHot.{TooHot}
use Rattle.job_desk.specs.Data.{File}
use Rattle.job_desk.specs.Run.{DeskCall, Connect, Disconnect, Start, Restart, Pause, Resume, Toggle, Cancel, Manually}
use Rattle.job_desk.specs.Table.{connect_at, start_at, restart_at, pause_at, resume_at, toggle_at, cancel_at, manual_at}
use Rattle.job_desk.specs.declared.state.Refusal.{Refusal}
use Rattle.octo_keeper.specs.Tables.{with_end}
use Rattle.print_queue.specs.declared.row.PrintRow.{PrintRow}
use Rattle.print_queue.specs.declared.ending.Outcome.TheVariants as outcome
use Rattle.octo_asks.specs.declared.answer.Answer.TheVariants as answer
use Rattle.octo_house_rules.specs.Known.{Known, next_print_number, shown_count}
use Rattle.octo_house_rules.specs.Verdict.{Verdict, Deed, makes, writes, at_desk}
use Rattle.octo_house_rules.specs.Refusals.{refused_if, if_desk_allows, unless_too_hot, found_or}

-- the port that a request names, or else the first one; none if no such port exists
abbrev pub port_for : Option (List ℕ) → List (List ℕ) → Option (List ℕ)
port_for None [] = None
port_for None (port ∷ ports) = Some port
port_for (Some port) ports = if list_any (λ p. bytes_eq p port) ports then Some port else None

-- the desk connects to the port that is named, or else to the first one
abbrev pub connect_verdict : Option (List ℕ) → Known → Verdict
connect_verdict port k =
    found_or (port_for port k.ports) answer.BadPort
    (λ p. if_desk_allows (connect_at k.desk.state p k.desk).0 (makes answer.Accepted (at_desk (Connect p ∷ []) k)))

-- the desk disconnects
abbrev pub disconnect_verdict : Known → Verdict
disconnect_verdict k = makes answer.Accepted (at_desk (Disconnect ∷ []) k)

-- the first value of texts that is above its limit
abbrev pub first_hot_text : Limits → List (List ℕ) → Option TooHot
first_hot_text limits [] = None
first_hot_text limits (text ∷ texts) = option_or (hot_of limits text) (first_hot_text limits texts)

-- lines that a user has the desk issue
abbrev pub manual_verdict : List (List ℕ) → Known → Verdict
manual_verdict texts k =
    unless_too_hot (first_hot_text k.desk.limits texts)
    (if_desk_allows (manual_at k.desk.state texts k.desk).0 (makes answer.Accepted (at_desk (Manually texts ∷ []) k)))

-- the target of the tool is set, in degrees Celsius
abbrev pub heat_tool_verdict : ℕ → Known → Verdict
heat_tool_verdict degrees k = manual_verdict ((codes "M104 S" ++ decimal degrees) ∷ []) k

-- the target of the bed is set, in degrees Celsius
abbrev pub heat_bed_verdict : ℕ → Known → Verdict
heat_bed_verdict degrees k = manual_verdict ((codes "M140 S" ++ decimal degrees) ∷ []) k

-- a command before others, if all are commands
abbrev pub then_command : Result (List ℕ) NotOne → Option (List (List ℕ)) → Option (List (List ℕ))
then_command (Ok command) (Some commands) = Some (command ∷ commands)
then_command (Ok command) None = None
then_command (Err fault) commands = None

-- texts as commands, if each is one
abbrev pub commands_in : List (List ℕ) → Option (List (List ℕ))
commands_in [] = Some []
commands_in (text ∷ texts) = then_command (single_of text) (commands_in texts)

-- texts of a user are issued, if each is one command
abbrev pub lines_verdict : List (List ℕ) → Known → Verdict
lines_verdict texts k = found_or (commands_in texts) answer.BadCommand (λ commands. manual_verdict commands k)

-- texts of a user that move the printer by hand: as others, unless a print is active
abbrev pub move_verdict : List (List ℕ) → Known → Verdict
move_verdict texts k = refused_if k.desk.active (answer.WrongState k.desk.state) (lines_verdict texts k)

-- a call at the desk, if the desk allows it
abbrev pub call_verdict : DeskCall → Result (Unit {0}) Refusal → Known → Verdict
call_verdict call allowed k = if_desk_allows allowed (makes answer.Accepted (at_desk (call ∷ []) k))

-- the print is paused
abbrev pub pause_verdict : Known → Verdict
pause_verdict k = call_verdict Pause (pause_at k.desk.state k.desk).0 k

-- the print is resumed
abbrev pub resume_verdict : Known → Verdict
resume_verdict k = call_verdict Resume (resume_at k.desk.state k.desk).0 k

-- the print is paused, or resumed if it is paused
abbrev pub toggle_verdict : Known → Verdict
toggle_verdict k = call_verdict Toggle (toggle_at k.desk.state k.desk).0 k

-- the print is cancelled
abbrev pub cancel_verdict : Known → Verdict
cancel_verdict k = call_verdict Cancel (cancel_at k.desk.state k.desk).0 k

-- the most print records
abbrev pub most_prints : ℕ
most_prints = 100000

-- whether there is room for one more print record
abbrev pub has_room : Known → Bool
has_room k = not (nat_le most_prints (length k.prints))

-- refused if there is none
abbrev pub unless_full : Known → Verdict → Verdict
unless_full k v = refused_if (not (has_room k)) (answer.Full (shown_count (length k.prints))) v

-- the name of a selection, empty if nothing is selected
abbrev pub selected_name : Option File → List ℕ
selected_name None = []
selected_name (Some file) = file.name

-- the number of its commands
abbrev pub command_count : Option File → ℕ
command_count None = 0
command_count (Some file) = length file.job.commands

-- the record of a print that begins
abbrev pub new_row : ℕ → List ℕ → Option File → PrintRow
new_row number user file = record { number = number; user = user; file = selected_name file; commands = command_count file; outcome = outcome.Active }

-- records with one of a print that begins
abbrev pub with_print : ℕ → List ℕ → Option File → List PrintRow → List PrintRow
with_print number user file rows = rows ++ new_row number user file ∷ []

-- a print of a file begins for a user, by these calls
abbrev pub start_deed : List ℕ → Option File → List DeskCall → Known → Deed
start_deed user file calls k = record (at_desk calls k) { prints = with_print (next_print_number k) user file k.prints }

-- a print of the selected file is started for a user
abbrev pub start_verdict : List ℕ → Known → Verdict
start_verdict user k =
    if_desk_allows (start_at k.desk.state (next_print_number k) k.desk).0
    (unless_full k (writes answer.Accepted (start_deed user k.desk.file (Start (next_print_number k) ∷ []) k)))

-- the paused print ends, and another one of its file begins
abbrev pub restart_deed : List ℕ → Known → Deed
restart_deed user k =
    record (at_desk (Restart (next_print_number k) ∷ []) k) {
      prints = with_print (next_print_number k) user k.desk.file (with_end (record { print = k.desk.greatest; outcome = outcome.Cancelled }) k.prints);
    }

-- the paused print is restarted for a user
abbrev pub restart_verdict : List ℕ → Known → Verdict
restart_verdict user k =
    if_desk_allows (restart_at k.desk.state (next_print_number k) k.desk).0 (unless_full k (writes answer.Accepted (restart_deed user k)))
