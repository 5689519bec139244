-- The lines of the events of a floor's log. Printers are counted from 0.
use Rattle.std.specs.Prelude.{ℕ, ◌+◌, ◌-◌, ◌==◌, ◌&&◌, Bool, true, false, not, if◌then◌else◌, List, [], ◌∷◌, ◌++◌, get_or, codes, decimal}
use Rattle.job_desk.specs.declared.link_fact.LinkFact.{LinkFact}
use Rattle.job_desk.specs.declared.link_fact.LinkFact.TheVariants as fact
use Rattle.print_queue.specs.declared.ending.Outcome.{Outcome}
use Rattle.print_queue.specs.declared.ending.Outcome.TheVariants as outcome
use Rattle.print_queue.specs.declared.entry.QueueEntry.{QueueEntry}
use Rattle.send_window.specs.declared.session_end.SessionEnd.{SessionEnd}
use Rattle.send_window.specs.declared.session_end.SessionEnd.TheVariants as end
use Rattle.octo_floor_bay.specs.Events.{FloorHistory}
use Rattle.octo_floor_bay.specs.declared.event.FloorEvent.{FloorEvent}
use Rattle.octo_floor_bay.specs.declared.event.FloorEvent.TheVariants.{Noted, Ended, Started, Passed}
use Rattle.octo_log.specs.Lines.{line_of}

-- a printer, by its number and its port
abbrev pub printer_words : ℕ → List ℕ → List ℕ
printer_words printer port = codes "printer " ++ decimal printer ++ codes " (" ++ port ++ codes "): "

-- a printer that did this
abbrev pub did_words : ℕ → List ℕ → List ℕ → List ℕ
did_words printer port what = printer_words printer port ++ what

-- an entry: its name, its user and its file
abbrev pub entry_words : QueueEntry → List ℕ
entry_words entry = entry.name ++ codes " of " ++ entry.user ++ codes " (" ++ entry.file

-- a printer that began the next copy of an entry, which is as it was before
abbrev pub began_words : ℕ → List ℕ → QueueEntry → List ℕ
began_words printer port entry =
    printer_words printer port ++ codes "began " ++ entry_words entry ++ codes ", copy " ++ decimal (entry.copies - entry.left + 1) ++ codes " of "
    ++ decimal entry.copies ++ codes ")"

-- an entry that is passed over
abbrev pub passed_words : QueueEntry → List ℕ
passed_words entry = codes "passed over: " ++ entry_words entry ++ codes " can't be printed)"

-- why a session ended by its own rules
abbrev pub end_words : SessionEnd → List ℕ
end_words (end.NoAnswer silent) = codes "no answer"
end_words (end.AskedBack asked acked) = codes "it asked for a line that it had taken"
end_words (end.AskedAhead asked issued) = codes "it asked for a line ahead"
end_words (end.Counts number expected) = codes "an ok of another line"
end_words end.Restarted = codes "it restarted"
end_words (end.LostOk limits) = codes "an ok was lost"
end_words (end.NumbersUsed issued) = codes "line numbers used up"

-- why a printer is lost, by what a turn found of its link
abbrev pub why_words : LinkFact → List ℕ
why_words fact.NoPort = codes "no such port"
why_words fact.Failed = codes "link failed"
why_words (fact.Ended end) = end_words end
why_words _ = codes "disconnected"

-- a printer that is lost, if it has no print
abbrev pub lost_words : ℕ → List ℕ → LinkFact → List ℕ
lost_words printer port found = did_words printer port (codes "lost: ") ++ why_words found

-- a print that failed
abbrev pub failed_words : ℕ → List ℕ → LinkFact → List ℕ
failed_words printer port found = did_words printer port (codes "failed: ") ++ why_words found

-- whether what a turn found of a link loses the printer
abbrev pub loses : LinkFact → Bool
loses fact.NoPort = true
loses fact.Failed = true
loses (fact.Ended end) = true
loses _ = false

-- whether the first of these events is the end of a print of this printer
abbrev pub ends_first : ℕ → FloorHistory → Bool
ends_first printer (Ended its ending ∷ events) = its == printer
ends_first printer _ = false

-- what the last turn found of a link, after an event
abbrev pub found_after : LinkFact → FloorEvent → LinkFact
found_after found (Noted printer note) = note.fact
found_after found _ = found

-- the port of a printer, or none
abbrev pub port_of : List (List ℕ) → ℕ → List ℕ
port_of ports printer = get_or ports printer []

-- the line of a turn that lost a printer, unless its print ends then
abbrev pub note_line : ℕ → List ℕ → LinkFact → Bool → List ℕ
note_line printer port found ends = if loses found && not ends then line_of (lost_words printer port found) else []

-- the lines of the end of a print: a print that fails loses its printer
abbrev pub ending_lines : ℕ → List ℕ → Outcome → LinkFact → List ℕ
ending_lines printer port outcome.Done found = line_of (did_words printer port (codes "done"))
ending_lines printer port outcome.Failed found =
    line_of (failed_words printer port found) ++ line_of (did_words printer port (codes "lost"))
ending_lines printer port _ found = []

-- the lines of an event, after a turn that found this of the link, and before these other events
abbrev pub event_lines : List (List ℕ) → LinkFact → FloorEvent → FloorHistory → List ℕ
event_lines ports found (Noted printer note) others = note_line printer (port_of ports printer) note.fact (ends_first printer others)
event_lines ports found (Ended printer ending) others = ending_lines printer (port_of ports printer) ending.outcome found
event_lines ports found (Started printer row entry) others = line_of (began_words printer (port_of ports printer) entry)
event_lines ports found (Passed entry) others = line_of (passed_words entry)

-- the lines of events in order
abbrev pub lines_of : List (List ℕ) → LinkFact → FloorHistory → List ℕ
lines_of ports found [] = []
lines_of ports found (event ∷ events) = event_lines ports found event events ++ lines_of ports (found_after found event) events
