-- What a floor's events say: the prints that it started, how they ended, and what each printer's link did.
use Rattle.std.specs.Prelude.{ℕ, ◌==◌, if◌then◌else◌, List, [], ◌∷◌}
use Rattle.job_desk.specs.declared.issued.Note.{Note}
use Rattle.print_queue.specs.declared.ending.Ending.{Ending}
use Rattle.print_queue.specs.declared.ending.Outcome.TheVariants.{Active}
use Rattle.print_queue.specs.declared.entry.QueueEntry.{QueueEntry}
use Rattle.print_queue.specs.declared.row.PrintRow.{PrintRow}
use Rattle.octo_floor_bay.specs.declared.event.FloorEvent.{FloorEvent}
use Rattle.octo_floor_bay.specs.declared.event.FloorEvent.TheVariants.{Noted, Ended, Started, Passed}

-- the events of a floor, the first one first
abbrev pub FloorHistory : Type 0
FloorHistory = List FloorEvent

-- what fills a list of events before they come: the end of no print
abbrev pub no_event : FloorEvent
no_event = Ended 0 (record { print = 0; outcome = Active })

-- the records of the prints that were started, as they began
abbrev pub started_rows : FloorHistory → List PrintRow
started_rows [] = []
started_rows (Started at row entry ∷ events) = row ∷ started_rows events
started_rows (Noted at note ∷ events) = started_rows events
started_rows (Ended at ending ∷ events) = started_rows events
started_rows (Passed entry ∷ events) = started_rows events

-- the entries of which a copy was started, as they were before it
abbrev pub started_entries : FloorHistory → List QueueEntry
started_entries [] = []
started_entries (Started at row entry ∷ events) = entry ∷ started_entries events
started_entries (Noted at note ∷ events) = started_entries events
started_entries (Ended at ending ∷ events) = started_entries events
started_entries (Passed entry ∷ events) = started_entries events

-- the ends of prints
abbrev pub endings : FloorHistory → List Ending
endings [] = []
endings (Ended at ending ∷ events) = ending ∷ endings events
endings (Noted at note ∷ events) = endings events
endings (Started at row entry ∷ events) = endings events
endings (Passed entry ∷ events) = endings events

-- what the turns of one printer's link did
abbrev pub notes_of : ℕ → FloorHistory → List Note
notes_of printer [] = []
notes_of printer (Noted at note ∷ events) = if at == printer then note ∷ notes_of printer events else notes_of printer events
notes_of printer (Ended at ending ∷ events) = notes_of printer events
notes_of printer (Started at row entry ∷ events) = notes_of printer events
notes_of printer (Passed entry ∷ events) = notes_of printer events
