-- The temperatures that a history notes, and those that the lines of a link report.
use Rattle.std.specs.Prelude.{◌≡◌, ℕ, List, [], ◌∷◌, ◌++◌, Option, None, Some}
use Rattle.octo_outside.specs.Recorded.{Became}
use Rattle.marlin_reply.specs.Kind.{kind_of}
use Rattle.marlin_reply.specs.declared.reply.Temps.{Temps}
use Rattle.octo_asks.specs.History.{History}
use Rattle.octo_asks.specs.declared.entry.Entry.{Entry}
use Rattle.octo_asks.specs.declared.entry.Entry.TheVariants as entry
use Rattle.octo_session.specs.Found.{temps_of_reply}
use Rattle.printer_link.specs.Link.{LinkKind, world_in}
use Rattle.printer_model.specs.Exchanged.{received_from}
use Rattle.printer_model.specs.declared.event.WorldEvent.{WorldEvent}

-- temperatures as a list: none, or one
abbrev pub temps_list : Option Temps → List Temps
temps_list None = []
temps_list (Some temps) = temps ∷ []

-- those of an entry
abbrev pub temps_of_entry : Entry → List Temps
temps_of_entry (entry.Note note) = temps_list note.temps
temps_of_entry _ = []

-- those that the notes of a history hold, in order
abbrev pub temps_noted : History → List Temps
temps_noted [] = []
temps_noted (e ∷ es) = temps_of_entry e ++ temps_noted es

-- those that reply lines report, in order
abbrev pub temps_reported : List (List ℕ) → List Temps
temps_reported [] = []
temps_reported (line ∷ lines) = temps_list (temps_of_reply (kind_of line)) ++ temps_reported lines

-- if the link records its history, the notes hold what the lines that were received report
abbrev pub NotesTemps : LinkKind → (link link' : Option (List WorldEvent)) → History → Type 0
NotesTemps kind link link' h = Became link link' (λ past events. temps_noted h ≡ temps_reported (received_from (world_in kind past) events))
