-- What a printer of a floor did, as entries of its desk.
use Rattle.std.specs.Prelude.{List, [], ◌∷◌}
use Rattle.job_desk.specs.Data.{named_file}
use Rattle.job_desk.specs.Run.{DeskCall, Connect, Disconnect, Select, Start}
use Rattle.octo_asks.specs.History.{History, own_call}
use Rattle.octo_asks.specs.declared.answer.Answer.TheVariants as answer
use Rattle.octo_asks.specs.declared.entry.Entry.{Entry}
use Rattle.octo_asks.specs.declared.entry.Entry.TheVariants as entry
use Rattle.octo_house_rules.specs.Noted.{calls_of}
use Rattle.octo_floor_bay.specs.Desk.{DeskEntry, entries_in}
use Rattle.octo_floor_bay.specs.declared.deed.Deed.{Deed}
use Rattle.octo_floor_bay.specs.declared.deed.Deed.TheVariants as deed

-- the calls at the desk that a deed is
abbrev pub calls_at : Deed → List DeskCall
calls_at (deed.Connected port) = Connect port ∷ []
calls_at deed.Disconnected = Disconnect ∷ []
calls_at (deed.Started file job print) = Select (named_file file job) ∷ Start print ∷ []
calls_at (deed.Turned note) = calls_of note

-- the entry that records a deed; of a call it says only that one was made
abbrev pub entry_at : Deed → Entry
entry_at (deed.Connected port) = own_call 0 answer.Accepted
entry_at deed.Disconnected = own_call 0 answer.Accepted
entry_at (deed.Started file job print) = own_call 0 answer.Accepted
entry_at (deed.Turned note) = entry.Note note

-- a deed as an entry of the desk
abbrev pub desk_entry : Deed → DeskEntry
desk_entry one = record { entry = entry_at one; calls = calls_at one }

-- deeds as entries of the desk, in order
abbrev pub desk_entries : List Deed → List DeskEntry
desk_entries [] = []
desk_entries (one ∷ all) = desk_entry one ∷ desk_entries all

-- the history that deeds make
abbrev pub history_in : List Deed → History
history_in deeds = entries_in (desk_entries deeds)
