-- One order of a host's entries and of what happened on its link.
use Rattle.std.specs.Prelude.{List, [], ◌∷◌, ◌++◌}
use Rattle.printer_model.specs.declared.event.WorldEvent.{WorldEvent}
use Rattle.octo_asks.specs.History.{History}
use Rattle.octo_asks.specs.declared.entry.Entry.{Entry}

-- an entry, and what happened on the link between the entry before it and this one
pub record Entered : Type 0 where
  pub meanwhile : List WorldEvent
  pub entry : Entry

-- entries with the events before each, oldest first
abbrev pub Timeline : Type 0
Timeline = List Entered

-- the host's entries alone
abbrev pub history_of : Timeline → History
history_of [] = []
history_of (e ∷ later) = e.entry ∷ history_of later

-- the link's events alone
abbrev pub events_of : Timeline → List WorldEvent
events_of [] = []
events_of (e ∷ later) = e.meanwhile ++ events_of later

-- the link's history after a timeline that began when it was so long
abbrev pub past_after : List WorldEvent → Timeline → List WorldEvent
past_after front timeline = front ++ events_of timeline
