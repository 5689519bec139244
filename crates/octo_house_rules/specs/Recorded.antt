-- What a host's history has grown by, and its link's history, while both are recorded.
use Rattle.std.specs.Prelude.{◌≡◌, List, ◌++◌, Option, Some}
use Rattle.printer_model.specs.declared.event.WorldEvent.{WorldEvent}
use Rattle.octo_asks.specs.History.{History}

-- a history that is recorded now grew by these entries, and a link's history is recorded and was
pub record Grown (before now : Option History) (front past : Option (List WorldEvent))
    (So : List WorldEvent → History → List WorldEvent → Type 0)
    (all : History) (events : List WorldEvent) : Type 0 where
  pub old : History
  pub added : History
  pub was : before ≡ Some old
  pub grew : all ≡ old ++ added
  pub old_events : List WorldEvent
  pub was_link : front ≡ Some old_events
  pub so : So old_events added events

-- if history and link's history are recorded, this holds of what the history grew by and of the link's history
abbrev pub WhileRecorded : (before now : Option History) → (front past : Option (List WorldEvent))
    → (List WorldEvent → History → List WorldEvent → Type 0) → Type 0
WhileRecorded before now front past So =
    (all : History) → now ≡ Some all → (events : List WorldEvent) → past ≡ Some events → Grown before now front past So all events
