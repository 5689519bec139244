-- Where a run has led a host.
use Rattle.std.specs.Prelude.{◌≡◌, ◌⊎◌, ℕ, ◌≤◌, Bool, true, false, List, Option, Some}
use Rattle.octo_outside.specs.Recorded.{Became}
use Rattle.octo_keeper.specs.declared.shelf.ShelfFile.{ShelfFile}
use Rattle.octo_asks.specs.History.{History}
use Rattle.printer_model.specs.declared.event.WorldEvent.{WorldEvent}
use Rattle.printer_link.specs.Link.{LinkKind}
use Rattle.send_window.specs.Data.{IsSound}
use Rattle.octo_session.specs.Data.{SessionData}
use Rattle.octo_house_rules.specs.Legal.{Standing, beginning}
use Rattle.octo_house_rules.specs.Stands.{StandsAt}
use Rattle.octo_house_rules.specs.Walks.{Walks}
use Rattle.octo_house_laws.specs.OverContents.{OnSome, WalksOver}
use Rattle.octo_house_rules.specs.Counted.{calls_made, leaves_made, is_shut}
use Rattle.octo_house.specs.declared.house.House.{House}
use Rattle.octo_house.specs.State.{known_of, session_of}
use Rattle.octo_house_rules.specs.Moments.{AreBetween}
use Rattle.octo_house_rules.specs.Recorded.{WhileRecorded}
use Rattle.octo_house_rules.specs.Headline.{KeepsPrints}
use Rattle.octo_house_rules.specs.PrintLaws.{IsBeginning}
use Rattle.octo_house_run.specs.Tallies.{counted}

-- a history and these files have led to this host
abbrev pub stands_with : House → ℕ → List ShelfFile → Standing → Type 0
stands_with house moment files s = StandsAt s (known_of house) (session_of house) files moment false

-- the history grew by legal entries, which lead from each place of one host to one of another, at moments up to this one
abbrev pub Leads : (past past' : Option History) → (files files' : Option (List ShelfFile)) → ℕ → House → House → Type 0
Leads past past' files files' moment old new =
    (before : ℕ) → before ≤ moment → Walks past past' files files' (stands_with old before) (stands_with new moment)

-- the same over some files of the shelf, whatever it records
abbrev pub LeadsOnSome : (past past' : Option History) → ℕ → House → House → Type 0
LeadsOnSome past past' moment old new = (was : List ShelfFile) × (held : List ShelfFile) × Leads past past' (Some was) (Some held) moment old new

-- the session of a host that has just begun
pub record IsFresh (session : SessionData) : Type 0 where
  pub sound : IsSound session.sender
  pub down : session.up ≡ false

-- nothing has happened yet
abbrev pub begins : House → List ShelfFile → Standing → Type 0
begins house files s = s ≡ beginning (session_of house).sender.window (session_of house).sender.limit (known_of house) files

-- the run is over
abbrev pub RunIsOver : House → List ShelfFile → Standing → Type 0
RunIsOver house files s = (moment : ℕ) × StandsAt s (known_of house) (session_of house) files moment true

-- a whole run: the history grew by a legal one, from the beginning to the end, which leads to this host
abbrev pub HasRun : (past past' : Option History) → (files files' : Option (List ShelfFile)) → House → House → Type 0
HasRun past past' files files' old new = Walks past past' files files' (begins old) (RunIsOver new)

-- the same over contents of the shelf, whatever it records: it held some files before each entry, over which that entry is legal
abbrev pub HasRunOver : (past past' : Option History) → House → House → Type 0
HasRunOver past past' old new = WalksOver past past' (OnSome (begins old)) (OnSome (RunIsOver new))

-- how a run came to its end: a shutdown was accepted, or four workers had left and no print was active; it returns the number of calls
pub record IsOver (calls : ℕ) (active : Bool) (added : History) : Type 0 where
  pub calls_are : calls ≡ counted (calls_made added)
  pub why : (is_shut added ≡ true) ⊎ ((4 ≤ leaves_made added) × (active ≡ false))

-- each moment that was added lies between the clock's first and last, if it records both
abbrev pub ArePassed : (first last : Option ℕ) → (past past' : Option History) → Type 0
ArePassed first last past past' =
    (before : ℕ) → first ≡ Some before → (now : ℕ) → last ≡ Some now → Became past past' (λ _ added. AreBetween before now added)

-- what became of the prints of a host that began with a new desk, if its history, its files and the link's history are recorded
abbrev pub RunKeepsPrints : LinkKind → (past past' : Option History) → Option (List ShelfFile) → (link link' : Option (List WorldEvent))
    → House → Type 0
RunKeepsPrints kind past past' files link link' house =
    IsBeginning (known_of house) → (held : List ShelfFile) → files ≡ Some held → (s : Standing) → begins house held s
    → WhileRecorded past past' link link' (λ front added events. KeepsPrints (session_of house).sender.numbered kind front s added events)
