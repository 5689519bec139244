-- What serving by settings comes to.
use Rattle.std.specs.Prelude.{◌≡◌, ℕ, ◌≤◌, Bool, length, List, [], Option, None, Some, Result, Ok, Err}
use Rattle.octo_outside.specs.Recorded.{Rose}
use Rattle.octo_outside.specs.Traits.{Files}
use Rattle.octo_outside_doors.specs.declared.door.Doors.{Doors}
use Rattle.octo_serve.specs.Ends.{HistoryData}
use Rattle.octo_access.specs.Rows.{IsUserTable}
use Rattle.octo_asks.specs.History.{History}
use Rattle.octo_keeper.specs.declared.shelf.ShelfFile.{ShelfFile}
use Rattle.octo_keeper.specs.declared.tables.Tables.{Tables}
use Rattle.print_queue.specs.Lawful.{IsLawful}
use Rattle.printer_model.specs.declared.event.WorldEvent.{WorldEvent}
use Rattle.octo_house_rules.specs.Legal.{beginning}
use Rattle.octo_house_rules.specs.Headline.{KeepsPrints}
use Rattle.octo_house_laws.specs.Contents.{KeepsLawsOver, KeepsPrintsOver}
use Rattle.octo_house_laws.specs.Hosts.{KeepsLaws}
use Rattle.octo_house_laws.specs.Limits.{IssuesCoolLines}
use Rattle.octo_house_tables.specs.Kept.{IsKept}
use Rattle.octo_house.specs.Beginning.{IsMadeOf, BeginsOn}
use Rattle.octo_house.specs.State.{IsListed, known_of}
use Rattle.octo_house.specs.declared.faults.BeginFault.{BeginFault}
use Rattle.octo_house.specs.declared.house.House.{House}
use Rattle.octo_house_run.specs.Own.{ConnectsItself}
use Rattle.printer_link.specs.Calls.{LinkState}
use Rattle.octo_keeper.specs.Calls.{KeeperState, ShelfState}
use Rattle.octo_outside_doors.specs.Doors.{DoorState}
use Rattle.octo_serve.specs.Around.{door_states}
use Rattle.octo_serve.specs.Hosted.{Setting, HasHosted}
use Rattle.octo_files.specs.Settings.{HaveSettings}
use Rattle.octo_files.specs.declared.report.Report.{Report}
use Rattle.octo_files.specs.declared.report.Report.TheVariants as report
use Rattle.octo_settings.specs.declared.settings.Settings.{Settings}
use Rattle.octo_settings.specs.Session.{session_by}
use Rattle.octo_serve_command.specs.Beginning.{policy_by, terms_by}
use Rattle.octo_serve_command.specs.Reports.{begin_fault_report, served_report}
use Rattle.octo_serve_command.specs.declared.report.HostReport.{HostReport}
use Rattle.octo_serve_command.specs.declared.report.HostReport.TheVariants as host

-- what a host works with
pub record Around : Type 0 where
  pub link : LinkState
  pub moment : Option ℕ
  pub keeper : KeeperState
  pub shelf : ShelfState
  pub doors : Doors DoorState

-- the same, made of five objects by what their types say of them
abbrev pub around : {L T K S D : Type 0} → (L → LinkState) → (T → Option ℕ) → (K → KeeperState) → (S → ShelfState) → (D → DoorState)
    → L → T → K → S → Doors D → Around
around link_state moment keeper_state shelf_state door_state link clock keeper shelf doors = record {
  link = link_state link;
  moment = moment clock;
  keeper = keeper_state keeper;
  shelf = shelf_state shelf;
  doors = door_states door_state doors;
}

-- a host in it
abbrev pub host_in : Around → House → Setting
host_in a house = record { house = house; link = a.link; moment = a.moment; keeper = a.keeper; shelf = a.shelf }

-- no count falls
pub record AreLater (old new : Around) : Type 0 where
  pub link : old.link.faults ≤ new.link.faults
  pub keeper : old.keeper.faults ≤ new.keeper.faults
  pub shelf : old.shelf.faults ≤ new.shelf.faults

-- neither the link nor a door was used; keeper and shelf hold what they held
pub record IsUnserved (old new : Around) : Type 0 where
  pub link : new.link ≡ old.link
  pub moment : new.moment ≡ old.moment
  pub tables : new.keeper.tables ≡ old.keeper.tables
  pub files : new.shelf.files ≡ old.shelf.files
  pub doors : new.doors ≡ old.doors
  pub later : AreLater old new

-- a host has begun by these settings, on what keeper and shelf hold
pub record HasBegun (s : Settings) (old new : Around) (house : House) : Type 0 where
  pub unserved : IsUnserved old new
  pub made : IsMadeOf (session_by s) (policy_by s) s.ports s.material house
  pub begins : BeginsOn (session_by s) (policy_by s) s.ports s.material old.keeper.tables old.shelf.files house
  pub kept : (tables : Tables) → new.keeper.tables ≡ Some tables → IsUserTable tables.users → IsLawful tables.queue
      → IsKept (length tables.prints) new.keeper.tables house.tables
  pub listed : IsListed new.shelf.files house

-- what became of the prints of a host that began as this one, if the shelf's files and the link's history are recorded
abbrev pub HasPrints : Settings → Around → Around → House → History → Type 0
HasPrints s old new first history =
    (files : List ShelfFile) → old.shelf.files ≡ Some files → (events : List WorldEvent) → new.link.past ≡ Some events
    → (front : List WorldEvent) × (old.link.past ≡ Some front)
    × KeepsPrints s.numbered_oks old.link.kind front (beginning s.window s.limit_ms (known_of first) files) history events

-- the laws hold of all that was asked, answered and noted at a host that began as this one, if the shelf's files are recorded; no
-- issued line was too hot
pub record KeepsAllLaws (s : Settings) (first : House) (files : List ShelfFile) (history : History) : Type 0 where
  pub laws : KeepsLaws s.scripts s.limits history (beginning s.window s.limit_ms (known_of first) files)
  pub cool : IssuesCoolLines s.limits history

abbrev pub HasLaws : Settings → Around → House → History → Type 0
HasLaws s old first history = (files : List ShelfFile) → old.shelf.files ≡ Some files → KeepsAllLaws s first files history

-- whatever the shelf records, it had some contents before each entry over which the laws of calls and prints hold of all that was asked,
-- answered and noted at a host that began as this one; no issued line was too hot
pub record HasLawsOver (s : Settings) (first : House) (history : History) : Type 0 where
  pub contents : List (List ShelfFile)
  pub laws : KeepsLawsOver contents history (beginning s.window s.limit_ms (known_of first) [])
  pub prints : KeepsPrintsOver s.scripts contents history (beginning s.window s.limit_ms (known_of first) [])
  pub cool : IssuesCoolLines s.limits history

-- it began, and served its doors until it ended; this is known of what was asked, answered and noted
pub record HasServed (s : Settings) (old new : Around) (r : HostReport) (known : HistoryData) : Type 0 where
  pub first : House
  pub last : House
  -- as it was when the host had begun
  pub between : Around
  pub begun : HasBegun s old between first
  pub calls : ℕ
  pub held : Bool
  pub hosted : HasHosted (terms_by s) (host_in between first) (host_in new last) between.doors new.doors calls held known
  -- what became of the prints
  pub prints : HasPrints s between new first known.history
  -- who was denied, what callers learned of each other, puts that were repeated, and the courses, records and temperatures of prints
  pub laws : HasLaws s between first known.history
  -- what of that holds over a real folder too
  pub laws_over : HasLawsOver s first known.history
  -- when it asked for a connection by itself
  pub own : ConnectsItself s.connect known.history
  pub is : r ≡ served_report calls held

-- what serving by these settings comes to: the host doesn't begin, or there is no memory for its workers; or it serves
pub data ServesBy (s : Settings) (old new : Around) : HostReport → Option HistoryData → Type 0 where
  not_begun : (fault : BeginFault) → IsUnserved old new → ServesBy s old new (begin_fault_report fault) None
  served : (r : HostReport) (known : HistoryData) → HasServed s old new r known → ServesBy s old new r (Some known)

-- and by the settings of a file
pub data Hosts (files : Option Files) (settings : List ℕ) (old new : Around) : HostReport → Option HistoryData → Type 0 where
  no_settings : (r : Report) → HaveSettings files (Some settings) (Err r) → IsUnserved old new
      → Hosts files settings old new (host.Command r) None
  by_settings : (s : Settings) (r : HostReport) (known : Option HistoryData) → HaveSettings files (Some settings) (Ok s)
      → ServesBy s old new r known → Hosts files settings old new r known

-- one of the doors failed
pub data OneRose (old new : Doors DoorState) : Type 0 where
  at_a : Rose old.a.faults new.a.faults → OneRose old new
  at_b : Rose old.b.faults new.b.faults → OneRose old new
  at_c : Rose old.c.faults new.c.faults → OneRose old new
  at_d : Rose old.d.faults new.d.faults → OneRose old new

-- all of them held
pub record AllHeld (old new : Doors DoorState) : Type 0 where
  pub at_a : new.a.faults ≡ old.a.faults
  pub at_b : new.b.faults ≡ old.b.faults
  pub at_c : new.c.faults ≡ old.c.faults
  pub at_d : new.d.faults ≡ old.d.faults

-- each failure is reported by its object's count: of the keeper and the shelf at the beginning, and of a door exactly if one rose
pub record HasHostCauses (old new : Around) (r : HostReport) : Type 0 where
  pub keeper : r ≡ host.KeeperFailed → Rose old.keeper.faults new.keeper.faults
  pub shelf : r ≡ host.ShelfFailed → Rose old.shelf.faults new.shelf.faults
  pub door : (calls : ℕ) → r ≡ host.DoorFailed calls → OneRose old.doors new.doors
  pub doors : (calls : ℕ) → r ≡ host.Served calls → AllHeld old.doors new.doors
  pub counted : AreLater old new
