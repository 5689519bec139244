-- What a floor begins with, by its settings.
use Rattle.std.specs.Prelude.{◌≡◌, ℕ, ◌≤◌, List, length, replicate, Option, IfSome}
use Rattle.std.specs.List.Sorted.{IsPermutation}
use Rattle.octo_session.specs.Data.{SessionData}
use Rattle.octo_settings.specs.Session.{session_by}
use Rattle.octo_settings.specs.declared.settings.Settings.{Settings}
use Rattle.print_queue.specs.Lawful.{IsLawful, IsOrdered}
use Rattle.print_queue.specs.declared.entry.QueueEntry.{QueueEntry}
use Rattle.octo_keeper.specs.Tables.{AreSound}
use Rattle.octo_keeper.specs.declared.tables.Tables.{Tables}
use Rattle.octo_settings.specs.declared.floor.FloorSettings.{FloorSettings}
use Rattle.printer_link.specs.Calls.{LinkState}
use Rattle.octo_floor.specs.Objects.{StoreState}
use Rattle.octo_floor.specs.Floor.{FloorData, Setting, setting, new_floor}
use Rattle.octo_floor.specs.Tables.{AreKeptSince}

-- what a floor works with: its links, the first printer's first, and its keeper and shelf
pub record Around : Type 0 where
  pub links : List LinkState
  pub store : StoreState

abbrev pub around : List LinkState → StoreState → Around
around links store = record { links = links; store = store }

-- a floor in it
abbrev pub floor_in : Around → FloorData → Setting
floor_in a floor = setting floor a.links a.store

-- a new session by the settings for each printer
abbrev pub floor_sessions : Settings → List (List ℕ) → List SessionData
floor_sessions s ports = replicate (length ports) (session_by s)

-- no link was used, keeper and shelf hold what they held, and no count fell
pub record IsUnrun (old new : Around) : Type 0 where
  pub links : new.links ≡ old.links
  pub tables : new.store.tables ≡ old.store.tables
  pub files : new.store.files ≡ old.store.files
  pub keeper : old.store.keeper_faults ≤ new.store.keeper_faults
  pub shelf : old.store.shelf_faults ≤ new.store.shelf_faults

-- a queue of kept entries, in their order if that is the order of printing
pub record IsQueueOf (kept queue : List QueueEntry) : Type 0 where
  pub same : IsPermutation kept queue
  pub ordered : IsOrdered kept → queue ≡ kept
  pub lawful : IsLawful queue

-- a new floor by these settings, on tables that were loaded: those that the keeper keeps, if it records them
pub record IsBegun (f : FloorSettings) (recorded : Option Tables) (floor : FloorData) : Type 0 where
  pub loaded : Tables
  pub same : IfSome recorded (λ tables. loaded ≡ tables)
  pub sound : AreSound loaded
  pub queue : List QueueEntry
  pub its_queue : IsQueueOf loaded.queue queue
  pub made : floor ≡ new_floor (floor_sessions f.settings f.ports) f.ports f.materials queue (length loaded.prints)
  -- the tables are the floor's
  pub kept : IsOrdered loaded.queue → AreKeptSince loaded floor.ledger loaded
