-- What one printer does in a round: it takes a turn of its link, has the end of its print written, and if it is free starts what is
-- next for its material.
use Rattle.std.specs.Prelude.{◌≡◌, ◌⊎◌, ℕ, ◌<◌, Bool, true, false, List, [], ◌∷◌, ◌++◌, length, Option, None, Some, option_map}
use Rattle.octo_outside.specs.Recorded.{Counts}
use Rattle.octo_keeper.specs.declared.shelf.ShelfFile.{ShelfFile}
use Rattle.octo_keeper.specs.Tables.{changed}
use Rattle.octo_keeper.specs.declared.tables.Change.TheVariants as change
use Rattle.octo_keeper.specs.declared.tables.Tables.{Tables}
use Rattle.print_queue.specs.declared.ending.Ending.{Ending}
use Rattle.print_queue.specs.declared.entry.QueueEntry.{QueueEntry}
use Rattle.print_queue.specs.Lawful.{IsLawful}
use Rattle.print_queue.specs.declared.row.PrintRow.{PrintRow}
use Rattle.gcode_lines.specs.Job.{JobData, texts_of}
use Rattle.job_desk.specs.Data.{named_file}
use Rattle.job_desk.specs.Table.{printing}
use Rattle.job_desk.specs.Endings.{IsActive}
use Rattle.job_desk.specs.declared.link_fact.LinkFact.TheVariants as fact
use Rattle.job_desk.specs.declared.state.State.TheVariants.{Operational}
use Rattle.printer_link.specs.Link.{LinkKind, RoseBy}
use Rattle.printer_model.specs.declared.event.WorldEvent.{WorldEvent}
use Rattle.octo_session.specs.Data.{doing, is_calling}
use Rattle.octo_session.specs.Turn.{fact_of, IsTurn, IsTurnByNote}
use Rattle.octo_session.specs.declared.found.Turned.{Turned}
use Rattle.octo_floor_bay.specs.Bay.{BayData, AddsTurn, EndsBy, RunsOn, after_deed, run_in}
use Rattle.octo_floor_bay.specs.Prints.{IsInStep}
use Rattle.octo_floor_bay.specs.declared.deed.Deed.TheVariants as deed
use Rattle.octo_floor_bay.specs.Events.{FloorHistory}
use Rattle.octo_floor_bay.specs.Stock.{Start, after_event}
use Rattle.octo_floor_bay.specs.declared.end.FloorFault.{FloorFault}
use Rattle.octo_floor_bay.specs.declared.event.FloorEvent.TheVariants.{Ended, Started, Passed}
use Rattle.octo_floor_bay.specs.Files.{printable}
use Rattle.octo_floor_bay.specs.Written.{most_records, row_of, written}
use Rattle.octo_floor.specs.Ledger.{LedgerData, with_events, with_end_written, with_fault, noted_events, ended_events}
use Rattle.printer_link.specs.Calls.{LinkState}
use Rattle.octo_floor.specs.Objects.{StoreState, FaultsCame}

-- a turn of a bay over its link: what the session says of it, the deed that was added, and the prints that ended
pub record IsBayTurn (moment : ℕ) (link link' : LinkState) (old new : BayData) (turned : Turned) : Type 0 where
  pub turn : IsTurn moment link.kind link.past link'.past link.calls link'.calls old.session new.session turned
  pub by_note : IsTurnByNote moment link.kind old.session new.session turned
  pub active : IsActive old.session.desk
  pub added : AddsTurn moment new.session.sender.acked old.session.desk.state new.session.desk.state turned.note old.deeds new.deeds
  pub ends : EndsBy turned.ending (run_in old) (run_in new)
  pub tied : (front : Option (List WorldEvent)) → IsInStep link.kind front link.past old → IsInStep link.kind front link'.past new
  pub up : link'.up ≡ new.session.up
  pub kind : link'.kind ≡ link.kind
  pub counts : Counts (fact_of turned.note ≡ fact.Failed) link.faults link'.faults
  pub calls : is_calling (doing old.session) ≡ true → RoseBy 1 link.calls link'.calls

-- the keeper wrote how a print ended
pub record IsWritten (ending : Ending) (tables tables' : Option Tables) (old new : LedgerData) : Type 0 where
  pub tables_are : tables' ≡ option_map (changed (change.End ending)) tables
  pub ledger_is : new ≡ with_end_written true old

-- it couldn't, and that is a fault
pub record IsUnwritten (tables tables' : Option Tables) (old new : LedgerData) : Type 0 where
  pub why : FloorFault
  pub tables_are : tables' ≡ tables
  pub ledger_is : new ≡ with_fault why (with_end_written false old)

-- the keeper writes how a print ended, or a fault comes
abbrev pub Writes : Ending → Option Tables → Option Tables → LedgerData → LedgerData → Type 0
Writes ending tables tables' old new = IsWritten ending tables tables' old new ⊎ IsUnwritten tables tables' old new

-- what becomes of the ending of a turn, if there is one: it is told, and then written
abbrev pub IsEndTold : ℕ → Option Ending → Option Tables → Option Tables → LedgerData → LedgerData → Type 0
IsEndTold printer None tables tables' old new = (tables' ≡ tables) × (new ≡ old)
IsEndTold printer (Some ending) tables tables' old new = Writes ending tables tables' (with_events (Ended printer ending ∷ []) old) new

-- a printer is free: its desk is operational without a print, no fault came in this run, and one more record may be held
pub record IsFree (l : LedgerData) (bay : BayData) : Type 0 where
  pub operational : bay.session.desk.state ≡ Operational
  pub no_print : bay.session.desk.active ≡ false
  pub no_fault : l.fault ≡ None
  pub room : l.stock.records < most_records

-- nothing is begun
pub record BeginsNothing (tables tables' : Option Tables) (old new : LedgerData) (bay bay' : BayData) (events : FloorHistory) : Type 0 where
  pub tables_are : tables' ≡ tables
  pub ledger_is : new ≡ old
  pub bay_is : bay' ≡ bay
  pub no_event : events ≡ []

-- nothing is begun, and a fault came
pub record IsFaulty (tables tables' : Option Tables) (old new : LedgerData) (bay bay' : BayData) (events : FloorHistory) : Type 0 where
  pub why : FloorFault
  pub tables_are : tables' ≡ tables
  pub ledger_is : new ≡ with_fault why old
  pub bay_is : bay' ≡ bay
  pub no_event : events ≡ []

-- an entry is passed over
pub record IsPassed (entry : QueueEntry) (tables tables' : Option Tables) (old new : LedgerData) (bay bay' : BayData) (events : FloorHistory) : Type 0 where
  pub tables_are : tables' ≡ tables
  pub ledger_is : new ≡ record (with_events (Passed entry ∷ []) old) { stock = after_event (Passed entry) old.stock }
  pub bay_is : bay' ≡ bay
  pub its_event : events ≡ Passed entry ∷ []

-- one copy of an entry is started with these commands: the keeper wrote that, and the desk began to print them
pub record IsStarted (printer : ℕ) (entry : QueueEntry) (job : JobData) (tables tables' : Option Tables) (old new : LedgerData) (bay bay' : BayData)
    (events : FloorHistory) : Type 0 where
  pub row : PrintRow
  pub row_is : row ≡ row_of old.stock entry (length job.commands)
  pub tables_are : tables' ≡ option_map (written (Started printer row entry)) tables
  pub ledger_is : new ≡ record (with_events (Started printer row entry ∷ []) old) { stock = after_event (Started printer row entry) old.stock }
  pub bay_is : bay' ≡ after_deed (deed.Started entry.file job row.number) bay
  pub printing_is : bay'.session.desk ≡ printing row.number (record bay.session.desk { file = Some (named_file entry.file job) })
  pub begun : RunsOn ((row.number, texts_of job) ∷ []) [] (run_in bay) (run_in bay')
  pub tied : (kind : LinkKind) (front past : Option (List WorldEvent)) → IsInStep kind front past bay → IsInStep kind front past bay'
  pub its_event : events ≡ Started printer row entry ∷ []

-- what was read of an entry's file, if the shelf records its files
abbrev pub IsReadAs : BayData → QueueEntry → Option (List ShelfFile) → Option JobData → Type 0
IsReadAs bay entry files found = (held : List ShelfFile) → files ≡ Some held → found ≡ printable bay.session.desk.limits entry.file held

-- what a free printer does with the entry that is next for its material: a fault comes; its file can't be printed; or it is started
pub data Takes (printer : ℕ) (entry : QueueEntry) (files : Option (List ShelfFile)) (tables tables' : Option Tables) (old new : LedgerData)
    (bay bay' : BayData) (events : FloorHistory) : Type 0 where
  faulty : IsFaulty tables tables' old new bay bay' events → Takes printer entry files tables tables' old new bay bay' events
  passed : IsReadAs bay entry files None → IsPassed entry tables tables' old new bay bay' events →
      Takes printer entry files tables tables' old new bay bay' events
  started : (job : JobData) → IsReadAs bay entry files (Some job) → IsStarted printer entry job tables tables' old new bay bay' events →
      Takes printer entry files tables tables' old new bay bay' events

-- what a printer begins: nothing if it isn't free or nothing fits, and else what is next for its material
pub data Begins (printer : ℕ) (material : List ℕ) (files : Option (List ShelfFile)) (tables tables' : Option Tables) (old new : LedgerData)
    (bay bay' : BayData) (events : FloorHistory) : Type 0 where
  not_free : (IsFree old bay → ⊥) → BeginsNothing tables tables' old new bay bay' events →
      Begins printer material files tables tables' old new bay bay' events
  nothing_fits : IsFree old bay → Start old.stock material None → BeginsNothing tables tables' old new bay bay' events →
      Begins printer material files tables tables' old new bay bay' events
  takes : IsFree old bay → IsLawful old.stock.queue → (entry : QueueEntry) → Start old.stock material (Some entry) →
      Takes printer entry files tables tables' old new bay bay' events → Begins printer material files tables tables' old new bay bay' events

-- one printer's part of a round, with its events
pub record IsStep (printer moment : ℕ) (material : List ℕ) (link link' : LinkState) (store store' : StoreState) (old new : LedgerData)
    (bay bay' : BayData) (heard : Bool) (events : FloorHistory) : Type 0 where
  -- the turn
  pub turned : Turned
  pub turned_to : BayData
  pub turn : IsBayTurn moment link link' bay turned_to turned
  pub heard_is : heard ≡ turned.heard
  -- the end of its print
  pub tables : Option Tables
  pub told : LedgerData
  pub ending : IsEndTold printer turned.ending store.tables tables (with_events (noted_events printer turned.note) old) told
  -- what it begins
  pub begun : FloorHistory
  pub begins : Begins printer material store.files tables store'.tables told new turned_to bay' begun
  -- in all
  pub events_are : events ≡ noted_events printer turned.note ++ ended_events printer turned.ending ++ begun
  pub files : store'.files ≡ store.files
  pub faults : FaultsCame old.fault new.fault store.keeper_faults store'.keeper_faults store.shelf_faults store'.shelf_faults
