-- What holds from one setting of a floor to a later one, with the events between them.
use Rattle.std.specs.Prelude.{◌≡◌, ◌⊎◌, ℕ, ◌+◌, ◌<◌, ◌≤◌, ◌==◌, if◌then◌else◌, false, List, [], ◌∷◌, ◌++◌, length, Contains, Option, None, Some, slice_get}
use Rattle.octo_outside.specs.Recorded.{Rose}
use Rattle.gcode_lines.specs.Job.{JobData, texts_of}
use Rattle.temp_rules.specs.declared.limits.Limits.{Limits}
use Rattle.job_desk.specs.Run.{Fate}
use Rattle.job_desk.specs.declared.issued.Note.{Note}
use Rattle.job_desk.specs.declared.link_fact.LinkFact.{LinkFact}
use Rattle.job_desk.specs.declared.link_fact.LinkFact.TheVariants as fact
use Rattle.job_desk.specs.declared.state.State.TheVariants as state
use Rattle.octo_keeper.specs.declared.shelf.ShelfFile.{ShelfFile}
use Rattle.octo_keeper.specs.declared.tables.Tables.{Tables}
use Rattle.print_queue.specs.declared.ending.Ending.{Ending}
use Rattle.print_queue.specs.declared.entry.QueueEntry.{QueueEntry}
use Rattle.print_queue.specs.declared.row.PrintRow.{PrintRow}
use Rattle.printer_model.specs.declared.event.WorldEvent.{WorldEvent}
use Rattle.octo_house_rules.specs.Outcomes.{outcome_of}
use Rattle.octo_floor_bay.specs.Bay.{BayData, RunsOn, run_in}
use Rattle.octo_floor_bay.specs.Prints.{IsInStep}
use Rattle.octo_floor_bay.specs.declared.deed.Deed.{Deed}
use Rattle.octo_floor_bay.specs.declared.deed.Deed.TheVariants as deed
use Rattle.octo_floor_bay.specs.Events.{FloorHistory, started_rows, notes_of}
use Rattle.octo_floor_bay.specs.Stock.{Stock, Start, AllMayCome, after_events, copies_left}
use Rattle.octo_floor_bay.specs.declared.event.FloorEvent.TheVariants.{Noted, Ended, Started, Passed}
use Rattle.octo_floor_bay.specs.Files.{printable}
use Rattle.octo_floor_bay.specs.Written.{most_records}
use Rattle.printer_link.specs.Calls.{LinkState}
use Rattle.octo_floor.specs.Objects.{FaultsCame}
use Rattle.octo_floor.specs.Floor.{Setting, is_active}
use Rattle.octo_floor.specs.Tables.{AreKept}

-- each start takes one copy of what is next at its place, and only what is next is passed over; so the copies are counted
pub record TakesCopies (x y : Setting) (events : FloorHistory) : Type 0 where
  pub history : y.floor.ledger.history ≡ x.floor.ledger.history ++ events
  pub came : AllMayCome x.floor.materials x.floor.ledger.stock events
  pub stock : y.floor.ledger.stock ≡ after_events events x.floor.ledger.stock
  pub copies : copies_left x.floor.ledger.stock.queue ≡ copies_left y.floor.ledger.stock.queue + length (started_rows events)

-- the keeper's tables stay those of the floor
abbrev pub KeepsTables : Setting → Setting → Type 0
KeepsTables x y = (first : Tables) → AreKept first x.floor.ledger x.store.tables → AreKept first y.floor.ledger y.store.tables

-- the starts of a printer in events, with their entries
abbrev pub starts_of : ℕ → FloorHistory → List (PrintRow × QueueEntry)
starts_of printer [] = []
starts_of printer (Started at row entry ∷ events) = if at == printer then (row, entry) ∷ starts_of printer events else starts_of printer events
starts_of printer (Noted at note ∷ events) = starts_of printer events
starts_of printer (Ended at ending ∷ events) = starts_of printer events
starts_of printer (Passed entry ∷ events) = starts_of printer events

-- the ends of a printer's prints
abbrev pub endings_of : ℕ → FloorHistory → List Ending
endings_of printer [] = []
endings_of printer (Ended at ending ∷ events) = if at == printer then ending ∷ endings_of printer events else endings_of printer events
endings_of printer (Noted at note ∷ events) = endings_of printer events
endings_of printer (Started at row entry ∷ events) = endings_of printer events
endings_of printer (Passed entry ∷ events) = endings_of printer events

-- a print's commands are those of its entry's file, if the shelf records its files
abbrev pub AreOfFile : Limits → Option (List ShelfFile) → QueueEntry → List (List ℕ) → Type 0
AreOfFile limits files entry commands =
    (job : JobData) × (commands ≡ texts_of job) × ((held : List ShelfFile) → files ≡ Some held → printable limits entry.file held ≡ Some job)

-- the prints that a desk began are those of these starts, each with the commands of its file as it was read
abbrev pub AreBegun : Limits → Option (List ShelfFile) → List (PrintRow × QueueEntry) → List (ℕ × List (List ℕ)) → Type 0
AreBegun limits files [] [] = Unit {0}
AreBegun limits files (start ∷ starts) (print ∷ begun) =
    (print.0 ≡ start.0.number) × AreOfFile limits files start.1 print.1 × AreBegun limits files starts begun
AreBegun limits files _ _ = ⊥

-- the prints that ended at a desk are those of these endings, with their outcomes
abbrev pub AreEnded : List Ending → List (ℕ × Fate) → Type 0
AreEnded [] [] = Unit {0}
AreEnded (ending ∷ endings) (print ∷ ends) = (print.0 ≡ ending.print) × (outcome_of print.1 ≡ ending.outcome) × AreEnded endings ends
AreEnded _ _ = ⊥

-- a note that says only that the desk changed: no line and no temperature, and nothing of the link
pub record IsSilent (note : Note) : Type 0 where
  pub no_line : note.issued.items ≡ []
  pub no_temps : note.temps ≡ None
  pub quiet : note.fact ≡ fact.Quiet

-- deeds of a printer have these notes, and silent ones beside
abbrev pub HaveNotes : List Note → List Deed → Type 0
HaveNotes notes [] = notes ≡ []
HaveNotes notes (deed.Turned note ∷ deeds) =
    ((others : List Note) × (notes ≡ note ∷ others) × HaveNotes others deeds) ⊎ (IsSilent note × HaveNotes notes deeds)
HaveNotes notes (deed.Connected port ∷ deeds) = HaveNotes notes deeds
HaveNotes notes (deed.Disconnected ∷ deeds) = HaveNotes notes deeds
HaveNotes notes (deed.Started file job print ∷ deeds) = HaveNotes notes deeds

-- what lost a printer: its port isn't listed, a call of its link failed, whose count of faults rose, or its session ended by itself
abbrev pub Loses : LinkFact → ℕ → ℕ → Type 0
Loses fact.NoPort faults faults' = Unit {0}
Loses fact.Failed faults faults' = Rose faults faults'
Loses (fact.Ended end) faults faults' = Unit {0}
Loses _ faults faults' = ⊥

-- one of these notes lost a printer
pub record IsLostBy (notes : List Note) (link link' : LinkState) : Type 0 where
  pub note : Note
  pub among : Contains notes note
  pub loses : Loses note.fact link.faults link'.faults

-- what one printer did, as these events tell it
pub record Does (files : Option (List ShelfFile)) (events : FloorHistory) (printer : ℕ) (b b' : BayData) (link link' : LinkState) : Type 0 where
  -- its deeds, and the prints that began and ended
  pub deeds : List Deed
  pub deeds_are : b'.deeds ≡ b.deeds ++ deeds
  pub notes : HaveNotes (notes_of printer events) deeds
  pub begun : List (ℕ × List (List ℕ))
  pub ended : List (ℕ × Fate)
  pub runs : RunsOn begun ended (run_in b) (run_in b')
  pub begun_are : AreBegun b.session.desk.limits files (starts_of printer events) begun
  pub ended_are : AreEnded (endings_of printer events) ended
  -- beside its link's history
  pub tied : (front : Option (List WorldEvent)) → IsInStep link.kind front link.past b → IsInStep link.kind front link'.past b'
  -- why it is lost
  pub lost : b'.session.desk.state ≡ state.Fault → (b.session.desk.state ≡ state.Fault) ⊎ IsLostBy (notes_of printer events) link link'
  -- what stays
  pub limits : b'.session.desk.limits ≡ b.session.desk.limits
  pub kind : link'.kind ≡ link.kind
  pub faults : link.faults ≤ link'.faults
  pub up : link'.up ≡ b'.session.up

-- the same of each printer
abbrev pub EachDoes : FloorHistory → Setting → Setting → Type 0
EachDoes events x y =
    (printer : ℕ) (b b' : BayData) (link link' : LinkState)
    → slice_get x.floor.bays printer ≡ Some b → slice_get y.floor.bays printer ≡ Some b'
    → slice_get x.links printer ≡ Some link → slice_get y.links printer ≡ Some link' → Does x.store.files events printer b b' link link'

-- what a printer can't print of an entry's file
pub record CanNotPrint (x : Setting) (entry : QueueEntry) : Type 0 where
  pub printer : ℕ
  pub bay : BayData
  pub its_bay : slice_get x.floor.bays printer ≡ Some bay
  pub not_printable : (held : List ShelfFile) → x.store.files ≡ Some held → printable bay.session.desk.limits entry.file held ≡ None

-- only entries whose file can't be printed are passed over
abbrev pub PassesRightly : Setting → FloorHistory → Type 0
PassesRightly x [] = Unit {0}
PassesRightly x (Passed entry ∷ events) = CanNotPrint x entry × PassesRightly x events
PassesRightly x (Noted printer note ∷ events) = PassesRightly x events
PassesRightly x (Ended printer ending ∷ events) = PassesRightly x events
PassesRightly x (Started printer row entry ∷ events) = PassesRightly x events

-- what a floor has, which no call changes
pub record IsSameFloor (x y : Setting) : Type 0 where
  pub ports : y.floor.ports ≡ x.floor.ports
  pub materials : y.floor.materials ≡ x.floor.materials
  pub bays : length y.floor.bays ≡ length x.floor.bays
  pub links : length y.links ≡ length x.links
  pub files : y.store.files ≡ x.store.files
  pub limits : (printer : ℕ) (b b' : BayData) → slice_get x.floor.bays printer ≡ Some b → slice_get y.floor.bays printer ≡ Some b'
      → b'.session.desk.limits ≡ b.session.desk.limits

-- a floor goes on by events
pub record GoesOn (x y : Setting) (events : FloorHistory) : Type 0 where
  pub copies : TakesCopies x y events
  pub tables : KeepsTables x y
  pub each : EachDoes events x y
  pub passes : PassesRightly x events
  pub same : IsSameFloor x y
  pub faults : FaultsCame x.floor.ledger.fault y.floor.ledger.fault x.store.keeper_faults y.store.keeper_faults x.store.shelf_faults y.store.shelf_faults

-- nothing fits a material at some place in a round, or what fits was passed over
pub record IsIdleAt (material : List ℕ) (s : Stock) (events : FloorHistory) : Type 0 where
  pub before : FloorHistory
  pub after : FloorHistory
  pub events_are : events ≡ before ++ after
  pub why : Start (after_events before s) material None
      ⊎ ((entry : QueueEntry) × Start (after_events before s) material (Some entry) × Contains events (Passed entry))

-- a printer that is left without a print had nothing to start at its place, if no fault came and one more record may be held
abbrev pub LeavesIdle : Setting → Setting → FloorHistory → Type 0
LeavesIdle x y events =
    (printer : ℕ) (b : BayData) (material : List ℕ) → slice_get y.floor.bays printer ≡ Some b → slice_get x.floor.materials printer ≡ Some material
    → b.session.desk.state ≡ state.Operational → is_active b ≡ false → y.floor.ledger.fault ≡ None
    → y.floor.ledger.stock.records < most_records → IsIdleAt material x.floor.ledger.stock events
