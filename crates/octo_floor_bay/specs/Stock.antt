-- What a floor starts from its queue: which entry a printer takes next, and what each event leaves.
use Rattle.std.specs.Prelude.{◌≡◌, ℕ, suc, ◌+◌, ◌==◌, Bool, not, ◌&&◌, List, [], ◌∷◌, ◌++◌, Option, Some, filter}
use Rattle.std.specs.List.{list_any, slice_get}
use Rattle.print_queue.specs.Lawful.{NextOf}
use Rattle.print_queue.specs.Rows.{fits, without_copy}
use Rattle.print_queue.specs.declared.ending.Outcome.TheVariants.{Active}
use Rattle.print_queue.specs.declared.entry.QueueEntry.{QueueEntry}
use Rattle.print_queue.specs.declared.row.PrintRow.{PrintRow}
use Rattle.octo_floor_bay.specs.Events.{FloorHistory}
use Rattle.octo_floor_bay.specs.declared.event.FloorEvent.{FloorEvent}
use Rattle.octo_floor_bay.specs.declared.event.FloorEvent.TheVariants.{Noted, Ended, Started, Passed}

-- a queue, the arrivals of the entries that were passed over, and how many records of prints there are
pub record Stock : Type 0 where
  pub queue : List QueueEntry
  pub passed : List ℕ
  pub records : ℕ

-- the entry was passed over
abbrev pub was_passed : List ℕ → QueueEntry → Bool
was_passed passed entry = list_any (λ arrival. arrival == entry.arrival) passed

-- the entries of a queue that weren't passed over
abbrev pub startable : List ℕ → List QueueEntry → List QueueEntry
startable passed queue = filter (λ entry. not (was_passed passed entry)) queue

-- the entry fits a printer with this material, and wasn't passed over
abbrev pub may_start : List ℕ → List ℕ → QueueEntry → Bool
may_start passed material entry = fits material entry && not (was_passed passed entry)

-- what a printer with this material starts next: the next one of the entries that weren't passed over
abbrev pub Start : Stock → List ℕ → Option QueueEntry → Type 0
Start s material entry = NextOf (startable s.passed s.queue) material entry

-- what an event leaves: a start takes one copy and adds one record
abbrev pub after_event : FloorEvent → Stock → Stock
after_event (Started at row entry) s = record s { queue = without_copy entry.user entry.name s.queue; records = suc s.records }
after_event (Passed entry) s = record s { passed = s.passed ++ entry.arrival ∷ [] }
after_event (Noted at note) s = s
after_event (Ended at ending) s = s

-- what events leave, one after the other
abbrev pub after_events : FloorHistory → Stock → Stock
after_events [] s = s
after_events (event ∷ events) s = after_events events (after_event event s)

-- the record with which a print of an entry begins
pub record IsRecordOf (entry : QueueEntry) (n : ℕ) (row : PrintRow) : Type 0 where
  pub number : row.number ≡ n
  pub user : row.user ≡ entry.user
  pub file : row.file ≡ entry.file
  pub active : row.outcome ≡ Active

-- a printer starts what is next for its material, under the next number
pub record IsStart (materials : List (List ℕ)) (s : Stock) (at : ℕ) (row : PrintRow) (entry : QueueEntry) : Type 0 where
  pub material : List ℕ
  pub own : slice_get materials at ≡ Some material
  pub next : Start s material (Some entry)
  pub begun : IsRecordOf entry (suc s.records) row

-- only what is next for the material of a printer is passed over
pub record IsPass (materials : List (List ℕ)) (s : Stock) (entry : QueueEntry) : Type 0 where
  pub at : ℕ
  pub material : List ℕ
  pub own : slice_get materials at ≡ Some material
  pub next : Start s material (Some entry)

-- an event may come on a floor of printers with these materials
abbrev pub MayCome : List (List ℕ) → Stock → FloorEvent → Type 0
MayCome materials s (Started at row entry) = IsStart materials s at row entry
MayCome materials s (Passed entry) = IsPass materials s entry
MayCome materials s (Noted at note) = Unit {0}
MayCome materials s (Ended at ending) = Unit {0}

-- events may come, one after the other
abbrev pub AllMayCome : List (List ℕ) → Stock → FloorHistory → Type 0
AllMayCome materials s [] = Unit {0}
AllMayCome materials s (event ∷ events) = MayCome materials s event × AllMayCome materials (after_event event s) events

-- how many copies of these entries were not started yet
abbrev pub copies_left : List QueueEntry → ℕ
copies_left [] = 0
copies_left (entry ∷ entries) = entry.left + copies_left entries
