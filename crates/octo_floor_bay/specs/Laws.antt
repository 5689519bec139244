-- The laws of a floor's events, whatever its printers' links did.
use Rattle.std.specs.Prelude.{◌≡◌, ◌≢◌, ℕ, suc, ◌+◌, List, [], ◌∷◌, length, All, AllPairs}
use Rattle.print_queue.specs.Lawful.{IsLawful}
use Rattle.print_queue.specs.declared.row.PrintRow.{PrintRow}
use Rattle.octo_floor_bay.specs.Events.{FloorHistory, started_rows, started_entries}
use Rattle.octo_floor_bay.specs.Stock.{Stock, after_events, AllMayCome, copies_left}
use Rattle.octo_floor_bay.specs.declared.event.FloorEvent.TheVariants.{Noted, Ended, Started, Passed}

-- the copies that were left at first are those that are left now, and one for each print that was started
abbrev pub CopiesAreCounted : List (List ℕ) → Stock → FloorHistory → Type 0
CopiesAreCounted materials s events =
    IsLawful s.queue → AllMayCome materials s events → copies_left s.queue ≡ copies_left (after_events events s).queue + length (started_rows events)

-- records go on with the numbers after n
abbrev pub AreNumberedFrom : ℕ → List PrintRow → Type 0
AreNumberedFrom n [] = Unit {0}
AreNumberedFrom n (row ∷ rows) = (row.number ≡ suc n) × AreNumberedFrom (suc n) rows

-- the records of the prints that were started go on with the numbers of the records before them
abbrev pub NumbersGoOn : List (List ℕ) → Stock → FloorHistory → Type 0
NumbersGoOn materials s events = AllMayCome materials s events → AreNumberedFrom s.records (started_rows events)

-- no two prints that were started have one number
abbrev pub NumbersDiffer : List (List ℕ) → Stock → FloorHistory → Type 0
NumbersDiffer materials s events = AllMayCome materials s events → AllPairs (λ a b. a.number ≢ b.number) (started_rows events)

-- an entry that was passed over is not started later
abbrev pub PassedStayOut : FloorHistory → Type 0
PassedStayOut [] = Unit {0}
PassedStayOut (Passed entry ∷ events) = All (λ other. other.arrival ≢ entry.arrival) (started_entries events) × PassedStayOut events
PassedStayOut (Noted at note ∷ events) = PassedStayOut events
PassedStayOut (Ended at ending ∷ events) = PassedStayOut events
PassedStayOut (Started at row other ∷ events) = PassedStayOut events
