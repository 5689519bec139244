-- Events that come after others.
use Rattle.std.proofs.Common.{◌≡◌, ℕ, List, [], ◌∷◌, ◌++◌, refl, ap}
use Rattle.print_queue.specs.declared.ending.Ending.{Ending}
use Rattle.octo_floor_bay.specs.Events.{FloorHistory, started_rows, endings}
use Rattle.octo_floor_bay.specs.Stock.{Stock, after_event, after_events, AllMayCome}
use Rattle.octo_floor_bay.specs.declared.event.FloorEvent.TheVariants.{Noted, Ended, Started, Passed}

-- what events leave after others
pub after_more : (events more : FloorHistory) (s : Stock) → after_events (events ++ more) s ≡ after_events more (after_events events s)
after_more [] more s = refl
after_more (event ∷ events) more s = after_more events more (after_event event s)

-- events may come after others, if they may come on what those leave
pub may_come_more : (materials : List (List ℕ)) (s : Stock) (events more : FloorHistory) → AllMayCome materials s events →
    AllMayCome materials (after_events events s) more → AllMayCome materials s (events ++ more)
may_come_more materials s [] more all rest = rest
may_come_more materials s (event ∷ events) more all rest = (all.0, may_come_more materials (after_event event s) events more all.1 rest)

-- the prints that were started by events after others
pub rows_more : (events more : FloorHistory) → started_rows (events ++ more) ≡ started_rows events ++ started_rows more
rows_more [] more = refl
rows_more (Started at row entry ∷ events) more = ap (λ rows. row ∷ rows) (rows_more events more)
rows_more (Noted at note ∷ events) more = rows_more events more
rows_more (Ended at ending ∷ events) more = rows_more events more
rows_more (Passed entry ∷ events) more = rows_more events more

-- the ends of prints in events after others
pub endings_more : (events more : FloorHistory) → endings (events ++ more) ≡ endings events ++ endings more
endings_more [] more = refl
endings_more (Ended at ending ∷ events) more = ap (λ (ends : List Ending). ending ∷ ends) (endings_more events more)
endings_more (Noted at note ∷ events) more = endings_more events more
endings_more (Started at row entry ∷ events) more = endings_more events more
endings_more (Passed entry ∷ events) more = endings_more events more
