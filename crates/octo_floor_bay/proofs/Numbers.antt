-- The records of a floor's prints go on with the numbers of the records before them.
use Rattle.std.proofs.Common.{◌≢◌, ℕ, ◌<◌, List, [], ◌∷◌, suc, arith}
use Rattle.std.specs.List.{AllByRecursion}
use Rattle.print_queue.specs.declared.row.PrintRow.{PrintRow}
use Rattle.print_queue.proofs.Pairs.{Pairs, pairs_to, each_so}
use Rattle.octo_floor_bay.specs.Events.{FloorHistory, started_rows}
use Rattle.octo_floor_bay.specs.Laws.{AreNumberedFrom, NumbersGoOn, NumbersDiffer}
use Rattle.octo_floor_bay.specs.Stock.{Stock, after_event}
use Rattle.octo_floor_bay.specs.declared.event.FloorEvent.TheVariants.{Noted, Ended, Started, Passed}

-- the numbers go on
pub numbers_go_on : (materials : List (List ℕ)) (s : Stock) (events : FloorHistory) → NumbersGoOn materials s events
numbers_go_on materials s [] all = tt
numbers_go_on materials s (Started at row entry ∷ events) all =
    (all.0.begun.number, numbers_go_on materials (after_event (Started at row entry) s) events all.1)
numbers_go_on materials s (Passed entry ∷ events) all = numbers_go_on materials (after_event (Passed entry) s) events all.1
numbers_go_on materials s (Noted at note ∷ events) all = numbers_go_on materials s events all.1
numbers_go_on materials s (Ended at ending ∷ events) all = numbers_go_on materials s events all.1

-- numbers after n are above it
above_n : (n : ℕ) (rows : List PrintRow) → AreNumberedFrom n rows → AllByRecursion (λ row. n < row.number) rows
above_n n [] numbered = tt
above_n n (row ∷ rows) numbered =
    let own = numbered.0 in (
      omega arith,
      each_so (λ other. suc n < other.number) (λ other. n < other.number) (λ other above. omega arith) rows (above_n (suc n) rows numbered.1),
    )

apart_numbers : (n : ℕ) (rows : List PrintRow) → AreNumberedFrom n rows → Pairs (λ a b. a.number ≢ b.number) rows
apart_numbers n [] numbered = tt
apart_numbers n (row ∷ rows) numbered =
    let own = numbered.0 in (
      each_so (λ other. suc n < other.number) (λ other. row.number ≢ other.number) (λ other above same. omega arith) rows (above_n (suc n) rows numbered.1),
      apart_numbers (suc n) rows numbered.1,
    )

-- no two of them are equal
pub numbers_differ : (materials : List (List ℕ)) (s : Stock) (events : FloorHistory) → NumbersDiffer materials s events
numbers_differ materials s events all =
    pairs_to (λ a b. a.number ≢ b.number) (started_rows events) (apart_numbers s.records (started_rows events) (numbers_go_on materials s events all))
