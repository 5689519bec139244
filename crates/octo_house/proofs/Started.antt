-- A print that begins has the number it is given.
use Rattle.std.proofs.Common.{◌≡◌, ℕ, ◌+◌, ◌<◌, ◌≤◌, List, [], ◌∷◌, ◌++◌, length, Option, None, Some, arith}
use Rattle.std.proofs.lemmas.List.{length-append}
use Rattle.temp_rules.specs.Hot.{first_hot_of}
use Rattle.temp_rules.specs.declared.job.HotLine.{HotLine}
use Rattle.job_desk.specs.Data.{Data, File}
use Rattle.job_desk.specs.Table.{start_at, start_file, start_checked, restart_at}
use Rattle.print_queue.specs.declared.row.PrintRow.{PrintRow}
use Rattle.job_desk.specs.declared.state.State.{State}
use Rattle.job_desk.specs.declared.state.State.TheVariants.{Offline, Connecting, Operational, Printing, Pausing, Paused, Cancelling, Finishing, Closing, Fault}

checked-number : (hot : Option HotLine) (print : ℕ) (d : Data) → d.greatest < print → (start_checked hot print d).1.greatest ≤ print
checked-number None print d below = omega arith
checked-number (Some hot) print d below = omega arith

file-number : (file : Option File) (print : ℕ) (d : Data) → d.greatest < print → (start_file file print d).1.greatest ≤ print
file-number None print d below = omega arith
file-number (Some file) print d below = checked-number (first_hot_of d.limits file.job.commands) print d below

pub start-number : (s : State) (print : ℕ) (d : Data) → d.greatest < print → (start_at s print d).1.greatest ≤ print
start-number Offline print d below = omega arith
start-number Connecting print d below = omega arith
start-number Operational print d below = file-number d.file print d below
start-number Printing print d below = omega arith
start-number Pausing print d below = omega arith
start-number Paused print d below = omega arith
start-number Cancelling print d below = omega arith
start-number Finishing print d below = omega arith
start-number Closing print d below = omega arith
start-number Fault print d below = omega arith

pub restart-number : (s : State) (print : ℕ) (d : Data) → d.greatest < print → (restart_at s print d).1.greatest ≤ print
restart-number Offline print d below = omega arith
restart-number Connecting print d below = omega arith
restart-number Operational print d below = omega arith
restart-number Printing print d below = omega arith
restart-number Pausing print d below = omega arith
restart-number Paused print d below = omega arith
restart-number Cancelling print d below = omega arith
restart-number Finishing print d below = omega arith
restart-number Closing print d below = omega arith
restart-number Fault print d below = omega arith

-- the records of prints with one more have the number of a print that began
more-numbers : (n greatest : ℕ) (prints : List PrintRow) (row : PrintRow) → n ≡ length prints + 1 → greatest ≤ n → greatest ≤ length (prints ++ row ∷ [])
more-numbers n greatest prints row is within =
    let longer : length (prints ++ row ∷ []) ≡ length prints + 1 = length-append prints (row ∷ []) in
    omega arith

pub started-numbered : (s : State) (n : ℕ) (d : Data) (prints : List PrintRow) (row : PrintRow) → n ≡ length prints + 1 → d.greatest ≤ length prints
    → (start_at s n d).1.greatest ≤ length (prints ++ row ∷ [])
started-numbered s n d prints row is few = more-numbers n (start_at s n d).1.greatest prints row is (start-number s n d (omega arith))

pub restarted-numbered : (s : State) (n : ℕ) (d : Data) (prints : List PrintRow) (row : PrintRow) → n ≡ length prints + 1 → d.greatest ≤ length prints
    → (restart_at s n d).1.greatest ≤ length (prints ++ row ∷ [])
restarted-numbered s n d prints row is few = more-numbers n (restart_at s n d).1.greatest prints row is (restart-number s n d (omega arith))
