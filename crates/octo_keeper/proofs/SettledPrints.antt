-- Records are settled one after the other.
use Rattle.std.proofs.Common.{◌≡◌, ◌≢◌, ◌∙◌, ℕ, zero, ◌+◌, ◌<◌, ◌≤◌, ◌==◌, true, false, suc, List, [], ◌∷◌, length, get_or, map, option_map, IfSome, Option, None, Some, refl, ap, sym, arith, eq-eqb, ne_eqb, add-one}
use Rattle.octo_keeper.specs.Tables.{AreNumbered, ended_row, with_end}
use Rattle.octo_keeper.specs.declared.tables.Tables.{Tables}
use Rattle.print_queue.specs.declared.ending.Ending.{Ending}
use Rattle.print_queue.specs.declared.ending.Outcome.{Outcome}
use Rattle.print_queue.specs.declared.ending.Outcome.TheVariants as outcome
use Rattle.print_queue.specs.declared.row.PrintRow.{PrintRow}
use Rattle.octo_keeper.specs.Settled.{outcome_settled, row_settled, rows_settled_to, failed_if, settled, settled_to, settled_by}

-- records numbered without a gap after `from`
abbrev NumberedAfter : ℕ → List PrintRow → Type 0
NumberedAfter from rows = (k : ℕ) (d : PrintRow) → k < length rows → (get_or rows k d).number ≡ from + k + 1

-- so are those after the first
numbered_rest : (from : ℕ) (row : PrintRow) (rows : List PrintRow) → NumberedAfter from (row ∷ rows) → NumberedAfter (from + 1) rows
numbered_rest from row rows numbered k d below =
    let later : (get_or rows k d).number ≡ from + suc k + 1 = numbered (suc k) d (omega arith) in omega arith

-- a record of another number is as it was
ended_other : (ending : Ending) (row : PrintRow) → row.number ≢ ending.print → ended_row ending row ≡ row
ended_other ending row ne = let other : (row.number == ending.print) ≡ false = ne_eqb row.number ending.print ne in rw other refl

-- records after that number are as they were
untouched : (ending : Ending) (from : ℕ) (rows : List PrintRow) → ending.print ≤ from → NumberedAfter from rows → with_end ending rows ≡ rows
untouched ending from [] few numbered = refl
untouched ending from (row ∷ rows) few numbered =
    let first : row.number ≡ from + 0 + 1 = numbered 0 row (omega arith) in
    let ne : row.number ≢ ending.print = omega arith in
    let head : ended_row ending row ≡ row = ended_other ending row ne in
    let tail : with_end ending rows ≡ rows = untouched ending (from + 1) rows (omega arith) (numbered_rest from row rows numbered) in
    cc

-- a first record of another number stays
other_number : (o : Outcome) (number : ℕ) (row : PrintRow) (rows : List PrintRow) → row.number ≢ number
    → failed_if o number (row ∷ rows) ≡ row ∷ failed_if o number rows
other_number outcome.Active number row rows ne =
    ap (λ first. first ∷ with_end (record { print = number; outcome = outcome.Failed }) rows) (ended_other (record { print = number; outcome = outcome.Failed }) row ne)
other_number outcome.Done number row rows ne = refl
other_number outcome.Cancelled number row rows ne = refl
other_number outcome.Failed number row rows ne = refl

-- a record that isn't of a print that is going on is read as it is
read_same : (row : PrintRow) (o : Outcome) → row.outcome ≡ o → outcome_settled o ≡ o → row ≡ row_settled row
read_same row o is same = let e : outcome_settled row.outcome ≡ row.outcome = rw is same in ap (λ v. record row { outcome = v }) (sym e)

-- the first record is settled
first_step : (from : ℕ) (row : PrintRow) (rows : List PrintRow) (o : Outcome) → row.outcome ≡ o → NumberedAfter from (row ∷ rows)
    → failed_if o row.number (row ∷ rows) ≡ row_settled row ∷ rows
first_step from row rows outcome.Active is numbered =
    let ending : Ending = record { print = row.number; outcome = outcome.Failed } in
    let first : row.number ≡ from + 0 + 1 = numbered 0 row (omega arith) in
    let yes : (row.number == row.number) ≡ true = eq-eqb row.number row.number refl in
    let head : ended_row ending row ≡ record row { outcome = outcome.Failed } = rw yes refl in
    let read : row_settled row ≡ record row { outcome = outcome.Failed } = rw is refl in
    let tail : with_end ending rows ≡ rows = untouched ending (from + 1) rows (omega arith) (numbered_rest from row rows numbered) in
    cc
first_step from row rows outcome.Done is numbered = ap (λ r. r ∷ rows) (read_same row outcome.Done is refl)
first_step from row rows outcome.Cancelled is numbered = ap (λ r. r ∷ rows) (read_same row outcome.Cancelled is refl)
first_step from row rows outcome.Failed is numbered = ap (λ r. r ∷ rows) (read_same row outcome.Failed is refl)

-- one more record is settled
step : (from k : ℕ) (rows : List PrintRow) (d : PrintRow) → NumberedAfter from rows → k < length rows
    → failed_if (get_or rows k d).outcome (get_or rows k d).number (rows_settled_to k rows) ≡ rows_settled_to (suc k) rows
step from k [] d numbered below = absurd (omega arith)
step from zero (row ∷ rows) d numbered below = first_step from row rows row.outcome refl numbered
step from (suc k) (row ∷ rows) d numbered below =
    let first : row.number ≡ from + 0 + 1 = numbered 0 row (omega arith) in
    let later : (get_or rows k d).number ≡ from + suc k + 1 = numbered (suc k) d (omega arith) in
    let ne : row.number ≢ (get_or rows k d).number = omega arith in
    other_number (get_or rows k d).outcome (get_or rows k d).number (row_settled row) (rows_settled_to k rows) ne
    ∙ ap (λ r. row_settled row ∷ r) (step (from + 1) k rows d (numbered_rest from row rows numbered) (omega arith))

-- all are
read_all : (rows : List PrintRow) → rows_settled_to (length rows) rows ≡ map row_settled rows
read_all [] = refl
read_all (row ∷ rows) = ap (λ r. row_settled row ∷ r) (read_all rows)

-- none is yet
pub settled_none : (kept : Option Tables) → kept ≡ option_map (settled_to 0) kept
settled_none None = refl
settled_none (Some t) = refl

-- a print that isn't going on changes nothing
pub settled_same : (row : PrintRow) (o : Outcome) (kept : Option Tables) → row.outcome ≡ o → outcome_settled o ≡ o → kept ≡ option_map (settled_by row) kept
settled_same row outcome.Active kept is same = absurd (cc)
settled_same row outcome.Done None is same = refl
settled_same row outcome.Done (Some t) is same = rw is refl
settled_same row outcome.Cancelled None is same = refl
settled_same row outcome.Cancelled (Some t) is same = rw is refl
settled_same row outcome.Failed None is same = refl
settled_same row outcome.Failed (Some t) is same = rw is refl

-- one more of the loaded records is settled
pub settled_more : (kept : Option Tables) (loaded : Tables) (items : List PrintRow) (k : ℕ) (row : PrintRow)
    → IfSome kept (λ t. loaded ≡ t) → AreNumbered loaded.prints → items ≡ loaded.prints → k < length items → row ≡ get_or items k row
    → option_map (settled_by row) (option_map (settled_to k) kept) ≡ option_map (settled_to (k + 1)) kept
settled_more None loaded items k row same numbered are below item = refl
settled_more (Some t) loaded items k row same numbered are below item =
    let after : NumberedAfter 0 loaded.prints = λ j e within. let at : (get_or loaded.prints j e).number ≡ j + 1 = numbered j e within in omega arith in
    let within : k < length loaded.prints = rw are at below in
    let at : row ≡ get_or loaded.prints k row = rw are at item in
    let one : failed_if (get_or loaded.prints k row).outcome (get_or loaded.prints k row).number (rows_settled_to k loaded.prints)
    ≡ rows_settled_to (suc k) loaded.prints = step 0 k loaded.prints row after within in
    let this : failed_if row.outcome row.number (rows_settled_to k loaded.prints) ≡ rows_settled_to (suc k) loaded.prints = rw (← at) at one in
    rw (← same, add-one) (ap (λ rows. Some (record loaded { prints = rows })) this)

-- all of the loaded records are
pub settled_all : (kept : Option Tables) (loaded : Tables) → IfSome kept (λ t. loaded ≡ t)
    → option_map (settled_to (length loaded.prints)) kept ≡ option_map settled kept
settled_all None loaded same = refl
settled_all (Some t) loaded same = rw (← same) (ap (λ rows. Some (record loaded { prints = rows })) (read_all loaded.prints))
