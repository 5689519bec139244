-- Kept records of prints are the host's after ends and begins.
use Rattle.std.proofs.Common.{◌≡◌, ◌≢◌, inl, inr, ℕ, ◌+◌, ◌<◌, ◌≤◌, ◌==◌, Bool, true, false, suc, List, [], ◌∷◌, ◌++◌, length, get_or, map, Option, None, Some, refl, ap, arith}
use Rattle.std.specs.Option.{option_or}
use Rattle.octo_keeper.specs.Tables.{ended_row, with_end, with_due_end}
use Rattle.print_queue.specs.declared.ending.Ending.{Ending}
use Rattle.print_queue.specs.declared.row.PrintRow.{PrintRow}
use Rattle.octo_house_rules.specs.Begins.{row_read}
use Rattle.octo_house_tables.specs.Kept.{IsRow, AreRows}

pub rows-append : (begun : ℕ) (kept rows more rest : List PrintRow) → AreRows begun kept rows → AreRows begun more rest
    → AreRows begun (kept ++ more) (rows ++ rest)
rows-append begun [] [] more rest front back = back
rows-append begun [] (row ∷ rows) more rest front back = absurd front
rows-append begun (k ∷ kept) [] more rest front back = absurd front
rows-append begun (k ∷ kept) (row ∷ rows) more rest front back = (front.0, rows-append begun kept rows more rest front.1 back)

-- the host has this record
pub row-last : (begun : ℕ) (row : PrintRow) → AreRows begun (row ∷ []) (row ∷ [])
row-last begun row = (inl refl, tt)

-- a record that was read as the host began, after an end
read-end : (begun : ℕ) (ending : Ending) (kept : PrintRow) (b : Bool) → (kept.number == ending.print) ≡ b → kept.number ≤ begun
    → IsRow begun (ended_row ending kept) (ended_row ending (row_read kept))
read-end begun ending kept true is early = rw is (inl refl)
read-end begun ending kept false is early = rw is (inr (early, refl))

row-end : (begun : ℕ) (ending : Ending) (kept row : PrintRow) → IsRow begun kept row → IsRow begun (ended_row ending kept) (ended_row ending row)
row-end begun ending kept row (inl same) = inl (ap (ended_row ending) same)
row-end begun ending kept row (inr read) = rw read.1 (read-end begun ending kept (kept.number == ending.print) refl read.0)

-- records after an end
pub rows-end : (begun : ℕ) (ending : Ending) (kept rows : List PrintRow) → AreRows begun kept rows → AreRows begun (with_end ending kept) (with_end ending rows)
rows-end begun ending [] [] are = tt
rows-end begun ending [] (row ∷ rows) are = absurd are
rows-end begun ending (k ∷ kept) [] are = absurd are
rows-end begun ending (k ∷ kept) (row ∷ rows) are = (row-end begun ending k row are.0, rows-end begun ending kept rows are.1)

-- records after a print began: with the end of another one, or with an end that was due
pub rows-begun : (begun : ℕ) (ended due : Option Ending) (print : PrintRow) (kept rows : List PrintRow) → (ended ≢ None → due ≡ None)
    → AreRows begun (with_due_end due kept) rows
    → AreRows begun (with_due_end (option_or ended due) kept ++ print ∷ []) (with_due_end ended rows ++ print ∷ [])
rows-begun begun None due print kept rows alone are = rows-append begun (with_due_end due kept) rows (print ∷ []) (print ∷ []) are (row-last begun print)
rows-begun begun (Some ending) due print kept rows alone are =
    let none : due ≡ None = alone (λ e. absurd (cc)) in
    let same : AreRows begun kept rows = rw none at are in
    rows-append begun (with_end ending kept) (with_end ending rows) (print ∷ []) (print ∷ []) (rows-end begun ending kept rows same) (row-last begun print)

-- records that a host reads as it begins
read-from : (begun from : ℕ) (rows : List PrintRow) → ((k : ℕ) (d : PrintRow) → k < length rows → (get_or rows k d).number ≡ from + k + 1)
    → from + length rows ≤ begun → AreRows begun rows (map row_read rows)
read-from begun from [] numbered few = tt
read-from begun from (row ∷ rows) numbered few =
    let first : row.number ≡ from + 0 + 1 = numbered 0 row (omega arith) in (
      inr (omega arith, refl),
      read-from begun (from + 1) rows
          (λ k d below. let later : (get_or rows k d).number ≡ from + suc k + 1 = numbered (suc k) d (omega arith) in omega arith) (omega arith),
    )

pub rows-read : (rows : List PrintRow) → ((k : ℕ) (d : PrintRow) → k < length rows → (get_or rows k d).number ≡ k + 1)
    → AreRows (length rows) rows (map row_read rows)
rows-read rows numbered =
    read-from (length rows) 0 rows (λ k d below. let at : (get_or rows k d).number ≡ k + 1 = numbered k d below in omega arith) (omega arith)
