-- What the keeper has of a host's tables.
use Rattle.std.specs.Prelude.{◌≡◌, ◌⊎◌, ℕ, ◌≤◌, List, [], ◌∷◌, Option, Some}
use Rattle.octo_keeper.specs.declared.tables.Tables.{Tables}
use Rattle.octo_keeper.specs.Tables.{with_due_end}
use Rattle.print_queue.specs.declared.row.PrintRow.{PrintRow}
use Rattle.octo_house_rules.specs.Begins.{row_read}
use Rattle.octo_house_tables.specs.Data.{TablesData, due_of}

-- a kept record is the host's, or one of the first ones, which the host read as it began
abbrev pub IsRow : ℕ → PrintRow → PrintRow → Type 0
IsRow begun kept row = (row ≡ kept) ⊎ ((kept.number ≤ begun) × (row ≡ row_read kept))

-- each of them
abbrev pub AreRows : ℕ → List PrintRow → List PrintRow → Type 0
AreRows begun [] [] = Unit {0}
AreRows begun [] (row ∷ rows) = ⊥
AreRows begun (kept ∷ kepts) [] = ⊥
AreRows begun (kept ∷ kepts) (row ∷ rows) = IsRow begun kept row × AreRows begun kepts rows

-- the tables are the host's, but for the end that isn't written and the records that it read as it began
pub record Kept (begun : ℕ) (tables : Tables) (host : TablesData) : Type 0 where
  pub users : tables.users ≡ host.users
  pub queue : tables.queue ≡ host.queue
  pub prints : AreRows begun (with_due_end (due_of host) tables.prints) host.prints

-- the same, if the keeper records them
abbrev pub IsKept : ℕ → Option Tables → TablesData → Type 0
IsKept begun held host = (tables : Tables) → held ≡ Some tables → Kept begun tables host

-- the tables stay the host's
abbrev pub KeepsRows : Option Tables → Option Tables → TablesData → TablesData → Type 0
KeepsRows was now old new = (begun : ℕ) → IsKept begun was old → IsKept begun now new
