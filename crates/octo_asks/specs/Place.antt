-- Where a worker or the house sits.
use Rattle.std.specs.Prelude.{ℕ, List, []}

-- a table, as numbers that no other table has, and a seat at it
pub record Place : Type 0 where
  pub table : List ℕ
  pub seat : ℕ

-- the place of a counter that shares no table
abbrev pub no_place : Place
no_place = record { table = []; seat = 0 }
