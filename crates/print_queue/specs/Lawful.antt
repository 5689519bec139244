-- Which rows a queue may hold, and which entry is printed next.
use Rattle.std.specs.Prelude.{◌≡◌, ◌≢◌, ℕ, ◌≤◌, ◌<◌, Option, Some, None, true, false, List, All, AllPairs, Contains, count_by}
use Rattle.print_queue.specs.declared.entry.QueueEntry.{QueueEntry}
use Rattle.print_queue.specs.Rows.{is_before, is_key, is_of, fits}

-- two entries differ in their arrival, and in their user or their name
pub record IsApart (a b : QueueEntry) : Type 0 where
  pub arrival : a.arrival ≢ b.arrival
  pub key : is_key a.user a.name b ≡ false

-- an entry has 1 to 100 copies, of which 1 to all are left
pub record IsWholeRow (row : QueueEntry) : Type 0 where
  pub some : 1 ≤ row.left
  pub left : row.left ≤ row.copies
  pub most : row.copies ≤ 100

-- rows in any order that a queue can be made of: arrivals and each user's names are distinct, and no user has over 64
pub record IsSound (rows : List QueueEntry) : Type 0 where
  pub apart : AllPairs IsApart rows
  pub whole : All IsWholeRow rows
  pub few : (user : List ℕ) → count_by (is_of (Some user)) rows ≤ 64

-- greatest priority first, then least arrival
abbrev pub IsOrdered : List QueueEntry → Type 0
IsOrdered rows = AllPairs (λ a b. is_before a b ≡ true) rows

-- an entry can be added: its name of its user and its arrival are free, and its user has fewer than 64
pub record HasPlace (row : QueueEntry) (rows : List QueueEntry) : Type 0 where
  pub whole : IsWholeRow row
  pub apart : All (IsApart row) rows
  pub few : count_by (is_of (Some row.user)) rows < 64

-- of the fitting entries of the greatest priority the one of the least arrival
pub record IsNextOf (rows : List QueueEntry) (material : List ℕ) (row : QueueEntry) : Type 0 where
  pub among : Contains rows row
  pub fitting : fits material row ≡ true
  pub greatest : All (λ other. fits material other ≡ true → other.priority ≤ row.priority) rows
  pub least : All (λ other. fits material other ≡ true → other.priority ≡ row.priority → row.arrival ≤ other.arrival) rows

-- rows that a queue may hold
pub record IsLawful (rows : List QueueEntry) : Type 0 where
  pub sound : IsSound rows
  pub ordered : IsOrdered rows

-- the next entry of a printer that holds a material, none if none fits
abbrev pub NextOf : List QueueEntry → List ℕ → Option QueueEntry → Type 0
NextOf rows material None = All (λ row. fits material row ≡ false) rows
NextOf rows material (Some row) = IsNextOf rows material row
