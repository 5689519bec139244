-- What a column, or a row, must hold so that it can be read.
use Rattle.std.specs.Prelude.{◌≡◌, ◌≢◌, ℕ, pos, ◌<◌, ◌≤◌, List, length}
use Rattle.std.specs.List.{All}
use Rattle.std.specs.Str.{IsUtf8}
use Rattle.sqlite_value.specs.declared.value.Value.{Value}
use Rattle.sqlite_value.specs.declared.value.Value.TheVariants.{Int, Text, Blob}
use Rattle.sqlite_value.specs.Order.{Row, column}
use Rattle.octo_access.specs.declared.row.UserRow.{UserRow}
use Rattle.octo_keeper_sql.specs.Rows.{joined}

-- a number from 0 up to a bound
pub record HoldsBelow (bound : ℕ) (value : Value) : Type 0 where
  pub number : ℕ
  pub below : number < bound
  pub is : value ≡ Int (pos number)

-- a text
pub record HoldsText (value : Value) : Type 0 where
  pub bytes : List ℕ
  pub utf8 : IsUtf8 bytes
  pub is : value ≡ Text bytes

-- a text of at most 100 bytes
pub record HoldsName (value : Value) : Type 0 where
  pub bytes : List ℕ
  pub utf8 : IsUtf8 bytes
  pub short : length bytes ≤ 100
  pub is : value ≡ Text bytes

-- 32 bytes
pub record HoldsDigest (value : Value) : Type 0 where
  pub bytes : List ℕ
  pub whole : length bytes ≡ 32
  pub is : value ≡ Blob bytes

-- a name that can be one of several in a text: 1 to 100 bytes, none of them a space
pub record IsGroup (name : List ℕ) : Type 0 where
  pub some : 0 < length name
  pub short : length name ≤ 100
  pub whole : All (λ byte. byte ≢ 32) name

-- the text of at most eight such names
pub record IsTextOf (groups : List (List ℕ)) (text : List ℕ) : Type 0 where
  pub is : joined groups ≡ text
  pub few : length groups ≤ 8
  pub each : All IsGroup groups

-- the text of a user's groups
pub record HoldsGroups (value : Value) : Type 0 where
  pub bytes : List ℕ
  pub utf8 : IsUtf8 bytes
  pub groups : List (List ℕ)
  pub text : IsTextOf groups bytes
  pub is : value ≡ Text bytes

-- name, digest, groups, active
pub record HoldsUser (row : Row) : Type 0 where
  pub width : length row ≡ 4
  pub name : HoldsName (column row 0)
  pub digest : HoldsDigest (column row 1)
  pub groups : HoldsGroups (column row 2)
  pub active : HoldsBelow 2 (column row 3)

-- user, name, file, priority, arrival, copies, remaining, material
pub record HoldsEntry (row : Row) : Type 0 where
  pub width : length row ≡ 8
  pub user : HoldsName (column row 0)
  pub name : HoldsName (column row 1)
  pub file : HoldsName (column row 2)
  pub priority : HoldsBelow 256 (column row 3)
  pub arrival : HoldsBelow 4294967296 (column row 4)
  pub copies : HoldsBelow 256 (column row 5)
  pub remaining : HoldsBelow 256 (column row 6)
  pub material : HoldsName (column row 7)

-- user, name, file, priority, arrival
pub record HoldsOldEntry (row : Row) : Type 0 where
  pub width : length row ≡ 5
  pub user : HoldsName (column row 0)
  pub name : HoldsName (column row 1)
  pub file : HoldsName (column row 2)
  pub priority : HoldsBelow 256 (column row 3)
  pub arrival : HoldsBelow 4294967296 (column row 4)

-- number, user, file, commands, outcome
pub record HoldsPrint (row : Row) : Type 0 where
  pub width : length row ≡ 5
  pub number : HoldsBelow 4294967296 (column row 0)
  pub user : HoldsName (column row 1)
  pub file : HoldsName (column row 2)
  pub commands : HoldsBelow 4294967296 (column row 3)
  pub outcome : HoldsBelow 4 (column row 4)

-- a user whose groups can be read back from their text
abbrev pub HasGroups : UserRow → Type 0
HasGroups user = All IsGroup user.groups.items
