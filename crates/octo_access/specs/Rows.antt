-- Users as rows of a table, kept by name.
use Rattle.std.specs.Prelude.{◌≡◌, ℕ, ◌≤◌, Bool, ◌&&◌, List, length, insert, remove, filter, not, slice_set, count_by, Option}
use Rattle.std.specs.List.{find, prefix_len, position_or_len}
use Rattle.std.specs.List.Sorted.{IsSortedByKey}
use Rattle.std.specs.Cmp.Lexicographic.{slice_cmp}
use Rattle.std.specs.Ordering.{nat_cmp, is_lt}
use Rattle.std.specs.Str.{bytes_eq}
use Rattle.octo_access.specs.declared.row.UserRow.{UserRow}

-- the most users of a table
abbrev pub most_users : ℕ
most_users = 1000

-- whether a name comes before another in the order of bytes
abbrev pub is_before : List ℕ → List ℕ → Bool
is_before name other = is_lt (slice_cmp nat_cmp name other)

-- whether a row has this name
abbrev pub is_named : List ℕ → UserRow → Bool
is_named name row = bytes_eq row.name name

-- whether a row has a key of this digest
abbrev pub has_digest : List ℕ → UserRow → Bool
has_digest digest row = bytes_eq row.digest digest

-- the row of that name
abbrev pub row_named : List ℕ → List UserRow → Option UserRow
row_named name rows = find (is_named name) rows

-- one row more, in its place by name
abbrev pub with_row : UserRow → List UserRow → List UserRow
with_row row rows = insert rows (prefix_len (λ r. is_before r.name row.name) rows) row

-- the rows but for the name's
abbrev pub without : List ℕ → List UserRow → List UserRow
without name rows = filter (λ row. not (is_named name row)) rows

-- a row in the place of its name's former one
abbrev pub replaced : UserRow → List UserRow → List UserRow
replaced row rows = slice_set rows (position_or_len (is_named row.name) rows) row

-- each name and each key at most once, and not too many rows
pub record IsUserList (rows : List UserRow) : Type 0 where
  pub names : (name : List ℕ) → count_by (is_named name) rows ≤ 1
  pub keys : (digest : List ℕ) → count_by (has_digest digest) rows ≤ 1
  pub few : length rows ≤ most_users

-- rows in the order of their names
abbrev pub IsByName : List UserRow → Type 0
IsByName rows = IsSortedByKey (λ (row : UserRow). row.name) (slice_cmp nat_cmp) rows

-- such rows, by name
pub record IsUserTable (rows : List UserRow) : Type 0 where
  pub list : IsUserList rows
  pub ordered : IsByName rows
