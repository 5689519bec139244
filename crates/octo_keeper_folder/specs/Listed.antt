-- What a folder lists.
use Rattle.std.specs.Prelude.{◌≡◌, ℕ, true, List, insert, All}
use Rattle.std.specs.List.{prefix_len}
use Rattle.std.specs.List.Sorted.{IsSortedBy}
use Rattle.octo_access.specs.FileNames.{is_file_name}
use Rattle.octo_access.specs.Rows.{is_before}

-- files by their names and sizes, with one more in its place by name
abbrev pub with_listed : List ℕ × ℕ → List (List ℕ × ℕ) → List (List ℕ × ℕ)
with_listed file files = insert files (prefix_len (λ other. is_before other.0 file.0) files) file

-- files in the order of their names, each of which is the name of a file on a shelf
pub record IsListing (files : List (List ℕ × ℕ)) : Type 0 where
  pub named : All (λ file. is_file_name file.0 ≡ true) files
  pub ordered : IsSortedBy (λ a b. is_before a.0 b.0) files
