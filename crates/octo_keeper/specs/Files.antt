-- A shelf's files: their names and bytes, by name.
use Rattle.std.specs.Prelude.{ℕ, Bool, not, List, length, Option, find, filter, map, insert, option_map}
use Rattle.std.specs.List.{prefix_len}
use Rattle.std.specs.Str.{bytes_eq}
use Rattle.octo_keeper.specs.declared.shelf.ShelfFile.{ShelfFile}
use Rattle.octo_access.specs.Rows.{is_before}

-- the file has this name
abbrev pub is_file : List ℕ → ShelfFile → Bool
is_file name file = bytes_eq file.name name

-- the bytes of a name, if there is such a file
abbrev pub bytes_of : List ℕ → List ShelfFile → Option (List ℕ)
bytes_of name files = option_map (λ (file : ShelfFile). file.bytes) (find (is_file name) files)

-- how many bytes a name has, if there is such a file
abbrev pub size_of : List ℕ → List ShelfFile → Option ℕ
size_of name files = option_map (λ (file : ShelfFile). length file.bytes) (find (is_file name) files)

-- the files but for a name's
abbrev pub without_file : List ℕ → List ShelfFile → List ShelfFile
without_file name files = filter (λ file. not (is_file name file)) files

-- the files with one more, in its place by name
abbrev pub added : ShelfFile → List ShelfFile → List ShelfFile
added file files = insert files (prefix_len (λ other. is_before other.name file.name) files) file

-- the files with these bytes for a name
abbrev pub with_file : List ℕ → List ℕ → List ShelfFile → List ShelfFile
with_file name bytes files = added (record { name = name; bytes = bytes }) (without_file name files)

-- the names of files with their sizes
abbrev pub sizes_of : List ShelfFile → List (List ℕ × ℕ)
sizes_of files = map (λ (file : ShelfFile). (file.name, length file.bytes)) files
