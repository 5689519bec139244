-- The paths of the files on a shelf.
use Rattle.std.specs.Prelude.{ℕ, codes, decimal, List, ◌++◌}

-- the path of a file in a folder
abbrev pub path_in : List ℕ → List ℕ → List ℕ → List ℕ
path_in folder name ending = folder ++ codes "/" ++ name ++ ending

-- the path of a stager's part in a folder
abbrev pub part_in : List ℕ → ℕ → List ℕ
part_in folder number = folder ++ codes "/.part-" ++ decimal number

-- the path of the file that a stager's part has replaced
abbrev pub former_in : List ℕ → ℕ → List ℕ
former_in folder number = folder ++ codes "/.former-" ++ decimal number

-- the path of the file that was removed last, until a stager gives back its room
abbrev pub removed_in : List ℕ → List ℕ
removed_in folder = folder ++ codes "/.removed"
