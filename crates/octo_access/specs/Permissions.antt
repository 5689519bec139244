-- Permissions.
use Rattle.std.specs.Prelude.{ℕ, ◌==◌, Bool, ◌||◌, List, [], ◌∷◌, codes, Option}
use Rattle.std.specs.List.{find, list_any}
use Rattle.std.specs.Str.{bytes_eq}
use Rattle.octo_access.specs.declared.permission.Permission.{Permission}
use Rattle.octo_access.specs.declared.permission.Permission.TheVariants as permission

-- a permission's name
abbrev pub permission_name : Permission → List ℕ
permission_name permission.Status = codes "STATUS"
permission_name permission.Connection = codes "CONNECTION"
permission_name permission.Print = codes "PRINT"
permission_name permission.Control = codes "CONTROL"
permission_name permission.FilesList = codes "FILES_LIST"
permission_name permission.FilesUpload = codes "FILES_UPLOAD"
permission_name permission.FilesDownload = codes "FILES_DOWNLOAD"
permission_name permission.FilesDelete = codes "FILES_DELETE"
permission_name permission.FilesSelect = codes "FILES_SELECT"
permission_name permission.System = codes "SYSTEM"
permission_name permission.Admin = codes "ADMIN"

-- the place of a permission in the list of all
abbrev pub place_of : Permission → ℕ
place_of permission.Status = 0
place_of permission.Connection = 1
place_of permission.Print = 2
place_of permission.Control = 3
place_of permission.FilesList = 4
place_of permission.FilesUpload = 5
place_of permission.FilesDownload = 6
place_of permission.FilesDelete = 7
place_of permission.FilesSelect = 8
place_of permission.System = 9
place_of permission.Admin = 10

-- each permission once
unfoldable pub all_permissions : List Permission
all_permissions =
    permission.Status ∷ permission.Connection ∷ permission.Print ∷ permission.Control
    ∷ permission.FilesList ∷ permission.FilesUpload ∷ permission.FilesDownload ∷ permission.FilesDelete ∷ permission.FilesSelect
    ∷ permission.System ∷ permission.Admin ∷ []

-- whether two permissions are the same
abbrev pub is_same : Permission → Permission → Bool
is_same a b = place_of a == place_of b

-- whether a permission has that name
abbrev pub has_name : List ℕ → Permission → Bool
has_name text p = bytes_eq (permission_name p) text

-- the permission of that name
abbrev pub permission_named : List ℕ → Option Permission
permission_named text = find (has_name text) all_permissions

-- whether a list of permissions grants one: it has it, or it has ADMIN
abbrev pub grants : Permission → List Permission → Bool
grants wanted permissions = list_any (λ p. is_same p wanted || is_same p permission.Admin) permissions
