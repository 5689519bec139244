-- Groups of users.
use Rattle.std.specs.Prelude.{ℕ, Bool, false, List, [], ◌∷◌, codes, if◌then◌else◌, Option, None, Some, is_some, option_map}
use Rattle.std.specs.List.{find}
use Rattle.std.specs.Option.{option_or, option_map_or}
use Rattle.std.specs.Str.{bytes_eq}
use Rattle.octo_access.specs.Permissions.{grants}
use Rattle.octo_access.specs.declared.permission.Permission.{Permission}
use Rattle.octo_access.specs.declared.permission.Permission.TheVariants as permission

-- a group that isn't built in
pub record GroupData : Type 0 where
  pub name : List ℕ
  pub permissions : List Permission

-- the most groups that aren't built in
abbrev pub most_groups : ℕ
most_groups = 16

-- what the group `users` has
abbrev pub users_have : List Permission
users_have =
    permission.Status ∷ permission.Connection ∷ permission.Print ∷ permission.Control
    ∷ permission.FilesList ∷ permission.FilesUpload ∷ permission.FilesDownload ∷ permission.FilesDelete ∷ permission.FilesSelect ∷ []

-- what a built-in group has
abbrev pub built_in : List ℕ → Option (List Permission)
built_in name =
    if bytes_eq name (codes "admins") then Some (permission.Admin ∷ [])
    else (if bytes_eq name (codes "users") then Some users_have
    else (if bytes_eq name (codes "readonly") then Some (permission.Status ∷ permission.FilesList ∷ [])
    else (if bytes_eq name (codes "guests") then Some [] else None)))

-- whether a group has that name
abbrev pub is_group : List ℕ → GroupData → Bool
is_group name group = bytes_eq group.name name

-- what a group that isn't built in has
abbrev pub added_permissions : List GroupData → List ℕ → Option (List Permission)
added_permissions groups name = option_map (λ g. g.permissions) (find (is_group name) groups)

-- what the group of a name has
abbrev pub permissions_of : List GroupData → List ℕ → Option (List Permission)
permissions_of groups name = option_or (built_in name) (added_permissions groups name)

-- whether there is a group of that name
abbrev pub is_known : List GroupData → List ℕ → Bool
is_known groups name = is_some (permissions_of groups name)

-- whether the group of a name grants a permission
abbrev pub group_grants : List GroupData → Permission → List ℕ → Bool
group_grants groups wanted name = option_map_or (grants wanted) (permissions_of groups name) false
