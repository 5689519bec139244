-- What a user may do, and whom a key names.
use Rattle.std.specs.Prelude.{ℕ, ◌==◌, Bool, true, ◌&&◌, List, [], ◌∷◌, length, codes, if◌then◌else◌, Option, None, Some, option_map}
use Rattle.std.specs.List.{find, list_any, filter}
use Rattle.std.specs.Option.{option_or}
use Rattle.std.specs.Str.{bytes_eq}
use Rattle.sha2.specs.Sha256.{sha256}
use Rattle.octo_access.specs.Groups.{group_grants}
use Rattle.octo_access.specs.Rows.{has_digest}
use Rattle.octo_access.specs.declared.permission.Permission.{Permission}
use Rattle.octo_access.specs.declared.policy.Policy.{Policy}
use Rattle.octo_access.specs.declared.row.Admin.{Admin}
use Rattle.octo_access.specs.declared.row.UserRow.{UserRow}

-- whether a user has a permission: one of his groups grants it
abbrev pub has : Policy → UserRow → Permission → Bool
has policy user wanted = list_any (group_grants policy.groups wanted) user.groups.items

-- the admin as a user of the group admins
abbrev pub admin_row : Admin → UserRow
admin_row admin = record { name = admin.name; digest = admin.digest; groups = record { items = codes "admins" ∷ [] }; active = true }

-- whether an active user has that key
abbrev pub is_caller : List ℕ → UserRow → Bool
is_caller digest row = row.active && has_digest digest row

-- the admin, if there is one that passes a test
abbrev pub admin_if : (Admin → Bool) → Option Admin → Option Admin
admin_if test None = None
admin_if test (Some admin) = if test admin then Some admin else None

-- the admin, if that is his key
abbrev pub admin_with_key : List ℕ → Option Admin → Option Admin
admin_with_key digest admin = admin_if (λ a. bytes_eq a.digest digest) admin

-- whom a key's digest names: the admin, or else an active user
abbrev pub caller_of : Policy → List UserRow → List ℕ → Option UserRow
caller_of policy rows digest = option_or (option_map admin_row (admin_with_key digest policy.admin)) (find (is_caller digest) rows)

-- whom a key names: nobody if it is empty
abbrev pub caller : Policy → List UserRow → List ℕ → Option UserRow
caller policy rows key = if length key == 0 then None else caller_of policy rows (sha256 key)
