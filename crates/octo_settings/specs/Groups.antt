-- The groups of settings.
use Rattle.std.specs.Prelude.{ℕ, Bool, ◌&&◌, not, nat_le, if◌then◌else◌, List, [], ◌∷◌, ◌++◌, length, take, codes, Option, Result, Ok, Err}
use Rattle.toml.specs.Data.{Data}
use Rattle.octo_access.specs.Groups.{GroupData, most_groups, is_known}
use Rattle.octo_access.specs.Names.{is_name}
use Rattle.octo_access.specs.Permissions.{permission_named}
use Rattle.octo_access.specs.declared.permission.Permission.{Permission}
use Rattle.octo_settings.specs.Values.{and_then, each, in_range, section, text_values, members_list}
use Rattle.octo_settings.specs.declared.fault.SettingsFault.{SettingsFault}
use Rattle.octo_settings.specs.declared.fault.SettingsFault.TheVariants.{OutOfRange}

-- the key of a group: at most the first 93 bytes of its name
abbrev pub group_key : List ℕ → List ℕ
group_key name = codes "groups." ++ take 93 name

-- the permission of a name
abbrev pub permission_of : List ℕ → List ℕ → Result Permission SettingsFault
permission_of key text = in_range key (permission_named text)

-- the permissions of a list of names
abbrev pub permissions_of : List ℕ → Data → Result (List Permission) SettingsFault
permissions_of key value = and_then (text_values key value) (each (permission_of key))

-- whether a text may name one more group: it is a name, and there is no group of that name
abbrev pub is_new_name : List GroupData → List ℕ → Bool
is_new_name groups name = is_name name && not (is_known groups name)

-- groups with one more
abbrev pub with_group : List ℕ → Data → List GroupData → Result (List GroupData) SettingsFault
with_group name value groups =
    if is_new_name groups name then
    and_then (permissions_of (group_key name) value) (λ permissions. Ok (groups ++ record { name = name; permissions = permissions } ∷ []))
    else Err (OutOfRange (codes "groups"))

-- groups with those of a table, one after the other
abbrev pub with_groups : List (List ℕ × Data) → List GroupData → Result (List GroupData) SettingsFault
with_groups [] groups = Ok groups
with_groups (m ∷ members) groups = and_then (with_group m.0 m.1 groups) (with_groups members)

-- the groups of a table of at most 16, in the order of their names
abbrev pub groups_in : List (List ℕ × Data) → Result (List GroupData) SettingsFault
groups_in members = if nat_le (length members) most_groups then with_groups members [] else Err (OutOfRange (codes "groups"))

-- the groups of the section `groups`, none if it is missing
abbrev pub groups_of : Option Data → Result (List GroupData) SettingsFault
groups_of value = and_then (section (codes "groups") value) (λ members. groups_in (members_list members))
