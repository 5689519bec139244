-- Why a user isn't added or changed.
use Rattle.std.specs.Prelude.{ℕ, ◌==◌, Bool, ◌||◌, not, List, [], length, if◌then◌else◌, Option, None, Some, is_some, option_map}
use Rattle.std.specs.List.{find, list_any}
use Rattle.std.specs.Option.{option_or}
use Rattle.std.specs.Str.{bytes_eq}
use Rattle.octo_access.specs.Groups.{is_known}
use Rattle.octo_access.specs.Rights.{admin_if, admin_with_key}
use Rattle.octo_access.specs.Rows.{has_digest, row_named, most_users}
use Rattle.octo_access.specs.declared.policy.Policy.{Policy}
use Rattle.octo_access.specs.declared.refusal.UserRefusal.{UserRefusal}
use Rattle.octo_access.specs.declared.refusal.UserRefusal.TheVariants as refusal
use Rattle.octo_access.specs.declared.row.UserRow.{UserRow}

-- whether a name is among others
abbrev pub is_among : List ℕ → List (List ℕ) → Bool
is_among name names = list_any (λ n. bytes_eq n name) names

-- whether a user may not be in a group: the policy doesn't have it, and he wasn't in it before
abbrev pub is_barred : Policy → List (List ℕ) → List ℕ → Bool
is_barred policy former group = not (is_known policy.groups group || is_among group former)

-- the first group that a user may not be in
abbrev pub bad_group : Policy → List (List ℕ) → UserRow → Option UserRefusal
bad_group policy former row = option_map (λ g. refusal.BadGroup g) (find (is_barred policy former) row.groups.items)

-- a name that the admin or a row has
abbrev pub name_taken : Policy → List ℕ → List UserRow → Option UserRefusal
name_taken policy name rows =
    if is_some (admin_if (λ a. bytes_eq a.name name) policy.admin) || is_some (row_named name rows) then Some refusal.NameTaken else None

-- the name of whoever has a key, the admin first
abbrev pub holder : Policy → List ℕ → List UserRow → Option (List ℕ)
holder policy digest rows =
    option_or (option_map (λ a. a.name) (admin_with_key digest policy.admin)) (option_map (λ r. r.name) (find (has_digest digest) rows))

-- a key that somebody has
abbrev pub key_taken : Policy → List ℕ → List UserRow → Option UserRefusal
key_taken policy digest rows = option_map (λ name. refusal.KeyTaken name) (holder policy digest rows)

-- no room for one more row
abbrev pub full : List UserRow → Option UserRefusal
full rows = if length rows == most_users then Some (refusal.Full most_users) else None

-- why a user isn't added, memory aside: the first of these that holds
abbrev pub put_refusal : Policy → UserRow → List UserRow → Option UserRefusal
put_refusal policy row rows =
    option_or (bad_group policy [] row) (option_or (name_taken policy row.name rows) (option_or (key_taken policy row.digest rows) (full rows)))

-- a key is new if the former row had another one
abbrev pub new_key_taken : Policy → UserRow → UserRow → List UserRow → Option UserRefusal
new_key_taken policy former row rows = if has_digest row.digest former then None else key_taken policy row.digest rows

-- why a user isn't changed, by his former row
abbrev pub refusal_after : Policy → Option UserRow → UserRow → List UserRow → Option UserRefusal
refusal_after policy None row rows = option_or (bad_group policy [] row) (Some refusal.NoUser)
refusal_after policy (Some former) row rows =
    option_or (bad_group policy former.groups.items row) (new_key_taken policy former row rows)

-- why a user isn't changed
abbrev pub change_refusal : Policy → UserRow → List UserRow → Option UserRefusal
change_refusal policy row rows = refusal_after policy (row_named row.name rows) row rows
