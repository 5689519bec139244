-- A user's row with what a request names.
use Rattle.std.specs.Prelude.{ℕ, Bool, List, Option, option_map, unwrap_or}
use Rattle.arrayvec.specs.ArrayVec.{ArrayVec}
use Rattle.sha2.specs.Sha256.{sha256}
use Rattle.octo_access.specs.declared.row.UserRow.{UserRow}

-- a former row with a new key, groups and flag; what isn't named stays
abbrev pub changed : UserRow → Option (List ℕ) → Option (ArrayVec (List ℕ)) → Option Bool → UserRow
changed former key groups active =
    record {
      name = former.name;
      digest = unwrap_or (option_map sha256 key) former.digest;
      groups = unwrap_or groups former.groups;
      active = unwrap_or active former.active;
    }
