-- Names of users, groups, queue entries and materials.
use Rattle.std.specs.Prelude.{ℕ, ◌==◌, Bool, ◌&&◌, ◌||◌, nat_le, List, length, codes, if◌then◌else◌, Option, None, Some}
use Rattle.std.specs.Char.{is_ascii_alphanumeric}
use Rattle.std.specs.List.{list_all, list_any}

-- a byte that a name may have
abbrev pub is_name_byte : ℕ → Bool
is_name_byte byte = is_ascii_alphanumeric byte || list_any (λ b. b == byte) (codes "._-()+")

-- whether a text is a name: 1 to 100 such bytes
abbrev pub is_name : List ℕ → Bool
is_name text = nat_le 1 (length text) && (nat_le (length text) 100 && list_all is_name_byte text)

-- a text as a name
abbrev pub name_of : List ℕ → Option (List ℕ)
name_of text = if is_name text then Some text else None
