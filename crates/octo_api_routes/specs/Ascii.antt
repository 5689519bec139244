-- Keys, and bytes of ASCII.
use Rattle.std.specs.Prelude.{ℕ, Bool, ◌&&◌, nat_lt, nat_le, List, length}
use Rattle.std.specs.Char.{is_ascii_alphanumeric}
use Rattle.std.specs.List.{list_all}

-- a byte of ASCII
abbrev pub is_ascii_byte : ℕ → Bool
is_ascii_byte byte = nat_lt byte 128

-- a caller's key: 16 to 64 letters and digits
abbrev pub is_key : List ℕ → Bool
is_key text = nat_le 16 (length text) && (nat_le (length text) 64 && list_all is_ascii_alphanumeric text)
