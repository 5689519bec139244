-- What a corrupted line looks like: its last digit became another one.
use Rattle.std.specs.Prelude.{ℕ, ◌+◌, ◌-◌, ◌%◌, if◌then◌else◌, List, length, slice_index, slice_set}
use Rattle.std.specs.Char.{is_ascii_digit}

-- the next digit, with 0 after 9; another byte stays
unfoldable pub next_digit : ℕ → ℕ
next_digit byte = if is_ascii_digit byte then 48 + (byte - 48 + 1) % 10 else byte

-- a line whose last byte became the next digit
unfoldable pub corrupted : List ℕ → List ℕ
corrupted line = slice_set line (length line - 1) (next_digit (slice_index line (length line - 1)))
