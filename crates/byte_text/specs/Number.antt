-- Numbers written in decimal digits.
use Rattle.std.specs.Prelude.{ℕ, Bool, false, ◌&&◌, ◌+◌, ◌-◌, ◌*◌, nat_le, if◌then◌else◌, List, [], ◌∷◌, length, fold, min, Option, Some, None}
use Rattle.std.specs.Char.{is_ascii_digit}
use Rattle.std.specs.List.{list_all, take_while}

-- the greatest number of 32 bits
abbrev pub most_u32 : ℕ
most_u32 = 4294967295

-- the greatest number of 64 bits
abbrev pub most_u64 : ℕ
most_u64 = 18446744073709551615

-- the digits at the front
unfoldable pub leading_digits : List ℕ → List ℕ
leading_digits bytes = take_while is_ascii_digit bytes

-- what a list of digits says in decimal, 0 for none
unfoldable pub decimal_value : List ℕ → ℕ
decimal_value digits = fold (λ n digit. 10 * n + (digit - 48)) 0 digits

-- the number at the front: no digits read as 0, and nothing above the greatest of 32 bits
unfoldable pub number_of : List ℕ → ℕ
number_of bytes = min (decimal_value (leading_digits bytes)) most_u32

-- whether a digit is at the front
unfoldable pub begins_with_digit : List ℕ → Bool
begins_with_digit [] = false
begins_with_digit (byte ∷ bytes) = is_ascii_digit byte

-- whether a text is 1 to most digits
abbrev pub is_whole_number : List ℕ → ℕ → Bool
is_whole_number text most = list_all is_ascii_digit text && (nat_le 1 (length text) && nat_le (length text) most)

-- the number that a text of 1 to most digits writes, and no other text
abbrev pub whole_number : List ℕ → ℕ → Option ℕ
whole_number text most = if is_whole_number text most then Some (decimal_value text) else None

-- a number, if it passes a test
abbrev pub only_if : (ℕ → Bool) → Option ℕ → Option ℕ
only_if test None = None
only_if test (Some n) = if test n then Some n else None

-- the number that a text is: 1 to 10 digits, at most 4,294,967,295
abbrev pub number_in : List ℕ → Option ℕ
number_in text = only_if (λ n. nat_le n most_u32) (whole_number text 10)

-- a number if it is from the least to the most
abbrev pub in_range : (least most : ℕ) → ℕ → Option ℕ
in_range least most number = if nat_le least number && nat_le number most then Some number else None
