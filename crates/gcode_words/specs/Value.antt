-- Numbers at the front of a text, in millionths.
use Rattle.std.specs.Prelude.{ℕ, ◌+◌, ◌*◌, ℤ, pos, neg_ℤ, Bool, true, false, ◌||◌, if◌then◌else◌, ◌==◌, nat_lt, List, [], ◌∷◌, ◌++◌, length, take, drop, replicate, Option, None, Some}
use Rattle.std.specs.Option.{option_map}
use Rattle.byte_text.specs.Number.{leading_digits, decimal_value}

-- a number at the front of a text, in whole millionths, and what follows it
pub record NumberAt : Type 0 where
  pub micro : ℤ
  pub rest : List ℕ

-- the same without its sign
pub record MagnitudeAt : Type 0 where
  pub micro : ℕ
  pub rest : List ℕ

-- the first six decimals in millionths, filled up with zeros if there are fewer
unfoldable pub millionths : List ℕ → ℕ
millionths decimals = decimal_value (take 6 (decimals ++ replicate 6 48))

-- the digits before and after the point as whole millionths; above 9,000,000,000,000 it is that number and has no fraction
unfoldable pub micro_of : List ℕ → List ℕ → ℕ
micro_of whole decimals =
    if nat_lt 9000000000000 (decimal_value whole)
    then 9000000000000 * 1000000
    else decimal_value whole * 1000000 + millionths decimals

-- what follows the digits at the front
unfoldable pub after_digits : List ℕ → List ℕ
after_digits bytes = drop (length (leading_digits bytes)) bytes

-- the digits after a point at the front, none without such a point
unfoldable pub decimals_at : List ℕ → List ℕ
decimals_at [] = []
decimals_at (byte ∷ bytes) = if byte == 46 then leading_digits bytes else []

-- what follows a point at the front and its digits
unfoldable pub after_decimals : List ℕ → List ℕ
after_decimals [] = []
after_decimals (byte ∷ bytes) = if byte == 46 then after_digits bytes else byte ∷ bytes

-- digits with at most one point after them or among them, in millionths; nothing without a digit
unfoldable pub magnitude_at : List ℕ → Option MagnitudeAt
magnitude_at bytes =
    if length (leading_digits bytes) + length (decimals_at (after_digits bytes)) == 0
    then None
    else Some (record {
      micro = micro_of (leading_digits bytes) (decimals_at (after_digits bytes));
      rest = after_decimals (after_digits bytes);
    })

-- a magnitude below zero, or not
abbrev pub with_sign : Bool → MagnitudeAt → NumberAt
with_sign true magnitude = record { micro = neg_ℤ (pos magnitude.micro); rest = magnitude.rest }
with_sign false magnitude = record { micro = pos magnitude.micro; rest = magnitude.rest }

-- whether `-` is at the front
abbrev pub is_negative : List ℕ → Bool
is_negative [] = false
is_negative (byte ∷ bytes) = byte == 45

-- what follows a sign at the front
abbrev pub after_sign : List ℕ → List ℕ
after_sign [] = []
after_sign (byte ∷ bytes) = if byte == 45 || byte == 43 then bytes else byte ∷ bytes

-- a number at the front: a sign `+` or `-` or none, digits, and after a point digits again
unfoldable pub number_at : List ℕ → Option NumberAt
number_at bytes = option_map (with_sign (is_negative bytes)) (magnitude_at (after_sign bytes))
