-- Numbers of at most three digits after the point.
use Rattle.std.specs.Prelude.{ℕ, ◌==◌, ◌/◌, ◌%◌, Bool, true, false, ◌&&◌, nat_le, List, [], ◌++◌, codes, decimal, if◌then◌else◌, pos, Float, Option, Some, None, option_map, option_and_then}
use Rattle.std.specs.Int.{w32}
use Rattle.std.specs.Float.{binary64, float_to_unsigned}
use Rattle.std.specs.Float.Ieee.{eq, lt, neg, add, mul, div, of_int}
use Rattle.serde_json.specs.Data.{Data}
use Rattle.serde_json.specs.Find.{as_number, to_float}
use Rattle.octo_api_commands.specs.declared.decimals.TheConstants.{ZERO, HALF, THOUSAND, MOST_THOUSANDTHS}
use Rattle.octo_api_commands.specs.declared.decimals.Decimal.{Decimal}

-- the thousandths that a float is nearest to
abbrev pub nearest_thousandths : Float → ℕ
nearest_thousandths x = float_to_unsigned w32 (add binary64 (mul binary64 x THOUSAND) HALF)

-- this number of thousandths, if the float is the one nearest to it and it is at most 99999.999
abbrev pub checked_thousandths : Float → ℕ → Option ℕ
checked_thousandths x n =
    if eq (div binary64 (of_int binary64 (pos n)) THOUSAND) x && nat_le n MOST_THOUSANDTHS then Some n else None

-- the thousandths of a float that isn't below zero
abbrev pub thousandths_of : Float → Option ℕ
thousandths_of x = checked_thousandths x (nearest_thousandths x)

-- a number by its sign and its thousandths
abbrev pub decimal_from : Bool → ℕ → Decimal
decimal_from minus n = record { minus = minus; thousandths = n }

-- a float as such a number
abbrev pub decimal_of : Float → Option Decimal
decimal_of x =
    if lt x ZERO then option_map (decimal_from true) (thousandths_of (neg x)) else option_map (decimal_from false) (thousandths_of x)

-- a JSON number as such a number
abbrev pub as_decimal : Data → Option Decimal
as_decimal found = option_and_then decimal_of (option_map to_float (as_number found))

-- the digits after the point, without zeros at the end; nothing of a whole number
abbrev pub fraction_text : ℕ → List ℕ
fraction_text f =
    if f == 0 then []
    else if f % 100 == 0 then codes "." ++ decimal (f / 100)
    else if f % 10 == 0 then codes "." ++ decimal (f / 100) ++ decimal (f / 10 % 10)
    else codes "." ++ decimal (f / 100) ++ decimal (f / 10 % 10) ++ decimal (f % 10)

-- the sign
abbrev pub sign_text : Bool → List ℕ
sign_text minus = if minus then codes "-" else []

-- the text of a number
abbrev pub decimal_text : Decimal → List ℕ
decimal_text number = sign_text number.minus ++ decimal (number.thousandths / 1000) ++ fraction_text (number.thousandths % 1000)
