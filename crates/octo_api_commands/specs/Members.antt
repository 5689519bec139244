-- The members of JSON bodies. A missing member may have a default; a null isn't missing.
use Rattle.std.specs.Prelude.{◌≡◌, ◌⊎◌, ℕ, Bool, false, List, if◌then◌else◌, pos, Float, Option, Some, None, option_map, option_and_then, Result, Ok, Err}
use Rattle.std.specs.Option.{option_map_or, option_or}
use Rattle.std.specs.Int.{w32}
use Rattle.std.specs.Float.{binary64, float_to_unsigned}
use Rattle.std.specs.Float.Ieee.{eq, of_int}
use Rattle.std.specs.Str.{bytes_eq}
use Rattle.serde_json.specs.Data.{Data}
use Rattle.serde_json.specs.Find.{get, as_str, as_bool, as_number, as_u64, to_float}
use Rattle.byte_text.specs.Number.{in_range}
use Rattle.octo_api_commands.specs.declared.unread.Unread.{Unread}
use Rattle.octo_api_commands.specs.declared.unread.Unread.TheVariants as unread

-- a result is what a reading returns, Wrong if it returns nothing; memory may run out
abbrev pub Gives : {A : Type 0} → Option A → Result A Unread → Type 0
Gives read (Ok a) = read ≡ Some a
Gives read (Err e) = (e ≡ unread.NoMemory) ⊎ ((read ≡ None) × (e ≡ unread.Wrong))

-- a reading of a member that may be missing
abbrev pub or_default : {A : Type 0} → Option A → (Data → Option A) → Option Data → Option A
or_default default read None = default
or_default default read (Some found) = read found

-- a text
abbrev pub text_at : List ℕ → Data → Option (List ℕ)
text_at key body = option_and_then as_str (get key body)

-- the member is this text
abbrev pub is_text_at : List ℕ → List ℕ → Data → Bool
is_text_at key text body = option_map_or (λ found. bytes_eq found text) (text_at key body) false

-- the whole number of 32 bits whose value a float has
abbrev pub whole_float : Float → Option ℕ
whole_float x = if eq (of_int binary64 (pos (float_to_unsigned w32 x))) x then Some (float_to_unsigned w32 x) else None

-- a whole number; one that is written with a point or an exponent counts by its value
abbrev pub as_whole : Data → Option ℕ
as_whole found = option_or (option_and_then as_u64 (as_number found)) (option_and_then whole_float (option_map to_float (as_number found)))

-- a whole number in a range
abbrev pub as_whole_in : ℕ → ℕ → Data → Option ℕ
as_whole_in least most found = option_and_then (in_range least most) (as_whole found)

-- a member with a whole number in a range, which may have a default
abbrev pub whole_at : List ℕ → ℕ → ℕ → Option ℕ → Data → Option ℕ
whole_at key least most default body = or_default default (as_whole_in least most) (get key body)

-- a truth value
abbrev pub flag_at : List ℕ → Bool → Data → Option Bool
flag_at key default body = or_default (Some default) as_bool (get key body)

-- a member that may be missing, as an option
abbrev pub optional : {A : Type 0} → (Data → Option A) → Option Data → Option (Option A)
optional read found = or_default (Some None) (λ value. option_map Some (read value)) found
