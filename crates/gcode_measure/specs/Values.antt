-- The values that a command has for the axes.
use Rattle.std.specs.Prelude.{ℕ, ◌==◌, ℤ, pos, Bool, false, ◌||◌, ◌&&◌, not, if◌then◌else◌, List, [], ◌∷◌, Option, None, Some}
use Rattle.std.specs.List.{list_any}
use Rattle.std.specs.Option.{option_or}
use Rattle.gcode_words.specs.Words.{words_of}
use Rattle.gcode_words.specs.declared.word.CodeWord.{CodeWord}
use Rattle.gcode_measure.specs.declared.kind.Kind.{Kind}
use Rattle.gcode_measure.specs.declared.kind.Kind.TheVariants.{Move, Inches, Home, AllAbsolute, AllRelative, SetPosition, AbsoluteExtruder, RelativeExtruder, Other}
use Rattle.gcode_measure.specs.declared.values.Axis.{Axis}
use Rattle.gcode_measure.specs.declared.values.Axis.TheVariants.{X, Y, Z, E}
use Rattle.gcode_measure.specs.declared.values.Values.{Values}
use Rattle.gcode_measure.specs.Kind.{kind_of}

-- the letter of an axis
abbrev pub letter_of : Axis → ℕ
letter_of X = 88
letter_of Y = 89
letter_of Z = 90
letter_of E = 69

-- the first number of a letter among arguments
abbrev pub first_number : ℕ → List CodeWord → Option ℤ
first_number letter [] = None
first_number letter (word ∷ words) =
    if word.letter == letter then option_or word.micro (first_number letter words) else first_number letter words

-- whether a letter is among arguments, with or without a number
abbrev pub is_named : ℕ → List CodeWord → Bool
is_named letter words = list_any (λ word. word.letter == letter) words

-- whether none of X, Y and Z is among arguments
abbrev pub names_none : List CodeWord → Bool
names_none words = not (is_named 88 words) && not (is_named 89 words) && not (is_named 90 words)

-- whether `G28` with these arguments sends an axis to its end
abbrev pub is_homed : Axis → List CodeWord → Bool
is_homed X words = is_named 88 words || names_none words
is_homed Y words = is_named 89 words || names_none words
is_homed Z words = is_named 90 words || names_none words
is_homed E words = false

-- 0 for an axis that goes to its end
abbrev pub end_value : Bool → Option ℤ
end_value is = if is then Some (pos 0) else None

-- the value of a command of a kind for an axis
abbrev pub value_by : Kind → Axis → List CodeWord → Option ℤ
value_by Move axis words = first_number (letter_of axis) words
value_by SetPosition axis words = first_number (letter_of axis) words
value_by Home axis words = end_value (is_homed axis words)
value_by Inches axis words = None
value_by AllAbsolute axis words = None
value_by AllRelative axis words = None
value_by AbsoluteExtruder axis words = None
value_by RelativeExtruder axis words = None
value_by Other axis words = None

-- the value of a command for an axis: where it moves it or how far, what it sets it to, 0 at its end
unfoldable pub value_of : Axis → List ℕ → Option ℤ
value_of axis text = value_by (kind_of text) axis (words_of text)

-- no values
abbrev pub no_values : Values
no_values = record { x = None; y = None; z = None; e = None }

-- values, and the numbers of the other arguments for the axes that have none
abbrev pub with_numbers : Values → List CodeWord → Values
with_numbers values words =
    record {
      x = option_or values.x (first_number 88 words);
      y = option_or values.y (first_number 89 words);
      z = option_or values.z (first_number 90 words);
      e = option_or values.e (first_number 69 words);
    }

-- the first number of each axis
abbrev pub numbers_of : List CodeWord → Values
numbers_of words = with_numbers no_values words

-- the values of a command of a kind
abbrev pub values_by : Kind → List CodeWord → Values
values_by kind words =
    record { x = value_by kind X words; y = value_by kind Y words; z = value_by kind Z words; e = value_by kind E words }
