-- The words of a command: letters with their numbers.
use Rattle.std.specs.Prelude.{ℕ, ℤ, if◌then◌else◌, List, [], ◌∷◌, Option}
use Rattle.std.specs.Char.{is_ascii_alphabetic, to_ascii_uppercase}
use Rattle.std.specs.Option.{option_map}
use Rattle.gcode_words.specs.Value.{number_at}
use Rattle.gcode_words.specs.declared.word.CodeWord.{CodeWord}

-- the number that follows at once, in millionths
unfoldable pub value_at : List ℕ → Option ℤ
value_at bytes = option_map (λ n. n.micro) (number_at bytes)

-- the words of a text: each letter, in upper case, with the number that follows it at once
abbrev pub words_of : List ℕ → List CodeWord
words_of [] = []
words_of (byte ∷ bytes) =
    if is_ascii_alphabetic byte
    then record { letter = to_ascii_uppercase byte; micro = value_at bytes } ∷ words_of bytes
    else words_of bytes
