-- The temperatures that a command asks of a heater.
use Rattle.std.specs.Prelude.{ℕ, ◌+◌, ◌/◌, ◌==◌, ◌||◌, ℤ, pos, negsuc, Bool, if◌then◌else◌, List, [], ◌∷◌, Option, None, Some}
use Rattle.std.specs.List.{filter_map}
use Rattle.gcode_words.specs.Words.{words_of}
use Rattle.gcode_words.specs.declared.word.CodeWord.{CodeWord}
use Rattle.temp_rules.specs.declared.heater.Heater.{Heater}
use Rattle.temp_rules.specs.declared.heater.Heater.TheVariants.{Tool, Bed}
use Rattle.temp_rules.specs.declared.heater.Asking.{Asking}
use Rattle.temp_rules.specs.declared.heater.Asking.TheVariants.{Set, Wait}

-- `M104` or `M140`: the code that sets a heater's target
abbrev pub set_code : Heater → ℕ
set_code Tool = 104
set_code Bed = 140

-- `M109` or `M190`: the code that sets it and waits
abbrev pub wait_code : Heater → ℕ
wait_code Tool = 109
wait_code Bed = 190

-- the whole part of a number that is not below zero
abbrev pub whole_part : Option ℤ → Option ℕ
whole_part None = None
whole_part (Some (pos micro)) = Some (micro / 1000000)
whole_part (Some (negsuc micro)) = None

-- the number of the `M` that the first word is
abbrev pub first_code : List CodeWord → Option ℕ
first_code [] = None
first_code (word ∷ words) = if word.letter == 77 then whole_part word.micro else None

-- how a code asks a heater
abbrev pub asking_code : Heater → Option ℕ → Option Asking
asking_code heater None = None
asking_code heater (Some code) =
    if code == set_code heater then Some Set else (if code == wait_code heater then Some Wait else None)

-- whether the words of a letter ask: `S`, and `R` too if the code waits
abbrev pub asks : Asking → ℕ → Bool
asks Set letter = letter == 83
asks Wait letter = letter == 83 || letter == 82

-- the value that a word asks for, in millionths of a degree
abbrev pub value_asked : Asking → CodeWord → Option ℤ
value_asked asking word = if asks asking word.letter then word.micro else None

-- the values that words ask for
abbrev pub values_asked : Option Asking → List CodeWord → List ℤ
values_asked None words = []
values_asked (Some asking) words = filter_map (value_asked asking) words

-- how a text asks a heater
unfoldable pub asking_of : Heater → List ℕ → Option Asking
asking_of heater text = asking_code heater (first_code (words_of text))

-- the values that a text asks of a heater, in millionths of a degree
unfoldable pub asked_of : Heater → List ℕ → List ℤ
asked_of heater text = values_asked (asking_of heater text) (words_of text)

-- whole degrees, rounded up, 0 for what is not above 0
abbrev pub degrees_up : ℤ → ℕ
degrees_up (pos micro) = (micro + 999999) / 1000000
degrees_up (negsuc micro) = 0
