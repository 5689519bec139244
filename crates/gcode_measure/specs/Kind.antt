-- The kinds of commands that move the head or change how it moves.
use Rattle.std.specs.Prelude.{ℕ, ◌%◌, ◌/◌, ◌==◌, nat_le, ℤ, pos, negsuc, if◌then◌else◌, List, [], ◌∷◌, Option, None, Some}
use Rattle.gcode_words.specs.Words.{words_of}
use Rattle.gcode_words.specs.declared.word.CodeWord.{CodeWord}
use Rattle.gcode_measure.specs.declared.kind.Kind.{Kind}
use Rattle.gcode_measure.specs.declared.kind.Kind.TheVariants.{Move, Inches, Home, AllAbsolute, AllRelative, SetPosition, AbsoluteExtruder, RelativeExtruder, Other}

-- the number that a value in millionths is, if it is whole and not below 0
abbrev pub whole_number : Option ℤ → Option ℕ
whole_number None = None
whole_number (Some (pos micro)) = if micro % 1000000 == 0 then Some (micro / 1000000) else None
whole_number (Some (negsuc micro)) = None

-- what a `G` of this number is
abbrev pub g_kind : Option ℕ → Kind
g_kind None = Other
g_kind (Some n) =
    if nat_le n 3 then Move else (if n == 20 then Inches else (if n == 28 then Home
    else (if n == 90 then AllAbsolute else (if n == 91 then AllRelative else (if n == 92 then SetPosition else Other)))))

-- what an `M` of this number is
abbrev pub m_kind : Option ℕ → Kind
m_kind None = Other
m_kind (Some n) = if n == 82 then AbsoluteExtruder else (if n == 83 then RelativeExtruder else Other)

-- what a command of these arguments is, by the first of them
abbrev pub kind_by : List CodeWord → Kind
kind_by [] = Other
kind_by (word ∷ words) =
    if word.letter == 71 then g_kind (whole_number word.micro) else (if word.letter == 77 then m_kind (whole_number word.micro) else Other)

-- what a command is
unfoldable pub kind_of : List ℕ → Kind
kind_of text = kind_by (words_of text)
