-- A measure as lines of text.
use Rattle.std.specs.Prelude.{ℕ, ℤ, List, [], ◌++◌, codes, decimal, Option, None, Some}
use Rattle.gcode_measure.specs.declared.totals.Extent.{Extent}
use Rattle.gcode_measure.specs.declared.totals.Measure.{Measure}
use Rattle.gcode_measure.specs.Decimal.{micro_text}

-- a line of a name and a count
abbrev pub count_line : List ℕ → ℕ → List ℕ
count_line name n = name ++ decimal n ++ codes "\n"

-- a line of a name and a length in millimetres
abbrev pub length_line : List ℕ → ℤ → List ℕ
length_line name micro = name ++ micro_text micro ++ codes "\n"

-- a line of an axis and its extent, none if there was no move
abbrev pub extent_line : List ℕ → Option Extent → List ℕ
extent_line name None = []
extent_line name (Some extent) = name ++ micro_text extent.low ++ codes " " ++ micro_text extent.high ++ codes "\n"

-- a measure as printed
unfoldable pub measure_text : Measure → List ℕ
measure_text measure =
    count_line (codes "commands ") measure.commands ++ count_line (codes "moves ") measure.moves
    ++ length_line (codes "fed ") measure.fed ++ length_line (codes "drawn ") measure.drawn
    ++ extent_line (codes "X ") measure.x ++ extent_line (codes "Y ") measure.y ++ extent_line (codes "Z ") measure.z
