-- Which texts are names of print files.
use Rattle.std.specs.Prelude.{ℕ, ◌-◌, ◌==◌, Bool, false, ◌&&◌, ◌||◌, not, nat_le, codes, List, [], ◌∷◌, length, drop, if◌then◌else◌, Option, Some, None}
use Rattle.std.specs.Str.{str_eq_ignore_ascii_case}
use Rattle.octo_access.specs.Names.{is_name}

-- the text ends so, in any case of its letters
abbrev pub has_ending : List ℕ → List ℕ → Bool
has_ending ending text =
    nat_le (length ending) (length text) && str_eq_ignore_ascii_case (drop (length text - length ending) text) ending

-- the text ends as the name of a print file
abbrev pub is_gcode : List ℕ → Bool
is_gcode text = has_ending (codes ".gcode") text || (has_ending (codes ".gco") text || has_ending (codes ".g") text)

-- the text begins with a full stop
abbrev pub is_hidden : List ℕ → Bool
is_hidden [] = false
is_hidden (byte ∷ bytes) = byte == 46

-- the name of a file
abbrev pub is_file_name : List ℕ → Bool
is_file_name text = is_name text && (not (is_hidden text) && is_gcode text)

-- a text as the name of a file
abbrev pub file_name_of : List ℕ → Option (List ℕ)
file_name_of text = if is_file_name text then Some text else None
