-- A command's place, length and line packed into an entry of 64 bits, and what such an entry names in a file.
use Rattle.std.specs.Prelude.{ℕ, ◌+◌, ◌-◌, ◌/◌, ◌%◌, ◌^◌, ◌≤◌, not, ◌==◌, List, [], ◌∷◌, ◌++◌, length, take, drop, map}
use Rattle.std.specs.List.{suffix_len}
use Rattle.gcode_lines.specs.Job.{Command, JobData, entry_of}
use Rattle.gcode_lines.specs.Commands.{FileLine, commands_in, skipped_in}

-- the place in the file that an entry names
abbrev pub begin_in : ℕ → ℕ
begin_in entry = entry % 2 ^ 28

-- the length that an entry names
abbrev pub length_in : ℕ → ℕ
length_in entry = entry / 2 ^ 28 % 2 ^ 7

-- the line that an entry names
abbrev pub line_in : ℕ → ℕ
line_in entry = entry / 2 ^ 35

-- the first place of the line in which a place of a file is
abbrev pub line_start : List ℕ → ℕ → ℕ
line_start file place = place - suffix_len (λ byte. not (byte == 10)) (take place file)

-- the command that an entry names in a file
abbrev pub command_in : List ℕ → ℕ → Command
command_in file entry = record {
  text = take (length_in entry) (drop (begin_in entry) file);
  line = line_in entry;
  place = line_start file (begin_in entry);
  begin = begin_in entry;
}

-- the entries of the commands found so far, and how many lines hold none
pub record PlacesData : Type 0 where
  pub entries : List ℕ
  pub skipped : ℕ

-- these after one more line
abbrev pub places_after : PlacesData → FileLine → PlacesData
places_after places line = record {
  entries = places.entries ++ map entry_of (commands_in (line ∷ []));
  skipped = places.skipped + skipped_in (line ∷ []);
}

-- the job of a file in which these were found
abbrev pub job_at : List ℕ → PlacesData → JobData
job_at file places = record {
  file = file;
  commands = map (command_in file) places.entries;
  skipped = places.skipped;
  bytes = length file;
}

-- the text that an entry names ends in the file
abbrev pub EndsIn : List ℕ → ℕ → Type 0
EndsIn file entry = begin_in entry + length_in entry ≤ length file
