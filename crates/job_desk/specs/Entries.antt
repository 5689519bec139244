-- The scripts that wait, as lines.
use Rattle.std.specs.Prelude.{◌<◌, List, [], ◌∷◌, ◌++◌, length, drop}
use Rattle.job_desk.specs.Data.{ScriptTexts, Line, script_lines, texts_at}
use Rattle.job_desk.specs.declared.waiting.Entry.{Entry}

-- the lines that are left of a script
abbrev pub entry_lines : ScriptTexts → Entry → List Line
entry_lines scripts entry = drop entry.next (script_lines scripts entry.point entry.print)

-- the lines of scripts, one script after the other
abbrev pub lines_left : ScriptTexts → List Entry → List Line
lines_left scripts [] = []
lines_left scripts (entry ∷ entries) = entry_lines scripts entry ++ lines_left scripts entries

-- each of them has a line left
abbrev pub HaveLines : ScriptTexts → List Entry → Type 0
HaveLines scripts [] = Unit {0}
HaveLines scripts (entry ∷ entries) = (entry.next < length (texts_at entry.point scripts)) × HaveLines scripts entries
