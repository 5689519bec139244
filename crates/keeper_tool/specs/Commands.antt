-- The command that the arguments are.
use Rattle.std.specs.Prelude.{ℕ, nat_le, if◌then◌else◌, ◌&&◌, List, [], ◌∷◌, Option, Some, None, length, codes}
use Rattle.std.specs.Str.{bytes_eq}
use Rattle.byte_text.specs.Number.{number_in}
use Rattle.keeper_tool.specs.declared.command.Command.{Command}
use Rattle.keeper_tool.specs.declared.command.Task.{Task}
use Rattle.keeper_tool.specs.declared.command.Task.TheVariants.{Show, Add}

-- a task on the database of that path, which has 1 to 100 bytes
abbrev pub on_file : List ℕ → Task → Option Command
on_file file task = if nat_le 1 (length file) && nat_le (length file) 100 then Some (record { file = file; task = task }) else None

-- this number of prints is added
abbrev pub adding : List ℕ → Option ℕ → Option Command
adding file (Some prints) = on_file file (Add prints)
adding file None = None

-- the word `prints` and a number
abbrev pub prints_command : List ℕ → List ℕ → List ℕ → Option Command
prints_command file word number = if bytes_eq word (codes "prints") then adding file (number_in number) else None

-- the command that these arguments are, none for all others
abbrev pub command_of : List (List ℕ) → Option Command
command_of (file ∷ []) = on_file file Show
command_of (file ∷ word ∷ number ∷ []) = prints_command file word number
command_of _ = None
