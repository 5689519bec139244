-- The file of a demo.
use Rattle.std.specs.Prelude.{ℕ, ◌==◌, ◌%◌, if◌then◌else◌, List, ◌++◌, codes, decimal, flat_map}
use Rattle.octo_commands_print.specs.Draws.{draws}

-- the command that a draw names
abbrev pub command_of : ℕ → List ℕ
command_of draw =
    if draw % 4 == 0 then codes "G1 X" ++ decimal (draw % 200)
    else if draw % 4 == 1 then codes "G1 Y" ++ decimal (draw % 200)
    else if draw % 4 == 2 then codes "G1 E" ++ decimal (draw % 200)
    else codes "G4 P" ++ decimal (draw % 50)

-- the lines of draws: the command of each, with its line end
abbrev pub draw_lines : List ℕ → List ℕ
draw_lines = flat_map (λ draw. command_of draw ++ codes "\n")

-- the file: a command for each of its draws
abbrev pub demo_file : (seed commands : ℕ) → List ℕ
demo_file seed commands = draw_lines (draws seed commands)
