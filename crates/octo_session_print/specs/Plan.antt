-- What one print issues, in order.
use Rattle.std.specs.Prelude.{ℕ, Bool, ◌&&◌, ◌||◌, nat_eq, List, [], ◌∷◌, ◌++◌, take, if◌then◌else◌}
use Rattle.std.specs.Cmp.Lexicographic.{pointwise}
use Rattle.gcode_lines.specs.Job.{texts_of}
use Rattle.temp_rules.specs.declared.limits.Limits.{Limits}
use Rattle.job_desk.specs.Data.{ScriptTexts, File, Line, script_lines}
use Rattle.job_desk.specs.Plain.{numbered}
use Rattle.job_desk.specs.declared.state.Point.TheVariants as point
use Rattle.octo_session.specs.Plan.{poll, probe}

-- whether a text is a poll, or, if `ok`s have numbers, a probe
abbrev pub is_poll : Bool → List ℕ → Bool
is_poll numbered text = pointwise nat_eq text poll || (numbered && pointwise nat_eq text probe)

-- the texts but for polls and probes
abbrev pub without_polls : Bool → List (List ℕ) → List (List ℕ)
without_polls numbered [] = []
without_polls numbered (text ∷ texts) =
    if is_poll numbered text then without_polls numbered texts else text ∷ without_polls numbered texts

-- what a print is made of: whether its printer's `ok`s have numbers, its scripts, the limits of its commands, and its file
pub record PrintData : Type 0 where
  pub numbered : Bool
  pub scripts : ScriptTexts
  pub limits : Limits
  pub file : File

-- the file's commands
abbrev pub print_commands : PrintData → List (List ℕ)
print_commands p = texts_of p.file.job

-- The plan as the desk tags its lines. The only print of the connection has the number 1.

-- the lines of the Connected script
abbrev pub connected_lines : PrintData → List Line
connected_lines p = script_lines p.scripts point.Connected 0

-- and after them those of the Started script
abbrev pub started_lines : PrintData → List Line
started_lines p = connected_lines p ++ script_lines p.scripts point.Started 1

-- the first file commands, up to this number
abbrev pub printed_lines : PrintData → ℕ → List Line
printed_lines p count = started_lines p ++ take count (numbered 1 0 (print_commands p))

-- all lines of the print but those of the Disconnect script
abbrev pub done_lines : PrintData → List Line
done_lines p = started_lines p ++ numbered 1 0 (print_commands p) ++ script_lines p.scripts point.Done 1

-- all lines of the plan
abbrev pub plan_lines : PrintData → List Line
plan_lines p = done_lines p ++ script_lines p.scripts point.Disconnect 0
