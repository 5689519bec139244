-- What arguments that ask for a floor come to.
use Rattle.std.specs.Prelude.{◌≡◌, ◌⊎◌, ℕ, List, Option, None, Some, option_and_then}
use Rattle.octo_outside.specs.Recorded.{Adds, AddsPrefix, Rose}
use Rattle.octo_outside.specs.Traits.{Files}
use Rattle.octo_words.specs.Words.{command_of}
use Rattle.octo_words.specs.declared.command.Command.{Command}
use Rattle.octo_words.specs.declared.command.Command.TheVariants as command
use Rattle.octo_files.specs.declared.report.Report.TheVariants as report
use Rattle.octo_floor.specs.Floor.{FloorData}
use Rattle.octo_floor_command.specs.Beginning.{Around}
use Rattle.octo_floor_command.specs.Reports.{floor_report_code, floor_report_text}
use Rattle.octo_floor_command.specs.Running.{Floors, HasFloorCauses}
use Rattle.octo_floor_command.specs.declared.report.FloorReport.{FloorReport}
use Rattle.octo_floor_command.specs.declared.report.FloorReport.TheVariants as floor

-- the settings' file and the turns of a command that runs a floor
abbrev pub floor_asked : Command → Option (List ℕ × ℕ)
floor_asked (command.Floor folder database settings turns) = Some (settings, turns)
floor_asked asked = None

-- the same of the command that arguments are
abbrev pub floor_in_words : List (List ℕ) → Option (List ℕ × ℕ)
floor_in_words words = option_and_then floor_asked (command_of words)

-- what such arguments come to: memory runs out before the command is known, or a floor is run
pub data FloorComes (files : Option Files) (asked : List ℕ × ℕ) (old new : Around) (r : FloorReport) (known : Option FloorData) : Type 0 where
  out_of_memory : r ≡ floor.Command report.NoMemory → new ≡ old → known ≡ None → FloorComes files asked old new r known
  floored : Floors files asked.0 asked.1 old new r known → FloorComes files asked old new r known

-- a failure is reported only if the object's count rose
pub record HasAllFloorCauses (source source' : ℕ) (old new : Around) (r : FloorReport) : Type 0 where
  pub source_failed : r ≡ floor.Command report.SourceFailed → Rose source source'
  pub flooring : HasFloorCauses old new r

-- a report was written and its status returned, or the sink failed
abbrev pub IsFloorWritten : FloorReport → ℕ → Option (List ℕ) → Option (List ℕ) → Type 0
IsFloorWritten r code old new =
    ((code ≡ floor_report_code r) × Adds old new (floor_report_text r)) ⊎ ((code ≡ 8) × AddsPrefix old new (floor_report_text r))
