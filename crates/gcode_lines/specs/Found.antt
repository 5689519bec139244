-- What reading a file finds: the places of its commands, or why it is refused.
use Rattle.std.specs.Prelude.{◌≡◌, ℕ, ◌+◌, ◌≤◌, ◌⊎◌, List, length, All, Ok, Err}
use Rattle.gcode_lines.specs.declared.fault.FileFault.{FileFault}
use Rattle.gcode_lines.specs.declared.fault.FileFault.TheVariants.{NoMemory}
use Rattle.gcode_lines.specs.Job.{most_bytes}
use Rattle.gcode_lines.specs.Commands.{job_of}
use Rattle.gcode_lines.specs.Packed.{PlacesData, job_at, EndsIn}

-- these are the places of all commands of the file
pub record AreFound (file : List ℕ) (places : PlacesData) : Type 0 where
  pub job : job_of file ≡ Ok (job_at file places)
  pub ends : All (EndsIn file) places.entries
  pub lines : length places.entries + places.skipped ≤ most_bytes
  pub size : length file ≤ most_bytes

-- the file is refused for this, or memory ran out
abbrev pub IsRefused : List ℕ → FileFault → Type 0
IsRefused file fault = (fault ≡ NoMemory) ⊎ (job_of file ≡ Err fault)
