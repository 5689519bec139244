-- A file that is to be stored, with the commands that were found in it.
use Rattle.std.specs.Prelude.{◌≡◌, ◌⊎◌, ℕ, List, Result, Ok, Err}
use Rattle.gcode_lines.specs.Commands.{job_of}
use Rattle.gcode_lines.specs.Job.{JobData}
use Rattle.gcode_lines.specs.declared.fault.FileFault.TheVariants.{NoMemory}
use Rattle.octo_asks.specs.declared.upload.RefusedFile.{RefusedFile}

-- the bytes of a file that was read
abbrev pub bytes_of_read : Result JobData RefusedFile → List ℕ
bytes_of_read (Ok job) = job.file
bytes_of_read (Err refused) = refused.bytes

-- the job is that of the file's bytes, or the fault is, unless memory ran out
abbrev pub IsRead : Result JobData RefusedFile → Type 0
IsRead (Ok job) = job_of job.file ≡ Ok job
IsRead (Err refused) = (refused.fault ≡ NoMemory) ⊎ (job_of refused.bytes ≡ Err refused.fault)
