-- The bytes, the size and the job of a file that the shelf holds.
use Rattle.std.specs.Prelude.{◌≡◌, ◌⊎◌, ℕ, Bool, false, List, Option, None, Some, Result, Ok, Err}
use Rattle.gcode_lines.specs.Commands.{job_of}
use Rattle.gcode_lines.specs.Job.{JobData}
use Rattle.gcode_lines.specs.declared.fault.FileFault.{FileFault}
use Rattle.gcode_lines.specs.declared.fault.FileFault.TheVariants as file_fault
use Rattle.octo_keeper.specs.Files.{bytes_of, size_of}
use Rattle.octo_keeper.specs.declared.shelf.ShelfFile.{ShelfFile}
use Rattle.octo_asks.specs.declared.answer.Answer.{Answer}
use Rattle.octo_asks.specs.declared.answer.Answer.TheVariants as answer
use Rattle.octo_house_rules.specs.Faults.{is_keepers, is_shelfs}

-- why a file has no job
abbrev pub answer_of_file_fault : FileFault → Answer
answer_of_file_fault file_fault.NoMemory = answer.NoMemory
answer_of_file_fault fault = answer.BadFile fault

-- bytes that were found, or the answer that the file is missing
abbrev pub found_bytes : Option (List ℕ) → Result (List ℕ) Answer
found_bytes None = Err answer.NoFile
found_bytes (Some bytes) = Ok bytes

-- the bytes of a name, or why there are none
abbrev pub bytes_at : List ℕ → List ShelfFile → Result (List ℕ) Answer
bytes_at name files = found_bytes (bytes_of name files)

-- a size that was found, or the answer that the file is missing
abbrev pub found_size : Option ℕ → Result ℕ Answer
found_size None = Err answer.NoFile
found_size (Some size) = Ok size

-- the size of a name's bytes, or why there are none
abbrev pub size_at : List ℕ → List ShelfFile → Result ℕ Answer
size_at name files = found_size (size_of name files)

-- a job, or the answer why a file has none
abbrev pub job_or : Result JobData FileFault → Result JobData Answer
job_or (Ok job) = Ok job
job_or (Err fault) = Err (answer.BadFile fault)

-- the job of bytes, if they were found
abbrev pub job_in : Result (List ℕ) Answer → Result JobData Answer
job_in (Ok bytes) = job_or (job_of bytes)
job_in (Err x) = Err x

-- the job of a name, or why there is none
abbrev pub job_at : List ℕ → List ShelfFile → Result JobData Answer
job_at name files = job_in (bytes_at name files)

-- what reading it may return: it, or a fault
abbrev pub IsReadAs : {A : Type 0} → Result A Answer → Result A Answer → Type 0
IsReadAs wanted got = (got ≡ wanted) ⊎ ((got ≡ Err answer.ShelfFault) ⊎ (got ≡ Err answer.NoMemory))

-- that is so of some files: whatever the shelf records, what it returned fits these
abbrev pub IsReadOfSome : {A : Type 0} → (List ShelfFile → Result A Answer) → Result A Answer → Type 0
IsReadOfSome wanted got = (files : List ShelfFile) × IsReadAs (wanted files) got

-- whether the keeper failed
abbrev pub is_keepers_fault : {A : Type 0} → Result A Answer → Bool
is_keepers_fault (Ok a) = false
is_keepers_fault (Err x) = is_keepers x

-- whether the shelf failed
abbrev pub is_shelfs_fault : {A : Type 0} → Result A Answer → Bool
is_shelfs_fault (Ok a) = false
is_shelfs_fault (Err x) = is_shelfs x
