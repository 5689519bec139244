-- Files that were read: the file of a job is the bytes in which it was found.
use Rattle.std.proofs.Common.{◌≡◌, ◌⊎◌, inl, inr, ℕ, Bool, true, false, cond, List, length, Option, None, Some, Result, Ok, Err, refl, sym, ap, subst, ◌∙◌}
use Rattle.std.specs.Prelude.{IfOk, is_ok, nat_lt}
use Rattle.std.proofs.lemmas.Bool.{false≢true}
use Rattle.gcode_lines.specs.Commands.{lines_of, first_fault, unless_fault, job_in, job_of}
use Rattle.gcode_lines.specs.Job.{JobData, most_bytes}
use Rattle.gcode_lines.specs.declared.fault.FileFault.{FileFault}
use Rattle.gcode_lines.specs.declared.fault.FileFault.TheVariants.{TooLarge, NoMemory}
use Rattle.octo_asks.specs.Uploads.{bytes_of_read, IsRead}
use Rattle.octo_asks.specs.declared.upload.RefusedFile.{RefusedFile}

file_by : (large : Bool) (fault : Option FileFault) (bytes : List ℕ)
    → IfOk (cond large (Err (TooLarge (length bytes))) (unless_fault fault (job_in bytes (lines_of bytes)))) (λ job. job.file ≡ bytes)
file_by true fault bytes = tt
file_by false (Some fault) bytes = tt
file_by false None bytes = refl

file_of_job : (bytes : List ℕ) → IfOk (job_of bytes) (λ job. job.file ≡ bytes)
unfolding job_of
file_of_job bytes = file_by (nat_lt most_bytes (length bytes)) (first_fault (lines_of bytes)) bytes

-- the file of the job that was found
pub file_is : (bytes : List ℕ) (job : JobData) → (Ok job ≡ Err NoMemory) ⊎ (Ok job ≡ job_of bytes) → job.file ≡ bytes
file_is bytes job (inl is) = absurd (cc is)
file_is bytes job (inr is) = subst (λ (r : Result JobData FileFault). IfOk r (λ found. found.file ≡ bytes)) (sym is) (file_of_job bytes)

-- it is the job of that file
pub job_is : (bytes : List ℕ) (job : JobData) → (Ok job ≡ Err NoMemory) ⊎ (Ok job ≡ job_of bytes) → job_of job.file ≡ Ok job
job_is bytes job (inl is) = absurd (cc is)
job_is bytes job (inr is) = ap job_of (file_is bytes job (inr is)) ∙ sym is

-- a file that was read and isn't refused has a job
pub has_one : (read : Result JobData RefusedFile) (bytes : List ℕ) → bytes ≡ bytes_of_read read → IsRead read → is_ok read ≡ true
    → (job : JobData) × (job_of bytes ≡ Ok job)
has_one (Ok job) bytes same held on = (job, ap job_of same ∙ held)
has_one (Err refused) bytes same held on = absurd (false≢true on)
