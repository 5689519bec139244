-- What the fields of a job mean.
use Rattle.std.specs.Prelude.{All}
use Rattle.gcode_lines.specs.declared.job.Job.TheInside.{Inside}
use Rattle.gcode_lines.specs.Job.{JobData, IsJob}
use Rattle.gcode_lines.specs.Packed.{job_at, EndsIn}

-- what a job's fields mean
abbrev pub data_of : Inside → JobData
data_of job = job_at job.file job.places

-- what holds of the fields of every job
pub record IsHeld (fields : Inside) : Type 0 where
  pub job : IsJob (data_of fields)
  pub ends : All (EndsIn fields.file) fields.places.entries
