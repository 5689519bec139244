-- Which files of a floor's queue can be printed.
use Rattle.std.specs.Prelude.{◌≡◌, List, ℕ, Option, Some, None, Result, Ok, Err}
use Rattle.gcode_lines.specs.Job.{JobData}
use Rattle.temp_rules.specs.Hot.{first_hot_of}
use Rattle.temp_rules.specs.declared.job.HotLine.{HotLine}
use Rattle.temp_rules.specs.declared.limits.Limits.{Limits}
use Rattle.octo_asks.specs.declared.answer.Answer.{Answer}
use Rattle.octo_house_tables.specs.Reading.{job_at}
use Rattle.octo_keeper.specs.declared.shelf.ShelfFile.{ShelfFile}

-- the commands, unless one of them is too hot
abbrev pub unless_hot : Option HotLine → JobData → Option JobData
unless_hot None job = Some job
unless_hot (Some hot) job = None

-- the commands of a file, unless it is missing, refused or too hot
abbrev pub cool_job : Limits → Result JobData Answer → Option JobData
cool_job limits (Ok job) = unless_hot (first_hot_of limits job.commands) job
cool_job limits (Err missed) = None

-- what can be printed of the file of this name
abbrev pub printable : Limits → List ℕ → List ShelfFile → Option JobData
printable limits name files = cool_job limits (job_at name files)
