-- A print over a prompt link that has enough turns.
use Rattle.std.specs.Prelude.{◌≡◌, ◌⊎◌, ℕ, ◌+◌, ◌≤◌, false, List, length, Option, None, Some, Ok, IsUtf8}
use Rattle.octo_outside.specs.Traits.{Files}
use Rattle.gcode_lines.specs.Job.{JobData}
use Rattle.printer_link.specs.Link.{LinkKind}
use Rattle.octo_session.specs.Smooth.{IsSmooth}
use Rattle.octo_settings.specs.Config.{config, plain_settings}
use Rattle.octo_settings.specs.declared.settings.Settings.{Settings}
use Rattle.octo_words.specs.Words.{command_of}
use Rattle.octo_words.specs.declared.command.Command.TheVariants as command
use Rattle.octo_files.specs.declared.report.Report.{Report}
use Rattle.octo_files.specs.declared.report.Report.TheVariants as report
use Rattle.octo_files.specs.Jobs.{job_in}
use Rattle.octo_commands_print.specs.Printing.{Seen, lines_planned}

-- a source that records what it holds has these bytes in a file
abbrev pub Holds : Option Files → List ℕ → List ℕ → Type 0
Holds None file bytes = ⊥
Holds (Some all) file bytes = all file ≡ Some bytes

-- a file of settings says these
pub record IsSettingsFile (files : Option Files) (name : List ℕ) (s : Settings) : Type 0 where
  pub bytes : List ℕ
  pub held : Holds files name bytes
  pub text : IsUtf8 bytes
  pub settings : config bytes ≡ Ok s

-- the settings of the named file are these, or the defaults if none is named
abbrev pub GiveSettings : Option Files → Option (List ℕ) → Settings → Type 0
GiveSettings files None s = s ≡ plain_settings
GiveSettings files (Some name) s = IsSettingsFile files name s

-- the arguments ask for a print of a file within the limits of its settings, whose sender counts `ok`s, over a prompt link without
-- a fault, in at least 32 turns more than its plan has lines
pub record HasEnough (words : List (List ℕ)) (kind : LinkKind) (files : Option Files) (h : Seen) : Type 0 where
  pub port : List ℕ
  pub file : List ℕ
  pub turns : ℕ
  pub settings : Option (List ℕ)
  pub asked : command_of words ≡ Some (command.Print port file turns settings false)
  pub by : Settings
  pub given : GiveSettings files settings by
  pub counts : by.numbered_oks ≡ false
  pub bytes : List ℕ
  pub held : Holds files file bytes
  pub job : JobData
  pub its_job : job_in by.limits bytes ≡ Ok job
  pub smooth : IsSmooth kind h.first port h.faults h.faults_now h.moment by.limit_ms by.poll_ms
  pub enough : lines_planned by job + 32 ≤ turns

-- it was printed, or memory ran out
abbrev pub IsPrinted : JobData → Report → Type 0
IsPrinted job r = (r ≡ report.Printed (length job.commands) job.skipped) ⊎ (r ≡ report.NoMemory)
