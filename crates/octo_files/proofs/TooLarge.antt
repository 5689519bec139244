-- What files over the greatest size are read as.
use Rattle.std.proofs.Common.{◌≡◌, ◌<◌, ℕ, Bool, List, length, Option, None, Result, Err, refl, sym, ap}
use Rattle.std.specs.Prelude.{if◌then◌else◌, nat_lt}
use Rattle.std.proofs.lemmas.Bool.{lt-ltb, lt-leb}
use Rattle.gcode_lines.specs.Commands.{job_of}
use Rattle.gcode_lines.specs.Job.{JobData, most_bytes}
use Rattle.gcode_lines.specs.declared.fault.FileFault.TheVariants.{TooLarge}
use Rattle.octo_files.specs.Jobs.{unless_refused, any_job_in}
use Rattle.octo_files.specs.Settings.{AreSettings, settings_or}
use Rattle.octo_files.specs.declared.report.Report.{Report}
use Rattle.octo_files.specs.declared.report.Report.TheVariants as report
use Rattle.octo_settings.specs.Config.{most_config_bytes as most_settings, document_of, settings_or as settings_by}
use Rattle.octo_settings.specs.declared.fault.SettingsFault.TheVariants.{NotToml}

-- no job
pub no_job : (bytes : List ℕ) → most_bytes < length bytes → Err (report.BadFile (TooLarge 67108865)) ≡ any_job_in bytes
no_job bytes over =
    let refusal : Result JobData Report = Err (report.BadFile (TooLarge 67108865)) in
    sym (ap (λ (b : Bool). if b then refusal else unless_refused (job_of bytes)) (lt-ltb most_bytes (length bytes) over))

-- no settings
pub no_settings : (bytes : List ℕ) → most_settings < length bytes → AreSettings bytes (Err (report.BadSettings NotToml))
no_settings bytes over =
    let none : document_of bytes ≡ None = rw (lt-leb (length bytes) most_settings over) refl in
    record { text = λ utf8. sym (ap (λ document. settings_or (settings_by document)) none); no_text = λ no. refl }
