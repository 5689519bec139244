-- What a print of a file comes to, by its settings, its file and the history of its link.
use Rattle.std.specs.Prelude.{◌≡◌, ◌≢◌, ◌⊎◌, ◌↔◌, ℕ, Bool, ◌≤◌, ◌+◌, true, false, List, length, Option, Result, Ok, Err}
use Rattle.octo_outside.specs.Traits.{Files}
use Rattle.gcode_lines.specs.Job.{JobData, texts_of}
use Rattle.temp_rules.specs.declared.limits.Limits.{Limits}
use Rattle.printer_model.specs.declared.event.WorldEvent.{WorldEvent}
use Rattle.printer_link.specs.Link.{LinkKind, Recorded}
use Rattle.send_window.specs.Data.{most_lines, most_silent, most_told}
use Rattle.send_window.specs.declared.session_end.SessionEnd.{SessionEnd}
use Rattle.send_window.specs.declared.session_end.SessionEnd.TheVariants.{NoAnswer, LostOk, NumbersUsed}
use Rattle.octo_session.specs.Causes.{EndCausedAs}
use Rattle.octo_session.specs.Plan.{plan}
use Rattle.octo_session_print.specs.Ends.{IsUnsent}
use Rattle.octo_session.specs.Smooth.{IsSmooth}
use Rattle.octo_session_print.specs.Printed.{HasPrinted}
use Rattle.octo_session_print.specs.Waiting.{HasWaited}
use Rattle.octo_session_print.specs.declared.end.PrintEnd.{PrintEnd}
use Rattle.octo_session_print.specs.declared.end.PrintEnd.TheVariants as end
use Rattle.octo_settings.specs.Config.{with_numbers}
use Rattle.octo_settings.specs.declared.fault.SettingsFault.{SettingsFault}
use Rattle.octo_settings.specs.declared.settings.Settings.{Settings}
use Rattle.octo_files.specs.declared.report.Report.{Report}
use Rattle.octo_files.specs.declared.report.Report.TheVariants as report
use Rattle.octo_files.specs.Jobs.{job_in}
use Rattle.octo_files.specs.Reading.{FileGives, IsTroubled}
use Rattle.octo_files.specs.Settings.{HaveSettings}

-- a job within limits, or the report that there is none
abbrev pub HaveJob : Option Files → List ℕ → Limits → Result JobData Report → Type 0
HaveJob files file limits found =
    IsTroubled found ⊎ FileGives files file (λ bytes. found ≡ job_in limits bytes)

-- settings to which numbers were added, unless that was refused
abbrev pub numbered_or : Result (Unit {0}) SettingsFault × Settings → Result Settings Report
numbered_or (Ok u, settings) = Ok settings
numbered_or (Err fault, settings) = Err (report.BadSettings fault)

-- the settings of a print; if it is to be sure, `ok`s have numbers, whatever the settings say
abbrev pub settings_for : Bool → Settings → Result Settings Report
settings_for false settings = Ok settings
settings_for true settings = numbered_or (with_numbers settings)

-- the settings that a print uses, by those of a file or the defaults
abbrev pub UseSettings : Option Files → Option (List ℕ) → Bool → Result Settings Report → Type 0
UseSettings files settings sure found =
    ((r : Report) × HaveSettings files settings (Err r) × (found ≡ Err r))
    ⊎ ((s : Settings) × HaveSettings files settings (Ok s) × (found ≡ settings_for sure s))

-- what reading the settings and then the file comes to
pub data Reads (files : Option Files) (settings : Option (List ℕ)) (sure : Bool) (file : List ℕ) : Result (Settings × JobData) Report → Type 0 where
  no_settings : (r : Report) → UseSettings files settings sure (Err r) → Reads files settings sure file (Err r)
  no_job : (s : Settings) (r : Report) → UseSettings files settings sure (Ok s) → HaveJob files file s.limits (Err r) → Reads files settings sure file (Err r)
  both : (s : Settings) (job : JobData) → UseSettings files settings sure (Ok s) → HaveJob files file s.limits (Ok job)
      → Reads files settings sure file (Ok (s, job))

-- how the end of a print of a job over a port is reported
abbrev pub print_end_report : PrintEnd → List ℕ → JobData → Report
print_end_report end.Done port job = report.Printed (length job.commands) job.skipped
print_end_report (end.TooHot line asked limit) port job =
    report.TooHot (record { line = line; asked = asked; limit = limit })
print_end_report end.NoPort port job = report.NoPort port
print_end_report end.LinkFailed port job = report.LinkFailed
print_end_report (end.Ended why) port job = report.Ended why
print_end_report (end.TurnsUsed turns) port job = report.TurnsUsed turns

-- whether it is reported once a link was dialled: not if settings or file were refused or failed, or memory ran out before
abbrev pub uses_link : Report → Bool
uses_link (report.Printed commands skipped) = true
uses_link report.LinkFailed = true
uses_link (report.NoPort port) = true
uses_link (report.Ended why) = true
uses_link (report.TurnsUsed turns) = true
uses_link _ = false

-- what a print is asked: over which port, and in how many turns at most
pub record Asked : Type 0 where
  pub port : List ℕ
  pub turns : ℕ

-- a print over this port, in this number of turns at most
abbrev pub over_port : List ℕ → ℕ → Asked
over_port port turns = record { port = port; turns = turns }

-- what is seen of a print: its link's history and its count of faults, before it and after it, and its clock's last moment
pub record Seen : Type 0 where
  pub first : Option (List WorldEvent)
  pub now : Option (List WorldEvent)
  pub faults : ℕ
  pub faults_now : ℕ
  pub moment : Option ℕ

-- what is seen of a print, by its parts
abbrev pub seen_of : Option (List WorldEvent) → Option (List WorldEvent) → ℕ → ℕ → Option ℕ → Seen
seen_of first now faults faults_now moment =
    record { first = first; now = now; faults = faults; faults_now = faults_now; moment = moment }

-- the number of lines that a job and its scripts are
abbrev pub lines_planned : Settings → JobData → ℕ
lines_planned s job = length (plan s.scripts (texts_of job))

-- a job was printed over a link by settings, and the print ended so
pub record HasRun (kind : LinkKind) (s : Settings) (job : JobData) (asked : Asked) (h : Seen) (how : PrintEnd) : Type 0 where
  -- the first lines of the plan were printed, in one session at most; all of it if the print is done
  pub acked : ℕ
  pub printed : Recorded h.first h.now (HasPrinted s.numbered_oks kind (plan s.scripts (texts_of job)) how acked)
  -- each end by its cause
  pub cool : (line hot limit : ℕ) → how ≢ end.TooHot line hot limit
  pub no_port : (how ≡ end.NoPort) ↔ ((1 ≤ asked.turns) × (kind.listed asked.port ≡ false))
  pub ended : (why : SessionEnd) → how ≡ end.Ended why → EndCausedAs s.numbered_oks kind h.now why
  -- which names five limits, twenty, or how many lines a session may have
  pub limits : (count : ℕ) → how ≡ end.Ended (NoAnswer count) → count ≡ most_silent
  pub missing : (count : ℕ) → how ≡ end.Ended (LostOk count) → count ≡ most_told
  pub numbers : (all : ℕ) → how ≡ end.Ended (NumbersUsed all) → all ≡ most_lines
  pub used : (made : ℕ) → how ≡ end.TurnsUsed made → made ≡ asked.turns
  pub unsent : IsUnsent how → h.now ≡ h.first
  -- over a prompt link it's done without probes, if 32 turns more are allowed than its plan has lines
  pub prompt : s.numbered_oks ≡ false → IsSmooth kind h.first asked.port h.faults h.faults_now h.moment s.limit_ms s.poll_ms
      → lines_planned s job + 32 ≤ asked.turns → how ≡ end.Done

-- a job was printed and its end reported
pub record IsRun (kind : LinkKind) (s : Settings) (job : JobData) (asked : Asked) (h : Seen) (r : Report) : Type 0 where
  pub how : PrintEnd
  pub is : r ≡ print_end_report how asked.port job
  pub run : HasRun kind s job asked h how

-- a report, and nothing was added to the history
pub record IsRefused (h : Seen) (r refusal : Report) : Type 0 where
  pub is : r ≡ refusal
  pub unused : h.now ≡ h.first

-- what follows of what was read
abbrev pub Follows : LinkKind → Asked → Seen → Report → Result (Settings × JobData) Report → Type 0
Follows kind asked h r (Err refusal) = IsRefused h r refusal
Follows kind asked h r (Ok (s, job)) = IsRefused h r report.NoMemory ⊎ IsRun kind s job asked h r

-- a file was printed by settings, or not, and this is reported
pub record IsFilePrint (kind : LinkKind) (files : Option Files) (settings : Option (List ℕ)) (sure : Bool) (file : List ℕ) (asked : Asked)
    (h : Seen) (r : Report) : Type 0 where
  pub found : Result (Settings × JobData) Report
  pub reads : Reads files settings sure file found
  pub follows : Follows kind asked h r found

-- a print by settings that ended with no answer waited five of their limits, by a clock that showed `began` before and `now` after
pub record WaitedBySettings (files : Option Files) (settings : Option (List ℕ)) (sure : Bool) (count : ℕ) (began now : Option ℕ) : Type 0 where
  pub read : Settings
  pub used : UseSettings files settings sure (Ok read)
  pub waited : HasWaited (end.Ended (NoAnswer count)) began read.limit_ms now
