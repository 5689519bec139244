-- What a command comes to, by its arguments, its files and the history of its link.
use Rattle.std.specs.Prelude.{◌≡◌, ◌≢◌, ◌⊎◌, ℕ, false, List, Option, None, Some, Ok, Err}
use Rattle.octo_outside.specs.Recorded.{Adds, AddsPrefix, Rose}
use Rattle.octo_outside.specs.Traits.{Files}
use Rattle.printer_link.specs.Link.{LinkKind, RoseBy}
use Rattle.printer_link.specs.Suits.{Suits}
use Rattle.printer_model.specs.declared.event.WorldEvent.{WorldEvent}
use Rattle.printer_model.specs.declared.oks.Oks.{Oks}
use Rattle.send_window.specs.declared.session_end.SessionEnd.TheVariants.{NoAnswer}
use Rattle.octo_session_print.specs.declared.end.PrintEnd.{PrintEnd}
use Rattle.octo_session_print.specs.declared.end.PrintEnd.TheVariants as end
use Rattle.octo_commands_print.specs.Run.{IsDemo, counts_of}
use Rattle.octo_commands_print.specs.Summary.{summary_of}
use Rattle.octo_commands_print.specs.declared.run.Demo.{Demo}
use Rattle.octo_settings.specs.declared.settings.Settings.{Settings}
use Rattle.octo_words.specs.Words.{command_of}
use Rattle.octo_words.specs.declared.command.Command.{Command}
use Rattle.octo_words.specs.declared.command.Command.TheVariants as command
use Rattle.octo_files.specs.Status.{code_of}
use Rattle.octo_files.specs.Texts.{report_text}
use Rattle.octo_files.specs.declared.report.Report.{Report}
use Rattle.octo_files.specs.declared.report.Report.TheVariants as report
use Rattle.octo_files.specs.Checks.{check_report}
use Rattle.octo_files.specs.Measures.{measure_report, IsRestReport}
use Rattle.octo_files.specs.Reading.{FileGives, IsTrouble}
use Rattle.octo_files.specs.Settings.{HaveSettings}
use Rattle.octo_commands_print.specs.Printing.{Seen, IsFilePrint, UseSettings, WaitedBySettings, over_port, seen_of, uses_link}
use Rattle.octo_serve.specs.Ends.{HistoryData}
use Rattle.octo_serve_command.specs.Hosting.{Around, Hosts, HasHostCauses}
use Rattle.octo_serve_command.specs.Reports.{host_code, host_text}
use Rattle.octo_serve_command.specs.declared.report.HostReport.{HostReport}
use Rattle.octo_serve_command.specs.declared.report.HostReport.TheVariants as host
use Rattle.octo_words.specs.declared.command.WordsFault.{WordsFault}
use Rattle.octo_words.specs.declared.command.WordsFault.TheVariants as words
use Rattle.octo_outside.specs.declared.command_line.ArgumentsFault.{ArgumentsFault}
use Rattle.octo_outside.specs.declared.command_line.ArgumentsFault.TheVariants as arguments

-- the bytes of a file are read as this, unless memory or the source fails
abbrev pub Given : Option Files → List ℕ → Report → (List ℕ → Type 0) → Type 0
Given files file r Gives = IsTrouble r ⊎ FileGives files file Gives

-- what a check of a file by settings reports
pub data IsCheck (files : Option Files) (settings : Option (List ℕ)) (file : List ℕ) (r : Report) : Type 0 where
  no_settings : HaveSettings files settings (Err r) → IsCheck files settings file r
  checked : (s : Settings) → HaveSettings files settings (Ok s) → Given files file r (λ bytes. r ≡ check_report s.limits bytes) → IsCheck files settings file r

-- the exit status of a print that ended so
abbrev pub status_of : PrintEnd → ℕ
status_of end.Done = 0
status_of (end.TooHot line asked limit) = 3
status_of end.NoPort = 5
status_of end.LinkFailed = 5
status_of (end.Ended why) = 6
status_of (end.TurnsUsed turns) = 10

-- a report of no failure of an object outside, and of no turns that were used; no output failed yet
pub record IsOther (r : Report) : Type 0 where
  pub source : r ≢ report.SourceFailed
  pub link : r ≢ report.LinkFailed
  pub turns : (turns : ℕ) → r ≢ report.TurnsUsed turns
  pub output : code_of r ≢ 8

-- the summary of a demo that was run
pub record IsSummary (seed commands : ℕ) (lost : Option (List ℕ)) (r : Report) : Type 0 where
  pub demo : Demo
  pub run : IsDemo seed commands lost demo
  pub code : code_of r ≡ status_of demo.end
  pub text : report_text r ≡ summary_of seed commands (counts_of demo.link) (status_of demo.end)

-- what a command that neither serves nor runs a floor reports; only a print adds to the history of the link
abbrev pub Reports : LinkKind → Option Files → Seen → Command → Report → Type 0
Reports kind files h (command.Print port file turns settings sure) r =
    IsFilePrint kind files settings sure file (over_port port turns) h r
Reports kind files h (command.Check file settings) r = IsCheck files settings file r × (h.now ≡ h.first)
Reports kind files h (command.Demo seed commands lost) r =
    ((r ≡ report.NoMemory) ⊎ IsSummary seed commands lost r) × (h.now ≡ h.first)
Reports kind files h (command.Measure file) r =
    Given files file r (λ bytes. r ≡ measure_report bytes) × (h.now ≡ h.first)
Reports kind files h (command.Rest file from) r =
    Given files file r (λ bytes. IsRestReport from bytes r) × (h.now ≡ h.first)
Reports kind files h (command.Serve address folder database settings) r = ⊥
Reports kind files h (command.Floor folder database settings turns) r = ⊥

-- a print that is reported with no answer waited five limits of its settings, by a clock that showed `began` before and `now` after
abbrev pub HasWaitedFor : Option Files → Option ℕ → Option ℕ → Command → Report → Type 0
HasWaitedFor files began now (command.Print port file turns settings sure) r =
    (count : ℕ) → r ≡ report.Ended (NoAnswer count) → WaitedBySettings files settings sure count began now
HasWaitedFor files began now asked r = Unit {0}

-- the file of settings of a command that serves
abbrev pub hosted_by : Command → Option (List ℕ)
hosted_by (command.Serve address folder database settings) = Some settings
hosted_by asked = None

-- the sessions that a command makes are made by these settings: those of a print, or of a host
abbrev pub MakesBy : Option Files → Command → Settings → Type 0
MakesBy files (command.Print port file turns settings sure) s = UseSettings files settings sure (Ok s)
MakesBy files (command.Serve address folder database settings) s = HaveSettings files (Some settings) (Ok s)
MakesBy files asked s = ⊥

-- if the link records its history, those sessions suit it
abbrev pub SessionsSuit : Option Files → Option (List WorldEvent) → Oks → Command → Type 0
SessionsSuit files recorded oks asked =
    (past : List WorldEvent) → recorded ≡ Some past → (s : Settings) → MakesBy files asked s → Suits s.numbered_oks oks

-- the same of the command that arguments are
abbrev pub AskedSuits : List (List ℕ) → Option Files → Option (List WorldEvent) → Oks → Type 0
AskedSuits words files recorded oks =
    (past : List WorldEvent) → recorded ≡ Some past → (asked : Command) → command_of words ≡ Some asked
    → (s : Settings) → MakesBy files asked s → Suits s.numbered_oks oks

-- what is seen of the link and the clock of a command
abbrev pub seen_in : Around → Around → Seen
seen_in old new = seen_of old.link.past new.link.past old.link.faults new.link.faults new.moment

-- what the other commands, with this report, leave as it is: link and clock too, unless a print dialled
pub record AreAside (plain : Report) (old new : Around) : Type 0 where
  pub keeper : new.keeper ≡ old.keeper
  pub shelf : new.shelf ≡ old.shelf
  pub doors : new.doors ≡ old.doors
  pub unlinked : uses_link plain ≡ false → (new.link ≡ old.link) × (new.moment ≡ old.moment)

-- what arguments come to: memory runs out before a command is known; they are no command; or their command is carried out, or serves
pub data Comes (words : List (List ℕ)) (files : Option Files) (old new : Around) (r : HostReport) (known : Option HistoryData) : Type 0 where
  out_of_memory : r ≡ host.Command report.NoMemory → new ≡ old → known ≡ None → Comes words files old new r known
  no_command : r ≡ host.Command report.BadWords → command_of words ≡ None → new ≡ old → known ≡ None → Comes words files old new r known
  carried_out : (asked : Command) (plain : Report) → command_of words ≡ Some asked → r ≡ host.Command plain
      → Reports old.link.kind files (seen_in old new) asked plain → HasWaitedFor files old.moment new.moment asked plain
      → AreAside plain old new → known ≡ None → Comes words files old new r known
  hosted : (asked : Command) (settings : List ℕ) → command_of words ≡ Some asked → hosted_by asked ≡ Some settings
      → Hosts files settings old new r known → Comes words files old new r known

-- a failure is reported only if the object's count rose, and used turns only if the link's calls rose by them
pub record HasPlainCauses (source source' link link' : ℕ) (calls calls' : Option ℕ) (r : Report) : Type 0 where
  pub source_failed : r ≡ report.SourceFailed → Rose source source'
  pub link_failed : r ≡ report.LinkFailed → Rose link link'
  pub turns_used : (turns : ℕ) → r ≡ report.TurnsUsed turns → RoseBy turns calls calls'

-- the same of a command that may serve
pub record HasCauses (source source' : ℕ) (old new : Around) (r : HostReport) : Type 0 where
  pub source_failed : r ≡ host.Command report.SourceFailed → Rose source source'
  pub link_failed : r ≡ host.Command report.LinkFailed → Rose old.link.faults new.link.faults
  pub turns_used : (turns : ℕ) → r ≡ host.Command (report.TurnsUsed turns) → RoseBy turns old.link.calls new.link.calls
  pub hosting : HasHostCauses old new r

-- a report was written and its status returned, or the sink failed
abbrev pub IsWritten : HostReport → ℕ → Option (List ℕ) → Option (List ℕ) → Type 0
IsWritten r code old new =
    ((code ≡ host_code r) × Adds old new (host_text r)) ⊎ ((code ≡ 8) × AddsPrefix old new (host_text r))

-- the report on arguments of the program that can't be used
abbrev pub arguments_fault_report : ArgumentsFault → HostReport
arguments_fault_report arguments.NotText = host.Command report.BadWords
arguments_fault_report arguments.NoMemory = host.Command report.NoMemory

-- and on arguments that are no command
abbrev pub words_fault_report : WordsFault → HostReport
words_fault_report words.BadWords = host.Command report.BadWords
words_fault_report words.NoMemory = host.Command report.NoMemory
