-- The scripts of settings.
use Rattle.std.specs.Prelude.{ℕ, ◌+◌, Bool, ◌||◌, nat_le, if◌then◌else◌, List, [], ◌∷◌, ◌++◌, length, codes, Option, None, Some, Result, Ok, Err}
use Rattle.toml.specs.Data.{Data, Members, get_member}
use Rattle.byte_text.specs.Marks.{contains_text}
use Rattle.job_desk.specs.Data.{ScriptTexts, texts_at}
use Rattle.job_desk.specs.declared.state.Point.{Point}
use Rattle.job_desk.specs.declared.state.Point.TheVariants as point
use Rattle.gcode_lines.specs.Single.{single_of}
use Rattle.gcode_lines.specs.declared.fault.NotOne.{NotOne}
use Rattle.job_desk.specs.Scripts.{most_script_lines, no_scripts, with_text}
use Rattle.temp_rules.specs.Hot.{hot_of}
use Rattle.temp_rules.specs.declared.limits.Limits.{Limits}
use Rattle.temp_rules.specs.declared.limits.TooHot.{TooHot as HotFault}
use Rattle.octo_settings.specs.Values.{and_then, section, text_values}
use Rattle.octo_settings.specs.declared.fault.SettingsFault.{SettingsFault}
use Rattle.octo_settings.specs.declared.fault.SettingsFault.TheVariants.{OutOfRange, Template, TooHot}

-- the names of the scripts, as OctoPrint has them
abbrev pub script_name : Point → List ℕ
script_name point.Connected = codes "afterPrinterConnected"
script_name point.Disconnect = codes "beforePrinterDisconnected"
script_name point.Started = codes "beforePrintStarted"
script_name point.Paused = codes "afterPrintPaused"
script_name point.Resumed = codes "beforePrintResumed"
script_name point.Cancelled = codes "afterPrintCancelled"
script_name point.Done = codes "afterPrintDone"

-- the key of a script, as faults name it
abbrev pub script_key : Point → List ℕ
script_key p = codes "scripts." ++ script_name p

-- the scripts in the order in which they are tested
unfoldable pub all_points : List Point
all_points =
    point.Connected ∷ point.Disconnect ∷ point.Started ∷ point.Paused ∷ point.Resumed ∷ point.Cancelled ∷ point.Done ∷ []

-- a template, which isn't carried out
abbrev pub is_template : List ℕ → Bool
is_template line = contains_text (codes "{{") line || contains_text (codes "{%") line

-- a command that isn't too hot
abbrev pub cool : Point → ℕ → List ℕ → Option HotFault → Result (List ℕ) SettingsFault
cool p n text None = Ok text
cool p n text (Some hot) = Err (TooHot p n)

-- a line that is one command
abbrev pub command_in : Limits → Point → ℕ → Result (List ℕ) NotOne → Result (List ℕ) SettingsFault
command_in limits p n (Ok text) = cool p n text (hot_of limits text)
command_in limits p n (Err fault) = Err (OutOfRange (script_key p))

-- the command of a script's line, which is counted from 1
abbrev pub command_of : Limits → Point → ℕ → List ℕ → Result (List ℕ) SettingsFault
command_of limits p n line = if is_template line then Err (Template p) else command_in limits p n (single_of line)

-- the scripts with the commands of lines at the end of one of them
abbrev pub with_lines : Limits → Point → ℕ → List (List ℕ) → ScriptTexts → Result ScriptTexts SettingsFault
with_lines limits p n [] scripts = Ok scripts
with_lines limits p n (line ∷ lines) scripts =
    and_then (command_of limits p n line) (λ text. with_lines limits p (n + 1) lines (with_text p text scripts))

-- the scripts with lines at the end of one of them, which has at most 64 then
abbrev pub with_texts : Limits → Point → List (List ℕ) → ScriptTexts → Result ScriptTexts SettingsFault
with_texts limits p lines scripts =
    if nat_le (length (texts_at p scripts) + length lines) most_script_lines then with_lines limits p 1 lines scripts else Err (OutOfRange (script_key p))

-- the scripts with one of the settings, if it isn't missing
abbrev pub with_script : Limits → Point → Option Data → ScriptTexts → Result ScriptTexts SettingsFault
with_script limits p None scripts = Ok scripts
with_script limits p (Some value) scripts = and_then (text_values (script_key p) value) (λ lines. with_texts limits p lines scripts)

-- the scripts of settings, one after the other
abbrev pub scripts_at : Limits → Members → List Point → ScriptTexts → Result ScriptTexts SettingsFault
scripts_at limits entries [] scripts = Ok scripts
scripts_at limits entries (p ∷ points) scripts =
    and_then (with_script limits p (get_member (script_name p) entries) scripts) (scripts_at limits entries points)

-- the scripts of the section `scripts`, all empty if it is missing
abbrev pub scripts_of : Limits → Option Data → Result ScriptTexts SettingsFault
scripts_of limits value = and_then (section (codes "scripts") value) (λ members. scripts_at limits members all_points no_scripts)
