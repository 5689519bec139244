-- The texts of refusals and of session ends.
use Rattle.std.specs.Prelude.{ℕ, List, ◌++◌, codes, decimal}
use Rattle.gcode_lines.specs.declared.fault.FileFault.{FileFault}
use Rattle.gcode_lines.specs.declared.fault.FileFault.TheVariants as file
use Rattle.gcode_measure.specs.declared.fault.MeasureFault.{MeasureFault}
use Rattle.gcode_measure.specs.declared.fault.MeasureFault.TheVariants.{Inches, TooFar}
use Rattle.send_window.specs.declared.session_end.SessionEnd.{SessionEnd}
use Rattle.send_window.specs.declared.session_end.SessionEnd.TheVariants.{NoAnswer, AskedBack, AskedAhead, Counts, Restarted, LostOk, NumbersUsed}
use Rattle.octo_settings.specs.Scripts.{script_key}
use Rattle.octo_settings.specs.declared.fault.SettingsFault.{SettingsFault}
use Rattle.octo_settings.specs.declared.fault.SettingsFault.TheVariants as settings
use Rattle.temp_rules.specs.declared.job.HotLine.{HotLine}

-- what is wrong with a key of the settings
abbrev pub settings_line : List ℕ → List ℕ → List ℕ
settings_line key what = codes "settings: " ++ key ++ what

-- a command of a script that is too hot, by its line
abbrev pub script_fault : ℕ → List ℕ
script_fault line = codes ": line " ++ decimal line ++ codes ": too hot\n"

-- why settings are refused
abbrev pub settings_text : SettingsFault → List ℕ
settings_text settings.NotToml = codes "settings: not toml\n"
settings_text (settings.Missing key) = settings_line key (codes ": missing\n")
settings_text (settings.WrongKind key) = settings_line key (codes ": wrong kind\n")
settings_text (settings.OutOfRange key) = settings_line key (codes ": out of range\n")
settings_text (settings.Template script) = settings_line (script_key script) (codes ": template\n")
settings_text (settings.TooHot script line) = settings_line (script_key script) (script_fault line)
settings_text settings.NoMemory = codes "no memory\n"

-- what is wrong with a line of the file
abbrev pub file_line : ℕ → List ℕ → List ℕ
file_line line what = codes "file: line " ++ decimal line ++ what

-- why a file is refused
abbrev pub file_text : FileFault → List ℕ
file_text (file.TooLong line) = file_line line (codes ": too long\n")
file_text (file.ControlByte line) = file_line line (codes ": control byte\n")
file_text (file.TooLarge bytes) = codes "file: " ++ decimal bytes ++ codes " bytes: too large\n"
file_text file.NoMemory = codes "no memory\n"

-- what a command asks for, and the limit that it is over
abbrev pub over_text : ℕ → ℕ → List ℕ
over_text asked limit = decimal asked ++ codes " over " ++ decimal limit ++ codes "\n"

-- a command that is too hot
abbrev pub hot_text : HotLine → List ℕ
hot_text hot = file_line hot.line (codes ": too hot: ") ++ over_text hot.asked hot.limit

-- why a file isn't measured
abbrev pub measure_fault_text : MeasureFault → List ℕ
measure_fault_text (Inches line) = file_line line (codes ": inches\n")
measure_fault_text (TooFar line) = file_line line (codes ": too far\n")

-- a session that ended for this reason
abbrev pub end_line : List ℕ → List ℕ
end_line reason = codes "session ended: " ++ reason ++ codes "\n"

-- how a session ended
abbrev pub end_text : SessionEnd → List ℕ
end_text (NoAnswer silent) = end_line (codes "no answer, " ++ decimal silent ++ codes " limits")
end_text (AskedBack asked acked) =
    end_line (codes "line " ++ decimal asked ++ codes " asked, " ++ decimal acked ++ codes " acknowledged")
end_text (AskedAhead asked issued) =
    end_line (codes "line " ++ decimal asked ++ codes " asked, " ++ decimal issued ++ codes " issued")
end_text (Counts number expected) =
    end_line (codes "ok for " ++ decimal number ++ codes ", " ++ decimal expected ++ codes " expected")
end_text Restarted = end_line (codes "printer restarted")
end_text (LostOk limits) = end_line (codes "an ok is missing, " ++ decimal limits ++ codes " limits")
end_text (NumbersUsed issued) = end_line (decimal issued ++ codes " lines")
